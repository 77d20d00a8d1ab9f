-- Further images, for merges, stage 2 and the table (rules, sections 6 to 8): one table, one claim, computed. Each
-- tells a wrong reading of stage 2 or of the buffers from the right one. The numbers are what the original answers.
use Rattle.std.specs.Prelude.{◌≡◌, refl, List, [], ◌∷◌, ◌++◌, map, ℕ, replicate, ℤ, pos, negsuc}
use Rattle.rules.specs.Color.{Color, rgba, hierarchical_max, RunnerConfig, KeyingAction, Keep, Discard}
use Rattle.rules.specs.Examples.Worked.{magenta, Case, worked, case, outputs, stage1_labels, labels, picture}
use Rattle.rules.specs.Examples.Worked.{all_links, whole_slot}
use Rattle.rules.specs.Examples.Labelled.{grey, greys, pink, key_magenta}

-- shift 0 and bound 10; the areas, `hollow_neighbours`, `deepen_diff`, the key and what is done with it
abbrev settings : ℕ → ℕ → ℕ → ℕ → ℤ → Color → KeyingAction → RunnerConfig
settings hierarchical min max hollow diff key action = record {
  is_same_color_a = pos 0;
  is_same_color_b = pos 10;
  hierarchical = hierarchical;
  good_min_area = min;
  good_max_area = max;
  hollow_neighbours = hollow;
  deepen_diff = diff;
  key_color = key;
  keying_action = action;
}

-- keying is off, `deepen_diff` is 64
abbrev free : ℕ → ℕ → ℕ → ℕ → RunnerConfig
free hierarchical min max hollow = settings hierarchical min max hollow (pos 64) (rgba 0 0 0 0) Keep

-- areas up to this one merge
abbrev up_to_area : ℕ → RunnerConfig
up_to_area hierarchical = free hierarchical 0 65536 1

-- every area may deepen where the difference exceeds this one
abbrev deepening : ℤ → RunnerConfig
deepening diff = settings hierarchical_max 0 65536 1 diff (rgba 0 0 0 0) Keep

-- the key is magenta
abbrev keyed : ℕ → ℕ → ℤ → KeyingAction → RunnerConfig
keyed hierarchical min diff action = settings hierarchical min 65536 1 diff key_magenta action

-- black beside white, three columns each, areas from min to max
abbrev blocks : ℕ → ℕ → List ℕ → Case
blocks min max out = case 6 3 (row ++ row ++ row) (free hierarchical_max min max 1) (outputs out ∷ [])
  where
    row : List ℕ
    row = greys (0 ∷ 0 ∷ 0 ∷ 255 ∷ 255 ∷ 255 ∷ [])

-- near the key, and near pink
abbrev rose : List ℕ
rose = 245 ∷ 0 ∷ 250 ∷ 255 ∷ []

-- the sum of one grey pixel
abbrev grey1 : ℕ → List ℕ
grey1 x = grey x ++ (1 ∷ [])

-- cluster 2 of black, white, grey and black, into which the others deepened: all but its last five numbers
abbrev two : List ℕ
two = (2 ∷ 4 ∷ 0 ∷ 0 ∷ 4 ∷ 1 ∷ []) ++ (355 ∷ 355 ∷ 355 ∷ 1020 ∷ 4 ∷ []) ++ grey1 255

abbrev olive : List ℕ
olive = 184 ∷ 201 ∷ 106 ∷ 23 ∷ []

abbrev green : List ℕ
green = 62 ∷ 222 ∷ 2 ∷ 68 ∷ []

abbrev lime : List ℕ
lime = 59 ∷ 234 ∷ 50 ∷ 142 ∷ []

abbrev violet : List ℕ
violet = 54 ∷ 16 ∷ 67 ∷ 159 ∷ []

abbrev sky : List ℕ
sky = 133 ∷ 162 ∷ 217 ∷ 149 ∷ []

abbrev sand : List ℕ
sand = 207 ∷ 216 ∷ 110 ∷ 136 ∷ []

-- 6 × 4
abbrev patches : List ℕ
patches = olive ++ green ++ lime ++ violet ++ violet ++ sky
    ++ lime ++ green ++ green ++ olive ++ sand ++ sand
    ++ sky ++ sky ++ violet ++ sky ++ sand ++ olive
    ++ violet ++ sky ++ sand ++ sky ++ sky ++ violet

abbrev ordered_cases : List Case
ordered_cases =
    -- the target is the nearest of two neighbours, here the larger number; of three, here the one in the middle
    case 2 2 (greys (0 ∷ 200 ∷ 50 ∷ 255 ∷ [])) (up_to_area 1)
    (labels (3 ∷ 4 ∷ 3 ∷ 4 ∷ []) ∷ outputs (3 ∷ 4 ∷ []) ∷ [])
    ∷ case 3 2 (greys (0 ∷ 100 ∷ 250 ∷ 5 ∷ 255 ∷ 120 ∷ [])) (up_to_area 1)
    (labels (4 ∷ 4 ∷ 6 ∷ 4 ∷ 6 ∷ 6 ∷ []) ∷ outputs (4 ∷ 6 ∷ []) ∷ [])
    -- of two as near, right of it and below it, the smallest number
    ∷ case 2 2 (greys (50 ∷ 100 ∷ 0 ∷ 255 ∷ [])) (up_to_area 1) (labels (2 ∷ 2 ∷ 2 ∷ 2 ∷ []) ∷ outputs (2 ∷ []) ∷ [])
    -- and where that one is found first, above it
    ∷ case 2 2 (greys (0 ∷ 0 ∷ 50 ∷ 100 ∷ [])) (up_to_area 1) (outputs (2 ∷ []) ∷ [])
    -- by the averages of the sums cluster 2 is nearest to 3, by those of the residues 4 would be; the link of pixel 3
    -- stays in the list of cluster 2
    ∷ case 4 1 (greys (0 ∷ 200 ∷ 110 ∷ 130 ∷ [])) (deepening (pos 64))
    (outputs (1 ∷ 4 ∷ 2 ∷ []) ∷ all_links (3 ∷ 1 ∷ 4 ∷ 0 ∷ []) ∷ picture (greys (0 ∷ 155 ∷ 155 ∷ 130 ∷ [])) ∷ [])
    -- its own sum too, not its own residue
    ∷ case 3 2 (greys (0 ∷ 50 ∷ 0 ∷ 100 ∷ 50 ∷ 0 ∷ [])) (deepening (pos 64))
    (outputs (1 ∷ 4 ∷ 2 ∷ 5 ∷ 6 ∷ []) ∷ [])
    -- averages are floors: 25 is 75 from 0 and 1
    ∷ case 3 1 (greys (0 ∷ 1 ∷ 25 ∷ [])) (deepening (pos 74)) (outputs (3 ∷ 2 ∷ []) ∷ [])
    -- alpha is in no difference, and is averaged in the picture
    ∷ case 2 1 (50 ∷ 50 ∷ 50 ∷ 0 ∷ 50 ∷ 50 ∷ 50 ∷ 255 ∷ []) (deepening (pos 64))
    (outputs (2 ∷ []) ∷ picture (50 ∷ 50 ∷ 50 ∷ 127 ∷ 50 ∷ 50 ∷ 50 ∷ 127 ∷ []) ∷ [])
    -- a negative `deepen_diff` is exceeded even by a difference of 0
    ∷ case 2 1 (greys (50 ∷ 50 ∷ [])) (deepening (negsuc 0)) (outputs (1 ∷ 2 ∷ []) ∷ [])
    -- it deepens exactly if `hierarchical` is 4,294,967,295
    ∷ case 2 1 (greys (0 ∷ 255 ∷ [])) (up_to_area 4294967295) (outputs (1 ∷ 2 ∷ []) ∷ [])
    ∷ case 2 1 (greys (0 ∷ 255 ∷ [])) (up_to_area 4294967294) (outputs (2 ∷ []) ∷ [])
    -- and where min < area < max, here 9
    ∷ blocks 8 10 (2 ∷ 5 ∷ [])
    ∷ blocks 9 10 (5 ∷ [])
    ∷ blocks 8 9 (5 ∷ [])
    -- the area and the boundary are those of the cluster that goes, not of its target, here 1 and 2, 9 and 12; 3 × 7
    ∷ case 3 1 (greys (255 ∷ 255 ∷ 0 ∷ [])) (free hierarchical_max 0 2 1) (outputs (3 ∷ 2 ∷ []) ∷ [])
    ∷ case 3 7 (greys (replicate 12 255 ++ replicate 9 0)) (free hierarchical_max 8 10 1) (outputs (5 ∷ 2 ∷ []) ∷ [])
    -- and where min is 0 or the boundary is smaller than the area, here 2; sides off the image count in it
    ∷ case 2 2 (greys (0 ∷ 255 ∷ 0 ∷ 255 ∷ [])) (free hierarchical_max 0 65536 1) (outputs (3 ∷ 4 ∷ []) ∷ [])
    ∷ case 2 2 (greys (0 ∷ 255 ∷ 0 ∷ 255 ∷ [])) (free hierarchical_max 1 65536 1) (outputs (4 ∷ []) ∷ [])
    ∷ case 3 1 (grey 0 ++ magenta ++ magenta) (keyed hierarchical_max 1 (pos 0) Keep) (outputs (1 ∷ []) ∷ [])
    -- hollow: at most `hollow_neighbours` neighbours. Three deepen into 2, of which 3 has two neighbours; the hole
    -- children in their order, each with the next one
    ∷ case 4 1 (greys (0 ∷ 255 ∷ 100 ∷ 0 ∷ [])) (free hierarchical_max 0 65536 1)
    (outputs (1 ∷ 3 ∷ 4 ∷ 2 ∷ [])
    ∷ whole_slot 1 ((1 ∷ 1 ∷ 0 ∷ 0 ∷ 1 ∷ 1 ∷ []) ++ grey1 0 ++ grey1 0 ++ (2 ∷ 0 ∷ 0 ∷ 0 ∷ 5 ∷ []))
    ∷ whole_slot 2 (two ++ (0 ∷ 3 ∷ 2 ∷ 2 ∷ 0 ∷ []))
    ∷ whole_slot 3 ((3 ∷ 1 ∷ 2 ∷ 0 ∷ 3 ∷ 1 ∷ []) ++ grey1 100 ++ grey1 100 ++ (2 ∷ 0 ∷ 0 ∷ 0 ∷ 0 ∷ []))
    ∷ [])
    ∷ case 4 1 (greys (0 ∷ 255 ∷ 100 ∷ 0 ∷ [])) (free hierarchical_max 0 65536 2)
    (whole_slot 1 ((1 ∷ 1 ∷ 0 ∷ 0 ∷ 1 ∷ 1 ∷ []) ++ grey1 0 ++ grey1 0 ++ (2 ∷ 0 ∷ 0 ∷ 0 ∷ 4 ∷ []))
    ∷ whole_slot 2 (two ++ (0 ∷ 3 ∷ 3 ∷ 2 ∷ 0 ∷ []))
    ∷ whole_slot 3 ((3 ∷ 1 ∷ 2 ∷ 0 ∷ 3 ∷ 1 ∷ []) ++ grey1 100 ++ grey1 100 ++ (2 ∷ 0 ∷ 0 ∷ 0 ∷ 5 ∷ []))
    ∷ [])
    -- none is hollow where `hollow_neighbours` is 0; here 1 × 2, and the neighbour is below
    ∷ case 1 2 (greys (0 ∷ 255 ∷ [])) (free hierarchical_max 0 65536 0)
    (labels (2 ∷ 2 ∷ []) ∷ outputs (1 ∷ 2 ∷ []) ∷ whole_slot 2
    ((2 ∷ 2 ∷ 0 ∷ 0 ∷ 1 ∷ 2 ∷ []) ++ (255 ∷ 255 ∷ 255 ∷ 510 ∷ 2 ∷ []) ++ grey1 255 ++ (0 ∷ 1 ∷ 0 ∷ 0 ∷ 0 ∷ [])) ∷ [])
    -- a plain merge: cluster 2 keeps its residue, depth and hole list, and 4 takes none but the residue; 1 stays merged
    -- into 2
    ∷ case 4 1 (greys (200 ∷ 100 ∷ 200 ∷ 200 ∷ [])) (deepening (pos 150))
    (outputs (1 ∷ 4 ∷ [])
    ∷ whole_slot 1 ((1 ∷ 1 ∷ 0 ∷ 0 ∷ 1 ∷ 1 ∷ []) ++ grey1 200 ++ grey1 200 ++ (2 ∷ 0 ∷ 0 ∷ 0 ∷ 0 ∷ []))
    ∷ whole_slot 2 (replicate 11 0 ++ grey1 100 ++ (0 ∷ 1 ∷ 1 ∷ 2 ∷ 0 ∷ []))
    ∷ whole_slot 4
    ((4 ∷ 4 ∷ 0 ∷ 0 ∷ 4 ∷ 1 ∷ []) ++ (700 ∷ 700 ∷ 700 ∷ 1020 ∷ 4 ∷ []) ++ (500 ∷ 500 ∷ 500 ∷ 765 ∷ 3 ∷ [])
    ++ replicate 5 0)
    ∷ [])
    -- an area above `hierarchical` is put out, one equal to it is not
    ∷ case 4 1 (greys (50 ∷ 55 ∷ 150 ∷ 155 ∷ [])) (up_to_area 1)
    (outputs (2 ∷ 4 ∷ []) ∷ picture (greys (52 ∷ 52 ∷ 152 ∷ 152 ∷ [])) ∷ [])
    ∷ case 4 1 (greys (50 ∷ 55 ∷ 150 ∷ 155 ∷ [])) (up_to_area 2)
    (outputs (4 ∷ []) ∷ picture (greys (102 ∷ 102 ∷ 102 ∷ 102 ∷ [])) ∷ [])
    -- no neighbour, since 0 is none: under Keep cluster 1 is passed over while a larger area is listed, and put out
    -- when cluster 0 has gone into it; it is not visited again before it grows
    ∷ case 3 1 (grey 50 ++ magenta ++ magenta) (keyed 2 0 (pos 64) Keep)
    (labels (1 ∷ 1 ∷ 1 ∷ []) ∷ outputs (1 ∷ []) ∷ [])
    ∷ case 3 1 (grey 50 ++ magenta ++ magenta) (keyed 1 0 (pos 64) Keep) (outputs (0 ∷ []) ∷ [])
    -- under Discard cluster 3 is put out at once; clusters that meet at a corner, or across the ends of rows, are no
    -- neighbours
    ∷ case 4 1 (grey 50 ++ grey 50 ++ magenta ++ grey 50) (keyed hierarchical_max 0 (pos 64) Discard)
    (labels (2 ∷ 2 ∷ 0 ∷ 3 ∷ []) ∷ outputs (3 ∷ 2 ∷ []) ∷ [])
    ∷ case 2 2 (magenta ++ grey 50 ++ grey 50 ++ magenta) (keyed hierarchical_max 0 (pos 64) Discard)
    (labels (0 ∷ 1 ∷ 2 ∷ 0 ∷ []) ∷ outputs (1 ∷ 2 ∷ []) ∷ [])
    -- cluster 2 was put out and then merged, so that its sum counts nothing: it is dropped. Cluster 1 stands twice.
    ∷ case 2 3 (magenta ++ magenta ++ grey 50 ++ pink ++ rose ++ rose) (keyed hierarchical_max 1 (negsuc 0) Discard)
    (stage1_labels (0 ∷ 0 ∷ 1 ∷ 0 ∷ 0 ∷ 2 ∷ []) ∷ labels (0 ∷ 0 ∷ 1 ∷ 1 ∷ 1 ∷ 1 ∷ []) ∷ outputs (1 ∷ 1 ∷ []) ∷ [])
    -- a whole slot, its numbers all different but that it has 7 pixels and its sum counts 7; the links of the lists of
    -- clusters inside clusters; the order of the outputs; the picture, here the image
    ∷ case 6 4 patches (settings hierarchical_max 0 65536 2 (pos 10) (rgba 0 0 0 0) Keep)
    (whole_slot 10
    ((11 ∷ 7 ∷ 3 ∷ 0 ∷ 6 ∷ 4 ∷ []) ++ (1176 ∷ 1228 ∷ 826 ∷ 762 ∷ 7 ∷ []) ++ (207 ∷ 216 ∷ 110 ∷ 136 ∷ 1 ∷ [])
    ++ (20 ∷ 5 ∷ 2 ∷ 22 ∷ 9 ∷ []))
    ∷ all_links
    (0 ∷ 3 ∷ 15 ∷ 7 ∷ 4 ∷ 8 ∷ 1 ∷ 9 ∷ 2 ∷ 17 ∷ 10 ∷ 6 ∷ 19 ∷ 20 ∷ 5 ∷ 21 ∷ 18 ∷ 24 ∷ 11 ∷ 13 ∷ 14 ∷ 23 ∷ 16 ∷ 12 ∷ [])
    ∷ outputs (1 ∷ 3 ∷ 6 ∷ 9 ∷ 14 ∷ 16 ∷ 17 ∷ 18 ∷ 19 ∷ 21 ∷ 5 ∷ 7 ∷ 11 ∷ 13 ∷ 10 ∷ 8 ∷ 20 ∷ [])
    ∷ picture patches ∷ [])
    ∷ []

pub ordered : map worked ordered_cases ≡ map (λ c. c.facts) ordered_cases
unfolding worked
ordered = refl
