-- Further images, for stage 1 (rules, section 5; steps 1 to 5 are rules 5.3 to 5.7): one table, one claim, computed.
-- Each tells a wrong reading of a step from the right one. The numbers are what the original answers.
use Rattle.std.specs.Prelude.{◌≡◌, refl, List, [], ◌∷◌, ◌++◌, map, ℕ, replicate, ℤ, pos, negsuc}
use Rattle.rules.specs.Color.{Color, rgba, RunnerConfig, KeyingAction, Keep, Discard}
use Rattle.rules.specs.Stage1.{taken}
use Rattle.rules.specs.Stage2.{output_all}
use Rattle.rules.specs.Examples.Worked.{magenta, Case, worked, case, slot_count, outputs, stage1_labels, all_links}
use Rattle.rules.specs.Examples.Worked.{whole_slot}

-- an opaque grey
abbrev pub grey : ℕ → List ℕ
grey x = x ∷ x ∷ x ∷ 255 ∷ []

abbrev pub greys : List ℕ → List ℕ
greys [] = []
greys (x ∷ xs) = grey x ++ greys xs

-- a pixel near the key colour, and the key colour
abbrev pub pink : List ℕ
pink = 250 ∷ 0 ∷ 255 ∷ 255 ∷ []

abbrev pub key_magenta : Color
key_magenta = rgba 255 0 255 255

-- shift and bound, the key and what is done with it; `hierarchical` 0, so that stage 2 merges nothing
abbrev at_once : ℤ → ℤ → Color → KeyingAction → RunnerConfig
at_once shift bound key action = record {
  is_same_color_a = shift;
  is_same_color_b = bound;
  hierarchical = 0;
  good_min_area = 0;
  good_max_area = 65536;
  hollow_neighbours = 1;
  deepen_diff = pos 64;
  key_color = key;
  keying_action = action;
}

-- keying is off, and greys are like where they differ by at most 10
abbrev ten : RunnerConfig
ten = at_once (pos 0) (pos 10) (rgba 0 0 0 0) Keep

-- the key is magenta
abbrev keyed : KeyingAction → RunnerConfig
keyed action = at_once (pos 0) (pos 10) key_magenta action

-- 2 × 2 greys: up-left and up over left and the pixel that the steps are about; the label that it takes. The others
-- have 1, 2 and 3.
abbrev square : ℕ → ℕ → ℕ → ℕ → ℕ → Case
square up_left up left pixel label =
    case 2 2 (greys (up_left ∷ up ∷ left ∷ pixel ∷ [])) ten (stage1_labels (1 ∷ 2 ∷ 3 ∷ label ∷ []) ∷ [])

-- one pixel, this key, Discard: the label, and whether it is put out
abbrev one_pixel : List ℕ → Color → List ℕ → Case
one_pixel pixel key out = case 1 1 pixel (at_once (pos 0) (pos 10) key Discard) (outputs out ∷ [])

abbrev labelled_cases : List Case
labelled_cases =
    -- step 1: left is not like up, the pixel is like both (and joins up, step 3 before step 4)
    square 8 16 0 8 2
    -- step 1: the pixel is not like left; not like up
    ∷ square 16 8 0 16 2
    ∷ square 16 0 8 16 3
    -- steps 3 and 4: like up, like left, like both of them, but not up-left; like up-left alone
    ∷ square 100 8 200 8 4
    ∷ square 100 200 8 8 4
    ∷ square 100 18 0 9 4
    ∷ square 8 100 200 8 4
    -- alpha is not looked at
    ∷ case 2 2 (greys (8 ∷ 8 ∷ 8 ∷ []) ++ (8 ∷ 8 ∷ 8 ∷ 0 ∷ [])) ten (stage1_labels (1 ∷ 2 ∷ 2 ∷ 2 ∷ []) ∷ [])
    -- like up and up-left; like left and up-left; at the bound, and one past it for both and for up-left
    ∷ square 8 8 200 18 2
    ∷ square 8 200 8 8 3
    ∷ square 8 8 200 19 4
    ∷ square 7 8 200 18 4
    -- 3 × 2: pixel 4 joins left, and pixel 5, of the colour of pixel 1 and not of left, does not
    ∷ case 3 2 (greys (24 ∷ 8 ∷ 24 ∷ 16 ∷ 24 ∷ 8 ∷ [])) ten (stage1_labels (1 ∷ 2 ∷ 3 ∷ 4 ∷ 4 ∷ 5 ∷ []) ∷ [])
    -- shift 4 and bound 1: 16 and 47 are like
    ∷ case 2 2 (greys (16 ∷ 16 ∷ 200 ∷ 47 ∷ [])) (at_once (pos 4) (pos 1) (rgba 0 0 0 0) Keep)
    (stage1_labels (1 ∷ 2 ∷ 3 ∷ 2 ∷ []) ∷ [])
    -- a negative bound: no pixel is like another
    ∷ case 2 2 (greys (8 ∷ 8 ∷ 8 ∷ 8 ∷ [])) (at_once (pos 0) (negsuc 0) (rgba 0 0 0 0) Keep)
    (stage1_labels (1 ∷ 2 ∷ 3 ∷ 4 ∷ []) ∷ [])
    -- a pixel off the image is like nothing: a row, a column
    ∷ case 3 1 (greys (8 ∷ 8 ∷ 8 ∷ [])) ten (stage1_labels (1 ∷ 2 ∷ 3 ∷ []) ∷ [])
    ∷ case 1 3 (greys (8 ∷ 8 ∷ 8 ∷ [])) ten (stage1_labels (1 ∷ 2 ∷ 3 ∷ []) ∷ [])
    -- all alike. Pixel 4: left into up on equal counts, and next falls; pixel 5: up, the smaller, into left; pixel 6
    -- takes slot 4 again; pixel 7: left, the smaller, into up; pixel 8: left and up have one label. Slots 3 and 4 are
    -- left empty.
    ∷ case 3 3 (greys (1 ∷ 2 ∷ 3 ∷ 4 ∷ 5 ∷ 6 ∷ 7 ∷ 8 ∷ 9 ∷ [])) ten
    (stage1_labels (1 ∷ 2 ∷ 2 ∷ 2 ∷ 2 ∷ 2 ∷ 2 ∷ 2 ∷ 2 ∷ []) ∷ slot_count 5
    ∷ all_links (0 ∷ 4 ∷ 6 ∷ 5 ∷ 3 ∷ 7 ∷ 8 ∷ 9 ∷ 0 ∷ [])
    ∷ whole_slot 2
    ((2 ∷ 8 ∷ 0 ∷ 0 ∷ 3 ∷ 3 ∷ []) ++ (44 ∷ 44 ∷ 44 ∷ 2040 ∷ 8 ∷ []) ++ (44 ∷ 44 ∷ 44 ∷ 2040 ∷ 8 ∷ [])
    ++ (0 ∷ 0 ∷ 0 ∷ 0 ∷ 0 ∷ []))
    ∷ whole_slot 3 (replicate 21 0) ∷ whole_slot 4 (replicate 21 0) ∷ [])
    -- next does not fall where up went: cluster 3, just below next, goes into 2, and pixel 6 takes 4
    ∷ case 3 3 (greys (8 ∷ 8 ∷ 8 ∷ []) ++ magenta ++ greys (8 ∷ 8 ∷ 100 ∷ 8 ∷ 8 ∷ [])) (keyed Discard)
    (stage1_labels (1 ∷ 2 ∷ 2 ∷ 0 ∷ 2 ∷ 2 ∷ 4 ∷ 2 ∷ 2 ∷ []) ∷ slot_count 6 ∷ [])
    -- nor where next is not the slot count: left, just below next, goes into up
    ∷ case 3 4 (greys (32 ∷ 16 ∷ 24 ∷ 16 ∷ 16 ∷ 16 ∷ 32 ∷ 32 ∷ 24 ∷ 32 ∷ 24 ∷ 16 ∷ [])) ten
    (stage1_labels (1 ∷ 2 ∷ 3 ∷ 2 ∷ 3 ∷ 3 ∷ 4 ∷ 3 ∷ 3 ∷ 3 ∷ 3 ∷ 6 ∷ []) ∷ slot_count 7 ∷ [])
    -- nor where left is not just below next, here 7: cluster 5 goes into 3, and pixel 8 takes 7
    ∷ case 3 3 (greys (8 ∷ 16 ∷ 16 ∷ 8 ∷ 24 ∷ 8 ∷ 8 ∷ 16 ∷ 8 ∷ [])) ten
    (stage1_labels (1 ∷ 2 ∷ 3 ∷ 4 ∷ 3 ∷ 3 ∷ 6 ∷ 3 ∷ 7 ∷ []) ∷ slot_count 8 ∷ [])
    -- step 1 is for a key pixel too, and for cluster 0: the near-key pixel's cluster goes into it before the key pixel
    -- is added
    ∷ case 2 2 (grey 200 ++ magenta ++ pink ++ magenta) (keyed Keep)
    (stage1_labels (1 ∷ 0 ∷ 0 ∷ 0 ∷ []) ∷ slot_count 3 ∷ outputs (1 ∷ 0 ∷ []) ∷ whole_slot 0
    ((2 ∷ 3 ∷ 0 ∷ 0 ∷ 2 ∷ 2 ∷ []) ++ (760 ∷ 0 ∷ 765 ∷ 765 ∷ 3 ∷ []) ++ (760 ∷ 0 ∷ 765 ∷ 765 ∷ 3 ∷ [])
    ++ (0 ∷ 0 ∷ 0 ∷ 0 ∷ 0 ∷ [])) ∷ [])
    -- and where cluster 0 is left's
    ∷ case 2 2 (grey 200 ++ pink ++ magenta ++ magenta) (keyed Keep) (stage1_labels (1 ∷ 2 ∷ 2 ∷ 0 ∷ []) ∷ [])
    -- step 2 before steps 3 and 4: a key pixel that is like up, left and up-left
    ∷ case 2 2 (pink ++ pink ++ pink ++ magenta) (keyed Keep) (stage1_labels (1 ∷ 2 ∷ 2 ∷ 0 ∷ []) ∷ [])
    ∷ case 2 2 (pink ++ pink ++ pink ++ magenta) (keyed Discard) (stage1_labels (1 ∷ 2 ∷ 2 ∷ 0 ∷ []) ∷ [])
    -- step 4 into cluster 0
    ∷ case 2 2 (magenta ++ grey 200 ++ magenta ++ pink) (keyed Discard) (stage1_labels (0 ∷ 1 ∷ 0 ∷ 0 ∷ []) ∷ [])
    -- rule 5.4: a kept key pixel is read by the label that it has by then. At pixel 6 cluster 0 goes into 2, with pixels
    -- 2 and 3, so that at pixel 7 up has label 2 and cluster 0 goes there once more
    ∷ case 4 2 (pink ++ pink ++ magenta ++ magenta ++ pink ++ pink ++ magenta ++ magenta) (keyed Keep)
    (stage1_labels (1 ∷ 2 ∷ 2 ∷ 2 ∷ 2 ∷ 2 ∷ 2 ∷ 0 ∷ []) ∷ outputs (0 ∷ 1 ∷ 2 ∷ []) ∷ [])
    -- a discarded pixel counts nowhere: cluster 0, which has no pixel, goes into left's, and its empty rectangle does
    -- not count
    ∷ case 2 2 (magenta ++ magenta ++ pink ++ pink) (keyed Discard)
    (stage1_labels (0 ∷ 0 ∷ 1 ∷ 1 ∷ []) ∷ slot_count 2 ∷ outputs (1 ∷ []) ∷ all_links (0 ∷ 0 ∷ 4 ∷ 0 ∷ [])
    ∷ whole_slot 1 ((3 ∷ 2 ∷ 0 ∷ 1 ∷ 2 ∷ 2 ∷ []) ++ (500 ∷ 0 ∷ 510 ∷ 510 ∷ 2 ∷ []) ++ (500 ∷ 0 ∷ 510 ∷ 510 ∷ 2 ∷ [])
    ++ (0 ∷ 0 ∷ 0 ∷ 0 ∷ 0 ∷ [])) ∷ [])
    -- a pixel that is the key's but for one channel, alpha too, is no key pixel
    ∷ one_pixel (250 ∷ 0 ∷ 255 ∷ 255 ∷ []) key_magenta (1 ∷ [])
    ∷ one_pixel (255 ∷ 5 ∷ 255 ∷ 255 ∷ []) key_magenta (1 ∷ [])
    ∷ one_pixel (255 ∷ 0 ∷ 250 ∷ 255 ∷ []) key_magenta (1 ∷ [])
    ∷ one_pixel (255 ∷ 0 ∷ 255 ∷ 250 ∷ []) key_magenta (1 ∷ [])
    -- rule 2.2: keying is off when all four channels of the key are 0, and on when one is not
    ∷ one_pixel (0 ∷ 0 ∷ 0 ∷ 0 ∷ []) (rgba 0 0 0 0) (1 ∷ [])
    ∷ one_pixel (5 ∷ 0 ∷ 0 ∷ 0 ∷ []) (rgba 5 0 0 0) []
    ∷ one_pixel (0 ∷ 5 ∷ 0 ∷ 0 ∷ []) (rgba 0 5 0 0) []
    ∷ one_pixel (0 ∷ 0 ∷ 5 ∷ 0 ∷ []) (rgba 0 0 5 0) []
    ∷ one_pixel (0 ∷ 0 ∷ 0 ∷ 5 ∷ []) (rgba 0 0 0 5) []
    -- with `hierarchical` 0 the outputs are by pixel count, then number (rule 7.2)
    ∷ case 2 2 (greys (8 ∷ 16 ∷ 0 ∷ 8 ∷ [])) ten (outputs (1 ∷ 3 ∷ 2 ∷ []) ∷ [])
    ∷ []

pub labelled : map worked labelled_cases ≡ map (λ c. c.facts) labelled_cases
unfolding worked
labelled = refl

-- rule 5.2: three of four are taken
pub three-taken : (taken ten 2 (greys (8 ∷ 8 ∷ 8 ∷ 8 ∷ [])) 4 3).labels ≡ 1 ∷ 2 ∷ 3 ∷ 0 ∷ []
unfolding taken
three-taken = refl

-- rule 7.2: clusters with pixels are put out, those that were emptied are not
pub all-output : (output_all (taken ten 3 (greys (8 ∷ 8 ∷ 8 ∷ 8 ∷ 8 ∷ 8 ∷ [])) 6 6)).outputs ≡ 1 ∷ 2 ∷ []
unfolding taken output_all
all-output = refl
