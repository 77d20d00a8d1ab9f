-- Small examples of what the sheets worked by hand do not show: likeness, keying, averages, the pixel at a place,
-- rectangles, the boundary. Computed.
use Rattle.std.specs.Prelude.{◌≡◌, refl, true, false, List, [], ◌∷◌, ◌++◌, map, ℕ, ◌+◌, pos, negsuc, length, get_or}
use Rattle.std.specs.Prelude.{replicate}
use Rattle.std.proofs.Math.Option.{Option, some, none}
use Rattle.rules.specs.Base.{up_to}
use Rattle.rules.specs.Color.{Color, rgba, pixel_at, average_or_none, is_same, color_diff, exceeds}
use Rattle.rules.specs.Color.{ColorSum, Keep, Discard, hierarchical_max, pixel, shift_of, equal_color, discards}
use Rattle.rules.specs.State.{State, fresh, label, Cluster, new_cluster}
use Rattle.rules.specs.State.{BoundingRect, pixel_rect, empty_rect, is_empty, merge_rect}
use Rattle.rules.specs.Stage2.{labels_at, hole_pixels, boundary, deepens, prepare_stage2, output_all}
use Rattle.rules.specs.Run.{drop_empty}
use Rattle.rules.specs.Layout.{link, walk, first_of, slot, slot_width, first_pixel_place, pixel_count_place, left_place}
use Rattle.rules.specs.Layout.{top_place, right_place, bottom_place, sum_place, sum_count_place, residue_place}
use Rattle.rules.specs.Layout.{merged_into_place, depth_place, num_holes_place, first_hole_place, next_hole_place}
use Rattle.rules.specs.State.{with_pixel, with_cluster, emptied, with_residue, merged_to, deeper}
use Rattle.rules.specs.State.{add_pixel, begin_cluster, combine_clusters, put_out, merge_cluster_into}
use Rattle.rules.specs.State.{deepen_cluster_into}
use Rattle.rules.specs.Stage1.{label_at, lower_next}
use Rattle.rules.specs.Paint.{reads, slot_number, slot_pixels, entries_answer, paint_entries}
use Rattle.rules.specs.Stored.{pixel_numbers}
use Rattle.rules.specs.Moments.{moments, Newest, Oldest}
use Rattle.rules.specs.Demand3.{state_view, chain}
use Rattle.rules.specs.Examples.Worked.{config, small, total}
use Rattle.rules.specs.Examples.Labelled.{greys}

-- rules 4.1, 4.2: whether two colours are like. At shift 4, 31 and 32 differ by one, as do 16 and 47; 15 and
-- 32 differ by two.
abbrev grey_color : ℕ → Option Color
grey_color x = some (rgba x x x 255)

pub like-edges : is_same (pos 4) (pos 1) (grey_color 31) (grey_color 32)
    ∷ is_same (pos 4) (pos 1) (grey_color 16) (grey_color 47) ∷ is_same (pos 4) (pos 1) (grey_color 15) (grey_color 32)
    ∷ is_same (pos 4) (pos 0) (grey_color 16) (grey_color 31) ∷ is_same (pos 4) (pos 0) (grey_color 31) (grey_color 32)
    ∷ is_same (pos 0) (pos 1) (grey_color 0) (grey_color 2) ∷ is_same (pos 7) (pos 0) (grey_color 0) (grey_color 127)
    ∷ is_same (pos 7) (pos 0) (grey_color 127) (grey_color 128)
    ∷ is_same (pos 4) (negsuc 0) (grey_color 9) (grey_color 9)  -- a negative bound: nothing is like
    ∷ is_same (pos 0) (pos 0) (some (rgba 9 9 9 0)) (some (rgba 9 9 9 255))  -- alpha does not count
    ∷ is_same (pos 0) (pos 0) (some (rgba 9 9 9 0)) (some (rgba 9 9 10 0))  -- each of r, g and b does
    ∷ is_same (pos 0) (pos 0) (some (rgba 9 9 9 0)) (some (rgba 9 10 9 0))
    ∷ is_same (pos 0) (pos 0) (some (rgba 9 9 9 0)) (some (rgba 10 9 9 0))
    ∷ is_same (pos 0) (pos 255) (grey_color 9) none ∷ is_same (pos 0) (pos 255) none (grey_color 9)
    ∷ is_same (pos 0) (pos 255) none none  -- none is like nothing
    ∷ []
    ≡ true ∷ true ∷ false ∷ true ∷ false ∷ false ∷ true ∷ false ∷ false ∷ true ∷ false ∷ false ∷ false ∷ false ∷ false
    ∷ false ∷ []
unfolding is_same
like-edges = refl

-- rule 2.2: two colours are equal in all four channels, lower and higher ones are not;
-- keying is on with Discard: not under Keep, and not with the key (0,0,0,0)
pub equal-edges : map (equal_color (rgba 10 20 30 40))
    (rgba 10 20 30 40 ∷ rgba 9 20 30 40 ∷ rgba 11 20 30 40 ∷ rgba 10 19 30 40 ∷ rgba 10 21 30 40 ∷ rgba 10 20 29 40
    ∷ rgba 10 20 31 40 ∷ rgba 10 20 30 39 ∷ rgba 10 20 30 41 ∷ [])
    ≡ true ∷ false ∷ false ∷ false ∷ false ∷ false ∷ false ∷ false ∷ false ∷ []
unfolding equal_color
equal-edges = refl

pub discards-edges : discards (config 0 0 0 (rgba 0 0 0 9) Discard) ∷ discards (config 0 0 0 (rgba 0 0 0 9) Keep)
    ∷ discards (config 0 0 0 (rgba 0 0 0 0) Discard) ∷ discards (config 0 0 0 (rgba 0 0 0 0) Keep) ∷ []
    ≡ true ∷ false ∷ false ∷ false ∷ []
unfolding discards
discards-edges = refl

-- rules 4.7, 7.8: the difference of two colours, alpha left out; and whether it exceeds `deepen_diff`, which may be
-- negative
pub diff-edges : color_diff (rgba 0 0 0 0) (rgba 255 255 255 255) ∷ color_diff (rgba 9 7 5 0) (rgba 5 7 9 255) ∷ []
    ≡ 765 ∷ 8 ∷ []
unfolding color_diff
diff-edges = refl

pub exceeds-edges : exceeds 764 (pos 764) ∷ exceeds 765 (pos 764) ∷ exceeds 0 (pos 0) ∷ exceeds 0 (negsuc 0) ∷ []
    ≡ false ∷ true ∷ false ∷ true ∷ []
exceeds-edges = refl

-- rule 4.6: an average is a floor, and none where the sum counts nothing or a channel
-- exceeds 255 × count
pub average-edges : average_or_none (total 255 254 1 0 2) ∷ average_or_none (total 510 510 510 510 2)
    ∷ average_or_none (total 0 0 0 0 0)
    ∷ average_or_none (total 511 0 0 0 2) ∷ average_or_none (total 0 511 0 0 2) ∷ average_or_none (total 0 0 511 0 2)
    ∷ average_or_none (total 0 0 0 511 2) ∷ average_or_none (total 0 3 5 7 2) ∷ average_or_none (total 9 511 9 9 2)
    ∷ average_or_none (total 9 9 511 9 2) ∷ average_or_none (total 9 9 9 511 2) ∷ []
    ≡ some (rgba 127 127 0 0) ∷ some (rgba 255 255 255 255) ∷ none ∷ none ∷ none ∷ none ∷ none
    ∷ some (rgba 0 1 2 3) ∷ none ∷ none ∷ none ∷ []
unfolding average_or_none
average-edges = refl

-- the last of each row of 3 × 2, and those off it, though the bytes go on; and where they end in the last pixel
abbrev pixels : List ℕ → List (Option Color)
pixels bytes = pixel_at bytes 3 2 2 0 ∷ pixel_at bytes 3 2 1 1 ∷ pixel_at bytes 3 2 2 1 ∷ pixel_at bytes 3 2 3 0
    ∷ pixel_at bytes 3 2 0 2 ∷ []

pub pixel-edges : pixels (up_to 40) ∷ pixels (up_to 24) ∷ pixels (up_to 23) ∷ []
    ≡ (some (rgba 8 9 10 11) ∷ some (rgba 16 17 18 19) ∷ some (rgba 20 21 22 23) ∷ none ∷ none ∷ [])
    ∷ (some (rgba 8 9 10 11) ∷ some (rgba 16 17 18 19) ∷ some (rgba 20 21 22 23) ∷ none ∷ none ∷ [])
    ∷ (some (rgba 8 9 10 11) ∷ some (rgba 16 17 18 19) ∷ none ∷ none ∷ none ∷ [])
    ∷ []
unfolding pixel_at up_to
pixel-edges = refl

-- rule 6.1: right and bottom lie one past the last pixel; an empty rectangle does not count,
-- not even at the origin
abbrev rectangle : ℕ → ℕ → ℕ → ℕ → BoundingRect
rectangle left top right bottom = record { left = left; top = top; right = right; bottom = bottom }

pub rect-edges : merge_rect empty_rect (pixel_rect 3 4) ∷ merge_rect (pixel_rect 3 4) empty_rect
    ∷ merge_rect (pixel_rect 3 4) (pixel_rect 5 2) ∷ []
    ≡ rectangle 3 4 4 5 ∷ rectangle 3 4 4 5 ∷ rectangle 3 2 6 5 ∷ []
unfolding merge_rect pixel_rect
rect-edges = refl

-- empty: neither width nor height; not where right lies before left or bottom before top
pub empty-edges : map is_empty
    (rectangle 3 4 3 4 ∷ rectangle 3 4 5 4 ∷ rectangle 3 4 3 6 ∷ rectangle 5 4 3 4 ∷ rectangle 3 6 3 4 ∷ [])
    ≡ true ∷ false ∷ false ∷ false ∷ false ∷ []
unfolding is_empty
empty-edges = refl

-- rule 7.9: the boundary of cluster 1, which has these pixels of 5 × 5, with these of cluster 2, the pixel in
-- the middle, and cluster 3, the pixel in the corner, for its hole children
abbrev block : List ℕ → List ℕ → State
block pixels holes = record {
  labels = replicate 25 1;
  clusters = new_cluster ∷ filled pixels holes ∷ filled (12 ∷ []) [] ∷ filled (0 ∷ []) [] ∷ [];
  next_index = 4;
  outputs = [];
  listed = [];
  log = [];
}
  where
    filled : List ℕ → List ℕ → Cluster
    filled pixels holes = record {
      pixels = pixels;
      sum = new_cluster.sum;
      residue = new_cluster.residue;
      rect = empty_rect;
      merged_into = 0;
      depth = 0;
      holes = holes;
    }

-- all pixels: the rim of 16; with the hole in the middle its four neighbours too, and not the hole itself; with that in
-- the corner, which is a hole and no longer rim; rows 1 to 3: all but the 3 in the middle of them; one row: each;
-- 3 × 5: all but 3
pub boundary-edges : boundary 5 5 (block (up_to 25) []) 1 ∷ boundary 5 5 (block (up_to 25) (2 ∷ [])) 1
    ∷ boundary 5 5 (block (up_to 25) (2 ∷ 3 ∷ [])) 1
    ∷ boundary 5 5 (block (5 ∷ 6 ∷ 7 ∷ 8 ∷ 9 ∷ 10 ∷ 11 ∷ 12 ∷ 13 ∷ 14 ∷ 15 ∷ 16 ∷ 17 ∷ 18 ∷ 19 ∷ []) []) 1
    ∷ boundary 5 5 (block (up_to 5) []) 1 ∷ boundary 3 5 (block (up_to 15) []) 1 ∷ []
    ≡ 16 ∷ 20 ∷ 19 ∷ 12 ∷ 5 ∷ 12 ∷ []
unfolding boundary up_to
boundary-edges = refl

-- Demand 3 compares a list with what first pixel, links and pixel count give. In a state that no run makes they differ.
abbrev strayed : State
strayed = record {
  labels = replicate 4 1;
  clusters = new_cluster ∷ listing (0 ∷ 1 ∷ 2 ∷ 3 ∷ []) ∷ listing (1 ∷ 3 ∷ []) ∷ [];
  next_index = 3;
  outputs = [];
  listed = [];
  log = [];
}
  where
    listing : List ℕ → Cluster
    listing pixels = record {
      pixels = pixels;
      sum = new_cluster.sum;
      residue = new_cluster.residue;
      rect = empty_rect;
      merged_into = 0;
      depth = 0;
      holes = [];
    }

pub view-edges : (state_view strayed).pixels 2 ∷ chain strayed 2 ∷ [] ≡ (1 ∷ 3 ∷ []) ∷ (1 ∷ 2 ∷ []) ∷ []
unfolding link walk first_of
view-edges = refl

-- what is read past the end of a list is 0; no accepted call reads there
pub past_the_end : pixel [] 1 ≡ rgba 0 0 0 0
unfolding pixel
past_the_end = refl

abbrev one_slot : List ℕ
one_slot = (1 ∷ 2 ∷ []) ++ replicate 9 0 ++ (5 ∷ 6 ∷ 7 ∷ 8 ∷ 1 ∷ []) ++ replicate 5 0

pub none_left : label (fresh 0) 1 ∷ label_at (fresh 0) none ∷ slot_number [] 1 1
    ∷ entries_answer 9 1 (1 ∷ []) one_slot [] 1 ∷ slot_pixels [] one_slot 0 ++ paint_entries 1 (1 ∷ []) one_slot [] 1
    ≡ 0 ∷ 0 ∷ 0 ∷ 0 ∷ 0 ∷ 5 ∷ 6 ∷ 7 ∷ 8 ∷ []
unfolding fresh label_at slot_number entries_answer slot_pixels paint_entries
none_left = refl

pub no_label : labels_at [] 5 (some 3 ∷ []) [] ∷ pixel_numbers [] [] 1 ∷ [] ≡ [] ∷ (0 ∷ 0 ∷ []) ∷ []
unfolding labels_at pixel_numbers
no_label = refl

pub none-to-list : reads 2 [] 1 1 ∷ reads 2 [] 1 2 ∷ [] ≡ true ∷ false ∷ []
none-to-list = refl

-- a shift below 0, which check 1 refuses, is read as 0
pub shift-edges : shift_of (negsuc 0) ∷ shift_of (pos 7) ∷ [] ≡ 0 ∷ 7 ∷ []
shift-edges = refl

-- the moments of a tall image and of a broad one, half black and half white: at first, and after the last merge, which
-- is that of the halves
abbrev tall : List State
tall = moments (small hierarchical_max 64) 3 8 (greys (replicate 12 0 ++ replicate 12 255))

pub tall-last : Newest (λ s. s.labels ≡ replicate 24 5) tall
unfolding moments
tall-last = refl

pub tall-first : Oldest (λ s. s.labels ≡ (1 ∷ []) ++ replicate 11 2 ++ (4 ∷ []) ++ replicate 11 5) tall
unfolding moments
tall-first = refl

abbrev broad : List State
broad = moments (small hierarchical_max 64) 5 2 (greys (replicate 5 0 ++ replicate 5 255))

pub broad-last : Newest (λ s. s.labels ≡ replicate 10 7) broad
unfolding moments
broad-last = refl

-- Every function that changes a cluster, on one whose numbers all differ, with an empty rectangle away from the origin
abbrev cluster_of : List ℕ → ColorSum → ColorSum → BoundingRect → ℕ → ℕ → List ℕ → Cluster
cluster_of pixels sum residue rect into depth holes = record {
  pixels = pixels;
  sum = sum;
  residue = residue;
  rect = rect;
  merged_into = into;
  depth = depth;
  holes = holes;
}

abbrev whole : ℕ → Cluster
whole x = cluster_of (x ∷ []) (total x 1 2 3 4) (total x 5 6 7 8) (rectangle x x x x) (x + 1) (x + 2) ((x + 3) ∷ [])

pub cluster-edges : with_pixel 9 (rgba 1 1 1 1) (rectangle 7 7 7 7) (whole 10) ∷ with_cluster (whole 20) (whole 10)
    ∷ emptied (whole 10) ∷ with_residue (total 0 0 0 0 9) (whole 10) ∷ merged_to 9 (whole 10)
    ∷ deeper true 9 (whole 10) ∷ []
    ≡ cluster_of (10 ∷ 9 ∷ []) (total 11 2 3 4 5) (total 10 5 6 7 8) (rectangle 10 10 10 10) 11 12 (13 ∷ [])
    ∷ cluster_of (10 ∷ 20 ∷ []) (total 30 2 4 6 8) (total 10 5 6 7 8) (rectangle 10 10 10 10) 11 12 (13 ∷ [])
    ∷ cluster_of [] (total 0 0 0 0 0) (total 10 5 6 7 8) empty_rect 11 12 (13 ∷ [])
    ∷ cluster_of (10 ∷ []) (total 10 1 2 3 4) (total 0 0 0 0 9) (rectangle 10 10 10 10) 11 12 (13 ∷ [])
    ∷ cluster_of (10 ∷ []) (total 10 1 2 3 4) (total 10 5 6 7 8) (rectangle 10 10 10 10) 9 12 (13 ∷ [])
    ∷ cluster_of (10 ∷ []) (total 10 1 2 3 4) (total 10 5 6 7 8) (rectangle 10 10 10 10) 11 13 (13 ∷ 9 ∷ [])
    ∷ []
unfolding with_pixel with_cluster emptied with_residue merged_to deeper
cluster-edges = refl

-- Every function that changes a state, on one that no run makes: during stage 1 there are neither outputs nor listed
-- areas. What each leaves: labels, outputs, listed areas, next and the slot count.
pub fresh-edges : (fresh 2).labels ∷ (fresh 2).outputs ∷ (fresh 2).listed ∷ [] ≡ (0 ∷ 0 ∷ []) ∷ [] ∷ [] ∷ []
unfolding fresh
fresh-edges = refl

abbrev marked : State
marked = record {
  labels = 1 ∷ 2 ∷ 0 ∷ [];
  clusters = new_cluster ∷ single 0 ∷ single 1 ∷ [];
  next_index = 3;
  outputs = 2 ∷ [];
  listed = 8 ∷ [];
  log = [];
}
  where
    single : ℕ → Cluster
    single p = with_pixel p (rgba 5 5 5 5) (pixel_rect p 0) new_cluster

abbrev changes : List (State → State)
changes =
    add_pixel 2 (rgba 5 5 5 5) (pixel_rect 2 0) 1 ∷ begin_cluster 2 (rgba 5 5 5 5) (pixel_rect 2 0)
    ∷ combine_clusters 1 2 ∷ lower_next 2 ∷ prepare_stage2 ∷ put_out 1 ∷ merge_cluster_into 1 2
    ∷ deepen_cluster_into true 1 2 ∷ output_all ∷ drop_empty ∷ []

abbrev parts : State → List (List ℕ)
parts s = s.labels ∷ s.outputs ∷ s.listed ∷ (s.next_index ∷ length s.clusters ∷ []) ∷ []

pub change-edges : map (λ f. parts (f marked)) changes
    ≡ ((1 ∷ 2 ∷ 1 ∷ []) ∷ (2 ∷ []) ∷ (8 ∷ []) ∷ (3 ∷ 3 ∷ []) ∷ [])
    ∷ ((1 ∷ 2 ∷ 3 ∷ []) ∷ (2 ∷ []) ∷ (8 ∷ []) ∷ (4 ∷ 4 ∷ []) ∷ [])
    ∷ ((2 ∷ 2 ∷ 0 ∷ []) ∷ (2 ∷ []) ∷ (8 ∷ []) ∷ (3 ∷ 3 ∷ []) ∷ [])
    ∷ ((1 ∷ 2 ∷ 0 ∷ []) ∷ (2 ∷ []) ∷ (8 ∷ []) ∷ (2 ∷ 3 ∷ []) ∷ [])
    ∷ ((1 ∷ 2 ∷ 0 ∷ []) ∷ (2 ∷ []) ∷ (1 ∷ []) ∷ (3 ∷ 3 ∷ []) ∷ [])
    ∷ ((1 ∷ 2 ∷ 0 ∷ []) ∷ (2 ∷ 1 ∷ []) ∷ (8 ∷ []) ∷ (3 ∷ 3 ∷ []) ∷ [])
    ∷ ((2 ∷ 2 ∷ 0 ∷ []) ∷ (2 ∷ []) ∷ (2 ∷ 8 ∷ []) ∷ (3 ∷ 3 ∷ []) ∷ [])
    ∷ ((2 ∷ 2 ∷ 0 ∷ []) ∷ (2 ∷ 1 ∷ []) ∷ (2 ∷ 8 ∷ []) ∷ (3 ∷ 3 ∷ []) ∷ [])
    ∷ ((1 ∷ 2 ∷ 0 ∷ []) ∷ (2 ∷ 1 ∷ 2 ∷ []) ∷ (8 ∷ []) ∷ (3 ∷ 3 ∷ []) ∷ [])
    ∷ ((1 ∷ 2 ∷ 0 ∷ []) ∷ (2 ∷ []) ∷ (8 ∷ []) ∷ (3 ∷ 3 ∷ []) ∷ [])
    ∷ []
unfolding add_pixel begin_cluster combine_clusters lower_next prepare_stage2 put_out merge_cluster_into
    deepen_cluster_into output_all drop_empty with_pixel pixel_rect
change-edges = refl

-- the pixels of hole children, one list after another
pub hole-edges : hole_pixels marked (2 ∷ 1 ∷ []) ≡ 1 ∷ 0 ∷ []
unfolding hole_pixels with_pixel
hole-edges = refl

-- the boundary in 3 × 3 of a list that goes on behind the last row: that is off the image
pub boundary-rows : boundary 3 3 (block (up_to 12) []) 1 ≡ 11
unfolding boundary up_to
boundary-rows = refl

-- the boundary of a cluster far down: rows 9 to 11 of 3 × 12 have one pixel with all its neighbours, so that it deepens
-- where min is not 0
abbrev low : State
low = record {
  labels = [];
  clusters = new_cluster ∷ coloured (27 ∷ 28 ∷ 29 ∷ 30 ∷ 31 ∷ 32 ∷ 33 ∷ 34 ∷ 35 ∷ []) 0 ∷ coloured [] 255 ∷ [];
  next_index = 3;
  outputs = [];
  listed = [];
  log = [];
}
  where
    coloured : List ℕ → ℕ → Cluster
    coloured pixels x = record {
      pixels = pixels;
      sum = total x x x x 1;
      residue = new_cluster.residue;
      rect = empty_rect;
      merged_into = 0;
      depth = 0;
      holes = [];
    }

pub low-edges : deepens (config hierarchical_max 1 64 (rgba 0 0 0 0) Keep) 3 12 low 1 2 ≡ true
unfolding deepens
low-edges = refl

-- rule 8.3: each number of a slot is found at the place that bears its name. Of cluster 1,
-- which is the first hole child of cluster 2.
abbrev placed : State
placed = record {
  labels = [];
  clusters = new_cluster ∷ whole ∷ parent ∷ [];
  next_index = 3;
  outputs = [];
  listed = [];
  log = [];
}
  where
    whole : Cluster
    whole = record {
      pixels = 7 ∷ 3 ∷ [];
      sum = total 21 22 23 24 25;
      residue = total 31 32 33 34 35;
      rect = rectangle 11 12 13 14;
      merged_into = 2;
      depth = 41;
      holes = 5 ∷ 6 ∷ 9 ∷ [];
    }

    parent : Cluster
    parent = deeper true 50 (deeper true 1 new_cluster)

abbrev places : List ℕ
places = first_pixel_place ∷ pixel_count_place ∷ left_place ∷ top_place ∷ right_place ∷ bottom_place ∷ sum_place
    ∷ sum_count_place ∷ residue_place ∷ merged_into_place ∷ depth_place ∷ num_holes_place ∷ first_hole_place
    ∷ next_hole_place ∷ []

pub slot-places : length (slot placed 1) ∷ map (λ f. get_or (slot placed 1) f 0) places
    ≡ slot_width ∷ 8 ∷ 2 ∷ 11 ∷ 12 ∷ 13 ∷ 14 ∷ 21 ∷ 25 ∷ 31 ∷ 2 ∷ 41 ∷ 3 ∷ 6 ∷ 51 ∷ []
unfolding slot deeper
slot-places = refl
