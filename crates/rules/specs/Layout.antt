-- How a state lies in the buffers: links, and the numbers of a slot (rules 8.2, 8.3).
-- First pixels and links hold a pixel number + 1, hole links a cluster number + 1; zero ends a chain.
use mathlib.Core.List.{List, [], ◌∷◌, ◌++◌, map, flatten}
use Rattle.std.specs.Prelude.{ℕ, zero, suc, ◌+◌, ◌*◌, ◌≤◌, eqb, length, if◌then◌else◌}
use Rattle.rules.specs.Base.{up_to}
use Rattle.rules.specs.Color.{ColorSum}
use Rattle.rules.specs.State.{State, cluster, label}

-- the entry after p, plus one
unfoldable pub after : ℕ → List ℕ → ℕ
after p [] = 0
after p (x ∷ []) = 0
after p (x ∷ y ∷ ys) = if eqb p x then suc y else after p (y ∷ ys)

-- the first entry, plus one
unfoldable pub first_of : List ℕ → ℕ
first_of [] = 0
first_of (x ∷ xs) = suc x

-- the link of a pixel goes on along the list of the cluster that it is labelled with (rule 8.2); that of a discarded
-- pixel is 0
unfoldable pub link : State → ℕ → ℕ
unfolding after
link s p = after p (cluster s (label s p)).pixels

-- of all pixels, in their order
unfoldable pub links : State → List ℕ
unfolding link up_to
links s = map (link s) (up_to (length s.labels))

-- the list read along links from `first`, `count` long
unfoldable pub walk : (ℕ → ℕ) → ℕ → ℕ → List ℕ
walk next first zero = []
walk next zero (suc n) = []
walk next (suc p) (suc n) = p ∷ walk next (next p) n

-- a slot has 21 numbers (rule 8.3): first pixel, pixel count, left, top, right, bottom, sum (5), residue (5),
-- merged_into, depth, num_holes, first hole child, next hole child
abbrev pub slot_width : ℕ
slot_width = 21

-- and their places in it
abbrev pub first_pixel_place : ℕ
first_pixel_place = 0

abbrev pub pixel_count_place : ℕ
pixel_count_place = 1

abbrev pub left_place : ℕ
left_place = 2

abbrev pub top_place : ℕ
top_place = 3

abbrev pub right_place : ℕ
right_place = 4

abbrev pub bottom_place : ℕ
bottom_place = 5

abbrev pub sum_place : ℕ
sum_place = 6

abbrev pub sum_count_place : ℕ
sum_count_place = 10

abbrev pub residue_place : ℕ
residue_place = 11

abbrev pub merged_into_place : ℕ
merged_into_place = 16

abbrev pub depth_place : ℕ
depth_place = 17

abbrev pub num_holes_place : ℕ
num_holes_place = 18

abbrev pub first_hole_place : ℕ
first_hole_place = 19

abbrev pub next_hole_place : ℕ
next_hole_place = 20

-- a sum as five numbers
unfoldable pub sum_numbers : ColorSum → List ℕ
sum_numbers x = x.r ∷ x.g ∷ x.b ∷ x.a ∷ x.count ∷ []

-- the numbers of slot k
unfoldable pub slot : State → ℕ → List ℕ
unfolding after first_of sum_numbers
slot s k =
    let c = cluster s k in
    (first_of c.pixels ∷ length c.pixels ∷ c.rect.left ∷ c.rect.top ∷ c.rect.right ∷ c.rect.bottom ∷ [])
    ++ sum_numbers c.sum ++ sum_numbers c.residue
    ++ (c.merged_into ∷ c.depth ∷ length c.holes ∷ first_of c.holes
    ∷ after k (cluster s c.merged_into).holes ∷ [])

-- the slots 0 to n - 1, one after another
unfoldable pub table : State → List ℕ
unfolding flatten slot up_to
table s = flatten (map (slot s) (up_to (length s.clusters)))

-- slot k lies in a table
abbrev pub InTable : ℕ → List ℕ → Type 0
InTable k table = slot_width * k + slot_width ≤ length table
