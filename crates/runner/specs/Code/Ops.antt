-- What adding a pixel and merging do to the buffers: L labels, K links, B table, E ends, and the same with '
-- afterwards.
use Rattle.std.specs.Prelude.{◌≡◌, List, ℕ, ◌+◌, ◌-◌, ◌*◌, ◌≤◌, ◌<◌, eqb, length, get_or, set, if◌then◌else◌}
use Rattle.rules.specs.Color.{Color, sum_of_one, ◌⊕◌}
use Rattle.rules.specs.State.{Cluster, new_cluster, with_pixel, with_cluster, pixel_rect, relabel}
use Rattle.rules.specs.Layout.{slot_width, merged_into_place, depth_place, num_holes_place, first_hole_place}
use Rattle.rules.specs.Layout.{next_hole_place}
use Rattle.rules.specs.Code.Bounds.{count_bound}
use Rattle.color.specs.Colors.{sum_of}
use Rattle.color.specs.declared.ColorSum.{ColorSum}
use Rattle.runner.specs.Code.Slots.{Adds, head_at, list_of, head_of, saved_head, residue_at, saved_residue}
use Rattle.runner.specs.Code.Rep.{link_after}
use Rattle.runner.specs.Code.Pixels.{pixels}
use Rattle.runner.specs.Code.Labelling.{CanRelabel}

-- slot k can be read and written, and a pixel can be linked after its list
pub record Open (k : ℕ) (K B E : List ℕ) : Type 0 where
  pub slot : slot_width * k + slot_width ≤ length B
  pub end : k < length E
  pub count : (head_at B k).count < count_bound
  pub tail : 0 < (head_at B k).count → (0 < get_or E k 0) × (get_or E k 0 ≤ length K)

-- pixel i of colour c at column x, row y can be added to cluster k
pub record CanAdd (k i x y : ℕ) (c : Color) (L K B E : List ℕ) : Type 0 where
  pub room : Open k K B E
  pub pixel : i < length L
  pub small : (i < count_bound) × (x < count_bound) × (y < count_bound)
  pub sum : Adds (sum_of (head_at B k).sum) (sum_of_one c)

-- and it was: last of the list, labelled, summed
pub record Added (k i x y : ℕ) (c : Color) (L K B E L' K' B' E' : List ℕ) : Type 0 where
  pub labels : L' ≡ set L i k
  pub links : K' ≡ link_after K (head_at B k).count (get_or E k 0) (i + 1)
  pub table : (d : Cluster) → head_at B k ≡ head_of d
      → B' ≡ saved_head B k (head_of (with_pixel i c (pixel_rect x y) d))
  pub ends : E' ≡ set E k (i + 1)

-- cluster f can be appended to cluster t
pub record CanAppend (f t : ℕ) (L K B E : List ℕ) : Type 0 where
  pub from : Open f K B E
  pub to : Open t K B E
  pub list : CanRelabel L K (list_of (head_at B f))
  pub sum : Adds (sum_of (head_at B t).sum) (sum_of (head_at B f).sum)

-- the list, sum and rectangle of f are added to t's; f is as it was
pub record Appended (f t : ℕ) (L K B E L' K' B' E' : List ℕ) : Type 0 where
  pub labels : L' ≡ relabel t (pixels K (list_of (head_at B f))) L
  pub links : K' ≡ link_after K (head_at B t).count (get_or E t 0) (head_at B f).first
  pub table : (a b : Cluster) → head_at B t ≡ head_of a → head_at B f ≡ head_of b → B'
      ≡ saved_head B t (head_of (with_cluster b a))
  pub ends : E' ≡ (if eqb (head_at B f).count 0 then E else set E t (get_or E f 0))

-- and the list, sum and rectangle of f become zero
pub record Combined (f t : ℕ) (L K B E L' K' B' E' : List ℕ) : Type 0 where
  pub labels : L' ≡ relabel t (pixels K (list_of (head_at B f))) L
  pub links : K' ≡ link_after K (head_at B t).count (get_or E t 0) (head_at B f).first
  pub table : (a b : Cluster) → head_at B t ≡ head_of a → head_at B f ≡ head_of b → B'
      ≡ saved_head (saved_head B t (head_of (with_cluster b a))) f (head_of new_cluster)
  pub ends : E' ≡ (if eqb (head_at B f).count 0 then E else set E t (get_or E f 0))

-- cluster f can be merged into cluster t, residue and all
pub record CanMerge (f t : ℕ) (L K B E : List ℕ) : Type 0 where
  pub append : CanAppend f t L K B E
  pub residue : Adds (sum_of (residue_at B t)) (sum_of (residue_at B f))

-- as Combined, after the residue of f was added to t's
pub record Merged (f t : ℕ) (L K B E L' K' B' E' : List ℕ) : Type 0 where
  pub r : ColorSum
  pub residue : sum_of r ≡ sum_of (residue_at B t) ⊕ sum_of (residue_at B f)
  pub combined : Combined f t L K (saved_residue B t r) E L' K' B' E'

-- cluster f can deepen into cluster t
pub record CanDeepen (f t : ℕ) (L K B E : List ℕ) : Type 0 where
  pub append : CanAppend f t L K B E
  pub depth : get_or B (slot_width * t + depth_place) 0 < count_bound

-- as Appended, then merged_into of f and the depth of t
pub record Deepened (f t : ℕ) (L K B E L' K' B' E' : List ℕ) : Type 0 where
  pub labels : L' ≡ relabel t (pixels K (list_of (head_at B f))) L
  pub links : K' ≡ link_after K (head_at B t).count (get_or E t 0) (head_at B f).first
  pub table : (a b : Cluster) → head_at B t ≡ head_of a → head_at B f ≡ head_of b
      → B'
      ≡ set (set (saved_head B t (head_of (with_cluster b a))) (slot_width * f + merged_into_place) t)
      (slot_width * t + depth_place) (get_or B (slot_width * t + depth_place) 0 + 1)
  pub ends : E' ≡ (if eqb (head_at B f).count 0 then E else set E t (get_or E f 0))

-- f can be appended to the hole children of t, the last of which H has
pub record CanHollow (f t : ℕ) (B H : List ℕ) : Type 0 where
  pub slot : slot_width * t + slot_width ≤ length B
  pub small : f < count_bound
  pub end : t < length H
  pub holes : get_or B (slot_width * t + num_holes_place) 0 < count_bound
  pub child : 0 < get_or B (slot_width * t + num_holes_place) 0 → (0 < get_or H t 0)
      × (slot_width * (get_or H t 0 - 1) + slot_width ≤ length B)

-- where a hole list begins or goes on
abbrev pub hole_link : ℕ → ℕ → ℕ → ℕ
hole_link holes tail t =
    if eqb holes 0 then slot_width * t + first_hole_place else slot_width * (tail - 1) + next_hole_place

-- and it was: one hole child more, last of the list
pub record Hollowed (f t : ℕ) (B H B' H' : List ℕ) : Type 0 where
  pub table : B'
      ≡ set (set B (slot_width * t + num_holes_place) (get_or B (slot_width * t + num_holes_place) 0 + 1))
      (hole_link (get_or B (slot_width * t + num_holes_place) 0) (get_or H t 0) t) (f + 1)
  pub ends : H' ≡ set H t (f + 1)
