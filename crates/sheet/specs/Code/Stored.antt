-- The sheet that is stored: its numbers, what its first checks answer, and what they show.
use Rattle.std.specs.Prelude.{Bool, List, [], ◌∷◌, ◌++◌, ◌||◌, ℕ, ◌+◌, ◌*◌, ◌≤◌, ltb, length, get_or}
use Rattle.rules.specs.Refusals.{limit, first_failed, refusal, size_checks, short_sheet, bad_counts}
use Rattle.rules.specs.Layout.{slot_width}
use Rattle.rules.specs.Stored.{stored_numbers}
use Rattle.sheet.specs.Code.Pairs.{pairs}
use Rattle.image.specs.declared.Clusters.{Clusters}

-- the numbers of clusters with these labels
abbrev pub numbers_of : Clusters → List ℕ → List ℕ
numbers_of s labels =
    stored_numbers s.size.w s.size.h labels s.links.now s.table.now s.outputs.now s.counts.n s.counts.m

-- label and link of each of these pixels
abbrev pub pixel_pairs : List ℕ → List ℕ → List ℕ
pixel_pairs labels links = pairs (λ p. get_or labels p 0) (λ p. get_or links p 0) (length labels)

-- first pixel and count of each of these slots
abbrev pub slot_pairs : List (List ℕ) → List ℕ
slot_pairs slots = pairs (λ k. get_or (get_or slots k []) 0 0) (λ k. get_or (get_or slots k []) 1 0) (length slots)

-- the numbers of a sheet in its parts: each slice has just what is stored
abbrev pub parts : List ℕ → List ℕ → List ℕ → List (List ℕ) → List ℕ → List ℕ
parts sizes labels links slots outputs =
    sizes ++ pixel_pairs labels links ++ slot_pairs slots ++ outputs

-- labels is a length
module _ (s : Clusters) (labels : ℕ) where
  -- check 5 of storing
  abbrev pub short : Bool
  short =
      ltb labels (s.size.w * s.size.h)
      || short_sheet (s.size.w * s.size.h) (length s.links.now) (length s.table.now) (length s.outputs.now)
      || bad_counts (s.size.w * s.size.h) s.counts.n s.counts.m

  -- what checks 2, 3 and 5 answer
  abbrev pub early_answer : ℕ
  early_answer = first_failed (size_checks s.size.w s.size.h ++ (refusal 5 short ∷ []))

  -- what is known of the lengths where they pass
  pub record CanStore : Type 0 where
    pub small : s.size.w * s.size.h ≤ limit
    pub slots : s.counts.n ≤ s.size.w * s.size.h + 1
    pub entries : s.counts.m ≤ 2 * (s.size.w * s.size.h)
    pub labels-fit : s.size.w * s.size.h ≤ labels
    pub links-fit : s.size.w * s.size.h ≤ length s.links.now
    pub table_fits : slot_width * s.counts.n ≤ length s.table.now
    pub outputs-fit : s.counts.m ≤ length s.outputs.now
