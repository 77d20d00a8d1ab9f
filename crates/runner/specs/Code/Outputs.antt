-- The outputs that are left at the end of a run.
use Rattle.std.specs.Prelude.{◌≡◌, List, ℕ, ◌+◌, ◌*◌, ltb, get_or, set, if◌then◌else◌}
use Rattle.rules.specs.Base.{keep}
use Rattle.rules.specs.Layout.{slot_width, sum_count_place}

-- the entries whose sum counts something
unfoldable pub counted : List ℕ → List ℕ → List ℕ
counted table entries = keep (λ k. ltb 0 (get_or table (slot_width * k + sum_count_place) 0)) entries

-- entry k is kept as number n of the outputs if its sum counts something; r are kept then
pub record Kept (table : List ℕ) (k n : ℕ) (outputs outputs' : List ℕ) (r : ℕ) : Type 0 where
  pub written : outputs'
      ≡ (if ltb 0 (get_or table (slot_width * k + sum_count_place) 0) then set outputs n k else outputs)
  pub number : r ≡ (if ltb 0 (get_or table (slot_width * k + sum_count_place) 0) then n + 1 else n)
