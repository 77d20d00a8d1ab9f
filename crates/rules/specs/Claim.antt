-- The words that demand 3 is said with: how often a list names a pixel, totals, counts, standing, holding (rule 12.3).
use Rattle.std.specs.Prelude.{◌≢◌, Bool, true, false, List, [], ◌∷◌, ℕ, zero, suc, ◌+◌, ◌<◌, T, eqb, if◌then◌else◌}
use Rattle.rules.specs.Color.{ColorSum, zero_sum, sum_of_one, ◌⊕◌, pixel}
use Rattle.rules.specs.Ledger.{Held}

-- 1 where it holds, else 0
abbrev pub bit : Bool → ℕ
bit true = 1
bit false = 0

-- how often p is named
abbrev pub occurs : ℕ → List ℕ → ℕ
occurs p [] = 0
occurs p (x ∷ xs) = bit (eqb p x) + occurs p xs

-- the total of the colours of the chosen ones of pixels 0 .. n - 1
unfoldable pub tally : List ℕ → (ℕ → Bool) → ℕ → ColorSum
tally image f zero = zero_sum
tally image f (suc n) = if f n then tally image f n ⊕ sum_of_one (pixel image n) else tally image f n

-- how many of the pixels 0 .. n - 1 are chosen
unfoldable pub count_of : (ℕ → Bool) → ℕ → ℕ
count_of f zero = 0
count_of f (suc n) = bit (f n) + count_of f n

-- k stands: it holds a pixel
abbrev pub Stands : Held → ℕ → Type 0
Stands h k = (p : ℕ) × T (h k p)

-- k holds j: it holds all its pixels
abbrev pub Holds : Held → ℕ → ℕ → Type 0
Holds h k j = (p : ℕ) → T (h j p) → T (h k p)

-- p is held by k, and by no standing cluster strictly inside k
abbrev pub InResidue : Held → ℕ → ℕ → ℕ → Type 0
InResidue h size k p = T (h k p) × ((j : ℕ) → Holds h k j → count_of (h j) size < count_of (h k) size → T (h j p) → ⊥)

-- k is the largest standing cluster that holds p
abbrev pub Largest : Held → ℕ → ℕ → ℕ → Type 0
Largest h size p k = T (h k p) × ((j : ℕ) → T (h j p) → j ≢ k → count_of (h j) size < count_of (h k) size)

-- k is the smallest standing cluster that holds p
abbrev pub Smallest : Held → ℕ → ℕ → ℕ → Type 0
Smallest h size p k = T (h k p) × ((j : ℕ) → T (h j p) → j ≢ k → count_of (h k) size < count_of (h j) size)
