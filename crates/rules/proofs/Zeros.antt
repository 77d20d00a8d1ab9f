-- A list that is written over with zeros from its front on. Assumes nothing.
use mathlib.Core.Path.{◌≡◌, sym, ◌∙◌}
use mathlib.Core.List.{List}
use Prim.Native.Nat.{ℕ, ◌+◌, ◌≤◌, ◌<◌}
use native.Mathlib.Decide.{ℕ_discrete}
use native.Mathlib.Omega.{arith}
use lib.ListN.{length, get_or, set, replicate, length-replicate, get_or-replicate}
use lib.Seq.{ext_get_or, get_or-set_same, get_or-set_other}

-- the first i numbers are zero
abbrev pub Zeros : ℕ → List ℕ → Type 0
Zeros i l = (j : ℕ) → j < i → get_or l j 0 ≡ 0

pub zeros-further : (l : List ℕ) (i : ℕ) → i < length l → Zeros i l → Zeros (i + 1) (set l i 0)
zeros-further l i h z j k = elim (ℕ_discrete j i) [ yes e ↦ rw e (get_or-set_same l i 0 0 h) | no d ↦ get_or-set_other l i j 0 0 d ∙ z j (omega arith) ]

pub zeros-all : (l : List ℕ) (i n : ℕ) → length l ≤ i → length l ≡ n → Zeros i l → l ≡ replicate n 0
zeros-all l i n h e z = ext_get_or 0 l (replicate n 0) (e ∙ sym (length-replicate n 0)) (λ j k. z j (omega arith) ∙ sym (get_or-replicate n j 0 0 (omega arith)))
