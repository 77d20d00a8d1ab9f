-- The pixels of an image as parts of four bytes. Assumes nothing.
use Rattle.std.proofs.Common.{◌≡◌, ℕ, zero, suc, ◌+◌, ◌*◌, ◌<◌, List, get_or, drop, arith, ◌∙◌, ap, refl}
use Rattle.std.proofs.lemmas.List.{get_or-take, get_or-drop}
use native.Mathlib.Nat.{mul-suc}
use Rattle.std.specs.Simd.{first_chunks}

-- number j of part i
pub in_chunk : (n k : ℕ) (xs : List ℕ) (i j p : ℕ) (d : List ℕ) (e : ℕ) → i < k → j < n → n * i + j ≡ p → get_or (get_or (first_chunks n k xs) i d) j e ≡ get_or xs p e
in_chunk n zero xs i j p d e l m s = absurd (omega (arith, l))
in_chunk n (suc k) xs zero j p d e l m s = get_or-take n xs j e m ∙ ap (λ (q : ℕ). get_or xs q e) (omega (arith, s))
in_chunk n (suc k) xs (suc i) j p d e l m s =
    in_chunk n k (drop n xs) i j (n * i + j) d e (omega arith) m refl ∙ get_or-drop n xs (n * i + j) e ∙ ap (λ (q : ℕ). get_or xs q e) (omega (arith, mul-suc n i, s))
