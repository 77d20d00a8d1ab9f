-- The slots of a table as parts of 21 numbers. Assumes nothing.
use Rattle.std.proofs.Common.{◌≡◌, ℕ, zero, suc, ◌+◌, ◌*◌, ◌<◌, List, get_or, drop, arith, ◌∙◌, ap}
use Rattle.std.proofs.lemmas.List.{get_or-take, get_or-drop}
use native.Mathlib.Nat.{mul-suc}
use Rattle.std.specs.Simd.{first_chunks}
use Rattle.rules.specs.Layout.{slot_width}
use Rattle.rules.specs.Paint.{slot_number}

-- number j of part i
in_chunk : (n k : ℕ) (xs : List ℕ) (i j : ℕ) (d : List ℕ) (e : ℕ) → i < k → j < n → get_or (get_or (first_chunks n k xs) i d) j e ≡ get_or xs (n * i + j) e
in_chunk n zero xs i j d e l m = absurd (omega (arith, l))
in_chunk n (suc k) xs zero j d e l m = get_or-take n xs j e m ∙ ap (λ (q : ℕ). get_or xs q e) (omega arith)
in_chunk n (suc k) xs (suc i) j d e l m =
    in_chunk n k (drop n xs) i j d e (omega arith) m ∙ get_or-drop n xs (n * i + j) e ∙ ap (λ (q : ℕ). get_or xs q e) (omega (arith, mul-suc n i))

-- part k is slot k
pub in_slot : (table : List ℕ) (n k place : ℕ) (d : List ℕ) → k < n → place < slot_width → get_or (get_or (first_chunks slot_width n table) k d) place 0 ≡ slot_number table k place
unfolding slot_number
in_slot table n k place d l m = in_chunk slot_width n table k place d 0 l m
