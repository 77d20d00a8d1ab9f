use mathlib.Core.Path.{◌≡◌, refl}
use mathlib.Core.List.{List, [], ◌∷◌}
use Prim.Native.Nat.{ℕ, zero, suc, ◌-◌, ◌≤◌, ◌<◌}
use native.Mathlib.Omega.{arith}
use lib.ListN.{get_or}
use Rattle.container.proofs.Passes.{walked-reads}
use Rattle.container.proofs.numbered.Numbered.walked.Goals as goal

-- each of four counts, less n
module _ (xs : List ℕ) (n : ℕ) where
  less : (i : ℕ) → i < 4 → get_or ((get_or xs 0 0 - n) ∷ (get_or xs 1 0 - n) ∷ (get_or xs 2 0 - n) ∷ (get_or xs 3 0 - n) ∷ []) i 0 ≡ get_or xs i 0 - n
  less zero l = refl
  less (suc zero) l = refl
  less (suc (suc zero)) l = refl
  less (suc (suc (suc zero))) l = refl
  less (suc (suc (suc (suc i)))) l = absurd (omega arith)

  each : n ≤ get_or xs 0 0 → n ≤ get_or xs 1 0 → n ≤ get_or xs 2 0 → n ≤ get_or xs 3 0 → (i : ℕ) → i < 4 → n ≤ get_or xs i 0
  each a b c d zero l = a
  each a b c d (suc zero) l = b
  each a b c d (suc (suc zero)) l = c
  each a b c d (suc (suc (suc zero))) l = d
  each a b c d (suc (suc (suc (suc i)))) l = absurd (omega arith)

pub returns-clause-pass : goal.returns-clause-pass
returns-clause-pass c table outputs m p = record {
  taken = λ r.
      let s = c.args.self.sheet in
      let count = c.args.lanes.count in
      let n = c.walk-moved.result.moved in
      p.taken (λ i l. walked-reads s.size s.links.now _ _ n _ (each count n (omega arith) (omega arith) (omega arith) (omega arith) i l) (c.walk-moved.ensures.leads i l) (rw (less count n i l) at (r i l)));
}
