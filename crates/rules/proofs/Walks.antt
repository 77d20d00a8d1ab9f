-- One turn of a loop that goes along the links and counts down.
use Rattle.std.specs.Prelude.{if◌then◌else◌}
use mathlib.Core.Path.{◌≡◌, refl}
use mathlib.Core.Logic.{by_cases}
use mathlib.Core.Bool.{true, false, ◌||◌}
use mathlib.Core.List.{List, [], ◌∷◌}
use Prim.Native.Nat.{ℕ, zero, suc, ◌-◌, ◌≤◌, ◌<◌}
use native.Mathlib.Decide.{dec_lt}
use native.Mathlib.Nat.{not-suc-le-zero}
use native.Mathlib.Numerals.{sub-one}
use native.Mathlib.Omega.{arith}
use lib.Dec.{T, eqb, ltb, ltb→lt, lt→ltb}
use lib.ListN.{get_or}
use Rattle.rules.specs.Layout.{walk}
use Rattle.rules.specs.Paint.{reads}
use Rattle.rules.proofs.Facts.{is_true, is_false, eqb_no, T-both}

-- the place that the chain goes on at, and the rest of the chain
pub record Step (size : ℕ) (links : List ℕ) (at left : ℕ) : Type 0 where
  pub some : 0 < at
  pub within : at ≤ size
  pub rest : T (reads size links (get_or links (at - 1) 0) (left - 1))
  pub here : walk (λ p. get_or links p 0) at left ≡ (at - 1) ∷ walk (λ p. get_or links p 0) (get_or links (at - 1) 0) (left - 1)

pub step : (size : ℕ) (links : List ℕ) (at left : ℕ) → 0 < left → T (reads size links at left) → Step size links at left
unfolding walk
step size links at zero l r = absurd (not-suc-le-zero l)
step size links zero (suc n) l r = absurd r
step size links (suc p) (suc n) l r =
    let b = T-both (ltb p size) _ r in
    record {
      some = omega arith;
      within = omega (arith, ltb→lt p size b.0);
      rest = rw (sub-one (suc n), sub-one (suc p)) b.1;
      here = rw (sub-one (suc n), sub-one (suc p)) refl;
    }

-- the end of the chain
pub walk_none : (next : ℕ → ℕ) (at left : ℕ) → left ≤ 0 → walk next at left ≡ []
unfolding walk
walk_none next at zero l = refl
walk_none next at (suc n) l = absurd (not-suc-le-zero l)

-- whether the chain can be read, by the test of one turn
pub reads-turn : (size : ℕ) (links : List ℕ) (at left : ℕ) → 0 < left
    → reads size links at left ≡ (if eqb at 0 || ltb size at then false else reads size links (get_or links (at - 1) 0) (left - 1))
reads-turn size links at zero l = absurd (not-suc-le-zero l)
reads-turn size links zero (suc n) l = refl
reads-turn size links (suc p) (suc n) l = rw (sub-one (suc n), sub-one (suc p), eqb_no (suc p) 0 (λ e. omega arith)) (by_cases (dec_lt p size)
    (λ h. rw (is_true (ltb p size) (lt→ltb p size h), is_false (ltb size (suc p)) (λ t. omega (arith, ltb→lt size (suc p) t))))
    (λ d. rw (is_false (ltb p size) (λ t. d (ltb→lt p size t)), is_true (ltb size (suc p)) (lt→ltb size (suc p) (omega arith)))))

pub reads_none : (size : ℕ) (links : List ℕ) (at left : ℕ) → left ≤ 0 → reads size links at left ≡ true
reads_none size links at zero l = refl
reads_none size links at (suc n) l = absurd (not-suc-le-zero l)
