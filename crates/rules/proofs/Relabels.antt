-- A list is relabelled by stretches: pixels that follow one another both in the list and in the image get their labels at once.
use mathlib.Core.Path.{◌≡◌, sym, ap, ap₂, ◌∙◌, subst}
use mathlib.Core.List.{List}
use Prim.Native.Nat.{ℕ, zero, suc, ◌+◌, ◌-◌, ◌<◌}
use native.Mathlib.Omega.{arith}
use lib.Dec.{T}
use lib.ListN.{get_or, set}
use Rattle.rules.specs.State.{relabel}
use Rattle.rules.specs.Layout.{walk}
use Rattle.rules.specs.Paint.{reads}
use Rattle.rules.specs.Code.Spans.{set_from, Consecutive}
use Rattle.rules.proofs.Walks.{Step, step}

-- from `at` on n links lead to the next pixel each; the list goes on behind those n + 1 pixels
pub record Stretch (size : ℕ) (links : List ℕ) (at left n : ℕ) : Type 0 where
  pub within : at - 1 + n < size
  pub rest : T (reads size links (get_or links (at - 1 + n) 0) (left - suc n))
  pub same : (t : ℕ) (L : List ℕ) → relabel t (walk (λ p. get_or links p 0) at left) L
      ≡ relabel t (walk (λ p. get_or links p 0) (get_or links (at - 1 + n) 0) (left - suc n)) (set_from L (at - 1) (suc n) t)

module _ (size : ℕ) (links : List ℕ) where
  abbrev on : ℕ → ℕ → ℕ → List ℕ → List ℕ
  on t at left M = relabel t (walk (λ p. get_or links p 0) at left) M

  -- one pixel more
  one_on : (t at left : ℕ) (M : List ℕ) → Step size links at left → on t at left M ≡ on t (get_or links (at - 1) 0) (left - 1) (set M (at - 1) t)
  one_on t at left M S = ap (λ ps. relabel t ps M) S.here

  pub stretch : (at left n : ℕ) → n < left → T (reads size links at left) → Consecutive links at n → Stretch size links at left n
  unfolding set_from
  stretch at left zero l r c =
      let S = step size links at left (omega arith) r in
      let z : at - 1 + 0 ≡ at - 1 = omega arith in
      record {
        within = omega (arith, S.some, S.within);
        rest = rw z S.rest;
        same = λ t L. one_on t at left L S ∙ ap (λ p. on t (get_or links p 0) (left - 1) (set L p t)) (sym z);
      }
  stretch at left (suc n) l r c =
      let R = stretch at left n (omega arith) r (λ j z. c j (omega arith)) in
      let S = step size links (get_or links (at - 1 + n) 0) (left - suc n) (omega arith) R.rest in
      let s : 0 < at = (step size links at left (omega arith) r).some in
      let z : get_or links (at - 1 + n) 0 - 1 ≡ at - 1 + suc n = omega (arith, c n (omega arith)) in
      let y : left - suc n - 1 ≡ left - suc (suc n) = omega arith in
      record {
        within = omega (arith, S.some, S.within, z);
        rest = subst (λ p. T (reads size links (get_or links p 0) (left - suc (suc n)))) z (subst (λ m. T (reads size links (get_or links (get_or links (at - 1 + n) 0 - 1) 0) m)) y S.rest);
        same = λ t L. R.same t L ∙ one_on t (get_or links (at - 1 + n) 0) (left - suc n) (set_from L (at - 1) (suc n) t) S
            ∙ ap₂ (λ p m. on t (get_or links p 0) m (set (set_from L (at - 1) (suc n) t) p t)) z y;
      }
