-- The answer of `average` for a sum that has an average.
use Rattle.std.specs.Prelude.{if◌then◌else◌}
use Prim.Native.Nat.{◌*◌, ◌≤◌, ◌<◌}
use native.Mathlib.Nat.{pos_of_ne-zero}
use mathlib.Core.Bool.{Bool, and-eq-true_iff}
use borrow.Author.Tests.{eqb-false, leb-true, not-true}
use mathlib.Core.Path.{◌≡◌, refl, sym, ◌∙◌}
use mathlib.Core.Bool.{true, false}
use mathlib.Core.Option.{some, none}
use Rattle.std.specs.Prelude.{Option, Some, None}
use Prim.Native.Nat.{ℕ}
use native.Mathlib.Omega.{arith}
use lib.Dec.{T}
use Rattle.rules.specs.Color.{ColorSum, has_average, average, average_or_none}
use Rattle.color.specs.declared.Color.{Color}
use Rattle.color.specs.Colors.{color_of, option_of}

there : (s : ColorSum) → T (has_average s) → average_or_none s ≡ some (average s)
unfolding average_or_none
there s h = elim (has_average s) as (λ b. T b → (if b then some (average s) else none) ≡ some (average s)) [ true ↦ λ t. refl | false ↦ λ t. absurd t ] h

-- what has an average is some colour, and that is the average
pub never-none : (s : ColorSum) (o : Option Color) → T (has_average s) → o ≡ None → option_of o ≡ average_or_none s → ⊥
never-none s o h n e = let z : ◌≡◌ {A = ℕ} 0 1 = cc (there s h, n, e) in omega arith

pub average_is : (s : ColorSum) (c : Color) → T (has_average s) → option_of (Some c) ≡ average_or_none s → color_of c ≡ average s
average_is s c h e = cc (there s h, e)

-- what has an average has it
pub ruleset has_one = (never-none, average_is)

-- what a sum that has an average has passed
pub passed : (s : ColorSum) {t : Bool} → t ≡ has_average s → t ≡ true → (0 < s.count) × (s.r ≤ 255 * s.count) × (s.g ≤ 255 * s.count) × (s.b ≤ 255 * s.count) × (s.a ≤ 255 * s.count)
unfolding has_average
passed s e h =
    let a = (and-eq-true_iff _ _).0 (sym e ∙ h) in
    let b = (and-eq-true_iff _ _).0 a.0 in
    let g = (and-eq-true_iff _ _).0 b.0 in
    let r = (and-eq-true_iff _ _).0 g.0 in
    (pos_of_ne-zero (eqb-false _ _ (not-true _ r.0)), leb-true _ _ r.1, leb-true _ _ g.1, leb-true _ _ b.1, leb-true _ _ a.1)
