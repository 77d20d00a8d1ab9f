-- What the passed checks of painting show. Assumes nothing.
use mathlib.Core.Path.{◌≡◌}
use mathlib.Core.Logic.{◌≢◌}
use mathlib.Core.Bool.{◌||◌}
use mathlib.Core.List.{[], ◌∷◌, ◌++◌}
use Prim.Native.Nat.{ℕ, ◌*◌, ◌≤◌, ◌<◌}
use native.Mathlib.Omega.{arith}
use borrow.Author.Tests.{eq-eqb, ne_eqb, ltb-false}
use lib.Dec.{eqb, ltb}
use Rattle.rules.specs.Layout.{slot_width}
use Rattle.std.specs.Prelude.{if◌then◌else◌}
use Rattle.rules.specs.Refusals.{refusal, first_failed, size_checks, limit, short_sheet, bad_counts, not_four_each, paint_answer}
use Rattle.rules.proofs.Accepted.{passed, neither, long-sheet, good-counts, good-size, failed-later}
use Rattle.refusal.proofs.Laws.{refused_number}
use Rattle.refusal.specs.Refusal.{number_of}
use Rattle.refusal.specs.declared.Refusal.{Refusal}

-- what a sheet must have; links and table are lengths
pub record CanPaint (size n links table : ℕ) : Type 0 where
  pub some : 0 < size
  pub small : size ≤ limit
  pub links-fit : size ≤ links
  pub table_fits : slot_width * n ≤ table

-- the checks before the entries are passed
pub can-paint : (w h links table outputs picture n m : ℕ) → paint_answer w h links table outputs picture n m ≡ 0 → CanPaint (w * h) n links table
unfolding paint_answer
can-paint w h links table outputs picture n m e =
    let c2 = passed 1 (eqb w 0 || eqb h 0) _ e in
    let c3 = passed 2 (ltb limit (w * h)) _ c2.1 in
    let c5 = passed 4 (short_sheet (w * h) links table outputs || bad_counts (w * h) n m) _ c3.1 in
    let l = neither (short_sheet (w * h) links table outputs) (bad_counts (w * h) n m) c5.0 in
    let long = long-sheet (w * h) links table outputs l.0 in
    let counts = good-counts (w * h) n m l.1 in
    record {
      some = (good-size w h c2.0 c3.0).some;
      small = ltb-false limit (w * h) c3.0;
      links-fit = long.0;
      table_fits = omega (arith, long.1, counts.0);
    }

module _ (w h links table outputs picture n m : ℕ) where
  -- the answer of the checks before check 6
  abbrev early : ℕ
  early = first_failed (size_checks w h ++ (refusal 5 (short_sheet (w * h) links table outputs || bad_counts (w * h) n m) ∷ []))

  -- then check 6
  check_6 : paint_answer w h links table outputs picture n m ≡ (if eqb early 0 then first_failed (refusal 6 (not_four_each w h picture) ∷ []) else early)
  unfolding paint_answer
  check_6 = failed-later (size_checks w h ++ (refusal 5 (short_sheet (w * h) links table outputs || bad_counts (w * h) n m) ∷ [])) (refusal 6 (not_four_each w h picture) ∷ []) tt

  pub refused-early : (r : Refusal) → number_of r ≡ early → number_of r ≡ paint_answer w h links table outputs picture n m
  refused-early r e = rw (check_6, ← e, refused_number r)

  pub refused-picture : (size : ℕ) → size ≡ w * h → 0 ≡ early → picture ≢ 4 * size → 6 ≡ paint_answer w h links table outputs picture n m
  refused-picture size s e d = rw (check_6, ← e, ← s, ne_eqb picture (4 * size) d)

  pub accepted : (size : ℕ) → size ≡ w * h → 0 ≡ early → picture ≡ 4 * size → 0 ≡ paint_answer w h links table outputs picture n m
  accepted size s e f = rw (check_6, ← e, ← s, eq-eqb picture (4 * size) f)

-- what the checks before the entries answer
pub ruleset answers = (refused-early, refused-picture, accepted)
