-- What the passed checks of a row and of storing show. Assumes nothing.
use Rattle.std.specs.Prelude.{if◌then◌else◌}
use mathlib.Core.Path.{◌≡◌, refl}
use mathlib.Core.Bool.{Bool, true, false, not, ◌||◌}
use mathlib.Core.List.{[], ◌∷◌, ◌++◌}
use lib.ListN.{length}
use Prim.Native.Nat.{ℕ, ◌*◌, ◌≤◌, ◌<◌}
use native.Mathlib.Omega.{arith}
use borrow.Author.Tests.{leb-false, ltb-false}
use Rattle.std.specs.Prelude.{Result, Ok, Err}
use Rattle.std.specs.Result.{is_err}
use Rattle.refusal.proofs.Laws.{refused_number}
use Rattle.refusal.specs.Refusal.{answer_of}
use Rattle.refusal.specs.declared.Refusal.{Refusal}
use lib.Dec.{leb, ltb, eqb}
use Rattle.rules.specs.Refusals.{refusal, first_failed, size_checks, limit, short_sheet, bad_counts, row_answer, store_answer}
use Rattle.rules.proofs.Accepted.{passed, neither, long-sheet, good-counts, equal, failed-later}
use Rattle.image.specs.declared.Clusters.{Clusters}
use Rattle.sheet.specs.Code.Stored.{CanStore, short, early_answer}

-- an answer that is an error is not 0, and one that is none is 0
pub error-number : {A : Type 0} (r : Result A Refusal) → is_err r ≡ true → eqb (answer_of r) 0 ≡ false
error-number (Ok x) e = cc
error-number (Err x) e = refused_number x

pub accepted-number : {A : Type 0} (r : Result A Refusal) → is_err r ≡ false → answer_of r ≡ 0
accepted-number (Ok x) e = refl
accepted-number (Err x) e = cc

-- picture is a length
pub row-accepted : (w h picture y : ℕ) → row_answer w h picture y ≡ 0 → (w * h ≤ limit) × (picture ≡ 4 * (w * h)) × (y < h)
unfolding row_answer
row-accepted w h picture y e =
    let c2 = passed 1 (eqb w 0 || eqb h 0) _ e in
    let c3 = passed 2 (ltb limit (w * h)) _ c2.1 in
    let c6 = passed 5 (not (eqb picture (4 * (w * h)))) _ c3.1 in
    (ltb-false limit (w * h) c3.0, equal picture (4 * (w * h)) c6.0, leb-false h y (passed 10 (leb h y) 0 c6.1).0)

-- labels is a length
module _ (s : Clusters) (labels : ℕ) where
  -- what the first checks show
  pub can-store : early_answer s labels ≡ 0 → CanStore s labels
  can-store e =
      let size = s.size.w * s.size.h in
      let c2 = passed 1 (eqb s.size.w 0 || eqb s.size.h 0) _ e in
      let c3 = passed 2 (ltb limit size) _ c2.1 in
      let c5 = passed 4 (short s labels) 0 c3.1 in
      let l2 = neither _ (bad_counts size s.counts.n s.counts.m) c5.0 in
      let l1 = neither (ltb labels size) (short_sheet size (length s.links.now) (length s.table.now) (length s.outputs.now)) l2.0 in
      let long = long-sheet size (length s.links.now) (length s.table.now) (length s.outputs.now) l1.1 in
      let counts = good-counts size s.counts.n s.counts.m l2.1 in
      record {
        small = ltb-false limit size c3.0;
        slots = counts.0;
        entries = counts.1;
        labels-fit = ltb-false labels size l1.0;
        links-fit = long.0;
        table_fits = omega (arith, long.1, counts.0);
        outputs-fit = omega (arith, long.2, counts.1);
      }

  -- where the first checks pass, 12 and 13
  pub store-number : (destination : ℕ) (large : Bool) (exact : ℕ) → store_answer s.size.w s.size.h labels (length s.links.now) (length s.table.now) (length s.outputs.now) destination s.counts.n s.counts.m large exact
      ≡ (if eqb (early_answer s labels) 0 then first_failed (refusal 12 large ∷ refusal 13 (not (eqb destination exact)) ∷ []) else early_answer s labels)
  unfolding store_answer
  store-number destination large exact = failed-later (size_checks s.size.w s.size.h ++ (refusal 5 (short s labels) ∷ [])) (refusal 12 large ∷ refusal 13 (not (eqb destination exact)) ∷ []) tt

-- what the functions cite
pub ruleset row_laws = (row-accepted, error-number, accepted-number)

pub ruleset fits = (can-store, refused_number)
