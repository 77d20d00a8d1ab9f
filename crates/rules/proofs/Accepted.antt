-- What an accepted call has passed: an answer of 0 taken apart into the facts that its checks ask for.
use Rattle.std.specs.Prelude.{if◌then◌else◌}
use mathlib.Core.Path.{◌≡◌, refl, sym, ◌∙◌, subst}
use mathlib.Core.Bool.{Bool, true, false, not, ◌||◌}
use mathlib.Core.List.{List, [], ◌∷◌, ◌++◌}
use Prim.Native.Nat.{ℕ, zero, suc, ◌+◌, ◌*◌, ◌≤◌, ◌<◌}
use native.Mathlib.Nat.{mul-pos}
use native.Mathlib.Omega.{arith}
use borrow.Author.Tests.{eqb-false, eqb-true, ltb-false, not-false}
use lib.Dec.{T, ltb, eqb}
use Rattle.rules.specs.Color.{RunnerConfig}
use Rattle.rules.specs.Base.{none_above}
use Rattle.rules.specs.Refusals.{Check, refusal, first_failed, size_checks, not_four_each, run_checks, limit, bad_shift, table_length, outputs_length, work_length, short_sheet, bad_counts, run_answer, run_and_paint_answer, store_answer}
use Rattle.rules.specs.Stored.{stored_numbers, is_large}
use Rattle.rules.specs.Calls.{store_call}
use Rattle.rules.specs.Code.Accepted.{GoodSize, Accepted}
use Rattle.rules.proofs.Facts.{eqb_no}

-- a check whose number is not 0 was passed, and so were the later ones
pub passed : (number : ℕ) (bad : Bool) (later : ℕ) → (if bad then suc number else later) ≡ 0 → (bad ≡ false) × (later ≡ 0)
passed number true later e = absurd (omega arith)
passed number false later e = (refl, e)

pub neither : (a b : Bool) → a || b ≡ false → (a ≡ false) × (b ≡ false)
neither true b e = absurd (subst T e tt)
neither false b e = (refl, e)

-- check 5 passed: what each buffer holds
pub long-sheet : (size links table outputs : ℕ) → short_sheet size links table outputs ≡ false → (size ≤ links) × (table_length size ≤ table) × (outputs_length size ≤ outputs)
long-sheet size links table outputs e =
    let o = neither _ (ltb outputs (outputs_length size)) e in
    let t = neither (ltb links size) (ltb table (table_length size)) o.0 in
    (ltb-false links size t.0, ltb-false table (table_length size) t.1, ltb-false outputs (outputs_length size) o.1)

-- and the counts
pub good-counts : (size n m : ℕ) → bad_counts size n m ≡ false → (n ≤ size + 1) × (m ≤ outputs_length size)
good-counts size n m e = let k = neither (ltb (size + 1) n) (ltb (outputs_length size) m) e in (ltb-false (size + 1) n k.0, ltb-false (outputs_length size) m k.1)

pub equal : (a b : ℕ) → not (eqb a b) ≡ false → a ≡ b
equal a b e = eqb-true a b (not-false (eqb a b) e)

pub good-size : (w h : ℕ) → eqb w 0 || eqb h 0 ≡ false → ltb limit (w * h) ≡ false → GoodSize w h
good-size w h a b = record {
  wide = pos₀ w (neither (eqb w 0) (eqb h 0) a).0;
  high = pos₀ h (neither (eqb w 0) (eqb h 0) a).1;
  some = mul-pos (pos₀ w (neither (eqb w 0) (eqb h 0) a).0) (pos₀ h (neither (eqb w 0) (eqb h 0) a).1);
  small = ltb-false limit (w * h) b;
}
  where
    pos₀ : (x : ℕ) → eqb x 0 ≡ false → 0 < x
    pos₀ x e = let d = eqb-false x 0 e in omega arith

-- no check has the number 0
abbrev pub Numbered : List Check → Type 0
Numbered [] = Unit {0}
Numbered (refusal zero bad ∷ checks) = ⊥
Numbered (refusal (suc number) bad ∷ checks) = Numbered checks

-- where the first checks pass the later ones are answered, else what the first answer
pub failed-later : (first later : List Check) → Numbered first → first_failed (first ++ later) ≡ (if eqb (first_failed first) 0 then first_failed later else first_failed first)
failed-later [] later n = refl
failed-later (refusal zero bad ∷ checks) later n = absurd n
failed-later (refusal (suc number) true ∷ checks) later n = rw (eqb_no (suc number) 0 (λ z. omega arith))
failed-later (refusal (suc number) false ∷ checks) later n = failed-later checks later n

pub sized : (w h : ℕ) (later : List Check) → first_failed (size_checks w h ++ later) ≡ (if eqb (first_failed (size_checks w h)) 0 then first_failed later else first_failed (size_checks w h))
sized w h later = failed-later (size_checks w h) later tt

-- an image whose size passes has at most so many pixels
pub sized-small : (w h : ℕ) → first_failed (size_checks w h) ≡ 0 → w * h ≤ limit
sized-small w h e = ltb-false limit (w * h) (passed 2 (ltb limit (w * h)) 0 (passed 1 (eqb w 0 || eqb h 0) _ e).1).0

pub run-accepted : (o : RunnerConfig) (w h image labels links table outputs work : ℕ) → run_answer w h o image labels links table outputs work ≡ 0 → Accepted o w h image labels links table outputs work
unfolding run_answer
run-accepted o w h image labels links table outputs work e =
    let c1 = passed 0 (bad_shift o.is_same_color_a) _ e in
    let c2 = passed 1 (eqb w 0 || eqb h 0) _ c1.1 in
    let c3 = passed 2 (ltb limit (w * h)) _ c2.1 in
    let c4 = passed 3 (not (eqb image (4 * (w * h)))) _ c3.1 in
    let c5 = passed 4 (ltb labels (w * h) || short_sheet (w * h) links table outputs || ltb work (work_length (w * h))) _ c4.1 in
    let l2 = neither _ (ltb work (work_length (w * h))) c5.0 in
    let l1 = neither (ltb labels (w * h)) (short_sheet (w * h) links table outputs) l2.0 in
    let long = long-sheet (w * h) links table outputs l1.1 in
    record {
      shift = c1.0;
      size = good-size w h c2.0 c3.0;
      bytes = equal image (4 * (w * h)) c4.0;
      labels-fit = ltb-false labels (w * h) l1.0;
      links-fit = long.0;
      table_fits = long.1;
      outputs-fit = long.2;
      work-fits = ltb-false work (work_length (w * h)) l2.1;
    }

-- run and painting in one call: 6 where `run` alone is accepted
pub run-and-paint-number : (o : RunnerConfig) (w h image labels links table outputs work picture : ℕ) → run_and_paint_answer w h o image labels links table outputs work picture
    ≡ (if eqb (run_answer w h o image labels links table outputs work) 0 then first_failed (refusal 6 (not_four_each w h picture) ∷ []) else run_answer w h o image labels links table outputs work)
unfolding run_answer run_and_paint_answer
run-and-paint-number o w h image labels links table outputs work picture = failed-later (run_checks w h o image labels links table outputs work) (refusal 6 (not_four_each w h picture) ∷ []) tt

pub run-and-paint-accepted : (o : RunnerConfig) (w h image labels links table outputs work picture : ℕ) → run_and_paint_answer w h o image labels links table outputs work picture ≡ 0
    → (run_answer w h o image labels links table outputs work ≡ 0) × (picture ≡ 4 * (w * h))
run-and-paint-accepted o w h image labels links table outputs work picture e =
    let x = go (run_answer w h o image labels links table outputs work) (sym (run-and-paint-number o w h image labels links table outputs work picture) ∙ e) in
    (x.0, equal picture (4 * (w * h)) (passed 5 (not_four_each w h picture) 0 x.1).0)
  where
    go : (r : ℕ) {l : ℕ} → (if eqb r 0 then l else r) ≡ 0 → (r ≡ 0) × (l ≡ 0)
    go zero e = (refl, e)
    go (suc r) e = absurd (omega (arith, rw (eqb_no (suc r) 0 (λ z. omega arith)) at e))

-- a sheet that is stored has no number above 65,535: n and m are asked too
pub stored-small : (w h : ℕ) (labels links table outputs destination : List ℕ) (n m : ℕ) → (store_call w h labels links table outputs destination n m).answer ≡ 0 → none_above 65535 (stored_numbers w h labels links table outputs n m) ≡ true
unfolding store_call store_answer is_large
stored-small w h labels links table outputs destination n m e =
    let c2 = passed 1 (eqb w 0 || eqb h 0) _ e in
    let c3 = passed 2 (ltb limit (w * h)) _ c2.1 in
    let c5 = passed 4 _ _ c3.1 in
    not-false (none_above 65535 (stored_numbers w h labels links table outputs n m)) (passed 11 _ _ c5.1).0
