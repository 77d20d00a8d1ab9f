-- Run, then painting, with nobody writing in between: no check refuses the painting.
use mathlib.Core.Path.{◌≡◌, sym, ap, ◌∙◌}
use mathlib.Core.List.{List}
use Prim.Native.Nat.{ℕ, ◌+◌, ◌*◌, ◌≤◌, ◌<◌}
use native.Mathlib.Nat.{mul-le-mul_left}
use native.Mathlib.Omega.{arith}
use borrow.Author.Tests.{le-ltb}
use lib.Dec.{ltb}
use lib.ListN.{length, get_or, length-append, length-drop}
use Rattle.rules.specs.Color.{RunnerConfig}
use Rattle.rules.specs.State.{cluster}
use Rattle.rules.specs.Run.{run, stage1, stage2, drop_empty}
use Rattle.rules.specs.Layout.{slot_width, links, table}
use Rattle.rules.specs.Picture.{paint}
use Rattle.rules.specs.Paint.{Painted}
use Rattle.rules.specs.Refusals.{limit, table_length, outputs_length, paint_answer}
use Rattle.rules.specs.Calls.{Buffers, Ran, over, leaves, accepted, run_number, run_call, paint_call}
use Rattle.rules.proofs.Facts.{eqb_yes, eqb_no, keep-le}
use Rattle.rules.proofs.Bounds.{outputs-bound}
use Rattle.rules.proofs.Ranges.{run-ranged}
use Rattle.rules.proofs.Moments.{run-width}
use Rattle.rules.proofs.Accepted.{run-accepted}
use Rattle.rules.proofs.Layouts.{links-length, table-length, leaves-in-buffers}
use Rattle.rules.proofs.Paint.{run-painting}

-- what is written over the beginning of a list leaves its length
pub over-length : (new old : List ℕ) → length new ≤ length old → length (over new old) ≡ length old
over-length new old l = simp (length-append, length-drop) (omega arith)

pub run-outputs : (o : RunnerConfig) (w h : ℕ) (image : List ℕ) → length (run o w h image).outputs ≤ 2 * (w * h)
unfolding run drop_empty
run-outputs o w h image =
    omega (arith, keep-le (λ k. ltb 0 (cluster (stage2 o w h (stage1 o w h image)) k).sum.count) (stage2 o w h (stage1 o w h image)).outputs, outputs-bound o w h image)

-- checks 2, 3, 5 and 6 of painting
paint-passes : (w h links table outputs picture n m : ℕ) → 0 < w → 0 < h → w * h ≤ limit → w * h ≤ links → table_length (w * h) ≤ table → outputs_length (w * h) ≤ outputs
    → n ≤ w * h + 1 → m ≤ 2 * (w * h) → picture ≡ 4 * (w * h) → paint_answer w h links table outputs picture n m ≡ 0
unfolding paint_answer
paint-passes w h links table outputs picture n m a b c d e f g i j =
    rw (
      eqb_no w 0 (λ z. omega arith),
      eqb_no h 0 (λ z. omega arith),
      le-ltb limit (w * h) c,
      le-ltb links (w * h) d,
      le-ltb table (table_length (w * h)) e,
      le-ltb outputs (outputs_length (w * h)) f,
      le-ltb (w * h + 1) n g,
      le-ltb (2 * (w * h)) m i,
      eqb_yes picture (4 * (w * h)) j,
    )

module _ (o : RunnerConfig) (w h : ℕ) (image : List ℕ) (bytes : (i : ℕ) → get_or image i 0 ≤ 255) (b : Buffers) where
  -- the lengths of the buffers stay
  pub leaves-links : w * h ≤ length b.links → length (leaves (run o w h image) b).links ≡ length b.links
  unfolding leaves
  leaves-links l = over-length (links (run o w h image)) b.links (omega (arith, links-length (run o w h image), run-width o w h image))

  pub leaves_table : table_length (w * h) ≤ length b.table → length (leaves (run o w h image) b).table ≡ length b.table
  unfolding leaves
  leaves_table l =
      let m : slot_width * length (run o w h image).clusters ≤ slot_width * (w * h + 1) = mul-le-mul_left slot_width (run-ranged image bytes o w h).slots in
      over-length (table (run o w h image)) b.table (omega (arith, table-length (run o w h image)))

  pub leaves-outputs : outputs_length (w * h) ≤ length b.outputs → length (leaves (run o w h image) b).outputs ≡ length b.outputs
  unfolding leaves
  leaves-outputs l = over-length (run o w h image).outputs b.outputs (omega (arith, run-outputs o w h image))

  -- no check refuses the painting of an accepted run
  pub run-then-paint : run_number o w h image b ≡ 0 → (given : List ℕ) → length given ≡ 4 * (w * h)
      → paint_call w h (leaves (run o w h image) b).links (leaves (run o w h image) b).table (leaves (run o w h image) b).outputs given (length (run o w h image).clusters) (length (run o w h image).outputs)
      ≡ record { answer = 0; picture = paint (w * h) (run o w h image) }
  unfolding run_number paint_call
  run-then-paint e given g =
      let A = run-accepted o w h (length image) (length b.labels) (length b.links) (length b.table) (length b.outputs) (length b.work) e in
      let s = run o w h image in
      let z = paint-passes w h (length (leaves s b).links) (length (leaves s b).table) (length (leaves s b).outputs) (length given) (length s.clusters) (length s.outputs) A.size.wide A.size.high A.size.small
      (omega (arith, leaves-links A.links-fit, A.links-fit)) (omega (arith, leaves_table A.table_fits, A.table_fits)) (omega (arith, leaves-outputs A.outputs-fit, A.outputs-fit))
      (run-ranged image bytes o w h).slots (run-outputs o w h image) g in
      rw z (run-painting image bytes o w h (length s.clusters) (length s.outputs) (leaves s b).links (leaves s b).table (leaves s b).outputs given (leaves-in-buffers (w * h) s (run-width o w h image) b))

  -- an accepted run and then painting, as calls answer and leave it: what both leave
  pub then-painted : run_number o w h image b ≡ 0 → (given : List ℕ) → length given ≡ 4 * (w * h)
      → (r : Ran) → r ≡ run_call o w h image b → (p : Painted) → p ≡ paint_call w h r.buffers.links r.buffers.table r.buffers.outputs given r.n r.m
      → (◌≡◌ {A = Ran} (record { number = p.answer; n = r.n; m = r.m; buffers = r.buffers }) (accepted o w h image b)) × (p.picture ≡ paint (w * h) (run o w h image))
  unfolding run_call accepted
  then-painted z given g r d p f =
      let e : r ≡ accepted o w h image b = rw z at d in
      let q = f ∙ ap (λ x. paint_call w h x.buffers.links x.buffers.table x.buffers.outputs given x.n x.m) e ∙ run-then-paint z given g in
      let same : p.answer ≡ r.number = ap (λ x. x.answer) q ∙ sym (ap (λ x. x.number) e) in
      (ap (λ a. record { number = a; n = r.n; m = r.m; buffers = r.buffers }) same ∙ e, ap (λ x. x.picture) q)
