use Rattle.std.proofs.Common.{◌≡◌, sym, ap, ◌∙◌, List, ℕ, ◌*◌, ◌≤◌, length, arith, rules, Result, Ok, Err}
use Rattle.std.specs.Result.{IsOk}
use Rattle.image.specs.declared.Counts.{Counts}
use Rattle.std.proofs.Math.ListN.{get_or}
use Rattle.refusal.specs.declared.Refusal.{Refusal}
use Rattle.refusal.specs.Refusal.{answer_of}
use Rattle.refusal.proofs.Laws.{refused-ne0}
use Rattle.rules.specs.Color.{RunnerConfig}
use Rattle.rules.specs.Run.{run}
use Rattle.rules.specs.Picture.{paint}
use Rattle.rules.specs.Paint.{Painted}
use Rattle.rules.specs.Calls.{Buffers, Ran, answered, accepted, run_number, run_call, run_and_paint_number, paint_call}
use Rattle.rules.proofs.Accepted.{run-and-paint-accepted}
use Rattle.rules.proofs.Calls.{then-painted}
use Rattle.runner.specs.Types.{ran_of}
use Rattle.color_clusters.proofs.run_then_paint.Goals as goal

module _ (o : RunnerConfig) (w h : ℕ) (image : List ℕ) (bytes : (i : ℕ) → get_or image i 0 ≤ 255) (b : Buffers) (given : List ℕ) (ok : run_and_paint_number o w h image b given ≡ 0) where
  fit : (run_number o w h image b ≡ 0) × (length given ≡ 4 * (w * h))
  unfolding run_number run_and_paint_number
  fit = run-and-paint-accepted o w h (length image) (length b.labels) (length b.links) (length b.table) (length b.outputs) (length b.work) (length given) ok

  ran : run_call o w h image b ≡ accepted o w h image b
  unfolding run_call
  ran = rw fit.0

  -- the run is not refused
  run-ok : (r : Result Counts Refusal) (x : Buffers) → ran_of r x ≡ run_call o w h image b → IsOk r
  unfolding accepted
  run-ok (Ok n) x e = search rules
  run-ok (Err r) x e = absurd (refused-ne0 r (ap (λ y. y.number) (e ∙ ran)))

  -- nor is the painting
  painted : {n m : ℕ} {x : Buffers} → answered 0 n m x ≡ run_call o w h image b → (p : Painted) → p ≡ paint_call w h x.links x.table x.outputs given n m
      → (p.answer ≡ 0) × ((answered 0 n m x ≡ accepted o w h image b) × (p.picture ≡ paint (w * h) (run o w h image)))
  unfolding accepted
  painted e p f = let q = then-painted o w h image bytes b fit.0 given fit.1 _ e p f in
      (ap (λ y. y.number) q.0, (e ∙ ran, q.1))

-- what has the answer 0 is not refused
is-ok : {A : Type 0} (r : Result A Refusal) → answer_of r ≡ 0 → IsOk r
is-ok (Ok a) e = search rules
is-ok (Err r) e = absurd (refused-ne0 r e)

-- what the run answers, by its counts
called : {r : Result Counts Refusal} {n : Counts} {x : Buffers} {y : Ran} → r ≡ Ok n → ran_of r x ≡ y → answered 0 n.n n.m x ≡ y
called {x = x} e f = sym (ap (λ r. ran_of r x) e) ∙ f

pub unwrap-counts-requires : goal.unwrap-counts-requires
unwrap-counts-requires c = run-ok _ _ _ _ (λ i. omega (arith, c.type_inv.image i)) _ _ c.requires _ _ c.run.ensures.call

pub unwrap-requires : goal.unwrap-requires
unwrap-requires c = is-ok _ (painted _ _ _ _ (λ i. omega (arith, c.type_inv.image i)) _ _ c.requires (called c.unwrap-counts.ensures c.run.ensures.call) _ c.to_color_image.ensures).0

pub returns-clause-run : goal.returns-clause-run
returns-clause-run c = (painted _ _ _ _ (λ i. omega (arith, c.type_inv.image i)) _ _ c.requires (called c.unwrap-counts.ensures c.run.ensures.call) _ c.to_color_image.ensures).1.0

pub returns-clause-picture : goal.returns-clause-picture
returns-clause-picture c = (painted _ _ _ _ (λ i. omega (arith, c.type_inv.image i)) _ _ c.requires (called c.unwrap-counts.ensures c.run.ensures.call) _ c.to_color_image.ensures).1.1
