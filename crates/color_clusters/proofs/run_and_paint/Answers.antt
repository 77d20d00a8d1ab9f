use Rattle.std.proofs.Common.{◌≡◌, refl, ap₂, rules, Err}
use Rattle.refusal.proofs.Laws.{refused_number}
use Rattle.rules.specs.Calls.{answered, with_picture, run_number, run_and_paint_number, run_and_paint_call}
use Rattle.rules.proofs.Accepted.{run-and-paint-number}
use Rattle.rules.proofs.Left.{run-and-paint-left}
use Rattle.runner.specs.Types.{config_of, buffers_of}
use Rattle.color_clusters.proofs.run_and_paint.Goals as goal
use Rattle.color_clusters.proofs.run_and_paint.Goals.{Else-not-four_each, After-run_then_paint}

-- all checks are passed
passed : (c : Else-not-four_each) → run_and_paint_number (config_of c.args.o) c.args.size.w c.args.size.h c.args.image.now (buffers_of c.args.buffers.now) c.args.picture.now ≡ 0
unfolding run_number run_and_paint_number
passed c = rw (run-and-paint-number, ← c.in_ok-pixels.ensures.answer, ← c.in_ok-pixels.ensures.pixels, ← c.four_each.ensures, c.if-not-four_each.false) refl

-- what is left
called : (c : After-run_then_paint) → run_and_paint_number (config_of c.args.o) c.args.size.w c.args.size.h c.args.image.now (buffers_of c.args.buffers.now) c.args.picture.now ≡ 0
    → with_picture (answered 0 c.run_then_paint.result.n c.run_then_paint.result.m (buffers_of c.run_then_paint.new.buffers)) c.run_then_paint.new.picture ≡ run_and_paint_call (config_of c.args.o) c.args.size.w c.args.size.h c.args.image.now (buffers_of c.args.buffers.now) c.args.picture.now
unfolding run_and_paint_call
called c e = rw e (ap₂ with_picture c.run_then_paint.ensures.run c.run_then_paint.ensures.picture)

pub returns-in_err-pixels-clause-call : goal.returns-in_err-pixels-clause-call
unfolding run_number run_and_paint_number run_and_paint_call
returns-in_err-pixels-clause-call c =
    let f : c.from_residual.result ≡ Err c.in_err-pixels.field-0.0 = search rules in
    let n = refused_number c.in_err-pixels.field-0.0 in
    rw (f, run-and-paint-number, ← c.in_err-pixels.ensures.answer, n, n) refl

pub returns-then-not-four_each-clause-call : goal.returns-then-not-four_each-clause-call
unfolding run_number run_and_paint_number run_and_paint_call
returns-then-not-four_each-clause-call c = rw (run-and-paint-number, ← c.in_ok-pixels.ensures.answer, ← c.in_ok-pixels.ensures.pixels, ← c.four_each.ensures, c.if-not-four_each.true) refl

pub run_then_paint-requires : goal.run_then_paint-requires
run_then_paint-requires c = passed (goal.at.run_then_paint-requires c).Else-not-four_each

pub returns-clause-call : goal.returns-clause-call
returns-clause-call c = let p = goal.at.returns-clause-call c in called p.After-run_then_paint (passed p.Else-not-four_each)

pub returns-clause-demand3 : goal.returns-clause-demand3
returns-clause-demand3 c = let p = goal.at.returns-clause-demand3 c in
    (run-and-paint-left _ _ _ _ _ _ _ (called p.After-run_then_paint (passed p.Else-not-four_each))).1 refl
