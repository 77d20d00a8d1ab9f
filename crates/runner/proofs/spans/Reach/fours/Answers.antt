use Rattle.std.proofs.Common.{◌≡◌, ◌+◌, ◌*◌, ◌/◌, arith}
use Rattle.rules.specs.Code.Spans.{Extends}
use Rattle.runner.proofs.SpanLaws.{then-more}
use Rattle.runner.proofs.spans.Reach.fours.Goals as goal

pub loop-four-preserved : goal.loop-four-preserved
loop-four-preserved c t b =
    let l = c.loop-four in
    let e : 4 * (l.four + 1) ≡ 4 * l.four + 4 = omega arith in
    rw e (then-more (Extends _ _ _ _ _) _ (4 * l.four) 4 (l.invariant t b) (c.four_extend.ensures (c.if-not-four_extend.false) t b))

pub returns : goal.returns
returns c =
    let l = c.loop-four in
    let e : 4 * (c.args.room / 4) ≡ 4 * l.four = omega arith in
    (omega arith, λ t b. rw e (l.invariant t b))
