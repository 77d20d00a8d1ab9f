use Rattle.std.proofs.Common.{arith}
use Rattle.runner.proofs.Spots.{no-left-label, left-label}
use Rattle.runner.proofs.stage1.left_label.Goals as goal

pub returns-then-at-eq0 : goal.returns-then-at-eq0
returns-then-at-eq0 c st e = no-left-label c.args.here.there st c.if-at-eq0.true

pub returns : goal.returns
returns c st e = left-label c.args.here.there st e (omega (arith, c.if-at-eq0.false))
