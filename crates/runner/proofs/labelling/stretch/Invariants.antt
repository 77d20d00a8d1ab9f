use Rattle.rules.specs.Code.Spans.{Consecutive}
use Rattle.runner.proofs.labelling.stretch.Given as goal

abbrev pub invariant-loop-n : goal.invariant-loop-n
invariant-loop-n l = Consecutive l.links l.first l.n
