use Rattle.container.proofs.Stretches.{Going}
use Rattle.container.proofs.checked.Sheet.look.Given as goal

abbrev pub invariant-loop-step : goal.invariant-loop-step
invariant-loop-step l = Going l.self.size l.self.links.now l.fn.list.first l.fn.list.count l.at l._step
