use Rattle.runner.specs.Code.Labelling.{Relabels}
use Rattle.runner.proofs.labelling.relabel.Given as goal

abbrev pub invariant-loop-list : goal.invariant-loop-list
invariant-loop-list l = Relabels l.t l.initial.labels l.links l.fn.list l.labels l.list

abbrev pub decreases-loop-list : goal.decreases-loop-list
decreases-loop-list l = l.list.count
