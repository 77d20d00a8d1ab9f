use Rattle.std.proofs.Common.{take}
use Rattle.runner.proofs.Counted.{Done}
use Rattle.runner.proofs.outputs.drop_empty.Given as goal

abbrev pub invariant-loop-k : goal.invariant-loop-k
invariant-loop-k l = Done l.b.table.now l.initial.outputs (take l.k-index l.staged) l.outputs l.kept
