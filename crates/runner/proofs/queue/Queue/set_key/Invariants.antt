use Rattle.runner.specs.Code.Queue.{SameQueue}
use Rattle.runner.proofs.Tournament.{Climbing}
use Rattle.runner.proofs.queue.Queue.set_key.Given as goal

-- Only the node above x may not hold the first of its children. A node that stays as it was ends the way up.
abbrev pub invariant-loop-x : goal.invariant-loop-x
invariant-loop-x l = record {
  same : SameQueue l.initial.self l.self;
  climbing : Climbing l.initial.self.numbers.now l.self.numbers.now l.initial.self.n l.x l.e;
}

abbrev pub decreases-loop-x : goal.decreases-loop-x
decreases-loop-x l = l.x
