use Rattle.runner.specs.Code.Queue.{SameQueue}
use Rattle.runner.proofs.Tournament.{Building}
use Rattle.runner.proofs.queue.Queue.build.Given as goal

-- Every node from j on holds the first of its children.
abbrev pub invariant-loop-j : goal.invariant-loop-j
invariant-loop-j l = record {
  same : SameQueue l.initial.self l.self;
  building : Building l.initial.self.numbers.now l.self.numbers.now l.initial.self.n l.j;
}
