use Rattle.runner.specs.Code.Queue.{SameQueue}
use Rattle.runner.proofs.Prepare.{Preparing}
use Rattle.runner.proofs.stage2.prepare_stage_2.Given as goal

-- the slots below k are prepared
abbrev pub invariant-loop-k : goal.invariant-loop-k
invariant-loop-k l = record {
  same : SameQueue l.initial.queue l.queue;
  preparing : Preparing l.initial.queue.n l.initial.table l.initial.queue.numbers.now l.table l.queue.numbers.now l.k l.largest;
}
