use Rattle.std.proofs.Common.{rules}
use Rattle.runner.proofs.Tournament.{climb-start, climb-up, climb-stop, climb-end}
use Rattle.runner.proofs.queue.Queue.set_key.Goals as goal

pub loop-x-init : goal.loop-x-init
loop-x-init c = search (rules, climb-start)

pub loop-x-preserved : goal.loop-x-preserved
loop-x-preserved c = search (rules, climb-up)

pub returns-in_default-clause-set : goal.returns-in_default-clause-set
returns-in_default-clause-set c = search (rules, climb-stop)

pub returns-clause-set : goal.returns-clause-set
returns-clause-set c = search (rules, climb-end)
