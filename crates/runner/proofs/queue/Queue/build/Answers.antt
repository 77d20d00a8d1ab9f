use Rattle.std.proofs.Common.{rules}
use Rattle.runner.proofs.Tournament.{build-end}
use Rattle.runner.proofs.queue.Queue.build.Goals as goal

pub returns-clause-built : goal.returns-clause-built
returns-clause-built c = search (rules, build-end)
