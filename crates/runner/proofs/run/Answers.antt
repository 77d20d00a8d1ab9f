use Rattle.std.proofs.Common.{sym}
use Rattle.rules.specs.Calls.{run_number}
use Rattle.rules.proofs.Accepted.{run-accepted}
use Rattle.runner.proofs.run.Goals as goal

pub accepted-requires : goal.accepted-requires
unfolding run_number
accepted-requires c = run-accepted _ _ _ _ _ _ _ _ _ (sym c.in_ok-pixels.ensures.answer)
