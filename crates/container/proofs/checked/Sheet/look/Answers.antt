use Rattle.container.proofs.Stretches.{going-turn}
use Rattle.container.proofs.checked.Sheet.look.Goals as goal

pub loop-step-preserved : goal.loop-step-preserved
loop-step-preserved c = going-turn _ _ _ _ _ _ c.loop-step-test.true c.loop-step.invariant
