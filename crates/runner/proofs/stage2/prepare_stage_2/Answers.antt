use Rattle.std.proofs.Common.{rules, ◌≡◌, max}
use Rattle.runner.proofs.Prepare.{prepare-next}
use Rattle.runner.proofs.stage2.prepare_stage_2.Goals as goal

pub loop-k-preserved : goal.loop-k-preserved
loop-k-preserved c =
    let larger : c.max-largest.result ≡ max c.loop-k.largest c.prepare_slot.result = search rules in
    record { same = search rules; preparing = rw larger (prepare-next c.loop-k.invariant.preparing c.loop-k-test.true c.prepare_slot.auto.table c.prepare_slot.ensures.prepared) }
