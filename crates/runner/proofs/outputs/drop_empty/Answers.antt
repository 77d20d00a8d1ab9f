use Rattle.std.proofs.Common.{◌≤◌, arith}
use Rattle.runner.proofs.Counted.{done_none, done_more, done-few}
use Rattle.runner.proofs.outputs.drop_empty.Goals as goal
use Rattle.runner.proofs.outputs.drop_empty.Goals.{In-loop-k}

-- in a turn no more are kept than are done
few : (c : In-loop-k) → c.loop-k.kept ≤ c.loop-k.k-index
few c = done-few c.args.staged.now c.loop-k.k-index (omega arith) c.loop-k.invariant

pub loop-k-init : goal.loop-k-init
loop-k-init c = done_none _ _

pub keep_entry-kept-requires : goal.keep_entry-kept-requires
keep_entry-kept-requires c =
    let f = few (goal.at.keep_entry-kept-requires c).In-loop-k in
    (c.requires.slots c.loop-k.k-index (omega arith), omega (arith, f, c.requires.few), omega (arith, f, c.requires.few))

pub loop-k-preserved : goal.loop-k-preserved
loop-k-preserved c =
    done_more c.args.staged.now c.loop-k.k-index (omega arith) (omega (arith, few (goal.at.loop-k-preserved c).In-loop-k, c.requires.few)) c.loop-k.invariant c.keep_entry-kept.ensures
