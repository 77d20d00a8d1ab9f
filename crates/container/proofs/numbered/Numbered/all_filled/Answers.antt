use native.Mathlib.Omega.{arith}
use Rattle.std.proofs.Common.{length-set}
use Rattle.container.proofs.Passes.{filled-turn}
use Rattle.container.proofs.numbered.Numbered.all_filled.Goals as goal

pub loop-i-preserved : goal.loop-i-preserved
loop-i-preserved c = let l = c.loop-i in record {
  at = rw length-set l.invariant.at;
  count = rw length-set l.invariant.count;
  left = omega (arith, l.invariant.left);
  pass = λ size links m p.
      filled-turn size links _ _ m l.i (record { at = l.at; count = l.count; left = l.left }) c.filled-before.result.0 _ l.invariant.at l.invariant.count (omega arith) c.filled-before.ensures.passes (l.invariant.pass size links m p);
}
