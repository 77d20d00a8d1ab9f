use mathlib.Core.Path.{◌≡◌}
use Prim.Native.Nat.{◌-◌, ◌+◌, ◌<◌}
use native.Mathlib.Omega.{arith}
use Rattle.container.proofs.Stretches.{going-turn, both-turn}
use Rattle.container.proofs.checked.Sheet.paint_two.Goals as goal

pub loop-step-preserved : goal.loop-step-preserved
loop-step-preserved g c = let v = c.loop-step.invariant in
    let h = c.loop-step-test.true in
    let zero : 0 < g.row.N = omega (arith, c.requires.two) in
    let one : 1 < g.row.N = omega (arith, c.requires.two) in
    let e : (c.args.count - c.loop-step._step) - 1 ≡ c.args.count - (c.loop-step._step + 1) = omega arith in record {
      lanes = c.follow.ensures.length;
      going = λ i l. rw (c.follow.ensures.on i l) (going-turn _ _ _ _ _ _ h (v.going i l));
      painted = rw (c.follow.ensures.on 0 zero, c.follow.ensures.on 1 one, c.paint_pixel-in-loop-step.ensures, c.paint_pixel.ensures, ← e)
          (rw (both-turn _ _ _ (c.args.count - c.loop-step._step) _ _ _ (omega arith) (v.going 0 zero).rest (v.going 1 one).rest) at v.painted);
    }
