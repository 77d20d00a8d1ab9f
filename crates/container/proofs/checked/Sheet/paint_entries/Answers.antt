use mathlib.Core.Path.{sym, ◌∙◌}
use Prim.Native.Nat.{◌-◌}
use native.Mathlib.Omega.{arith}
use lib.ListN.{length}
use Rattle.std.proofs.lemmas.List.{length-take-le}
use Rattle.container.proofs.Entries.{before-pass, back-turn, half-leads}
use Rattle.container.proofs.checked.Sheet.paint_entries.Goals as goal

pub loop-left-preserved : goal.loop-left-preserved
loop-left-preserved c = let v = c.loop-left.invariant in
    let e = c.render_to_color_image-mid.ensures in
    let left = c.loop-left.left.now in record {
      short = omega (arith, length-take-le (length left - 1) left (omega arith), v.short);
      passed = before-pass c.args.self _ _ v.passed;
      middle = half-leads _ _ _ _ _ _ c.first_half-ahead.ensures.half e.ahead;
      painted = rw e.painted (sym (back-turn left _ _ (omega arith)) ∙ v.painted);
    }
