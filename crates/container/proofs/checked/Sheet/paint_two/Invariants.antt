use mathlib.Core.Path.{◌≡◌}
use Prim.Native.Nat.{ℕ, ◌-◌, ◌<◌}
use lib.ListN.{length, get_or}
use Rattle.color.specs.Colors.{color_of}
use Rattle.container.specs.Code.Stretch.{paint_along}
use Rattle.container.proofs.Stretches.{Going}
use Rattle.container.proofs.checked.Sheet.paint_two.Given as goal

-- what is left of the two stretches gives what is wanted
abbrev pub invariant-loop-step : goal.invariant-loop-step
invariant-loop-step g l = let links = l.self.links.now in record {
  lanes : length l.at ≡ g.row.N;
  going : (i : ℕ) → i < g.row.N → Going l.self.size links (get_or l.fn.from i 0) l.count (get_or l.at i 0) l._step;
  painted : (let left = l.count - l._step in paint_along (color_of l.c) links (get_or l.at 1 0) left (paint_along (color_of l.c) links (get_or l.at 0 0) left l.picture))
      ≡ paint_along (color_of l.c) links (get_or l.fn.from 1 0) l.count (paint_along (color_of l.c) links (get_or l.fn.from 0 0) l.count l.initial.picture);
}
