use mathlib.Core.Path.{◌≡◌, refl, ◌∙◌}
use Prim.Native.Nat.{◌+◌, ◌-◌, ◌/◌, ◌≤◌, ◌<◌}
use native.Mathlib.Omega.{arith}
use lib.Dec.{T}
use lib.ListN.{get_or}
use Rattle.std.proofs.Common.{rules}
use Rattle.rules.specs.Paint.{reads}
use Rattle.rules.proofs.Walks.{step}
use Rattle.color.specs.Colors.{color_of}
use Rattle.container.specs.Code.Leads.{Leads}
use Rattle.container.specs.Code.Stretch.{paint_along}
use Rattle.container.proofs.Leads.{leads-on, all-two, all-three}
use Rattle.container.proofs.Stretches.{reads-part, leads-rest, halves-end, halves-painted, along-more}
use Rattle.container.proofs.checked.Sheet.paint_halves.Goals as goal
use Rattle.container.proofs.checked.Sheet.paint_halves.Goals.{After-paint_two-2, After-look-end, Then-half-list}

-- after both halves: where the second ends, and the picture
ends : (c : After-paint_two-2)
    → (let a = c.args in
    Leads a.self.size a.self.links.now a.list.first (a.list.count / 2 + a.list.count / 2) (get_or c.paint_two-2.result 1 0))
ends c = halves-end _ _ (c.args.list.count / 2) c.min-both.result _ _ _ _ (omega arith) c.requires.middle (c.paint_two.ensures.ends 1 (omega arith)) (c.paint_two-2.ensures.ends 1 (omega arith))

painted : (c : After-paint_two-2)
    → (let a = c.args in
    c.paint_two-2.new.picture ≡ paint_along (color_of a.c) a.self.links.now a.list.first (a.list.count / 2 + a.list.count / 2) a.picture.now)
painted c = let e = c.paint_two.ensures in
    (rw e.painted at c.paint_two-2.ensures.painted) ∙ halves-painted _ _ _ (c.args.list.count / 2) c.min-both.result _ _ _ _ _ (omega arith) c.requires.middle (e.ends 0 (omega arith)) (e.ends 1 (omega arith))

-- where the middle of the next list is
found : (c : After-look-end) → (let a = c.args in Leads a.self.size a.self.links.now a.ahead.first a.ahead.count c.look-end.result)
found c = leads-rest _ _ c.args.ahead.count c.min-both.result _ _ _ (omega arith) (c.paint_two.ensures.ends 2 (omega arith)) c.look-end.ensures

-- the pixel left over can be read
over : (c : Then-half-list) → (let a = c.args in T (reads a.self.size a.self.links.now (get_or c.paint_two-2.result 1 0) 1))
over c = let ends : (let a = c.args in
    Leads a.self.size a.self.links.now a.list.first (a.list.count / 2 + a.list.count / 2) (get_or c.paint_two-2.result 1 0)) =
    halves-end _ _ (c.args.list.count / 2) c.min-both.result _ _ _ _ (omega arith) c.requires.middle (c.paint_two.ensures.ends 1 (omega arith)) (c.paint_two-2.ensures.ends 1 (omega arith)) in
    reads-part _ _ c.args.list.count (c.args.list.count / 2 + c.args.list.count / 2) 1 _ _ (omega arith) ends c.requires.list

within : (c : Then-half-list) → (let y = get_or c.paint_two-2.result 1 0 in (0 < y) × (y ≤ c.args.self.size))
within c = let t = step c.args.self.size c.args.self.links.now (get_or c.paint_two-2.result 1 0) 1 (omega arith) (over c) in (t.some, t.within)

pub paint_two-requires : goal.paint_two-requires
paint_two-requires c = let b = c.min-both.result in
    let s = c.args.self in
    let read = all-three (λ x. T (reads s.size s.links.now x b)) _ _ _
    (reads-part _ _ c.args.list.count 0 b _ _ (omega arith) refl c.requires.list)
    (reads-part _ _ c.args.list.count (c.args.list.count / 2) b _ _ (omega arith) c.requires.middle c.requires.list)
    (reads-part _ _ c.args.ahead.count 0 b _ _ (omega arith) refl c.requires.ahead) in
    (search rules, (search rules, (c.requires.long, read)))

pub paint_two-requires-2 : goal.paint_two-requires-2
paint_two-requires-2 c = let b = c.min-both.result in
    let s = c.args.self in
    let e = c.paint_two.ensures in
    let read = all-two (λ x. T (reads s.size s.links.now x (c.args.list.count / 2 - b))) _ _
    (reads-part _ _ c.args.list.count b (c.args.list.count / 2 - b) _ _ (omega arith) (e.ends 0 (omega arith)) c.requires.list)
    (reads-part _ _ c.args.list.count (c.args.list.count / 2 + b) (c.args.list.count / 2 - b) _ _ (omega arith) (leads-on _ _ (c.args.list.count / 2) b _ _ _ c.requires.middle (e.ends 1 (omega arith))) c.requires.list) in
    (search rules, (search rules, (omega (arith, c.requires.long, c.paint_two.auto.picture), read)))

pub look-end-requires : goal.look-end-requires
look-end-requires c = let b = c.min-both.result in
    reads-part _ _ c.args.ahead.count b (c.args.ahead.count - b) _ _ (omega arith) (c.paint_two.ensures.ends 2 (omega arith)) c.requires.ahead

pub overflow_sub-y : goal.overflow_sub-y
overflow_sub-y c = (within (goal.at.overflow_sub-y c).Then-half-list).0

pub paint_pixel-requires : goal.paint_pixel-requires
paint_pixel-requires c = omega (arith, within (goal.at.paint_pixel-requires c).Then-half-list, c.paint_two-2.auto.picture, c.paint_two.auto.picture, c.requires.long)

pub returns-then-half-list : goal.returns-then-half-list
returns-then-half-list c = let n = c.args.list.count in
    let e : n / 2 + n / 2 + 1 ≡ n = omega (arith, c.if-half-list.true) in record {
      ahead = found (goal.at.returns-then-half-list c).After-look-end;
      painted = (rw (painted (goal.at.returns-then-half-list c).After-paint_two-2) at c.paint_pixel.ensures) ∙ along-more _ _ _ (n / 2 + n / 2) _ _ _ _ e (ends (goal.at.returns-then-half-list c).After-paint_two-2) (over (goal.at.returns-then-half-list c).Then-half-list);
    }

pub returns-else-half-list : goal.returns-else-half-list
returns-else-half-list c = let n = c.args.list.count in
    let e : n / 2 + n / 2 ≡ n = omega (arith, c.if-half-list.false) in
    record { ahead = found (goal.at.returns-else-half-list c).After-look-end; painted = rw e at (painted (goal.at.returns-else-half-list c).After-paint_two-2) }
