use Prim.Native.Nat.{◌+◌, ◌-◌, ◌<◌}
use native.Mathlib.Omega.{arith}
use lib.ListN.{length}
use Rattle.runner.proofs.Labels.{next-step, stretch-in, relabels-one, relabels-stretch, part-filled}
use Rattle.runner.proofs.labelling.relabel_stretch.Goals as goal
use Rattle.runner.proofs.labelling.relabel_stretch.Goals.{After-stretch-n}

-- the last pixel of the stretch
last : (c : After-stretch-n) → (let a = c.args in a.rest.first - 1 + c.stretch-n.result < length a.labels.now)
last c = stretch-in c.requires.can_relabel c.stretch-n.result c.stretch-n.ensures.0 c.stretch-n.ensures.1

pub slice_bounds-fill-end : goal.slice_bounds-fill-end
slice_bounds-fill-end c = omega (arith, last (goal.at.slice_bounds-fill-end c).After-stretch-n, (next-step c.requires.can_relabel c.requires.some_left).some)

pub bounds-links-first-then-after-first : goal.bounds-links-first-then-after-first
bounds-links-first-then-after-first c = omega (arith, last (goal.at.bounds-links-first-then-after-first c).After-stretch-n, c.requires.can_relabel.links)

pub returns-then-after-first : goal.returns-then-after-first
returns-then-after-first c =
    let a = c.args in
    let z = c.stretch-n.ensures in
    let p = (next-step c.requires.can_relabel c.requires.some_left).some in
    let l = last (goal.at.returns-then-after-first c).After-stretch-n in
    (omega (arith, z.0), rw (part-filled a.labels.now _ (a.rest.first - 1) (a.rest.first + c.stretch-n.result) (c.stretch-n.result + 1) a.t (omega (arith, p)) (omega (arith, l)) (c.fill.ensures.after (λ y e. e))) (relabels-stretch c.requires.can_relabel _ z.0 z.1 _))

pub returns : goal.returns
returns c =
    let more = c.requires.some_left in
    (omega (arith, more), relabels-one c.requires.can_relabel _ more)
