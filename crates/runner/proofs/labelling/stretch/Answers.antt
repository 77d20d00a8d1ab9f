use Rattle.std.proofs.Common.{◌+◌, ◌-◌, ◌≤◌, ◌<◌, length, arith}
use Rattle.runner.proofs.Labels.{next-step, stretch-in}
use Rattle.runner.proofs.labelling.stretch.Goals as goal
use Rattle.runner.proofs.labelling.stretch.Goals.{In-loop-n}

-- the pixel whose link is read
within : (c : In-loop-n) → (let a = c.args in (1 ≤ a.rest.first) × (a.rest.first - 1 + c.loop-n.n < length a.links.now) × (a.rest.first + c.loop-n.n < 2000001))
within c =
    let C = c.requires.by_index.1 in
    let s = (next-step C c.requires.some_left).some in
    let w = stretch-in C c.loop-n.n (omega arith) c.loop-n.invariant in
    (s, omega (arith, w, C.links), omega (arith, s, w, C.small))

pub bounds-links-first : goal.bounds-links-first
bounds-links-first c = (within (goal.at.bounds-links-first c).In-loop-n).1

pub overflow_add-first-in-loop-n-2 : goal.overflow_add-first-in-loop-n-2
overflow_add-first-in-loop-n-2 c = omega (arith, within (goal.at.overflow_add-first-in-loop-n-2 c).In-loop-n)
