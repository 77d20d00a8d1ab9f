use Rattle.std.proofs.Common.{◌≡◌, ◌-◌, ◌*◌, ◌≤◌}
use Rattle.runner.specs.Code.Spans.{ManyNear}
use Rattle.runner.proofs.spans.Reach.four_far.Given as goal

abbrev pub invariant-loop-j : goal.invariant-loop-j
invariant-loop-j l = (l.n ≤ 2 * l.j) × (l.n ≡ 0 → ManyNear l.shift l.self.limits.now l.image l.i (l.i - l.w) l.j)
