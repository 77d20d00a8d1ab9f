use Rattle.std.proofs.Common.{◌≡◌}
use Rattle.rules.specs.Code.Spans.{sum_from}
use Rattle.color.specs.Colors.{sum_of}
use Rattle.runner.proofs.spans.sum_colors.Given as goal

-- the pixels before this one are summed
abbrev pub invariant-loop-r : goal.invariant-loop-r
invariant-loop-r l = sum_of l.s ≡ sum_from l.bytes 0 l.r-index
