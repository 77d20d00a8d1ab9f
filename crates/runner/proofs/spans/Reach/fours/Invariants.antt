use Rattle.std.proofs.Common.{◌≡◌, ℕ, pos, ◌*◌}
use Rattle.rules.specs.Code.Spans.{AllExtend}
use Rattle.runner.specs.Types.{config_of}
use Rattle.runner.proofs.spans.Reach.fours.Given as goal

abbrev pub invariant-loop-four : goal.invariant-loop-four
invariant-loop-four l = let p = l.self.input.now in
    (t : ℕ) → p.o.is_same_color_b ≡ pos t → AllExtend (config_of p.o) p.w p.image.now l.self.labels.now l.self.k l.i (4 * l.four)
