use Rattle.rules.specs.Code.Spans.{AllExtend}
use Rattle.runner.specs.Types.{config_of}
use Rattle.runner.proofs.spans.span_length.Given as goal

abbrev pub invariant-loop-n : goal.invariant-loop-n
invariant-loop-n l = let p = l.here.input.now in
    AllExtend (config_of p.o) p.w p.image.now l.b.labels.now l.k l.i l.n
