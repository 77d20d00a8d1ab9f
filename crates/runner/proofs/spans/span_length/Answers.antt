use mathlib.Core.Path.{◌≡◌, subst}
use Prim.Native.Nat.{◌+◌, ◌-◌}
use native.Mathlib.Omega.{arith}
use lib.ListN.{get_or}
use Rattle.rules.specs.Code.Spans.{Extends}
use Rattle.rules.proofs.Spans.{same-bound}
use Rattle.runner.specs.Types.{config_of}
use Rattle.runner.proofs.SpanLaws.{then-more}
use Rattle.runner.proofs.spans.span_length.Goals as goal

pub loop-n-init : goal.loop-n-init
loop-n-init c =
    let a = c.args in
    let f = c.extends.ensures (c.if-not-extends.false) in
    let m = same-bound (config_of a.here.input.now.o) a.here.input.now.image.now a.here.at.i (a.here.at.i - a.here.input.now.w) f.like-up in
    then-more (Extends (config_of a.here.input.now.o) a.here.input.now.w a.here.input.now.image.now a.b.now.labels.now (get_or a.b.now.labels.now (a.here.at.i - 1) 0)) a.here.at.i 1 _ (λ j l. subst (Extends _ _ _ _ _) (let z : a.here.at.i ≡ a.here.at.i + j = omega arith in z) f) (c.fours-found.ensures.1 m.0 m.1)
