use Prim.Native.Nat.{◌<◌}
use native.Mathlib.Omega.{arith}
use Rattle.runner.proofs.SpanLaws.{labels-fit, extending, can-span, held-span}
use Rattle.runner.proofs.Spots.{spot_in}
use Rattle.runner.proofs.stage1.take_pixels.Goals as goal
use Rattle.runner.proofs.stage1.take_pixels.Goals.{Else-n-eq0}

-- a run was found
some : (c : Else-n-eq0) → 0 < c.span_length-n.result
some c = omega (arith, c.if-n-eq0.false)

pub span_length-n-requires-clause-labelled : goal.span_length-n-requires-clause-labelled
span_length-n-requires-clause-labelled c = labels-fit c.requires.taking.1

pub bounds-b-here : goal.bounds-b-here
bounds-b-here c = let Q = c.requires.taking.1 in omega (arith, labels-fit Q, spot_in Q.spot)

pub add_span-requires : goal.add_span-requires
add_span-requires c = can-span c.requires.taking.1 c.span_length-n.ensures (some (goal.at.add_span-requires c).Else-n-eq0)

pub returns-clause-holding : goal.returns-clause-holding
returns-clause-holding c t₀ Q = let z = some (goal.at.returns-clause-holding c).Else-n-eq0 in
    held-span (extending Q c.span_length-n.ensures z) z c.add_span.ensures.added
