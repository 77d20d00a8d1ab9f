use Rattle.std.proofs.Common.{arith, ◌<◌, ◌∙◌}
use Rattle.runner.proofs.Spots.{spot-above, no-up_left, up_left-pixel}
use Rattle.runner.proofs.input.Here.up_left.Goals as goal

pub returns-then-at-eq0 : goal.returns-then-at-eq0
returns-then-at-eq0 c = no-up_left _ c.args.self.there c.args.self.input.now.given.whole c.if-at-eq0.true

pub invariant_of-left : goal.invariant_of-left
invariant_of-left c = record { there = spot-above c.args.self.there (omega (arith, c.if-at-eq0.false)) }

pub returns : goal.returns
returns c = let l : 0 < c.args.self.at.y = omega (arith, c.if-at-eq0.false) in
    c.left.ensures ∙ up_left-pixel _ c.args.self.there c.args.self.input.now.given.whole l
