use mathlib.Core.Path.{sym, ◌∙◌}
use Rattle.runner.proofs.Stage1Steps.{pixel-in, take-meeting, sided-met, sided-apart}
use Rattle.runner.proofs.stage1.meet.Goals as goal

pub up_label-u-requires : goal.up_label-u-requires
up_label-u-requires c = pixel-in c.requires.1

pub left_label-l-requires : goal.left_label-l-requires
left_label-l-requires c = pixel-in c.requires.1

pub combine_sides-requires : goal.combine_sides-requires
combine_sides-requires c = let Q = c.requires.1 in
    (_, _, _, _, _, _, _, _, _, c.requires.0, take-meeting Q (c.left_label-l.ensures _ Q.holding.rep.labelled) (c.up_label-u.ensures _ Q.holding.rep.labelled) (sym c.left_meets_up.ensures ∙ c.if-left_meets_up.true))

pub returns-then-left_meets_up-clause-sided : goal.returns-then-left_meets_up-clause-sided
returns-then-left_meets_up-clause-sided c t₀ Q = let l = c.left_label-l.ensures _ Q.holding.rep.labelled in
    let u = c.up_label-u.ensures _ Q.holding.rep.labelled in
    let e = sym c.left_meets_up.ensures ∙ c.if-left_meets_up.true in
    sided-met Q l u e (c.combine_sides.ensures.sided _ _ _ _ _ _ _ _ _ t₀ (take-meeting Q l u e))

pub returns-clause-sided : goal.returns-clause-sided
returns-clause-sided c t₀ Q = sided-apart Q (c.left_label-l.ensures _ Q.holding.rep.labelled) (c.up_label-u.ensures _ Q.holding.rep.labelled)
    (sym c.left_meets_up.ensures ∙ c.if-left_meets_up.false)
