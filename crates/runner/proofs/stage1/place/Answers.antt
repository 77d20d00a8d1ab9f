use mathlib.Core.Path.{sym, ◌∙◌}
use Rattle.runner.proofs.Stage1Steps.{gone, can-take, takes}
use Rattle.runner.proofs.stage1.place.Goals as goal

pub returns-in_default-clause-holding : goal.returns-in_default-clause-holding
returns-in_default-clause-holding c st t₀ P = gone P (sym c.goes_into.ensures ∙ c.in_default.is)

pub add-requires : goal.add-requires
add-requires c = let p = c.requires in can-take p.2 c.args.p.seen.own c.slot_for-t.ensures

pub returns-clause-holding : goal.returns-clause-holding
returns-clause-holding c st t₀ P = takes P c.args.p.seen.own (sym c.goes_into.ensures ∙ c.in-Some.is) c.slot_for-t.ensures c.add.ensures.added
