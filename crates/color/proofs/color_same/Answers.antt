use mathlib.Core.Path.{sym, ◌∙◌}
use lib.Dec.{lit<}
use Rattle.color.proofs.Laws.{at-most, like-equal}
use Rattle.color.proofs.color_same.Goals as goal

pub returns-then-eq : goal.returns-then-eq
returns-then-eq c = at-most (lit< tt) c.ranges.thres ∙ sym (like-equal _ _ _ _ (sym c.eq.ensures ∙ c.if-eq.true))
