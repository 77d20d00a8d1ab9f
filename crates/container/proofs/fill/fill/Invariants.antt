use Rattle.color.specs.Colors.{color_of}
use Rattle.container.proofs.Covered.{Begins}
use Rattle.container.proofs.fill.fill.Given as goal

abbrev pub invariant-loop-p : goal.invariant-loop-p
invariant-loop-p l = Begins l.p (color_of l.c) l.picture
