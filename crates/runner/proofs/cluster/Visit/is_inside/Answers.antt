use borrow.Author.Tests.{eqb-true}
use Rattle.rules.proofs.Facts.{both_true}
use Rattle.runner.proofs.Nearest.{inside-none}
use Rattle.runner.proofs.cluster.Visit.is_inside.Goals as goal

pub returns : goal.returns
returns c e s = let x = both_true _ _ e in
    let y = both_true _ _ x.0 in
    let z = both_true _ _ y.0 in
    inside-none _ _ _ _ _ _ _ (eqb-true _ _ z.0) (eqb-true _ _ z.1) (eqb-true _ _ y.1) (eqb-true _ _ x.1) s
