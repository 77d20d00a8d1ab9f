use Rattle.std.proofs.Common.{false, rules, tests, ◌∙◌}
use Rattle.std.proofs.lemmas.Iterator.{YieldsList-from_slice, YieldsList-from_zip}
use Rattle.std.proofs.lemmas.Iterator.Consumers.{fold_from_yields_List}
use Rattle.sheet.proofs.Slots.{or_large, fold-zip}
use Rattle.sheet.proofs.stored.has_large_pixel.Goals as goal

pub returns : goal.returns
returns c = let labels = c.args.labels.now in let links = c.args.links.now in
    fold_from_yields_List _ (or_large (λ x. x.0) (λ x. x.1)) false _ c.fold.ensures.ran (YieldsList-from_zip (YieldsList-from_slice labels cc) (YieldsList-from_slice links cc)) (λ a x b q k. search (rules, tests))
    ∙ fold-zip labels links c.requires
