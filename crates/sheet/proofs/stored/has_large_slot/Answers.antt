use Rattle.std.proofs.Common.{false, [], rules, tests, ◌∙◌, get_or}
use Rattle.std.proofs.lemmas.Iterator.{YieldsList-from_slice}
use Rattle.std.proofs.lemmas.Iterator.Consumers.{fold_from_yields_List}
use Rattle.sheet.proofs.Slots.{or_large, fold-pairs}
use Rattle.sheet.proofs.stored.has_large_slot.Goals as goal

pub returns : goal.returns
returns c = let slots = c.args.slots.now in
    fold_from_yields_List _ (or_large (λ s. get_or s 0 0) (λ s. get_or s 1 0)) false _ c.fold.ensures.ran (YieldsList-from_slice slots cc) (λ a x b q k. search (rules, tests))
    ∙ fold-pairs (λ s. get_or s 0 0) (λ s. get_or s 1 0) slots []
