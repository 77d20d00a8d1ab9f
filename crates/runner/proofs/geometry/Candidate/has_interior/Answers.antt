use Rattle.std.proofs.Common.{rules, ◌∙◌, refl}
use borrow.Author.Tests.{tests}
use Rattle.std.proofs.lemmas.Iterator.Consumers.{YieldsList-from_first}
use Rattle.std.proofs.lemmas.Iterator.Search.{any_from_yields_List}
use Rattle.std.proofs.lemmas.Iterator.Adapters.{serves_from_places}
use Rattle.rules.specs.Grid.{sides}
use Rattle.rules.specs.Stage2.{all_in}
use Rattle.runner.specs.Types.{config_of}
use Rattle.runner.specs.declared.list.Pixels.{Pixels}
use Rattle.runner.specs.Code.Pixels.{pixels}
use Rattle.runner.specs.Code.Interior.{in_list, some_inside}
use Rattle.runner.proofs.Pixels.{pixel-within, any-of-is}
use Rattle.runner.proofs.geometry.Candidate.has_interior.Goals as goal

pub any-requires-clause-callable : goal.any-requires-clause-callable
any-requires-clause-callable c = serves_from_places (YieldsList-from_first (λ p. p) (λ (s : Pixels). pixels s.links.now (record { first = s.next.now; count = s.left })) _ refl) (λ p q k. search rules) (λ p k l e.
    let w = pixel-within _ _ _ c.args.self.listed p k l e in search rules)

pub returns : goal.returns
unfolding some_inside
returns c =
    let s = c.args.self in
    let i = s.input.now in
    let ps = pixels s.links.now s.list in
    any_from_yields_List (λ p. all_in (in_list (config_of i.o) i.image.now s.labels.now s.slot) (sides i.w i.h p)) c.any.new.self _ c.any.result c.any.ensures.ran
    (YieldsList-from_first (λ p. p) (λ (r : Pixels). pixels r.links.now (record { first = r.next.now; count = r.left })) ps refl) (λ p b q k. search (rules, tests)) ∙ any-of-is _ ps
