use mathlib.Core.Path.{sym, ap, ◌∙◌}
use Prim.Native.Nat.{◌+◌}
use lib.ListN.{length, length-append}
use Rattle.rules.specs.Color.{◌⊕◌}
use Rattle.rules.specs.State.{merge_rect, with_cluster}
use Rattle.color.specs.Colors.{sum_of}
use Rattle.runner.specs.declared.slot.Head.{Head}
use Rattle.runner.specs.Types.{rect_of}
use Rattle.runner.proofs.Slots.{head_is, adds-taken}
use Rattle.runner.proofs.slot.Head.with_cluster.Goals as goal

pub returns : goal.returns
unfolding with_cluster
returns c = λ t f e d.
    let o = c.args.other in
    head_is (with_cluster f t)
    (c.first_of.ensures t.pixels f.pixels (ap (λ (h : Head). h.count) e) (ap (λ (h : Head). h.first) e) (ap (λ (h : Head). h.first) d))
    (ap (λ (h : Head). h.count + o.count) e ∙ ap (λ (h : Head). length t.pixels + h.count) d ∙ sym (length-append t.pixels f.pixels))
    (c.merge.ensures
    ∙ ap (λ (h : Head). merge_rect (rect_of h.rect) (rect_of o.rect)) e
    ∙ ap (λ (h : Head). merge_rect t.rect (rect_of h.rect)) d)
    (c.plus.ensures ∙ adds-taken c.requires.1 ∙ ap (λ (h : Head). sum_of h.sum ⊕ sum_of o.sum) e ∙ ap (λ (h : Head). t.sum ⊕ sum_of h.sum) d)
