use mathlib.Core.Path.{sym, ap, ◌∙◌}
use mathlib.Core.List.{◌∷◌, []}
use Prim.Native.Nat.{◌+◌}
use native.Mathlib.Numerals.{add-one}
use lib.ListN.{length-append}
use Rattle.rules.specs.Color.{sum_of_one, ◌⊕◌}
use Rattle.rules.specs.State.{pixel_rect, merge_rect, with_pixel}
use Rattle.rules.specs.Layout.{first_of}
use Rattle.color.specs.Colors.{color_of, sum_of}
use Rattle.runner.specs.declared.slot.Head.{Head}
use Rattle.runner.specs.Types.{rect_of}
use Rattle.runner.proofs.Slots.{head_is, adds-taken}
use Rattle.runner.proofs.slot.Head.with_pixel.Goals as goal

pub returns : goal.returns
unfolding with_pixel first_of
returns c = λ k e.
    let a = c.args in
    let at = pixel_rect a.at.x a.at.y in
    head_is (with_pixel a.at.i (color_of a.c) at k)
    (c.first_of.ensures k.pixels (a.at.i ∷ []) (ap (λ (h : Head). h.count) e) (ap (λ (h : Head). h.first) e) (add-one a.at.i))
    (ap (λ (h : Head). h.count + 1) e ∙ sym (length-append k.pixels (a.at.i ∷ [])))
    (c.add_x_y.ensures ∙ ap (λ (h : Head). merge_rect (rect_of h.rect) at) e)
    (c.add.ensures.sum ∙ adds-taken c.requires.4 ∙ ap (λ (h : Head). sum_of h.sum ⊕ sum_of_one (color_of a.c)) e)
