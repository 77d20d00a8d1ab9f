-- Equality of colours is an equivalence.
use Rattle.std.specs.Cmp.{IsEquivalence, and_equiv, on_equiv, nat_eq_equiv}
use Rattle.std.specs.Ordering.{on}
use Rattle.rules.specs.Color.{Color, equal_color}
use Rattle.color.specs.Colors.{color_of}

equivalence : IsEquivalence equal_color
unfolding equal_color
equivalence =
    and_equiv (and_equiv
    (and_equiv (on_equiv (λ (c : Color). c.r) nat_eq_equiv) (on_equiv (λ (c : Color). c.g) nat_eq_equiv))
    (on_equiv (λ (c : Color). c.b) nat_eq_equiv)) (on_equiv (λ (c : Color). c.a) nat_eq_equiv)

pub equal-equivalence : IsEquivalence (on color_of equal_color)
equal-equivalence = on_equiv color_of equivalence
