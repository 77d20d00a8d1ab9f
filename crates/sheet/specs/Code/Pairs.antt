-- Numbers that come in twos.
use mathlib.Core.List.{List, [], ◌∷◌, map, flatten}
use Rattle.std.specs.Prelude.{ℕ}
use Rattle.rules.specs.Base.{up_to}

-- f i and g i for each i of 0 .. n - 1
abbrev pub pairs : (ℕ → ℕ) → (ℕ → ℕ) → ℕ → List ℕ
pairs f g n = flatten (map (λ i. f i ∷ g i ∷ []) (up_to n))
