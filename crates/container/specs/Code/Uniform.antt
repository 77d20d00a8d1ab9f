-- A picture of one colour.
use mathlib.Core.List.{List, [], ◌∷◌, map, flatten}
use Rattle.std.specs.Prelude.{ℕ}
use Rattle.rules.specs.Base.{up_to}
use Rattle.rules.specs.Color.{Color}

-- the bytes of a pixel
abbrev pub bytes_of : Color → List ℕ
bytes_of c = c.r ∷ c.g ∷ c.b ∷ c.a ∷ []

-- size pixels of colour c
unfoldable pub uniform : Color → ℕ → List ℕ
unfolding up_to
uniform c size = flatten (map (λ p. bytes_of c) (up_to size))
