-- Stretches of a list along the links.
use Rattle.std.specs.Prelude.{◌≡◌, List, ℕ, zero, suc, ◌<◌, get_or}

-- c links from u, a pixel number plus one, lead to v, over pixels below size
abbrev pub Leads : ℕ → List ℕ → ℕ → ℕ → ℕ → Type 0
Leads size links u zero v = u ≡ v
Leads size links zero (suc c) v = ⊥
Leads size links (suc p) (suc c) v = (p < size) × Leads size links (get_or links p 0) c v
