-- What the rules are written with, at its edges: the functions of Base, and the neighbours of Grid. Computed; by hand.
use Rattle.std.specs.Prelude.{◌≡◌, refl, true, false, List, [], ◌∷◌, ◌++◌, map, ℕ, ◌%◌, ltb}
use Rattle.std.proofs.Math.Option.{Option, some, none}
use Rattle.rules.specs.Base.{times, times_back, each, each_back, up_to, member, keep, none_above}
use Rattle.rules.specs.Base.{insert_once, sort_by, least, apart}
use Rattle.rules.specs.Grid.{up_left, sides}

-- the steps in the order in which they are taken, the last first
pub steps : times 3 ◌∷◌ [] ∷ times_back 3 ◌∷◌ [] ∷ each (4 ∷ 2 ∷ 7 ∷ []) ◌∷◌ [] ∷ each_back (4 ∷ 2 ∷ 7 ∷ []) ◌∷◌ [] ∷ []
    ≡ (2 ∷ 1 ∷ 0 ∷ []) ∷ (0 ∷ 1 ∷ 2 ∷ []) ∷ (7 ∷ 2 ∷ 4 ∷ []) ∷ (4 ∷ 2 ∷ 7 ∷ []) ∷ []
steps = refl

-- a rising list takes a number once: before, between, behind, and where it stands already
pub inserted : map (λ a. insert_once a (2 ∷ 4 ∷ 6 ∷ [])) (1 ∷ 2 ∷ 3 ∷ 4 ∷ 5 ∷ 6 ∷ 7 ∷ [])
    ≡ (1 ∷ 2 ∷ 4 ∷ 6 ∷ []) ∷ (2 ∷ 4 ∷ 6 ∷ []) ∷ (2 ∷ 3 ∷ 4 ∷ 6 ∷ []) ∷ (2 ∷ 4 ∷ 6 ∷ []) ∷ (2 ∷ 4 ∷ 5 ∷ 6 ∷ [])
    ∷ (2 ∷ 4 ∷ 6 ∷ []) ∷ (2 ∷ 4 ∷ 6 ∷ 7 ∷ []) ∷ []
inserted = refl

-- the last digit, for a key
abbrev digit : ℕ → ℕ
digit x = x % 10

-- entries of one key stay in their order
pub sorted : sort_by digit (32 ∷ 21 ∷ 12 ∷ 30 ∷ 11 ∷ 22 ∷ 20 ∷ []) ≡ 30 ∷ 20 ∷ 21 ∷ 11 ∷ 32 ∷ 12 ∷ 22 ∷ []
unfolding sort_by
sorted = refl

-- the smallest key, first, in the middle, last; of several the first
pub leasts : least digit 11 (22 ∷ 33 ∷ []) ∷ least digit 22 (11 ∷ 33 ∷ []) ∷ least digit 33 (22 ∷ 11 ∷ [])
    ∷ least digit 11 (21 ∷ 31 ∷ []) ∷ least digit 33 (21 ∷ 11 ∷ 22 ∷ []) ∷ least digit 7 [] ∷ []
    ≡ 11 ∷ 11 ∷ 11 ∷ 11 ∷ 21 ∷ 7 ∷ []
leasts = refl

pub lists : up_to 0 ∷ up_to 4 ∷ keep (ltb 2) (3 ∷ 1 ∷ 2 ∷ 4 ∷ []) ∷ []
    ≡ [] ∷ (0 ∷ 1 ∷ 2 ∷ 3 ∷ []) ∷ (3 ∷ 4 ∷ []) ∷ []
unfolding up_to
lists = refl

pub tests : member 3 [] ∷ member 3 (3 ∷ 1 ∷ []) ∷ member 3 (1 ∷ 3 ∷ []) ∷ member 3 (1 ∷ 2 ∷ 4 ∷ [])
    ∷ none_above 3 [] ∷ none_above 3 (3 ∷ 1 ∷ []) ∷ none_above 3 (4 ∷ 1 ∷ []) ∷ none_above 3 (1 ∷ 4 ∷ []) ∷ []
    ≡ false ∷ true ∷ true ∷ false ∷ true ∷ true ∷ false ∷ false ∷ []
tests = refl

pub distances : apart 7 4 ∷ apart 4 7 ∷ apart 4 4 ∷ [] ≡ 3 ∷ 3 ∷ 0 ∷ []
distances = refl

-- up, down, left and right of the pixels of 3 × 2, and up-left of each
abbrev around : ℕ → List (Option ℕ)
around i = sides 3 2 i ++ (up_left 3 i ∷ [])

pub neighbours-of : map around (up_to 6)
    ≡ (none ∷ some 3 ∷ none ∷ some 1 ∷ none ∷ [])
    ∷ (none ∷ some 4 ∷ some 0 ∷ some 2 ∷ none ∷ [])
    ∷ (none ∷ some 5 ∷ some 1 ∷ none ∷ none ∷ [])
    ∷ (some 0 ∷ none ∷ none ∷ some 4 ∷ none ∷ [])
    ∷ (some 1 ∷ none ∷ some 3 ∷ some 5 ∷ some 0 ∷ [])
    ∷ (some 2 ∷ none ∷ some 4 ∷ none ∷ some 1 ∷ [])
    ∷ []
unfolding sides up_left up_to
neighbours-of = refl
