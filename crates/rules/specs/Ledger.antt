-- The ledger of demand 3 (rules 12.1, 12.2): for each cluster number the pixels held. It reads only what was decided.
use Rattle.std.specs.Prelude.{Bool, false, ◌&&◌, ◌||◌, List, [], ◌∷◌, ℕ, eqb, if◌then◌else◌}
use Rattle.rules.specs.State.{Event, added, plain, deepened}

-- `h k p`: cluster k holds pixel p
abbrev pub Held : Type 0
Held = ℕ → ℕ → Bool

-- a pixel that is added is held by its cluster; by a merge t comes to hold what f held, beside its own; after a plain
-- one f is left with nothing, after a deepening one with what it had (rule 12.2)
abbrev pub enter : Event → Held → Held
enter (added p k) h j q = (eqb j k && eqb q p) || h j q
enter (plain f t) h j q = if eqb j t then h t q || h f q else (if eqb j f then false else h j q)
enter (deepened f t) h j q = if eqb j t then h t q || h f q else h j q

-- the log has the newest first
abbrev pub ledger : List Event → Held
ledger [] = λ j q. false
ledger (e ∷ es) = enter e (ledger es)
