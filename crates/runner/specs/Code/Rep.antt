-- How the buffers hold a state of the rules.
use Rattle.std.specs.Prelude.{◌≡◌, ◌&&◌, List, [], ◌∷◌, ℕ, suc, ◌+◌, ◌-◌, ◌*◌, ◌≤◌, ◌<◌, leb, ltb, eqb, length, get_or}
use Rattle.std.specs.Prelude.{set, if◌then◌else◌}
use Rattle.rules.specs.State.{State, cluster, area}
use Rattle.rules.specs.Layout.{links, slot, slot_width}

-- the last entry plus one, 0 of none
unfoldable pub last_of : List ℕ → ℕ
last_of [] = 0
last_of (x ∷ []) = suc x
last_of (x ∷ y ∷ ys) = last_of (y ∷ ys)

-- n slots, number f of slot k as σ k f says, and beyond them the table as t₀ had it
pub record Table (n : ℕ) (σ : ℕ → ℕ → ℕ) (t₀ t : List ℕ) : Type 0 where
  pub long : length t ≡ length t₀
  pub slots : (k f : ℕ) → k < n → f < slot_width → get_or t (slot_width * k + f) 0 ≡ σ k f
  pub beyond : (i : ℕ) → slot_width * n ≤ i → get_or t i 0 ≡ get_or t₀ i 0

-- σ with the numbers vs in slot k, from number j on
unfoldable pub written : (ℕ → ℕ → ℕ) → ℕ → ℕ → List ℕ → ℕ → ℕ → ℕ
written σ k j vs i f = if eqb i k && leb j f && ltb f (j + length vs) then get_or vs (f - j) 0 else σ i f

-- the numbers of the slots of a state
abbrev pub slots_of : State → ℕ → ℕ → ℕ
slots_of s k f = get_or (slot s k) f 0

-- The buffers hold state s. ends has for each slot the last pixel of its list, plus one.
pub record Rep (size : ℕ) (s : State) (t₀ labels links' table ends : List ℕ) : Type 0 where
  pub labelled : labels ≡ s.labels
  pub linked : links' ≡ links s
  pub tabled : Table (length s.clusters) (slots_of s) t₀ table
  pub tails : (k : ℕ) → 0 < area (cluster s k) → (cluster s k).merged_into ≡ 0 → get_or ends k 0
      ≡ last_of (cluster s k).pixels
  pub room : length ends ≡ size + 1

-- ends has for each slot of state s the last of its hole children, plus one.
pub record HoleEnds (size : ℕ) (s : State) (ends : List ℕ) : Type 0 where
  pub tails : (k : ℕ) → 0 < length (cluster s k).holes → get_or ends k 0 ≡ last_of (cluster s k).holes
  pub room : length ends ≡ size + 1

-- a list of `count` entries whose last is tail - 1 goes on with first - 1; no entry, or nothing to go on with, links
-- nothing
unfoldable pub link_after : List ℕ → ℕ → ℕ → ℕ → List ℕ
link_after links count tail first =
    if eqb count 0 then links else (if eqb first 0 then links else set links (tail - 1) first)
