-- Stage 2 told in other ways, shown equal to Stage2, for code to follow. The visiting order told by keys: a slot that
-- is pending has its pixel count for a key, any other 0. The least key, and of several the first, is taken off and
-- visited at that count; where it merged, its target is pending again. Stage 2 is this until no slot is pending.
use Rattle.std.specs.Prelude.{Bool, false, not, ◌&&◌, ◌||◌, List, [], ◌∷◌, map, ℕ, ◌*◌, max, ltb, eqb, length, get_or}
use Rattle.std.specs.Prelude.{set, if◌then◌else◌}
use Rattle.std.proofs.Math.Option.{Option, some, none as off}
use Rattle.rules.specs.Base.{times, member}
use Rattle.rules.specs.Color.{RunnerConfig}
use Rattle.rules.specs.State.{State, Cluster, Event, added, plain, deepened, cluster, area}
use Rattle.rules.specs.Grid.{sides}
use Rattle.rules.specs.Stage2.{all_in, visit}

-- slot j against the best of those before it
unfoldable pub better : List ℕ → ℕ → Option ℕ → Option ℕ
better keys j off = if eqb (get_or keys j 0) 0 then off else some j
better keys j (some i) =
    if not (eqb (get_or keys j 0) 0) && ltb (get_or keys j 0) (get_or keys i 0) then some j else some i

-- the slot of the least key above 0, and of several the first; none where no slot is pending
unfoldable pub next_pending : List ℕ → Option ℕ
unfolding better
next_pending keys = times (length keys) (better keys) off

-- where the newest event went to
abbrev pub target : List Event → ℕ
target [] = 0
target (added p k ∷ es) = k
target (plain f t ∷ es) = t
target (deepened f t ∷ es) = t

-- the keys after a visit of slot k that took s to u: k is no longer pending; where it merged, the target is, with its
-- new count
unfoldable pub rekey : ℕ → State → State → List ℕ → List ℕ
rekey k s u keys =
    if ltb (length s.log) (length u.log)
    then set (set keys k 0) (target u.log) (area (cluster u (target u.log)))
    else set keys k 0

-- a state with the keys of its slots
pub record Queue : Type 0 where
  pub now : State
  pub keys : List ℕ

-- the two put together
abbrev pub queue : State → List ℕ → Queue
queue s keys = record { now = s; keys = keys }

-- at first every slot with pixels is pending
unfoldable pub start : State → Queue
start s = record { now = s; keys = map area s.clusters }

module _ (o : RunnerConfig) (w h : ℕ) where
  -- slot k is visited at its key
  unfoldable pub visited : ℕ → Queue → Queue
  unfolding visit rekey
  visited k q =
      let u = visit o w h (get_or q.keys k 0) k q.now in
      record { now = u; keys = rekey k q.now u q.keys }

  -- a turn of the slot that is next, if one is
  unfoldable pub turn_of : Option ℕ → Queue → Queue
  unfolding visited
  turn_of off q = q
  turn_of (some k) q = visited k q

  -- one turn
  unfoldable pub turn : Queue → Queue
  unfolding turn_of next_pending
  turn q = turn_of (next_pending q.keys) q

  -- so many turns
  unfoldable pub turns : ℕ → Queue → Queue
  unfolding turn
  turns n q = times n (λ i. turn) q

  -- until no slot is pending: 2 × w × h turns suffice
  unfoldable pub drained : State → State
  unfolding turns start
  drained s = (turns (2 * (w * h)) (start s)).now

-- the largest pixel count
unfoldable pub largest : List Cluster → ℕ
largest [] = 0
largest (c ∷ cs) = max (area c) (largest cs)

-- f of some entry
abbrev pub any_of : (ℕ → Bool) → List ℕ → Bool
any_of f [] = false
any_of f (x ∷ xs) = f x || any_of f xs

-- some pixel of the list of cluster k has all four neighbours on the image and in that list
unfoldable pub interior : ℕ → ℕ → State → ℕ → Bool
unfolding all_in sides
interior w h s k = let ps = (cluster s k).pixels in any_of (λ p. all_in (λ q. member q ps) (sides w h p)) ps
