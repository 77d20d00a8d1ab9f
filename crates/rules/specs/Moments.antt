-- The moments of a run at which demand 3 is claimed (rule 12.4): the end of stage 1, and the state after every later
-- merge.
use Rattle.std.specs.Prelude.{List, [], ◌∷◌, ◌++◌, ℕ, suc, ◌*◌, ltb, length, if◌then◌else◌}
use Rattle.rules.specs.Base.{times}
use Rattle.rules.specs.Color.{RunnerConfig}
use Rattle.rules.specs.State.{State, Event, added, plain, deepened}
use Rattle.rules.specs.Stage2.{visit, prepare_stage2}
use Rattle.rules.specs.Run.{stage1}

-- the present state, and the moments so far, the newest first
pub record Trace : Type 0 where
  pub now : State
  pub moments : List State

-- at the end of stage 1 there is one moment
unfoldable pub begun : State → Trace
begun s = record { now = s; moments = s ∷ [] }

-- a step; where it merged, that is, where it logged something, the state that it leaves is a moment
unfoldable pub traced_step : (State → State) → Trace → Trace
traced_step f t =
    let s = f t.now in
    record { now = s; moments = if ltb (length t.now.log) (length s.log) then s ∷ t.moments else t.moments }

module _ (o : RunnerConfig) (w h : ℕ) where
  -- `pass` and `passes` of Stage2, traced
  unfoldable pub traced_pass : ℕ → Trace → Trace
  unfolding traced_step visit
  traced_pass a t = times (length t.now.clusters) (λ k. traced_step (visit o w h a k)) t

  -- all passes up to area n
  unfoldable pub traced_passes : ℕ → Trace → Trace
  unfolding traced_pass
  traced_passes n t = times n (λ a. traced_pass (suc a)) t

  -- the whole run, traced
  unfoldable pub traced : List ℕ → Trace
  unfolding begun traced_passes stage1 prepare_stage2
  traced image = traced_passes (w * h) (begun (prepare_stage2 (stage1 o w h image)))

  -- the moments of a run, the newest first
  unfoldable pub moments : List ℕ → List State
  unfolding traced
  moments image = (traced image).moments

-- new ++ old, and what is left of it when the newest, the two newest, .. all of new are taken off
abbrev pub suffixes : List Event → List Event → List (List Event)
suffixes [] old = old ∷ []
suffixes (e ∷ es) old = ((e ∷ es) ++ old) ∷ suffixes es old

-- every event is a merge
abbrev pub Merges : List Event → Type 0
Merges [] = Unit {0}
Merges (added p k ∷ es) = ⊥
Merges (plain f t ∷ es) = Merges es
Merges (deepened f t ∷ es) = Merges es

-- the logs of the moments
abbrev pub logs : List State → List (List Event)
logs [] = []
logs (s ∷ ss) = s.log ∷ logs ss

-- P of each moment
abbrev pub Every : (State → Type 0) → List State → Type 0
Every P [] = Unit {0}
Every P (s ∷ ss) = P s × Every P ss

-- the newest of a list of states
abbrev pub Newest : (State → Type 0) → List State → Type 0
Newest P [] = ⊥
Newest P (s ∷ ss) = P s

-- the first of a list of states, the newest first
abbrev pub Oldest : (State → Type 0) → List State → Type 0
Oldest P [] = ⊥
Oldest P (s ∷ []) = P s
Oldest P (s ∷ t ∷ ss) = Oldest P (t ∷ ss)
