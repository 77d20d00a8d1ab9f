-- A state as it lies in buffers.
use Rattle.std.specs.Prelude.{◌≡◌, List, ℕ, ◌+◌, ◌*◌, ◌<◌, length, get_or}
use Rattle.rules.specs.State.{State}
use Rattle.rules.specs.Layout.{link, slot, slot_width}

-- a state lies in buffers, which may be longer than needed
pub record InBuffers (size : ℕ) (s : State) (n m : ℕ) (links table outputs : List ℕ) : Type 0 where
  pub slots : n ≡ length s.clusters
  pub entries : m ≡ length s.outputs
  pub linked : (p : ℕ) → p < size → get_or links p 0 ≡ link s p
  pub numbers : (k f : ℕ) → k < n → f < slot_width → get_or table (slot_width * k + f) 0 ≡ get_or (slot s k) f 0
  pub put : (i : ℕ) → i < m → get_or outputs i 0 ≡ get_or s.outputs i 0
