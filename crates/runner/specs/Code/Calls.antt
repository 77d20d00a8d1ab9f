-- An accepted run over the buffers.
use Rattle.std.specs.Prelude.{◌≡◌, List, ℕ, ◌+◌, ◌*◌, ◌≤◌, length, replicate}
use Rattle.rules.specs.State.{State}
use Rattle.rules.specs.Layout.{links, table, slot_width}
use Rattle.rules.specs.Calls.{over}

-- labels, links and marks are zero, and the rest stays
pub record Blanked (L K B E H Q M S L' K' B' E' H' Q' M' S' : List ℕ) : Type 0 where
  pub labels : L' ≡ replicate (length L) 0
  pub links : K' ≡ replicate (length K) 0
  pub table : B' ≡ B
  pub ends : E' ≡ E
  pub hole-ends : H' ≡ H
  pub queue : Q' ≡ Q
  pub marks : M' ≡ replicate (length M) 0
  pub staged : S' ≡ S

-- what a run asks for: labels and links of exactly one number for each pixel, and for each slot of exactly one end of
-- its list and one of its hole list, three numbers of the queue, one mark and two outputs
pub record CanRun (size : ℕ) (L K B E H Q M S : List ℕ) : Type 0 where
  pub labels : length L ≡ size
  pub links : length K ≡ size
  pub table : slot_width * (size + 1) ≤ length B
  pub ends : length E ≡ size + 1
  pub hole-ends : length H ≡ size + 1
  pub queue : length Q ≡ 3 * (size + 1)
  pub marks : length M ≡ size + 1
  pub staged : length S ≡ 2 * (size + 1)

-- The buffers that a run is lent, of which the first two have exactly one number for each pixel, are as long as a run
-- asks for.
pub record Lent (size : ℕ) (L K B O W : List ℕ) : Type 0 where
  pub labels : length L ≡ size
  pub links : length K ≡ size
  pub table : slot_width * (size + 1) ≤ length B
  pub outputs : 2 * size ≤ length O
  pub work : 8 * (size + 1) ≤ length W

-- Labels, links, table and outputs hold a run that ended in state u, with n slots and m outputs. What of table and
-- outputs it does not write stays.
pub record Clustered (u : State) (B O L' K' B' O' : List ℕ) (n m : ℕ) : Type 0 where
  pub labels : L' ≡ u.labels
  pub links : K' ≡ links u
  pub table : B' ≡ over (table u) B
  pub outputs : O' ≡ over u.outputs O
  pub slots : n ≡ length u.clusters
  pub entries : m ≡ length u.outputs
