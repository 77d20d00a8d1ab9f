-- What holds of lists, sums and labels at every time, and in stage 1 after i pixels.
use Rattle.std.specs.Prelude.{◌≡◌, ◌≢◌, ◌⊎◌, Bool, false, List, [], ◌∷◌, ℕ, suc, ◌≤◌, ◌<◌, T, ltb, length}
use Rattle.rules.specs.State.{State, Event, added, plain, deepened, cluster, label, area}
use Rattle.rules.specs.Ledger.{Held, enter, ledger}
use Rattle.rules.specs.Claim.{bit, occurs, tally, count_of}

-- the ledger without the deepening merges: for each cluster the pixels whose colours are in its residue
abbrev pub owned : List Event → Held
owned [] = λ j q. false
owned (added p k ∷ es) = enter (added p k) (owned es)
owned (plain f t ∷ es) = enter (plain f t) (owned es)
owned (deepened f t ∷ es) = owned es

-- slot k has pixels
abbrev pub standing : State → ℕ → Bool
standing s k = ltb 0 (area (cluster s k))

-- the ledger h and state s agree on lists, sums and labels
pub record Basic (image : List ℕ) (size : ℕ) (h : Held) (s : State) : Type 0 where
  pub lists : (k p : ℕ) → occurs p (cluster s k).pixels ≡ bit (h k p)
  pub sums : (k : ℕ) → (cluster s k).sum ≡ tally image (h k) size
  pub shown : (p : ℕ) → label s p ≢ 0 → T (h (label s p) p)
  pub places : (k p : ℕ) → T (h k p) → p < length s.labels
  pub slots : (k p : ℕ) → T (h k p) → k < length s.clusters
  pub width : length s.labels ≡ size

-- Stage 1 after i pixels. Gone p: p is a discarded pixel. Keyed: keying is on.
pub record Early (image : List ℕ) (size : ℕ) (Gone : ℕ → Type 0) (Keyed : Type 0) (i : ℕ) (s : State) : Type 0 where
  pub basic : Basic image size (ledger s.log) s
  pub flats : (k p : ℕ) → T (ledger s.log k p) → label s p ≡ k
  pub before : (k p : ℕ) → T (ledger s.log k p) → p < i
  pub covered : (p : ℕ) → p < i → Gone p ⊎ ((k : ℕ) × T (ledger s.log k p))
  pub never : (k p : ℕ) → T (ledger s.log k p) → Gone p → ⊥
  -- a pixel that was taken has label 0 only with keying on
  pub lit : (p : ℕ) → p < i → label s p ≡ 0 → Keyed
  pub free : (k p : ℕ) → s.next_index ≤ k → T (ledger s.log k p) → ⊥
  pub room : s.next_index ≤ length s.clusters
  pub some : 1 ≤ s.next_index
  pub roots : (k : ℕ) → (cluster s k).merged_into ≡ 0
  pub no_holes : (k : ℕ) → (cluster s k).holes ≡ []
  pub same : owned s.log ≡ ledger s.log
  pub quiet : s.outputs ≡ []
  -- at most one slot a pixel beside slot 0, and at most one standing cluster a pixel
  pub short : length s.clusters ≤ suc i
  pub few : (N : ℕ) → length s.clusters ≤ N → count_of (standing s) N ≤ i
