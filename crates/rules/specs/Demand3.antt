-- Demand 3, the single claim about a whole run (rules, section 12). Quoted words are the rules'.
use Rattle.std.specs.Prelude.{◌≡◌, ◌↔◌, ◌≢◌, ◌⊎◌, Bool, ◌&&◌, List, [], ◌++◌, ℕ, ◌*◌, ◌≤◌, ◌<◌, T, ltb, length, get_or}
use Rattle.std.specs.Prelude.{if◌then◌else◌}
use Rattle.rules.specs.Color.{RunnerConfig, ColorSum, zero_sum, is_discard, keying_on, pixel, average}
use Rattle.rules.specs.State.{State, Event, cluster, label}
use Rattle.rules.specs.Stage1.{is_key}
use Rattle.rules.specs.Stage2.{prepare_stage2}
use Rattle.rules.specs.Run.{stage1, run}
use Rattle.rules.specs.Picture.{paint}
use Rattle.rules.specs.Layout.{link, walk, first_of}
use Rattle.rules.specs.Paint.{slot_sum, slot_residue, slot_pixels}
use Rattle.rules.specs.Ledger.{Held, ledger}
use Rattle.rules.specs.Claim.{bit, occurs, tally, Stands, Holds, InResidue, Largest, Smallest}
use Rattle.rules.specs.Calls.{Buffers, leaves, run_number, paint_call}
use Rattle.rules.specs.Moments.{moments, suffixes, Merges, logs, Every, Newest, Oldest}

-- "A discarded pixel is a key pixel where the action is Discard" (rule 2.2)
abbrev pub Discarded : RunnerConfig → List ℕ → ℕ → Type 0
Discarded o image p = T (is_key o image p && is_discard o.keying_action)

-- What the demand compares with the ledger, of a state of the rules or of buffers: label of a pixel; list, sum and
-- residue of a cluster
pub record View : Type 0 where
  pub slots : ℕ
  pub label : ℕ → ℕ
  pub pixels : ℕ → List ℕ
  pub sum : ℕ → ColorSum
  pub residue : ℕ → ColorSum

-- of a state, its own
abbrev pub state_view : State → View
state_view s = record {
  slots = length s.clusters;
  label = label s;
  pixels = λ k. (cluster s k).pixels;
  sum = λ k. (cluster s k).sum;
  residue = λ k. (cluster s k).residue;
}

-- Buffers with n slots; beyond these there is no cluster. Their lists are what first pixel, links and pixel count give.
abbrev pub buffer_view : ℕ → List ℕ → List ℕ → List ℕ → View
buffer_view n labels links table = record {
  slots = n;
  label = λ p. get_or labels p 0;
  pixels = λ k. if ltb k n then slot_pixels links table k else [];
  sum = λ k. if ltb k n then slot_sum table k else zero_sum;
  residue = λ k. if ltb k n then slot_residue table k else zero_sum;
}

-- A view v and a ledger h agree. `count_of (h k) size` is the number of pixels that k holds.
pub record AgreesIn (o : RunnerConfig) (w height : ℕ) (image : List ℕ) (h : Held) (v : View) : Type 0 where
  -- "What is held are pixels of the image, by clusters below n" (rule 12.5)
  pub placed : (k p : ℕ) → T (h k p) → (p < w * height) × (k < v.slots)
  -- "The count of a sum is above 0 exactly when its cluster stands." (rule 12.5)
  pub counts : (k : ℕ) → (0 < (v.sum k).count) ↔ Stands h k
  -- "No patch is torn: two standing clusters have no pixel in common, or one holds the other" (rule 12.6)
  pub whole : (j k : ℕ) → ((p : ℕ) → T (h j p) → T (h k p) → ⊥) ⊎ (Holds h j k ⊎ Holds h k j)
  -- "and no two hold the same pixels", so that largest and smallest below are of one cluster
  pub distinct : (j k : ℕ) → j ≢ k → Stands h j → Holds h j k → Holds h k j → ⊥
  -- "No pixel is lost: each that is not discarded is labelled with the largest standing cluster that holds it"
  -- (rule 12.7)
  pub labelled : (p : ℕ) → p < w * height → (Discarded o image p → ⊥) → Largest h (w * height) p (v.label p)
  -- "A discarded one is never held."
  pub discarded : (k p : ℕ) → Discarded o image p → T (h k p) → ⊥
  -- "The list of a cluster names each pixel that it holds once, and no other" (rule 12.8; that of one that does not
  -- stand names none)
  pub lists : (k p : ℕ) → occurs p (v.pixels k) ≡ bit (h k p)
  -- "Its sum is the total of the pixels that it holds" (rule 12.9; that of one that does not stand is zero)
  pub sums : (k : ℕ) → v.sum k ≡ tally image (h k) (w * height)
  -- "Its residue, where it stands, is the total of those of them that no standing cluster strictly inside it holds"
  -- (rule 12.10)
  pub residues : (k : ℕ) → Stands h k
      → (f : ℕ → Bool) × ((p : ℕ) → T (f p) ↔ InResidue h (w * height) k p)
      × (v.residue k ≡ tally image f (w * height))
  -- "No pixel is counted in two shades: each that is not discarded is in the residue of one standing cluster and of no
  -- other" (rule 12.11)
  pub shade : (p : ℕ) → p < w * height → (Discarded o image p → ⊥)
      → (k : ℕ) × InResidue h (w * height) k p × ((j : ℕ) → InResidue h (w * height) j p → j ≡ k)

-- the list that first pixel, links and pixel count of cluster k give
abbrev pub chain : State → ℕ → List ℕ
chain s k = let ps = (cluster s k).pixels in walk (link s) (first_of ps) (length ps)

-- a state and a ledger agree
pub record Agrees (o : RunnerConfig) (w height : ℕ) (image : List ℕ) (h : Held) (s : State) : Type 0 where
  pub view : AgreesIn o w height image h (state_view s)
  -- "First pixel, links and pixel count give the same list" (rule 12.8)
  pub chains : (k : ℕ) → Stands h k → chain s k ≡ (cluster s k).pixels

-- "shows each pixel in the average of the residue of the smallest standing cluster that holds it, which is the average
-- of all pixels whose smallest standing cluster is that one" (rule 12.12): k is that cluster, f chooses those pixels
abbrev pub Shown : ℕ → List ℕ → Held → View → List ℕ → ℕ → Type 0
Shown size image h v picture p =
    (k : ℕ) × Smallest h size p k × (pixel picture p ≡ average (v.residue k))
    × ((f : ℕ → Bool) × ((q : ℕ) → T (f q) ↔ Smallest h size q k)
    × (average (v.residue k) ≡ average (tally image f size)))

-- the ledger of the finished run
abbrev pub last_ledger : RunnerConfig → ℕ → ℕ → List ℕ → Held
last_ledger o w height image = ledger (run o w height image).log

-- the demand, of one image and its settings
pub record Demand3 (o : RunnerConfig) (w height : ℕ) (image : List ℕ) : Type 0 where
  -- "at the end of stage 1 and after every later merge" (rule 12.4): each moment with the ledger of its own log
  pub always : Every (λ s. Agrees o w height image (ledger s.log) s) (moments o w height image)
  -- which moments these are. The first is the end of stage 1
  pub first : Oldest (λ s. s ≡ prepare_stage2 (stage1 o w height image)) (moments o w height image)
  -- and there is one more for each event that the run logged later, all of them merges, with the log up to that event
  pub later : (new : List Event) × Merges new × ((run o w height image).log ≡ new ++ (stage1 o w height image).log)
      × (logs (moments o w height image) ≡ suffixes new (stage1 o w height image).log)
  -- "and they hold of what the run returns" (rule 12.4): the run returns the newest moment's labels and clusters
  pub last : Newest (λ s. let r = run o w height image in
      (r.labels ≡ s.labels) × (r.clusters ≡ s.clusters) × (r.log ≡ s.log)) (moments o w height image)
  pub returned : Agrees o w height image (last_ledger o w height image) (run o w height image)
  -- "With keying off, the picture of the finished run (rule 3.5) shows each pixel .." (rule 12.12)
  pub pictured : (T (keying_on o) → ⊥) → (p : ℕ) → p < w * height
      → Shown (w * height) image (last_ledger o w height image) (state_view (run o w height image))
      (paint (w * height) (run o w height image)) p
  -- "No check refuses the painting of what a run left" (rule 3.5): whatever buffers b an accepted run was lent, and
  -- whatever the picture's bytes were
  pub unrefused : ((i : ℕ) → get_or image i 0 ≤ 255) → (b : Buffers) → run_number o w height image b ≡ 0
      → (given : List ℕ) → length given ≡ 4 * (w * height)
      → let r = run o w height image in
      let left = leaves r b in
      paint_call w height left.links left.table left.outputs given (length r.clusters) (length r.outputs)
      ≡ record { answer = 0; picture = paint (w * height) r }

-- Demand 3 of what an accepted call leaves: of the rules' run at every moment, and of the n slots, labels, links and
-- table that it leaves, and with keying off of the bytes of the picture
pub record Demand3Left (o : RunnerConfig) (w height : ℕ) (image : List ℕ)
    (n : ℕ) (labels links table picture : List ℕ) : Type 0 where
  pub moments : Demand3 o w height image
  pub left : AgreesIn o w height image (last_ledger o w height image) (buffer_view n labels links table)
  pub pictured : (T (keying_on o) → ⊥) → (p : ℕ) → p < w * height
      → Shown (w * height) image (last_ledger o w height image) (buffer_view n labels links table) picture p
