-- Spans of stage 1, for code that takes them at once: consecutive pixels of a row that go into one cluster.
use Rattle.std.specs.Prelude.{List, [], ◌∷◌, ◌++◌, false, true, ◌&&◌, ◌≡◌, ℕ, zero, suc, ◌+◌, ◌-◌, ◌*◌, ◌/◌, ◌^◌, ◌≤◌}
use Rattle.std.specs.Prelude.{◌<◌, length, get_or, set}
use Rattle.std.proofs.Math.Option.{some}
use Rattle.rules.specs.Base.{apart}
use Rattle.rules.specs.Color.{ColorSum, RunnerConfig, zero_sum, sum_of_one, ◌⊕◌, pixel}
use Rattle.rules.specs.Grid.{up, left, up_left}
use Rattle.rules.specs.State.{State, Cluster, BoundingRect, Event, added, cluster, label, with_cluster}
use Rattle.rules.specs.Stage1.{same_at, is_key}

-- i, i + 1, .. i + n - 1
unfoldable pub up_from : ℕ → ℕ → List ℕ
up_from i zero = []
up_from i (suc n) = up_from i n ++ ((i + n) ∷ [])

-- n entries from i on become v
unfoldable pub set_from : List ℕ → ℕ → ℕ → ℕ → List ℕ
set_from ls i zero v = ls
set_from ls i (suc n) v = set (set_from ls i n v) (i + n) v

-- n links, from that of pixel at - 1 on, each lead to the next pixel
abbrev pub Consecutive : List ℕ → ℕ → ℕ → Type 0
Consecutive links at n = (j : ℕ) → j < n → get_or links (at - 1 + j) 0 ≡ at + j + 1

-- the colours of n pixels from i on, summed
unfoldable pub sum_from : List ℕ → ℕ → ℕ → ColorSum
unfolding sum_of_one ◌⊕◌ pixel
sum_from image i zero = zero_sum
sum_from image i (suc n) = sum_from image i n ⊕ sum_of_one (pixel image (i + n))

-- n pixels of row y from column x on
unfoldable pub span_rect : ℕ → ℕ → ℕ → BoundingRect
span_rect x y n = record { left = x; top = y; right = x + n; bottom = y + 1 }

-- n pixels from pixel i on, which is at column x and row y, as a cluster
unfoldable pub span_of : List ℕ → ℕ → ℕ → ℕ → ℕ → Cluster
unfolding up_from sum_from span_rect
span_of image i x y n = record {
  pixels = up_from i n;
  sum = sum_from image i n;
  residue = zero_sum;
  rect = span_rect x y n;
  merged_into = 0;
  depth = 0;
  holes = [];
}

-- the events of a span, the newest first
unfoldable pub logged : ℕ → ℕ → ℕ → List Event → List Event
logged i zero k log = log
logged i (suc n) k log = added (i + n) k ∷ logged i n k log

-- they are added to cluster k, which is in the table
unfoldable pub add_span : List ℕ → ℕ → ℕ → ℕ → ℕ → ℕ → State → State
unfolding set_from span_of logged with_cluster
add_span image i x y n k s = record {
  labels = set_from s.labels i n k;
  clusters = set s.clusters k (with_cluster (span_of image i x y n) (cluster s k));
  next_index = s.next_index;
  outputs = s.outputs;
  listed = s.listed;
  log = logged i n k s.log;
}

-- n steps from number i on
unfoldable pub steps_from {ℓ} : {S : Type ℓ} → ℕ → ℕ → (ℕ → S → S) → S → S
steps_from i zero f s = s
steps_from i (suc n) f s = f (i + n) (steps_from i n f s)

-- n pixels from i on, neither in the first column nor in the first row, join cluster k: that is the label of the pixel
-- before i and of each pixel above; none is a key pixel; and each is like the pixel above and the one left of that.
-- Labels are those before the span.
pub record Span (o : RunnerConfig) (w : ℕ) (image : List ℕ) (i n k : ℕ) (s : State) : Type 0 where
  pub slot : k < length s.clusters
  pub fits : i + n ≤ length s.labels
  pub later : 0 < i
  pub before : label s (i - 1) ≡ k
  pub beside : (j : ℕ) → j < n → left w (i + j) ≡ some (i + j - 1)
  pub below : (j : ℕ) → j < n → up w (i + j) ≡ some (i + j - w)
  pub above : (j : ℕ) → j < n → label s (i + j - w) ≡ k
  pub free : (j : ℕ) → j < n → is_key o image (i + j) ≡ false
  pub likes : (j : ℕ) → j < n
      → same_at o image (some (i + j)) (up w (i + j)) && same_at o image (some (i + j)) (up_left w (i + j)) ≡ true

-- n pixels from i on, which is at column x and row y, behind the first column and the first row
pub record InnerSpan (w i x y n : ℕ) : Type 0 where
  pub index : i ≡ w * y + x
  pub column : 0 < x
  pub row : 0 < y
  pub within : x + n ≤ w

-- what the code tests of pixel p, with k for the label of left
pub record Extends (o : RunnerConfig) (w : ℕ) (image labels : List ℕ) (k p : ℕ) : Type 0 where
  pub label-up : get_or labels (p - w) 0 ≡ k
  pub no_key : is_key o image p ≡ false
  pub like-up : same_at o image (some p) (some (p - w)) ≡ true
  pub like-up-left : same_at o image (some p) (some (p - w - 1)) ≡ true

-- n pixels from i on do
abbrev pub AllExtend : RunnerConfig → ℕ → List ℕ → List ℕ → ℕ → ℕ → ℕ → Type 0
AllExtend o w image labels k i n = (j : ℕ) → j < n → Extends o w image labels k (i + j)

-- bytes p and q of the image, shifted, are at most t apart
abbrev pub NearBytes : ℕ → ℕ → List ℕ → ℕ → ℕ → Type 0
NearBytes shift t image p q = apart (get_or image p 0 / 2 ^ shift) (get_or image q 0 / 2 ^ shift) ≤ t
