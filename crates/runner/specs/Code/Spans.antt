-- A span of a row, found and added to a cluster at once: L labels, K links, B table, E ends; with ' afterwards.
use Rattle.std.specs.Prelude.{◌≡◌, List, ℕ, zero, suc, ◌+◌, ◌-◌, ◌*◌, ◌≤◌, ◌<◌, pos, length, get_or, set}
use Rattle.rules.specs.State.{Cluster, with_cluster}
use Rattle.rules.specs.Color.{RunnerConfig}
use Rattle.rules.specs.Code.Spans.{set_from, sum_from, span_of, InnerSpan, AllExtend, NearBytes}
use Rattle.rules.specs.Code.Bounds.{count_bound}
use Rattle.color.specs.Colors.{sum_of}
use Rattle.runner.specs.Code.Slots.{Adds, head_at, head_of, saved_head}
use Rattle.runner.specs.Code.Rep.{link_after}
use Rattle.runner.specs.Code.Ops.{Open}
use Rattle.runner.specs.Code.Stage1.{Taking}

-- each of n pixels from i on is linked to the one after it
unfoldable pub linked_from : List ℕ → ℕ → ℕ → List ℕ
linked_from ks i zero = ks
linked_from ks i (suc n) = set (linked_from ks i n) (i + n) (i + n + 2)

-- n pixels from i on, at column x and row y, can be added to cluster k
pub record CanAddSpan (image : List ℕ) (k i x y n : ℕ) (L K B E : List ℕ) : Type 0 where
  pub room : Open k K B E
  pub some : 0 < n
  pub pixels : i + n ≤ length L
  pub bytes : 4 * (i + n) ≤ length image
  pub links : length L ≤ length K
  pub small : (i + n < count_bound) × (x + n < count_bound) × (y < count_bound)
  pub sum : Adds (sum_of (head_at B k).sum) (sum_from image i n)

-- and they were, in their order
pub record AddedSpan (image : List ℕ) (k i x y n : ℕ) (L K B E L' K' B' E' : List ℕ) : Type 0 where
  pub labels : L' ≡ set_from L i n k
  pub links : K' ≡ linked_from (link_after K (head_at B k).count (get_or E k 0) (i + 1)) i (n - 1)
  pub table : (d : Cluster) → head_at B k ≡ head_of d
      → B' ≡ saved_head B k (head_of (with_cluster (span_of image i x y n) d))
  pub ends : E' ≡ set E k (i + n)

-- i pixels are taken, and the n next ones of the row extend cluster k, that of the pixel before them
pub record Extending (o : RunnerConfig) (w h : ℕ) (image : List ℕ) (shift i x y n k : ℕ) (t₀ L K B E : List ℕ)
    (next count : ℕ) : Type 0 where
  pub taking : Taking o w h image shift i x y t₀ L K B E next count
  pub inner : InnerSpan w i x y n
  pub before : get_or L (i - 1) 0 ≡ k
  pub tests : AllExtend o w image L k i n

-- n pixels from i on extend the cluster of the pixel before them
pub record FoundSpan (o : RunnerConfig) (w : ℕ) (image L : List ℕ) (i x y n : ℕ) : Type 0 where
  pub within : x + n ≤ w
  pub inner : 0 < n → (0 < x) × (0 < y)
  pub tests : AllExtend o w image L (get_or L (i - 1) 0) i n

-- a limit for each byte of four pixels: at most t for the channels that count
abbrev pub Limits : ℕ → List ℕ → Type 0
Limits t limits = (q c : ℕ) → q < 4 → c < 3 → get_or limits (4 * q + c) 0 ≤ t

-- the limits of the settings, whose bound may be negative
abbrev pub LimitsOf : RunnerConfig → List ℕ → Type 0
LimitsOf o limits = (t : ℕ) → o.is_same_color_b ≡ pos t → Limits t limits

-- n bytes from pixel a on are within their limits of those from pixel b on, and of those from pixel b - 1 on
abbrev pub ManyNear : ℕ → List ℕ → List ℕ → ℕ → ℕ → ℕ → Type 0
ManyNear shift limits image a b n = (j : ℕ) → j < n
    → NearBytes shift (get_or limits j 0) image (4 * a + j) (4 * b + j)
    × NearBytes shift (get_or limits j 0) image (4 * a + j) (4 * b + j - 4)
