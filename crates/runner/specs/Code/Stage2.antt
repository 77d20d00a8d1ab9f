-- Stage 2 in the buffers: what is carried from turn to turn.
use Rattle.std.specs.Prelude.{◌≡◌, Bool, true, ◌&&◌, ◌||◌, List, ltb, leb, eqb, ℕ, ◌+◌, ◌*◌, ◌≤◌, ◌<◌, max}
use Rattle.std.specs.Prelude.{length, get_or, set, if◌then◌else◌}
use Rattle.std.proofs.Math.Option.{some}
use Rattle.image.specs.declared.PixelList.{PixelList}
use Rattle.rules.specs.Color.{RunnerConfig, hierarchical_max, exceeds, discards}
use Rattle.rules.specs.State.{State, cluster, area}
use Rattle.rules.specs.Layout.{links, slot_width, pixel_count_place}
use Rattle.rules.specs.Stage2.{prepare_stage2, neighbours, rank}
use Rattle.rules.specs.Stage2 as rules
use Rattle.rules.specs.Run.{stage1}
use Rattle.rules.specs.Code.Order as order
use Rattle.rules.specs.Code.Bounds.{count_bound}
use Rattle.runner.specs.declared.stage2.Turns.{Turns}
use Rattle.runner.specs.declared.cluster.Nearest.{Nearest}
use Rattle.runner.specs.Code.Slots.{head_at, saved_residue}
use Rattle.runner.specs.Code.Rep.{Table, Rep, HoleEnds, slots_of}
use Rattle.runner.specs.Code.Queue.{Tree, KeySet, Keyed, queue_key}
use Rattle.runner.specs.Code.Neighbours.{nearest_of}
use Rattle.runner.specs.Code.Pixels.{pixels}
use Rattle.runner.specs.Code.Interior.{some_inside}

-- Labels L, links K, table B, ends E, ends of the hole lists H, queue Q, marks M and staged outputs S hold state s with
-- the pending slots `keys`; n slots, m outputs, and no mark above `turns`.
pub record Carried (size : ℕ) (s : State) (keys t₀ L K B E H Q M S : List ℕ) (n m turns : ℕ) : Type 0 where
  pub queue-long : length Q ≡ 3 * (size + 1)
  pub marks-long : length M ≡ size + 1
  pub staged-long : length S ≡ 2 * (size + 1)
  pub rep : Rep size s t₀ L K B E
  pub hole-ends : HoleEnds size s H
  pub slots : n ≡ length s.clusters
  pub tree : Tree Q n
  pub keyed : Keyed Q n keys
  pub marked : (j : ℕ) → get_or M j 0 ≤ turns
  pub entries : m ≡ length s.outputs
  pub staged : (i : ℕ) → i < m → get_or S i 0 ≡ get_or s.outputs i 0

-- table B and queue Q after slot k is prepared: its residue is its sum, its key its pixel count, which is r
pub record PreparedSlot (k : ℕ) (B Q B' Q' : List ℕ) (r : ℕ) : Type 0 where
  pub table : B' ≡ saved_residue B k (head_at B k).sum
  pub queue : Q' ≡ set Q k (queue_key (head_at B k).count)
  pub count : r ≡ (head_at B k).count

-- table B and queue Q after the n slots of a state that B holds are prepared for stage 2; r is the largest pixel count
pub record Prepared (n : ℕ) (B Q B' Q' : List ℕ) (r : ℕ) : Type 0 where
  pub state : (s : State) (t₀ : List ℕ) → n ≡ length s.clusters → slot_width * n ≤ length t₀
      → Table n (slots_of s) t₀ B → Table n (slots_of (prepare_stage2 s)) t₀ B'
  pub keys : (s : State) (t₀ : List ℕ) → n ≡ length s.clusters → slot_width * n ≤ length t₀ → Table n (slots_of s) t₀ B
      → (j : ℕ) → j < n → get_or Q' j 0 ≡ queue_key (area (cluster s j))
  pub rest : (j : ℕ) → n ≤ j → get_or Q' j 0 ≡ get_or Q j 0
  pub largest : (s : State) (t₀ : List ℕ) → n ≡ length s.clusters → slot_width * n ≤ length t₀
      → Table n (slots_of s) t₀ B → r ≡ order.largest s.clusters

-- whether cluster k, of this list, may stay a patch
unfoldable pub patch_good_at : RunnerConfig → List ℕ → List ℕ → List ℕ → ℕ → ℕ → ℕ → PixelList → Bool
patch_good_at o image labels links w h k list =
    ltb o.good_min_area list.count && ltb list.count o.good_max_area
    && (eqb o.good_min_area 0 || some_inside o image labels w h k (pixels links list))

-- whether it deepens into a neighbour of difference d
unfoldable pub deepens_at : RunnerConfig → List ℕ → List ℕ → List ℕ → ℕ → ℕ → ℕ → PixelList → ℕ → Bool
unfolding patch_good_at
deepens_at o image labels links w h k list d =
    eqb o.hierarchical hierarchical_max && patch_good_at o image labels links w h k list
    && exceeds d o.deepen_diff

-- ---- one output, one key

-- one more output
abbrev pub one_put : Turns → Turns
one_put t = record { m = t.m + 1; turns = t.turns; largest = t.largest }

-- the staged outputs have room for one more, and can be counted
pub record CanPut (m : ℕ) (S : List ℕ) : Type 0 where
  pub few : m < length S
  pub small : length S ≤ 2 * count_bound

-- cluster k is put out, if `out` says so
pub record Put (out : Bool) (k : ℕ) (t r : Turns) (S S' : List ℕ) : Type 0 where
  pub staged : S' ≡ (if out then set S t.m k else S)
  pub turns : r ≡ (if out then one_put t else t)

-- whether a cluster of `area` pixels without neighbours is put out
abbrev pub goes_out : RunnerConfig → ℕ → ℕ → Bool
goes_out o largest area = leb largest area || discards o

-- slot `to`, one of n, can take its pixel count for its key
pub record CanGrow (n to : ℕ) (B Q : List ℕ) : Type 0 where
  pub slot : slot_width * to + slot_width ≤ length B
  pub inside : to < n
  pub tree : Tree Q n

-- it has done so, and may be the largest
pub record Grown (n to : ℕ) (t r : Turns) (B Q Q' : List ℕ) : Type 0 where
  pub keyed : KeySet Q Q' n to (get_or B (slot_width * to + pixel_count_place) 0)
  pub turns : r
      ≡ record {
        m = t.m;
        turns = t.turns;
        largest = max t.largest
            (get_or B (slot_width * to + pixel_count_place) 0);
      }

-- ---- the turns of the rules in the buffers

-- the state and the pending slots of the rules before turn i
abbrev pub queue_at : RunnerConfig → ℕ → ℕ → List ℕ → ℕ → order.Queue
queue_at o w h image i = order.turns o w h i (order.start (prepare_stage2 (stage1 o w h image)))

-- the state after the visit of slot k in turn i
abbrev pub visit_at : RunnerConfig → ℕ → ℕ → List ℕ → ℕ → ℕ → State
visit_at o w h image i k =
    rules.visit o w h (area (cluster (queue_at o w h image i).now k)) k (queue_at o w h image i).now

-- the buffers hold what the rules have before turn i, and t the largest pixel count
pub record Between (o : RunnerConfig) (w h : ℕ) (image t₀ L K B E H Q M S : List ℕ) (n : ℕ) (t : Turns) : Type 0 where
  pub table_fits : slot_width * (w * h + 1) ≤ length t₀
  pub carried : Carried (w * h) (queue_at o w h image t.turns).now (queue_at o w h image t.turns).keys
      t₀ L K B E H Q M S n t.m t.turns
  pub top : t.largest ≡ order.largest (queue_at o w h image t.turns).now.clusters

-- slot k, of a pixels, is the one to be visited in turn i
pub record Chosen (o : RunnerConfig) (w h : ℕ) (image : List ℕ) (i k a : ℕ) : Type 0 where
  pub picked : order.next_pending (queue_at o w h image i).keys ≡ some k
  pub count : a ≡ area (cluster (queue_at o w h image i).now k)

-- it is being visited, and is no longer pending; no mark is above `marks`
pub record Visiting (o : RunnerConfig) (w h : ℕ) (image t₀ L K B E H Q M S : List ℕ) (n : ℕ) (t : Turns) (k a marks : ℕ)
    : Type 0 where
  pub table_fits : slot_width * (w * h + 1) ≤ length t₀
  pub chosen : Chosen o w h image t.turns k a
  pub carried : Carried (w * h) (queue_at o w h image t.turns).now (set (queue_at o w h image t.turns).keys k 0)
      t₀ L K B E H Q M S n t.m marks
  pub top : t.largest ≡ order.largest (queue_at o w h image t.turns).now.clusters

-- it is not above `hierarchical`, and near is what the rules have of its neighbours, of which there are some
pub record Aimed (o : RunnerConfig) (w h : ℕ) (image : List ℕ) (i k : ℕ) (near : Nearest) : Type 0 where
  pub low : area (cluster (queue_at o w h image i).now k) ≤ o.hierarchical
  pub nearest : near ≡ nearest_of (rank (queue_at o w h image i).now k) (neighbours w h (queue_at o w h image i).now k)
  pub some : 0 < near.count

-- it deepens into the nearest of them
pub record Deepening (o : RunnerConfig) (w h : ℕ) (image t₀ L K B E H Q M S : List ℕ) (n : ℕ) (t : Turns) (k a : ℕ)
    (near : Nearest) : Type 0 where
  pub visiting : Visiting o w h image t₀ L K B E H Q M S n t k a (t.turns + 1)
  pub aimed : Aimed o w h image t.turns k near
  pub deepens : rules.deepens o w h (queue_at o w h image t.turns).now k near.target ≡ true

-- and it was visited: the buffers hold what the visit made of the state, with the pending slots after it
pub record Visited (o : RunnerConfig) (w h : ℕ) (image t₀ L K B E H Q M S : List ℕ) (n : ℕ) (t r : Turns) (k : ℕ)
    : Type 0 where
  pub carried : Carried (w * h) (visit_at o w h image t.turns k)
      (order.rekey k (queue_at o w h image t.turns).now (visit_at o w h image t.turns k)
      (queue_at o w h image t.turns).keys) t₀ L K B E H Q M S n r.m (t.turns + 1)
  pub same : r.turns ≡ t.turns
  pub top : r.largest ≡ order.largest (visit_at o w h image t.turns k).clusters

-- ---- stage 2

-- what stage 2 starts from: the buffers hold what stage 1 left, in n slots, and no mark
pub record Entered (o : RunnerConfig) (w h : ℕ) (image t₀ L K B E H Q M S : List ℕ) (n : ℕ) : Type 0 where
  pub rep : Rep (w * h) (stage1 o w h image) t₀ L K B E
  pub slots : n ≡ length (stage1 o w h image).clusters
  pub table_fits : slot_width * (w * h + 1) ≤ length t₀
  pub hole-ends-long : length H ≡ w * h + 1
  pub queue-long : length Q ≡ 3 * (w * h + 1)
  pub marks-long : length M ≡ w * h + 1
  pub staged-long : length S ≡ 2 * (w * h + 1)
  pub marks : (j : ℕ) → get_or M j 0 ≡ 0

-- what it leaves: the buffers hold state u of n slots, with its m outputs staged
pub record Staged (size : ℕ) (u : State) (t₀ L K B E H Q M S : List ℕ) (n m : ℕ) : Type 0 where
  pub labelled : L ≡ u.labels
  pub linked : K ≡ links u
  pub tabled : Table (length u.clusters) (slots_of u) t₀ B
  pub slots : n ≡ length u.clusters
  pub entries : m ≡ length u.outputs
  pub long : length S ≡ 2 * (size + 1)
  pub staged : (i : ℕ) → i < m → get_or S i 0 ≡ get_or u.outputs i 0
