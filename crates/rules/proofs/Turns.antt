-- What code may use when it takes its turn: all of it before turn m of a run, where slot k is picked.
use Rattle.std.specs.Prelude.{if◌then◌else◌}
use mathlib.Core.Path.{◌≡◌, refl, ap, ◌∙◌, subst}
use mathlib.Core.Logic.{by_cases}
use mathlib.Core.Bool.{not, ◌&&◌, ◌||◌}
use mathlib.Core.List.{List, [], ◌∷◌}
use mathlib.Core.Option.{Option, some, none as off}
use Prim.Native.Nat.{ℕ, zero, suc, ◌*◌, ◌≤◌, ◌<◌}
use native.Mathlib.Decide.{ℕ_discrete, dec_lt}
use native.Mathlib.Omega.{arith}
use lib.Dec.{eqb, ltb, leb}
use lib.ListN.{length, get_or, length-append, length-map}
use Rattle.rules.specs.Base.{none_above, member}
use Rattle.rules.specs.Color.{RunnerConfig, hierarchical_max, is_discard, exceeds}
use Rattle.rules.specs.Grid.{sides}
use Rattle.rules.specs.State.{State, cluster, label, area, with_residue, put_out, merge_cluster_into, deepen_cluster_into}
use Rattle.rules.specs.Stage1.{is_key}
use Rattle.rules.specs.Stage2.{all_in, neighbours, cluster_diff, deepens, by_neighbours, visit, prepare_stage2}
use Rattle.rules.specs.Run.{stage1}
use Rattle.rules.specs.Code.Order.{Queue, next_pending, rekey, queue, start, turn, turn_of, visited, turns, drained, largest, any_of}
use Rattle.rules.specs.Ledger.{ledger}
use Rattle.rules.specs.Demand3.{Agrees}
use Rattle.rules.proofs.Facts.{eqb_yes}
use Rattle.rules.proofs.Basic.{merge-moved, deepen-moved}
use Rattle.rules.proofs.Visits.{Going, root, k≢t, k-slot, t-slot, visit-cases, isolated-cases}
use Rattle.rules.proofs.Bounds.{outputs-bound}
use Rattle.rules.proofs.Order.{Picked, turning-picked, turns-keep, start-turning, turns-idle, turns-few, drained-stage2}
use Rattle.rules.proofs.Largest.{none_above_lem, turns-listed}
use Rattle.rules.proofs.Interior.{deepens-interior, turns-hollowed}
use Rattle.rules.proofs.Labels.{turns-agrees, member-label, interior-labels}

pub record Ready (o : RunnerConfig) (w h : ℕ) (image : List ℕ) (q : Queue) (k : ℕ) : Type 0 where
  -- k has pixels, its key is its pixel count, and it is in the table
  pub picked : Picked image (w * h) q k
  pub root : (cluster q.now k).merged_into ≡ 0
  pub compared : Agrees o w h image (ledger q.now.log) q.now
  -- the turn, with the test on the area gone
  pub turns-to : turn o w h q ≡ queue (visit o w h (area (cluster q.now k)) k q.now) (rekey k q.now (visit o w h (area (cluster q.now k)) k q.now) q.keys)
  pub visits : visit o w h (area (cluster q.now k)) k q.now
      ≡ (if ltb o.hierarchical (area (cluster q.now k)) then put_out k q.now else by_neighbours o w h (area (cluster q.now k)) k (neighbours w h q.now k) q.now)
  -- no larger area is listed: none is larger
  pub none-larger : none_above (area (cluster q.now k)) q.now.listed ≡ leb (largest q.now.clusters) (area (cluster q.now k))
  -- its list, by the labels
  pub members : (p : ℕ) → p < w * h → member p (cluster q.now k).pixels ≡ eqb (label q.now p) k && not (is_key o image p && is_discard o.keying_action)
  -- whether it deepens, with no boundary and no hole list
  pub deepening : (t : ℕ) → deepens o w h q.now k t
      ≡ eqb o.hierarchical hierarchical_max
      && (ltb o.good_min_area (area (cluster q.now k)) && ltb (area (cluster q.now k)) o.good_max_area
      && (eqb o.good_min_area 0 || any_of (λ p. all_in (λ i. eqb (label q.now i) k && not (is_key o image i && is_discard o.keying_action)) (sides w h p)) (cluster q.now k).pixels))
      && exceeds (cluster_diff q.now k t) o.deepen_diff

pub turn-ready : (o : RunnerConfig) (w h : ℕ) (image : List ℕ) (m k : ℕ) → next_pending (turns o w h m (start (prepare_stage2 (stage1 o w h image)))).keys ≡ some k
    → Ready o w h image (turns o w h m (start (prepare_stage2 (stage1 o w h image)))) k
unfolding visit turn turn_of visited
turn-ready o w h image m k e = record {
  picked = P;
  root = R;
  compared = C;
  turns-to = ap (λ p. turn_of o w h p q) e ∙ ap (λ b. queue (visit o w h b k s) (rekey k s (visit o w h b k s) q.keys)) P.key;
  visits = rw (eqb_yes (area (cluster s k)) (area (cluster s k)) refl) refl;
  none-larger = none_above_lem o w h (area (cluster s k)) k s P.going (turns-listed o w h image m).1.0 (turns-listed o w h image m).1.1;
  members = member-label o w h image (area (cluster s k)) k s P.going C k R;
  deepening = λ t. deepens-interior o w h s P.going.sound.basic (λ l. (turns-hollowed o w h image l m).1) k t
      ∙ ap (λ b. eqb o.hierarchical hierarchical_max && (ltb o.good_min_area (area (cluster s k)) && ltb (area (cluster s k)) o.good_max_area && (eqb o.good_min_area 0 || b)) && exceeds (cluster_diff s k t) o.deepen_diff)
      (interior-labels o w h image (area (cluster s k)) k s P.going C k R);
}
  where
    q : Queue
    q = turns o w h m (start (prepare_stage2 (stage1 o w h image)))

    s : State
    s = q.now

    P : Picked image (w * h) (turns o w h m (start (prepare_stage2 (stage1 o w h image)))) k
    P = turning-picked q (turns-listed o w h image m).0 k e

    C : Agrees o w h image (ledger s.log) s
    C = turns-agrees o w h image m

    R : (cluster s k).merged_into ≡ 0
    R = root (area (cluster s k)) k s P.going P.some refl

-- ---- the outputs only grow, so the bound on them holds before every turn

visit-grows : (o : RunnerConfig) (w h a k : ℕ) (s : State) → length s.outputs ≤ length (visit o w h a k s).outputs
unfolding put_out merge_cluster_into deepen_cluster_into
visit-grows o w h a k s =
    visit-cases o w h a k s (λ u. length s.outputs ≤ length u.outputs) (λ x. omega arith) (λ e l. omega (arith, length-append s.outputs (k ∷ [])))
    (λ e l z. isolated-cases o w h a k s (λ u. length s.outputs ≤ length u.outputs) (omega (arith, length-append s.outputs (k ∷ []))) (omega arith))
    (λ e l t N. omega arith) (λ e l t N b. omega (arith, length-append s.outputs (k ∷ [])))

turn-grows : (o : RunnerConfig) (w h : ℕ) (q : Queue) → length q.now.outputs ≤ length (turn o w h q).now.outputs
unfolding turn turn_of visited
turn-grows o w h q = go (next_pending q.keys)
  where
    go : (b : Option ℕ) → length q.now.outputs ≤ length (turn_of o w h b q).now.outputs
    go off = omega arith
    go (some k) = visit-grows o w h (get_or q.keys k 0) k q.now

turns-grow : (o : RunnerConfig) (w h : ℕ) (q : Queue) (m n : ℕ) → m ≤ n → length (turns o w h m q).now.outputs ≤ length (turns o w h n q).now.outputs
unfolding turns
turns-grow o w h q m zero l = subst (λ x. length (turns o w h m q).now.outputs ≤ length (turns o w h x q).now.outputs) (let z : m ≡ 0 = omega arith in z) (omega arith)
turns-grow o w h q m (suc n) l = by_cases (ℕ_discrete m (suc n))
    (λ e. subst (λ x. length (turns o w h m q).now.outputs ≤ length (turns o w h x q).now.outputs) e (omega arith))
    (λ d. omega (arith, turns-grow o w h q m n (omega arith), turn-grows o w h (turns o w h n q)))

-- before and after every turn there are at most 2 × w × h entries
pub turns-outputs : (o : RunnerConfig) (w h : ℕ) (image : List ℕ) (m : ℕ) → length (turns o w h m (start (prepare_stage2 (stage1 o w h image)))).now.outputs ≤ 2 * (w * h)
unfolding drained
turns-outputs o w h image m = by_cases (dec_lt (2 * (w * h)) m)
    (λ l. omega (arith, ap (λ u. length u.now.outputs) (turns-idle o w h q (2 * (w * h)) (idle (next_pending (turns o w h (2 * (w * h)) q).keys) refl) m (omega arith)), all))
    (λ l. omega (arith, turns-grow o w h q m (2 * (w * h)) (omega arith), all))
  where
    q : Queue
    q = start (prepare_stage2 (stage1 o w h image))

    all : length (turns o w h (2 * (w * h)) q).now.outputs ≤ 2 * (w * h)
    all = omega (arith, ap (λ s. length s.outputs) (drained-stage2 o w h image), outputs-bound o w h image)

    idle : (b : Option ℕ) → next_pending (turns o w h (2 * (w * h)) q).keys ≡ b → next_pending (turns o w h (2 * (w * h)) q).keys ≡ off
    idle off e = e
    idle (some k) e = absurd (let z : 2 * (w * h) < 2 * (w * h) = turns-few o w h image (2 * (w * h)) k e in omega arith)

-- stage 2 adds no slot: before and after every turn there are those of stage 1
pub turns-table : (o : RunnerConfig) (w h : ℕ) (image : List ℕ) (m : ℕ) → length (turns o w h m (start (prepare_stage2 (stage1 o w h image)))).now.clusters ≡ length (stage1 o w h image).clusters
unfolding start prepare_stage2 put_out
turns-table o w h image m = (turns-keep o w h Whole step (start (prepare_stage2 (stage1 o w h image))) (start-turning o w h image, length-map (stage1 o w h image).clusters (λ c. with_residue c.sum c)) m).1
  where
    Whole : State → Type 0
    Whole u = length u.clusters ≡ length (stage1 o w h image).clusters

    step : (a k : ℕ) (s : State) → Going image (w * h) a k s → 0 < a → area (cluster s k) ≡ a → Whole s → Whole (visit o w h a k s)
    step a k s G pos e W =
        visit-cases o w h a k s Whole (λ x. W) (λ z l. W) (λ z l y. isolated-cases o w h a k s Whole W W)
        (λ z l t N. (merge-moved k t s (k≢t a k s G pos e t N) (k-slot a k s G pos e t N) (t-slot a k s G pos e t N)).table ∙ W)
        (λ z l t N b. (deepen-moved k t s (k≢t a k s G pos e t N) (k-slot a k s G pos e t N) (t-slot a k s G pos e t N) b).table ∙ W)
