-- What is known of the state of the rules before a turn, and read off the buffers that hold it.
use mathlib.Core.Path.{◌≡◌, refl, sym, ap, ap₂, ◌∙◌, subst}
use mathlib.Core.Bool.{◌&&◌, ◌||◌}
use mathlib.Core.List.{List, []}
use mathlib.Core.Option.{some}
use Prim.Native.Nat.{ℕ, ◌+◌, ◌*◌, ◌≤◌, ◌<◌}
use native.Mathlib.Nat.{div-le_of_le-mul}
use native.Mathlib.Omega.{arith}
use lib.Dec.{T, eqb, ltb}
use lib.ListN.{length, get_or}
use Rattle.rules.specs.Color.{RunnerConfig, ColorSum, hierarchical_max, color_diff, average, has_average, exceeds}
use Rattle.rules.specs.State.{State, cluster, label, area}
use Rattle.rules.specs.Stage2.{labels_around, neighbours, cluster_diff, rank, deepens}
use Rattle.rules.specs.Ledger.{ledger}
use Rattle.rules.specs.Layout.{first_of, slot_width, first_pixel_place, pixel_count_place}
use Rattle.rules.specs.Code.Order.{Queue, next_pending}
use Rattle.rules.specs.Code.Ranges.{Fits, Ranged}
use Rattle.rules.proofs.Visits.{Near, Going, neighbours-near}
use Rattle.rules.proofs.Visits as visits
use Rattle.rules.proofs.Outputs.{In}
use Rattle.rules.proofs.Paint.{has-average}
use Rattle.rules.proofs.Holes.{Holes, turns-holes}
use Rattle.rules.proofs.Ranges.{turns-ranged}
use Rattle.rules.proofs.Turns.{Ready, turn-ready, turns-outputs}
use Rattle.rules.proofs.Neighbours.{all_in}
use Rattle.rules.specs.Code.Bounds.{capacity}
use Rattle.runner.specs.Code.Given.{Given}
use Rattle.runner.specs.Code.Rep.{Rep}
use Rattle.runner.specs.Code.Slots.{list_in}
use Rattle.runner.specs.Code.Pixels.{Readable}
use Rattle.runner.specs.Code.Interior.{some_inside}
use Rattle.runner.specs.Code.Neighbours.{diff_at, nearest_of, Averaged, Scannable, list_at}
use Rattle.runner.specs.Code.Stage2.{queue_at, patch_good_at, deepens_at}
use Rattle.runner.proofs.Tables.{sum-at, first-at, count_at}
use Rattle.runner.proofs.RepReads.{root-chain, rep-reads, rep-walk, rep-labels-length, rep-links-length}
use Rattle.runner.proofs.Nearest.{neighbours-nearest}

-- an image of w columns and h rows
pub record Image (w h : ℕ) (image : List ℕ) : Type 0 where
  pub columns : 0 < w
  pub small : w * h ≤ capacity
  pub whole : length image ≡ 4 * (w * h)
  pub bytes : (i : ℕ) → get_or image i 0 ≤ 255

pub image-of : {o : RunnerConfig} {w h : ℕ} {image : List ℕ} {shift : ℕ} → Given o w h image shift → Image w h image
image-of G = record { columns = G.columns; small = G.small; whole = G.whole; bytes = G.bytes }

-- slot k is picked before a turn of the rules
pub record At (o : RunnerConfig) (w h : ℕ) (image : List ℕ) (q : Queue) (k : ℕ) : Type 0 where
  pub image-fits : Image w h image
  pub ready : Ready o w h image q k
  pub ranged : Ranged w h q.now
  pub holes : Holes q.now
  pub outputs : length q.now.outputs ≤ 2 * (w * h)

pub at : (o : RunnerConfig) (w h : ℕ) (image : List ℕ) → Image w h image → (i k : ℕ) → next_pending (queue_at o w h image i).keys ≡ some k → At o w h image (queue_at o w h image i) k
at o w h image I i k p = record {
  image-fits = I;
  ready = turn-ready o w h image i k p;
  ranged = turns-ranged image I.bytes o w h i;
  holes = turns-holes o w h image i;
  outputs = turns-outputs o w h image i;
}

-- averages of bytes are bytes, so colours differ by at most 765
diff-small : (size : ℕ) (s : State) (j k : ℕ) → Fits size (cluster s j).sum → Fits size (cluster s k).sum → cluster_diff s j k ≤ 765
unfolding cluster_diff color_diff average
diff-small size s j k F G = omega (
  arith,
  div-le_of_le-mul x.count {m = x.r} {n = 255} (omega (arith, F.r)),
  div-le_of_le-mul x.count {m = x.g} {n = 255} (omega (arith, F.g)),
  div-le_of_le-mul x.count {m = x.b} {n = 255} (omega (arith, F.b)),
  div-le_of_le-mul y.count {m = y.r} {n = 255} (omega (arith, G.r)),
  div-le_of_le-mul y.count {m = y.g} {n = 255} (omega (arith, G.g)),
  div-le_of_le-mul y.count {m = y.b} {n = 255} (omega (arith, G.b)),
)
  where
    x : ColorSum
    x = (cluster s j).sum

    y : ColorSum
    y = (cluster s k).sum

module _ {o : RunnerConfig} {w h : ℕ} {image : List ℕ} {q : Queue} {k : ℕ} (A : At o w h image q k) where
  abbrev s : State
  s = q.now

  pub going : Going image (w * h) (area (cluster q.now k)) k q.now
  going = A.ready.picked.going

  pub some-pixels : 0 < area (cluster q.now k)
  some-pixels = A.ready.picked.some

  -- the neighbours as code knows them
  pub neighbour-near : (t : ℕ) → In t (neighbours w h q.now k) → Near q.now (label q.now (get_or (cluster q.now k).pixels 0 0)) t
  neighbour-near t i = all_in (Near s (label s (get_or (cluster s k).pixels 0 0))) (neighbours w h s k) (neighbours-near o w h s k) t i

  pub diff-fits : (t : ℕ) → cluster_diff q.now k t < 2147483648
  diff-fits t = omega (arith, diff-small (w * h) s k t (A.ranged.sums k) (A.ranged.sums t))

  module _ {t₀ L K B E : List ℕ} (R : Rep (w * h) q.now t₀ L K B E) (fits : slot_width * (w * h + 1) ≤ length t₀) where
    pub slot-fits : (j : ℕ) → j < length q.now.clusters → slot_width * j + slot_width ≤ length B
    slot-fits j l = omega (arith, R.tabled.long, A.ranged.slots)

    -- a cluster that holds a pixel
    averaged : (j p : ℕ) → T (ledger q.now.log j p) → Averaged B j
    averaged j p z = record {
      inside = slot-fits j l;
      average = subst (λ x. T (has_average x)) (sym (sum-at s R.tabled j l))
          (has-average (cluster s j).sum ((A.ready.compared.view.counts j).1 (p, z)) (A.ranged.sums j).r (A.ranged.sums j).g (A.ranged.sums j).b (A.ranged.sums j).a);
    }
      where
        l : j < length q.now.clusters
        l = going.sound.basic.slots j p z

    -- its first pixel and its pixel count
    pub first-is : get_or B (slot_width * k + first_pixel_place) 0 ≡ first_of (cluster q.now k).pixels
    first-is = first-at s R.tabled k A.ready.picked.slot

    pub count-is : get_or B (slot_width * k + pixel_count_place) 0 ≡ area (cluster q.now k)
    count-is = count_at s R.tabled k A.ready.picked.slot

    -- its list can be read, and is the list of the rules
    pub list-reads : Readable (w * h) K (list_in B k)
    list-reads = rw (first-is, count-is) (rep-reads going.sound.basic R k (root-chain going.sound k A.ready.root))

    pub list-is : list_at K B k ≡ (cluster q.now k).pixels
    list-is = rw (first-is, count-is) (rep-walk going.sound.basic R k (root-chain going.sound k A.ready.root))

    -- the scan for its neighbours
    pub scannable : (M : List ℕ) → length M ≡ w * h + 1 → (v : ℕ) → ((j : ℕ) → get_or M j 0 < v) → Scannable L K B M w h k v
    scannable M wide v low = record {
      labelled = omega (arith, rep-labels-length going.sound.basic R);
      linked = omega (arith, rep-links-length going.sound.basic R);
      own = averaged k (get_or (cluster s k).pixels 0 0) (visits.stands (area (cluster s k)) k s going some-pixels refl);
      few = omega (arith, count-is, A.ranged.areas k);
      readable = list-reads;
      notable = λ p l x. record {
        mark = omega (arith, wide, ap (λ ls. get_or ls p 0) R.labelled, A.ranged.labels p, A.ranged.slots);
        averaged = averaged (get_or L p 0) p (subst (λ ls. T (ledger s.log (get_or ls p 0) p)) (sym R.labelled) (going.sound.basic.shown p (λ z. x (ap (λ ls. get_or ls p 0) R.labelled ∙ z))));
      };
      earlier = low;
    }

    -- what it finds
    pub nearest-is : nearest_of (diff_at B k) (labels_around w h L k (list_at K B k) []) ≡ nearest_of (rank q.now k) (neighbours w h q.now k)
    nearest-is = neighbours-nearest w h s k L K B R.labelled list-is
        (visits.mine (area (cluster s k)) k s going some-pixels refl) (sum-at s R.tabled k A.ready.picked.slot)
        (λ l i. sum-at s R.tabled l (visits.t-slot (area (cluster s k)) k s going some-pixels refl l (neighbour-near l i)))

    -- whether it deepens
    pub deepens-is : (t d : ℕ) → d ≡ cluster_diff q.now k t → deepens_at o image L K w h k (list_in B k) d ≡ deepens o w h q.now k t
    unfolding deepens_at patch_good_at some_inside
    deepens-is t d e =
        let a = area (cluster s k) in
        ap (λ n. eqb o.hierarchical hierarchical_max && (ltb o.good_min_area n && ltb n o.good_max_area && (eqb o.good_min_area 0 || some_inside o image L w h k (list_at K B k))) && exceeds d o.deepen_diff) count-is
        ∙ ap₂ (λ ls ps. eqb o.hierarchical hierarchical_max && (ltb o.good_min_area a && ltb a o.good_max_area && (eqb o.good_min_area 0 || some_inside o image ls w h k ps)) && exceeds d o.deepen_diff) R.labelled list-is
        ∙ ap (λ x. eqb o.hierarchical hierarchical_max && (ltb o.good_min_area a && ltb a o.good_max_area && (eqb o.good_min_area 0 || some_inside o image s.labels w h k (cluster s k).pixels)) && exceeds x o.deepen_diff) e
        ∙ sym (A.ready.deepening t)
