-- One visit of stage 2 in the buffers: what each step asks, and what it leaves.
use Rattle.std.specs.Prelude.{if◌then◌else◌}
use mathlib.Core.Path.{◌≡◌, refl, sym, ap, ap₂, ◌∙◌, subst}
use mathlib.Core.Bool.{Bool, true, false, ◌||◌}
use mathlib.Core.List.{List, [], ◌∷◌}
use Prim.Native.Nat.{ℕ, ◌+◌, ◌*◌, ◌≤◌, ◌<◌, max}
use native.Mathlib.Omega.{arith}
use lib.Dec.{leb}
use lib.ListN.{length, get_or, set, length-append}
use borrow.Author.Tests.{lt-ltb, le-ltb}
use Rattle.rules.specs.Color.{RunnerConfig, discards}
use Rattle.rules.specs.State.{State, plain, deepened, cluster, label, area, put_out, merge_cluster_into, deepen_cluster_into}
use Rattle.rules.specs.Layout.{slot_width, pixel_count_place}
use Rattle.rules.specs.Stage2.{labels_around, neighbours, cluster_diff, rank, deepens, isolated, merge_into_nearest, by_neighbours}
use Rattle.rules.specs.Code.Order.{Queue, rekey, largest}
use Rattle.rules.proofs.Basic.{Moved, merge-moved, deepen-moved}
use Rattle.rules.proofs.Visits.{All, Near, least-all, neighbours-near}
use Rattle.rules.proofs.Visits as visits
use Rattle.rules.proofs.Outputs.{whole-alone}
use Rattle.rules.proofs.Largest.{merge-largest, deepen-largest}
use Rattle.rules.proofs.Order.{turns-few, rekey-still, rekey-moved}
use Rattle.runner.specs.declared.stage2.Turns.{Turns}
use Rattle.runner.specs.declared.cluster.Nearest.{Nearest}
use Rattle.runner.specs.Code.Given.{Given}
use Rattle.runner.specs.Code.Ops.{CanMerge, Merged, CanDeepen, Deepened, CanHollow, Hollowed}
use Rattle.runner.specs.Code.Queue.{KeySet, queue_key}
use Rattle.runner.specs.Code.Slots.{list_in}
use Rattle.runner.specs.Code.Pixels.{Readable}
use Rattle.runner.specs.Code.Neighbours.{diff_at, nearest_of, Scannable, list_at}
use Rattle.runner.specs.Code.Stage2.{Carried, CanPut, Put, goes_out, CanGrow, Grown, queue_at, visit_at, Visiting, Aimed, Visited, deepens_at}
use Rattle.runner.proofs.Queues.{stored_some}
use Rattle.runner.proofs.Tables.{count_at}
use Rattle.runner.proofs.RepReads.{rep-labels-length, rep-links-length}
use Rattle.runner.proofs.Carried.{carried-put, carried-queue, carried-lists, carried-marks, carried_later}
use Rattle.runner.proofs.Moment.{At, at, image-of, going, some-pixels, diff-fits, slot-fits, list-reads, scannable, nearest-is, deepens-is}
use Rattle.runner.proofs.Merges.{can-merge, can-deepen, merged-rep, merged-holes, deepened-rep, deepened-holes, can-hollow, hollowed-rep, hollowed-holes, target-slot}

-- ---- the target's key

module _ {size : ℕ} {u : State} {keys t₀ L K B E H Q M S : List ℕ} {n m marks : ℕ} (C : Carried size u keys t₀ L K B E H Q M S n m marks) (few : n ≤ size + 1) (to : ℕ) (inside : to < n) where
  pub can-grow : slot_width * (size + 1) ≤ length t₀ → CanGrow n to B Q
  can-grow fits = record { slot = omega (arith, C.rep.tabled.long); inside = inside; tree = C.tree }

  pub carried-grown : 0 < area (cluster u to) → area (cluster u to) < 4294967295 → {t r : Turns} {Q' : List ℕ} → length Q' ≡ length Q → Grown n to t r B Q Q'
      → Carried size u (set keys to (area (cluster u to))) t₀ L K B E H Q' M S n m marks
  carried-grown some low {t} {r} {Q'} wide G =
      carried-queue C Q' wide to (area (cluster u to)) inside few low (subst (KeySet Q Q' n to) count G.keyed)
    where
      count : get_or B (slot_width * to + pixel_count_place) 0 ≡ queue_key (area (cluster u to))
      count = count_at u C.rep.tabled to (omega (arith, C.slots)) ∙ sym (stored_some (area (cluster u to)) some)

-- ---- the visit of the rules

-- with neighbours, of which the nearest is the target
pub record Goes (o : RunnerConfig) (w h : ℕ) (s : State) (k : ℕ) (near : Nearest) : Type 0 where
  pub near-to : Near s (label s (get_or (cluster s k).pixels 0 0)) near.target
  pub differs : near.diff ≡ cluster_diff s k near.target
  pub decides : (a : ℕ) → by_neighbours o w h a k (neighbours w h s k) s
      ≡ (if deepens o w h s k near.target then deepen_cluster_into (leb near.count o.hollow_neighbours) k near.target s else merge_cluster_into k near.target s)

goes : (o : RunnerConfig) (w h : ℕ) (s : State) (k : ℕ) (near : Nearest) → near ≡ nearest_of (rank s k) (neighbours w h s k) → 0 < near.count → Goes o w h s k near
unfolding by_neighbours merge_into_nearest rank
goes o w h s k near e z =
    let y = go (neighbours w h s k) (neighbours-near o w h s k) e in
    record { near-to = y.0; differs = y.1; decides = y.2 }
  where
    own : ℕ
    own = label s (get_or (cluster s k).pixels 0 0)

    Out : List ℕ → Nearest → Type 0
    Out ns r = Near s (label s (get_or (cluster s k).pixels 0 0)) r.target × (r.diff ≡ cluster_diff s k r.target) × ((a : ℕ) → by_neighbours o w h a k ns s
        ≡ (if deepens o w h s k r.target then deepen_cluster_into (leb r.count o.hollow_neighbours) k r.target s else merge_cluster_into k r.target s))

    go : (ns : List ℕ) → All (Near s (label s (get_or (cluster s k).pixels 0 0))) ns → near ≡ nearest_of (rank s k) ns → Out ns near
    go [] N d = absurd (omega (arith, ap (λ r. r.count) d))
    go (x ∷ xs) N d = subst (Out (x ∷ xs)) (sym d) (least-all (Near s own) (rank s k) x xs N.0 N.1, refl, λ a. refl)

-- no neighbour
pub none-near : (key : ℕ → ℕ) (ns : List ℕ) → (nearest_of key ns).count ≡ 0 → ns ≡ []
none-near key [] e = refl
none-near key (x ∷ xs) e = absurd (omega arith)

module _ {o : RunnerConfig} {w h : ℕ} {image : List ℕ} {shift : ℕ} (I : Given o w h image shift) {t₀ L K B E H Q M S : List ℕ} {n : ℕ} {t : Turns} {k a marks : ℕ} (X : Visiting o w h image t₀ L K B E H Q M S n t k a marks) where
  abbrev q : Queue
  q = queue_at o w h image t.turns

  abbrev s : State
  s = (queue_at o w h image t.turns).now

  moment : At o w h image (queue_at o w h image t.turns) k
  moment = at o w h image (image-of I) t.turns k X.chosen.picked

  pub few-turns : t.turns < 2 * (w * h)
  few-turns = turns-few o w h image t.turns k X.chosen.picked

  pub can-put : CanPut t.m S
  can-put = record { few = omega (arith, X.carried.entries, moment.outputs, X.carried.staged-long); small = omega (arith, X.carried.staged-long, I.small) }

  -- its slot can be read
  pub own-fits : slot_width * k + slot_width ≤ length B
  own-fits = slot-fits moment X.carried.rep X.table_fits k moment.ready.picked.slot

  -- what the boundary test asks of the lengths
  pub lengths-fit : (w * h ≡ length L) × (w * h ≤ length K)
  lengths-fit = (sym (rep-labels-length (going moment).sound.basic X.carried.rep), omega (arith, rep-links-length (going moment).sound.basic X.carried.rep))

  -- a visit that puts the cluster out, or does nothing
  pub put-visited : (b : Bool) → visit_at o w h image t.turns k ≡ (if b then put_out k (queue_at o w h image t.turns).now else (queue_at o w h image t.turns).now) → marks ≤ t.turns + 1
      → {r : Turns} {S' : List ℕ} → Put b k t r S S' → Visited o w h image t₀ L K B E H Q M S' n t r k
  unfolding put_out
  put-visited true e l {r} {S'} P = record {
    carried = subst (λ u. Carried (w * h) u (rekey k s u q.keys) t₀ L K B E H Q M S' n r.m (t.turns + 1)) (sym e)
        (subst (λ keys. Carried (w * h) (put_out k s) keys t₀ L K B E H Q M S' n r.m (t.turns + 1)) (sym (rekey-still k s (put_out k s) q.keys refl))
        (subst (λ x. Carried (w * h) (put_out k s) (set q.keys k 0) t₀ L K B E H Q M S' n x.m (t.turns + 1)) (sym P.turns)
        (subst (λ x. Carried (w * h) (put_out k s) (set q.keys k 0) t₀ L K B E H Q M x n (t.m + 1) (t.turns + 1)) (sym P.staged)
        (carried_later (carried-put X.carried k can-put.few) (t.turns + 1) l))));
    same = ap (λ x. x.turns) P.turns;
    top = ap (λ x. x.largest) P.turns ∙ X.top ∙ sym (ap (λ u. largest u.clusters) e);
  }
  put-visited false e l {r} {S'} P = record {
    carried = subst (λ u. Carried (w * h) u (rekey k s u q.keys) t₀ L K B E H Q M S' n r.m (t.turns + 1)) (sym e)
        (subst (λ keys. Carried (w * h) s keys t₀ L K B E H Q M S' n r.m (t.turns + 1)) (sym (rekey-still k s s q.keys refl))
        (subst (λ x. Carried (w * h) s (set q.keys k 0) t₀ L K B E H Q M S' n x.m (t.turns + 1)) (sym P.turns)
        (subst (λ x. Carried (w * h) s (set q.keys k 0) t₀ L K B E H Q M x n t.m (t.turns + 1)) (sym P.staged)
        (carried_later X.carried (t.turns + 1) l))));
    same = ap (λ x. x.turns) P.turns;
    top = ap (λ x. x.largest) P.turns ∙ X.top ∙ sym (ap (λ u. largest u.clusters) e);
  }

  -- above `hierarchical`
  pub visit-puts : o.hierarchical < a → visit_at o w h image t.turns k ≡ put_out k (queue_at o w h image t.turns).now
  visit-puts l = moment.ready.visits ∙ ap (λ b. if b then put_out k s else by_neighbours o w h (area (cluster s k)) k (neighbours w h s k) s) (lt-ltb o.hierarchical (area (cluster s k)) (omega (arith, X.chosen.count)))

  -- at most that
  visit-decides : a ≤ o.hierarchical → visit_at o w h image t.turns k ≡ by_neighbours o w h (area (cluster (queue_at o w h image t.turns).now k)) k (neighbours w h (queue_at o w h image t.turns).now k) (queue_at o w h image t.turns).now
  visit-decides l = moment.ready.visits ∙ ap (λ b. if b then put_out k s else by_neighbours o w h (area (cluster s k)) k (neighbours w h s k) s) (le-ltb o.hierarchical (area (cluster s k)) (omega (arith, X.chosen.count)))

  -- no neighbour
  visit-isolated : a ≤ o.hierarchical → neighbours w h (queue_at o w h image t.turns).now k ≡ [] → visit_at o w h image t.turns k
      ≡ (if goes_out o t.largest a then put_out k (queue_at o w h image t.turns).now else (queue_at o w h image t.turns).now)
  unfolding by_neighbours isolated
  visit-isolated low none =
      visit-decides low ∙ ap (λ ns. by_neighbours o w h (area (cluster s k)) k ns s) none
      ∙ ap (λ b. if b || discards o then put_out k s else s) (moment.ready.none-larger ∙ ap₂ leb (sym X.top) (sym X.chosen.count))

  -- all pixels
  pub visit-whole : a ≤ o.hierarchical → a ≡ w * h → visit_at o w h image t.turns k
      ≡ (if goes_out o t.largest a then put_out k (queue_at o w h image t.turns).now else (queue_at o w h image t.turns).now)
  visit-whole low e = visit-isolated low (whole-alone o w h (area (cluster s k)) k s (going moment) (some-pixels moment) refl (sym X.chosen.count ∙ e))

  -- ---- the scan

  pub visit-scans : marks ≤ t.turns → Scannable L K B M w h k (t.turns + 1)
  visit-scans l = scannable moment X.carried.rep X.table_fits M X.carried.marks-long (t.turns + 1) (λ j. omega (arith, X.carried.marked j))

  pub scanned : (M' : List ℕ) → length M' ≡ length M → ((j : ℕ) → get_or M' j 0 ≤ t.turns + 1) → Visiting o w h image t₀ L K B E H Q M' S n t k a (t.turns + 1)
  scanned M' e low = record {
    table_fits = X.table_fits;
    chosen = X.chosen;
    carried = carried-marks X.carried M' e (t.turns + 1) low;
    top = X.top;
  }

  module _ (near : Nearest) (found : near ≡ nearest_of (diff_at B k) (labels_around w h L k (list_at K B k) [])) (low : a ≤ o.hierarchical) where
    pub aims : 0 < near.count → Aimed o w h image t.turns k near
    aims z = record { low = omega (arith, X.chosen.count); nearest = found ∙ nearest-is moment X.carried.rep X.table_fits; some = z }

    -- no neighbour was found
    pub visit-alone : near.count ≡ 0 → visit_at o w h image t.turns k
        ≡ (if goes_out o t.largest a then put_out k (queue_at o w h image t.turns).now else (queue_at o w h image t.turns).now)
    visit-alone z = visit-isolated low (none-near (rank s k) (neighbours w h s k) (ap (λ r. r.count) (sym (found ∙ nearest-is moment X.carried.rep X.table_fits)) ∙ z))

  -- ---- the target

  module _ {near : Nearest} (D : Aimed o w h image t.turns k near) where
    abbrev to : ℕ
    to = near.target

    aim : Goes o w h (queue_at o w h image t.turns).now k near
    aim = goes o w h s k near D.nearest D.some

    inside : near.target < length (queue_at o w h image t.turns).now.clusters
    inside = target-slot moment to aim.near-to

    apart : k ≡ near.target → ⊥
    apart = visits.k≢t (area (cluster s k)) k s (going moment) (some-pixels moment) refl to aim.near-to

    -- the test for deepening, as code makes it
    pub deepens-told : {x y : Bool} → x ≡ deepens_at o image L K w h k (list_in B k) near.diff → x ≡ y → deepens o w h (queue_at o w h image t.turns).now k near.target ≡ y
    deepens-told p r = sym (deepens-is moment X.carried.rep X.table_fits to near.diff aim.differs) ∙ sym p ∙ r

    pub deepens-reads : Readable (w * h) K (list_in B k)
    deepens-reads = list-reads moment X.carried.rep X.table_fits

    pub diff-told : near.diff < 2147483648
    diff-told = omega (arith, aim.differs, diff-fits moment to)

    -- what the visit does
    goes_to : (b : Bool) → deepens o w h (queue_at o w h image t.turns).now k near.target ≡ b → visit_at o w h image t.turns k
        ≡ (if b then deepen_cluster_into (leb near.count o.hollow_neighbours) k near.target (queue_at o w h image t.turns).now else merge_cluster_into k near.target (queue_at o w h image t.turns).now)
    goes_to b e = visit-decides (omega (arith, D.low, X.chosen.count)) ∙ aim.decides (area (cluster s k)) ∙ ap (λ b. if b then deepen_cluster_into (leb near.count o.hollow_neighbours) k to s else merge_cluster_into k to s) e

    -- when the target has its new key
    moved : (u : State) → visit_at o w h image t.turns k ≡ u → Moved k near.target (queue_at o w h image t.turns).now u
        → rekey k (queue_at o w h image t.turns).now u (queue_at o w h image t.turns).keys ≡ set (set (queue_at o w h image t.turns).keys k 0) near.target (area (cluster u near.target))
        → largest u.clusters ≡ max (largest (queue_at o w h image t.turns).now.clusters) (area (cluster u near.target))
        → marks ≤ t.turns + 1 → {t₁ r : Turns} → t₁.turns ≡ t.turns → t₁.largest ≡ t.largest → {L' K' B' E' H' S' Q' : List ℕ} {n' : ℕ}
        → Carried (w * h) u (set (queue_at o w h image t.turns).keys k 0) t₀ L' K' B' E' H' Q M S' n t₁.m marks → n' ≡ n → length Q' ≡ length Q → Grown n near.target t₁ r B' Q Q'
        → Visited o w h image t₀ L' K' B' E' H' Q' M S' n' t r k
    moved u e N keys top l {t₁} {r} same most {L'} {K'} {B'} {E'} {H'} {S'} {Q'} C slots wide G = rw slots (record {
      carried = subst (λ v. Carried (w * h) v (rekey k s v q.keys) t₀ L' K' B' E' H' Q' M S' n r.m (t.turns + 1)) (sym e)
          (subst (λ y. Carried (w * h) u y t₀ L' K' B' E' H' Q' M S' n r.m (t.turns + 1)) (sym keys)
          (subst (λ y. Carried (w * h) u (set (set q.keys k 0) to (area (cluster u to))) t₀ L' K' B' E' H' Q' M S' n y.m (t.turns + 1)) (sym G.turns)
          (carried_later (carried-grown C few to held (omega (arith, count, some-pixels moment)) (omega (arith, count, moment.ranged.areas k, moment.ranged.areas to, I.small)) wide G) (t.turns + 1) l)));
      same = ap (λ y. y.turns) G.turns ∙ same;
      top = ap (λ y. y.largest) G.turns ∙ ap₂ max (most ∙ X.top) (count_at u C.rep.tabled to (omega (arith, held, C.slots))) ∙ sym top ∙ sym (ap (λ v. largest v.clusters) e);
    })
      where
        held : near.target < n
        held = omega (arith, inside, C.slots, N.table)

        few : n ≤ w * h + 1
        few = omega (arith, C.slots, N.table, moment.ranged.slots)

        count : area (cluster u near.target) ≡ area (cluster (queue_at o w h image t.turns).now near.target) + area (cluster (queue_at o w h image t.turns).now k)
        count = ap length N.t-pixels ∙ length-append (cluster s to).pixels (cluster s k).pixels

    -- what the key asks
    grow-asks : (u : State) → Moved k near.target (queue_at o w h image t.turns).now u → {keys L' K' B' E' H' S' : List ℕ} {n m : ℕ} → Carried (w * h) u keys t₀ L' K' B' E' H' Q M S' n m marks → CanGrow n near.target B' Q
    grow-asks u N C = can-grow C (omega (arith, C.slots, N.table, moment.ranged.slots)) to (omega (arith, inside, C.slots, N.table)) X.table_fits

    -- ---- a plain merge

    merges : Moved k near.target (queue_at o w h image t.turns).now (merge_cluster_into k near.target (queue_at o w h image t.turns).now)
    merges = merge-moved k to s apart moment.ready.picked.slot inside

    pub merge-asks : CanMerge k near.target L K B E
    merge-asks = can-merge moment to aim.near-to X.carried.rep X.table_fits

    module _ {L' K' B' E' : List ℕ} (N : Merged k near.target L K B E L' K' B' E') where
      carried-merged : Carried (w * h) (merge_cluster_into k near.target (queue_at o w h image t.turns).now) (set (queue_at o w h image t.turns).keys k 0) t₀ L' K' B' E' H Q M S n t.m marks
      unfolding merge_cluster_into
      carried-merged = carried-lists X.carried (merged-rep moment to aim.near-to X.carried.rep X.table_fits N) (merged-holes moment to aim.near-to X.carried.hole-ends) merges.table refl

      pub merged-grows : CanGrow n near.target B' Q
      merged-grows = grow-asks (merge_cluster_into k to s) merges carried-merged

      pub merged-visited : deepens o w h (queue_at o w h image t.turns).now k near.target ≡ false → marks ≤ t.turns + 1
          → {r : Turns} {Q' : List ℕ} {n' : ℕ} → n' ≡ n → length Q' ≡ length Q → Grown n near.target t r B' Q Q'
          → Visited o w h image t₀ L' K' B' E' H Q' M S n' t r k
      unfolding merge_cluster_into
      merged-visited e l slots wide G = moved (merge_cluster_into k to s) (goes_to false e) merges (rekey-moved k s (merge_cluster_into k to s) q.keys (plain k to) refl)
          (merge-largest (area (cluster s k)) k s (going moment) (some-pixels moment) refl to aim.near-to) l refl refl carried-merged slots wide G

    -- ---- a deepening merge

    digs : (b : Bool) → Moved k near.target (queue_at o w h image t.turns).now (deepen_cluster_into b k near.target (queue_at o w h image t.turns).now)
    digs b = deepen-moved k to s apart moment.ready.picked.slot inside b

    pub deepen-asks : CanDeepen k near.target L K B E
    deepen-asks = can-deepen moment to aim.near-to X.carried.rep X.table_fits

    module _ {t₁ : Turns} {S' : List ℕ} (P : Put true k t t₁ S S') where
      -- it is put out first
      out : Carried (w * h) (put_out k (queue_at o w h image t.turns).now) (set (queue_at o w h image t.turns).keys k 0) t₀ L K B E H Q M S' n t₁.m marks
      out =
          subst (λ x. Carried (w * h) (put_out k s) (set q.keys k 0) t₀ L K B E H Q M S' n x.m marks) (sym P.turns)
          (subst (λ x. Carried (w * h) (put_out k s) (set q.keys k 0) t₀ L K B E H Q M x n (t.m + 1) marks) (sym P.staged) (carried-put X.carried k can-put.few))

      module _ {L' K' B' E' : List ℕ} (N : Deepened k near.target L K B E L' K' B' E') where
        dug : Carried (w * h) (deepen_cluster_into false k near.target (queue_at o w h image t.turns).now) (set (queue_at o w h image t.turns).keys k 0) t₀ L' K' B' E' H Q M S' n t₁.m marks
        unfolding put_out deepen_cluster_into
        dug = carried-lists out (deepened-rep moment to aim.near-to X.carried.rep X.table_fits N) (deepened-holes moment to aim.near-to X.carried.hole-ends) (digs false).table refl

        dug-visited : (b : Bool) → leb near.count o.hollow_neighbours ≡ b → deepens o w h (queue_at o w h image t.turns).now k near.target ≡ true → marks ≤ t.turns + 1
            → {r : Turns} {B₂ H' Q' : List ℕ} {n' : ℕ}
            → Carried (w * h) (deepen_cluster_into b k near.target (queue_at o w h image t.turns).now) (set (queue_at o w h image t.turns).keys k 0) t₀ L' K' B₂ E' H' Q M S' n t₁.m marks
            → n' ≡ n → length Q' ≡ length Q → Grown n near.target t₁ r B₂ Q Q' → Visited o w h image t₀ L' K' B₂ E' H' Q' M S' n' t r k
        unfolding deepen_cluster_into
        dug-visited b z e l C slots wide G = moved (deepen_cluster_into b k to s) (goes_to true e ∙ ap (λ x. deepen_cluster_into x k to s) z) (digs b) (rekey-moved k s (deepen_cluster_into b k to s) q.keys (deepened k to) refl)
            (deepen-largest (area (cluster s k)) k s (going moment) (some-pixels moment) refl to aim.near-to b) l (ap (λ x. x.turns) P.turns) (ap (λ x. x.largest) P.turns) C slots wide G

        pub deepened-grows : CanGrow n near.target B' Q
        deepened-grows = grow-asks (deepen_cluster_into false k to s) (digs false) dug

        pub deepened-visited : leb near.count o.hollow_neighbours ≡ false → deepens o w h (queue_at o w h image t.turns).now k near.target ≡ true → marks ≤ t.turns + 1
            → {r : Turns} {Q' : List ℕ} {n' : ℕ} → n' ≡ n → length Q' ≡ length Q → Grown n near.target t₁ r B' Q Q'
            → Visited o w h image t₀ L' K' B' E' H Q' M S' n' t r k
        deepened-visited z e l slots wide G = dug-visited false z e l dug slots wide G

        -- and becomes a hole child
        pub hollow-asks : CanHollow k near.target B' H
        hollow-asks = can-hollow moment to aim.near-to dug.rep dug.hole-ends X.table_fits

        module _ {B₂ H' : List ℕ} (Z : Hollowed k near.target B' H B₂ H') where
          holed : Carried (w * h) (deepen_cluster_into true k near.target (queue_at o w h image t.turns).now) (set (queue_at o w h image t.turns).keys k 0) t₀ L' K' B₂ E' H' Q M S' n t₁.m marks
          unfolding deepen_cluster_into
          holed = carried-lists dug (hollowed-rep moment to aim.near-to dug.rep dug.hole-ends X.table_fits Z) (hollowed-holes moment to aim.near-to dug.rep dug.hole-ends X.table_fits Z) ((digs true).table ∙ sym (digs false).table) refl

          pub hollowed-grows : CanGrow n near.target B₂ Q
          hollowed-grows = grow-asks (deepen_cluster_into true k to s) (digs true) holed

          pub hollowed-visited : leb near.count o.hollow_neighbours ≡ true → deepens o w h (queue_at o w h image t.turns).now k near.target ≡ true → marks ≤ t.turns + 1
              → {r : Turns} {Q' : List ℕ} {n' : ℕ} → n' ≡ n → length Q' ≡ length Q → Grown n near.target t₁ r B₂ Q Q'
              → Visited o w h image t₀ L' K' B₂ E' H' Q' M S' n' t r k
          hollowed-visited z e l slots wide G = dug-visited true z e l holed slots wide G
