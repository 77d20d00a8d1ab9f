-- Every number of a run is in its range, at every moment, before every turn, and at the end.
use Rattle.std.specs.Prelude.{if◌then◌else◌}
use mathlib.Core.Path.{◌≡◌, refl, sym, ap, ◌∙◌, subst}
use mathlib.Core.Logic.{◌≢◌}
use mathlib.Core.Bool.{Bool, true, false, ◌||◌}
use mathlib.Core.List.{List, [], ◌∷◌, ◌++◌}
use Prim.Native.Nat.{ℕ, suc, ◌+◌, ◌*◌, ◌≤◌, ◌<◌}
use native.Mathlib.Decide.{ℕ_discrete}
use native.Mathlib.Omega.{arith}
use borrow.Author.Tests.{le-ltb}
use lib.Dec.{T, eqb, ltb, eqb→eq}
use lib.ListN.{length, get_or, length-append, length-map}
use Rattle.rules.specs.Base.{keep}
use Rattle.rules.specs.Color.{RunnerConfig, ColorSum, sum_of_one, ◌⊕◌, pixel, keying_on}
use Rattle.rules.specs.State.{State, Cluster, cluster, label, area, emptied, with_cluster, merged_to, deeper, with_residue, put_out, merge_cluster_into, deepen_cluster_into}
use Rattle.rules.specs.Stage2.{visit, prepare_stage2}
use Rattle.rules.specs.Run.{stage1, stage2, run, drop_empty}
use Rattle.rules.specs.Layout.{after, first_of, link}
use Rattle.rules.specs.Refusals.{largest_total, sum_answer}
use Rattle.rules.specs.Ledger.{Held, ledger}
use Rattle.rules.specs.Claim.{bit, occurs, tally, count_of, Stands}
use Rattle.rules.specs.Moments.{moments, Every}
use Rattle.rules.specs.Code.Order.{start, turns}
use Rattle.rules.specs.Code.Ranges.{Fits, OnImage, AllBelow, Ranged}
use Rattle.rules.specs.Demand3.{Discarded, Agrees}
use Rattle.rules.proofs.Facts.{bit-T, eqb_yes, count_of-le, tally-or, tally-one, count_of-bound}
use Rattle.rules.proofs.Basic.{Moved, plain-to, plain-up, some-held, moved-every}
use Rattle.rules.proofs.Sound.{Sound}
use Rattle.rules.proofs.Visits.{Going, Near, visit-cases, isolated-cases, stands, k≢t, t-slot, target-stands, merge-going, merge-changes, deepen-changes, merge-from, deepen-from, merge-to, deepen-to}
use Rattle.rules.proofs.Early.{settled, flats-apart}
use Rattle.rules.proofs.Whole.{early}
use Rattle.rules.proofs.Outputs.{area-le}
use Rattle.rules.proofs.Pictures.{tally-count, tally-bytes}
use Rattle.rules.proofs.Bounds.{Bounded, rooted, waiting, root-out, stood, merge-fewer, deepen-fewer}
use Rattle.rules.proofs.Moments.{Between, moments-keep, stage2-keep, each_map}
use Rattle.rules.proofs.Order.{turns-keep, start-turning}
use Rattle.rules.proofs.Slots.{stage1-slots, both-rects, no-rect}
use Rattle.rules.specs.Code.Bounds.{capacity}
use Rattle.rules.specs.Code.Early.{Basic, owned, standing, Early}

-- ---- lists

below-snoc : (n k : ℕ) (xs : List ℕ) → AllBelow n xs → k < n → AllBelow n (xs ++ (k ∷ []))
below-snoc n k [] b l = (l, tt)
below-snoc n k (x ∷ xs) b l = (b.0, below-snoc n k xs b.1 l)

below-keep : (n : ℕ) (f : ℕ → Bool) (xs : List ℕ) → AllBelow n xs → AllBelow n (keep f xs)
below-keep n f [] b = tt
below-keep n f (x ∷ xs) b = go (f x) (below-keep n f xs b.1)
  where
    go : (c : Bool) → AllBelow n (keep f xs) → AllBelow n (if c then x ∷ keep f xs else keep f xs)
    go true r = (b.0, r)
    go false r = r

begins-le : (n : ℕ) (xs : List ℕ) → AllBelow n xs → first_of xs ≤ n
unfolding first_of
begins-le n [] b = omega arith
begins-le n (x ∷ xs) b = b.0

after-le : (n p : ℕ) (xs : List ℕ) → AllBelow n xs → after p xs ≤ n
unfolding after
after-le n p [] b = omega arith
after-le n p (x ∷ []) b = omega arith
after-le n p (x ∷ y ∷ ys) b = go (eqb p x) (after-le n p (y ∷ ys) b.1)
  where
    go : (c : Bool) → after p (y ∷ ys) ≤ n → (if c then suc y else after p (y ∷ ys)) ≤ n
    go true l = b.1.0
    go false l = l

pub occurs-below : (n : ℕ) (xs : List ℕ) → ((p : ℕ) → occurs p xs ≢ 0 → p < n) → AllBelow n xs
occurs-below n [] f = tt
occurs-below n (x ∷ xs) f = (f x (λ z. let e : bit (eqb x x) ≡ 1 = ap bit (eqb_yes x x refl) in omega arith), occurs-below n xs (λ p d. f p (λ z. d (omega arith))))

pub pixels-below : {o : RunnerConfig} {w h : ℕ} {image : List ℕ} {held : Held} (s : State) → Agrees o w h image held s → (k : ℕ) → AllBelow (w * h) (cluster s k).pixels
pixels-below {w} {h} {held} s A k = occurs-below (w * h) (cluster s k).pixels (λ p z. (A.view.placed k p (bit-T (held k p) (λ y. z (A.view.lists k p ∙ y)))).0)

-- ---- what is not told by the ledger, kept by every visit

module _ (image : List ℕ) (bytes : (i : ℕ) → get_or image i 0 ≤ 255) where
  tally-fits : (f : ℕ → Bool) (size : ℕ) → Fits size (tally image f size)
  tally-fits f size =
      let t = tally-bytes image bytes f size in
      let c = tally-count image f size in
      record { count = omega (arith, c, count_of-bound f size); r = omega (arith, c, t.0); g = omega (arith, c, t.1); b = omega (arith, c, t.2); a = omega (arith, c, t.3) }

  -- every sum of a state that agrees with a ledger: in stage 1 too, after every join and every pixel (Early)
  pub sum_fits : {size : ℕ} {h : Held} {s : State} → Basic image size h s → (k : ℕ) → Fits size (cluster s k).sum
  sum_fits {size} {h} {s} C k = subst (Fits size) (sym (C.sums k)) (tally-fits (h k) size)

  residue-fits : {size : ℕ} {h O : Held} {s : State} → Sound image size h O s → (k : ℕ) → Stands h k → Fits size (cluster s k).residue
  residue-fits {size} {h} {O} {s} S k z = subst (Fits size) (sym (S.residues k z)) (tally-fits (O k) size)

  module _ (w h n : ℕ) where
    record Inner (s : State) : Type 0 where
      table : length s.clusters ≡ n
      rects : (k : ℕ) → OnImage w h (cluster s k).rect
      residues : (k : ℕ) → Fits (w * h) (cluster s k).residue
      into : (k : ℕ) → (cluster s k).merged_into < n
      -- each deepening takes a root
      depths : (k : ℕ) → (cluster s k).depth + count_of (rooted s) n ≤ w * h
      holes : (k : ℕ) → length (cluster s k).holes ≤ (cluster s k).depth
      children : (k : ℕ) → AllBelow n (cluster s k).holes
      outputs : AllBelow n s.outputs

    put-inner : (k : ℕ) (s : State) → k < n → Inner s → Inner (put_out k s)
    unfolding put_out rooted
    put-inner k s l I = record { table = I.table; rects = I.rects; residues = I.residues; into = I.into; depths = I.depths; holes = I.holes; children = I.children; outputs = below-snoc n k s.outputs I.outputs l }

    module _ (a k : ℕ) (s : State) (G : Going image (w * h) a k s) (I : Inner s) (pos : 0 < a) (e : area (cluster s k) ≡ a) where
      fits : k < n
      fits = subst (λ m. k < m) I.table (G.sound.basic.slots k (get_or (cluster s k).pixels 0 0) (stands a k s G pos e))

      B : Bounded (length s.outputs + count_of (waiting a k s) n + count_of (rooted s) n) n a k s
      B = record { total = omega arith; table = I.table }

      module _ (t : ℕ) (N : Near s (label s (get_or (cluster s k).pixels 0 0)) t) where
        merge-inner : Inner (merge_cluster_into k t s)
        unfolding merge_cluster_into with_residue with_cluster emptied
        merge-inner = record {
          table = M.table ∙ I.table;
          rects = every (λ c. OnImage w h c.rect) (no-rect w h) (both-rects w h (cluster s t).rect (cluster s k).rect (I.rects t) (I.rects k)) I.rects;
          residues = every (λ c. Fits (w * h) c.residue) (I.residues k)
              (subst (λ c. Fits (w * h) c.residue) (merge-to a k s G pos e t N)
              (residue-fits (merge-going a k s G pos e t N).sound t (first, plain-to (ledger s.log) k t (k≢t a k s G pos e t N) first (stands a k s G pos e))))
              I.residues;
          into = every (λ c. c.merged_into < n) (I.into k) (I.into t) I.into;
          depths = every (λ c. c.depth + count_of (rooted (merge_cluster_into k t s)) n ≤ w * h) (fewer k) (fewer t) fewer;
          holes = every (λ c. length c.holes ≤ c.depth) (I.holes k) (I.holes t) I.holes;
          children = every (λ c. AllBelow n c.holes) (I.children k) (I.children t) I.children;
          outputs = I.outputs;
        }
          where
            first : ℕ
            first = get_or (cluster s k).pixels 0 0

            M : Moved k t s (merge_cluster_into k t s)
            M = merge-changes a k s G pos e t N

            every : (P : Cluster → Type 0) → P (emptied (cluster s k)) → P (with_residue ((cluster s t).residue ⊕ (cluster s k).residue) (with_cluster (cluster s k) (cluster s t)))
                → ((j : ℕ) → P (cluster s j)) → (j : ℕ) → P (cluster (merge_cluster_into k t s) j)
            every = moved-every M (merge-from a k s G pos e t N) (merge-to a k s G pos e t N)

            fewer : (j : ℕ) → (cluster s j).depth + count_of (rooted (merge_cluster_into k t s)) n ≤ w * h
            fewer j = omega (arith, I.depths j, (merge-fewer a k s G B pos e fits t N).0)

        deepen-inner : (b : Bool) → Inner (deepen_cluster_into b k t s)
        unfolding deepen_cluster_into merged_to with_cluster deeper
        deepen-inner b = record {
          table = M.table ∙ I.table;
          rects = every (λ c. OnImage w h c.rect) (I.rects k) (both-rects w h (cluster s t).rect (cluster s k).rect (I.rects t) (I.rects k)) I.rects;
          residues = every (λ c. Fits (w * h) c.residue) (I.residues k) (I.residues t) I.residues;
          into = every (λ c. c.merged_into < n) (subst (λ m. t < m) I.table (t-slot a k s G pos e t N)) (I.into t) I.into;
          depths = every (λ c. c.depth + count_of (rooted (deepen_cluster_into b k t s)) n ≤ w * h) (omega (arith, fewer k)) (omega (arith, I.depths t, less)) (λ j. omega (arith, fewer j));
          holes = every (λ c. length c.holes ≤ c.depth) (I.holes k) (more b) I.holes;
          children = every (λ c. AllBelow n c.holes) (I.children k) (sum_of_one b) I.children;
          outputs = below-snoc n k s.outputs I.outputs fits;
        }
          where
            M : Moved k t s (deepen_cluster_into b k t s)
            M = deepen-changes a k s G pos e t N b

            every : (P : Cluster → Type 0) → P (merged_to t (cluster s k)) → P (deeper b k (with_cluster (cluster s k) (cluster s t)))
                → ((j : ℕ) → P (cluster s j)) → (j : ℕ) → P (cluster (deepen_cluster_into b k t s) j)
            every = moved-every M (deepen-from a k s G pos e t N b) (deepen-to a k s G pos e t N b)

            less : count_of (rooted (deepen_cluster_into b k t s)) n < count_of (rooted s) n
            less = (deepen-fewer a k s G B pos e fits t N b).0

            fewer : (j : ℕ) → (cluster s j).depth + count_of (rooted (deepen_cluster_into b k t s)) n ≤ w * h
            fewer j = omega (arith, I.depths j, less)

            more : (y : Bool) → length (if y then (cluster s t).holes ++ (k ∷ []) else (cluster s t).holes) ≤ (cluster s t).depth + 1
            more true = omega (arith, length-append (cluster s t).holes (k ∷ []), I.holes t)
            more false = omega (arith, I.holes t)

            sum_of_one : (y : Bool) → AllBelow n (if y then (cluster s t).holes ++ (k ∷ []) else (cluster s t).holes)
            sum_of_one true = below-snoc n k (cluster s t).holes (I.children t) fits
            sum_of_one false = I.children t

    visit-inner : (o : RunnerConfig) (a k : ℕ) (s : State) → Going image (w * h) a k s → 0 < a → area (cluster s k) ≡ a → Inner s → Inner (visit o w h a k s)
    visit-inner o a k s G pos e I =
        visit-cases o w h a k s Inner (λ x. I) (λ z l. put-inner k s (fits a k s G I pos e) I) (λ z l y. isolated-cases o w h a k s Inner (put-inner k s (fits a k s G I pos e) I) I)
        (λ z l t N. merge-inner a k s G I pos e t N) (λ z l t N b. deepen-inner a k s G I pos e t N b)

    -- with the ledger, all ranges
    ranged : (s : State) → Sound image (w * h) (ledger s.log) (owned s.log) s → 0 < n → n ≤ w * h + 1 → Inner s → Ranged w h s
    unfolding link
    ranged s S pos few I = record {
      slots = omega (arith, I.table);
      labels = λ p. elim (ℕ_discrete (label s p) 0) [ yes z ↦ omega (arith, I.table) | no z ↦ C.slots (label s p) p (C.shown p z) ];
      links = λ p. after-le (w * h) p (cluster s (label s p)).pixels (pixels (label s p));
      firsts = λ k. begins-le (w * h) (cluster s k).pixels (pixels k);
      areas = area-le C;
      rects = I.rects;
      sums = sum_fits C;
      residues = I.residues;
      into = λ k. subst (λ m. (cluster s k).merged_into < m) (sym I.table) (I.into k);
      depths = λ k. omega (arith, I.depths k);
      holes = λ k. omega (arith, I.depths k, I.holes k);
      children = kids;
      first_child = λ k. begins-le (length s.clusters) (cluster s k).holes (kids k);
      next_child = λ k. after-le (length s.clusters) k (cluster s (cluster s k).merged_into).holes (kids (cluster s k).merged_into);
      outputs = subst (λ m. AllBelow m s.outputs) (sym I.table) I.outputs;
    }
      where
        C : Basic image (w * h) (ledger s.log) s
        C = S.basic

        kids : (k : ℕ) → AllBelow (length s.clusters) (cluster s k).holes
        kids k = subst (λ m. AllBelow m (cluster s k).holes) (sym I.table) (I.children k)

        pixels : (k : ℕ) → AllBelow (w * h) (cluster s k).pixels
        pixels k = occurs-below (w * h) (cluster s k).pixels (λ p z. subst (λ m. p < m) C.width (C.places k p (some-held C k p z)))

  module _ (o : RunnerConfig) (w h : ℕ) where
    start-inner : Inner w h (length (stage1 o w h image).clusters) (prepare_stage2 (stage1 o w h image))
    unfolding prepare_stage2 with_residue
    start-inner = record {
      table = length-map (stage1 o w h image).clusters (λ c. with_residue c.sum c);
      rects = λ k. subst (λ c. OnImage w h c.rect) (sym (settled s k)) (stage1-slots o w h image k).rect;
      residues = λ k. subst (λ c. Fits (w * h) c.residue) (sym (settled s k)) (subst (Fits (w * h)) (sym (E.basic.sums k)) (tally-fits (ledger s.log k) (w * h)));
      into = λ k. omega (arith, ap (λ c. c.merged_into) (settled s k), E.roots k, E.room, E.some);
      depths = λ k. omega (
        arith,
        ap (λ c. c.depth) (settled s k),
        (stage1-slots o w h image k).depth,
        count_of-le (rooted (prepare_stage2 s)) (standing s) (λ j x. stood s j (root-out (prepare_stage2 s) j x)) n,
        E.few n (omega arith),
      );
      holes = λ k. omega (arith, ap (λ c. length c.holes) (settled s k), ap length (stage1-slots o w h image k).holes);
      children = λ k. subst (λ c. AllBelow n c.holes) (sym (settled s k)) (subst (AllBelow n) (sym (stage1-slots o w h image k).holes) tt);
      outputs = subst (AllBelow n) (sym E.quiet) tt;
    }
      where
        s : State
        s = stage1 o w h image

        n : ℕ
        n = length s.clusters

        E : Early image (w * h) (Discarded o image) (T (keying_on o)) (w * h) s
        E = early o w h image

    some-slots : 0 < length (stage1 o w h image).clusters
    some-slots = omega (arith, (early o w h image).room, (early o w h image).some)

    few-slots : length (stage1 o w h image).clusters ≤ w * h + 1
    few-slots = omega (arith, (early o w h image).short)

    -- at every moment
    pub moments-ranged : Every (Ranged w h) (moments o w h image)
    moments-ranged = each_map (λ u. Between image (w * h) u × Inner w h (length (stage1 o w h image).clusters) u) (Ranged w h) (moments o w h image)
        (λ u x. ranged w h (length (stage1 o w h image).clusters) u x.0.2.sound some-slots few-slots x.1)
        (moments-keep o w h image (Inner w h (length (stage1 o w h image).clusters)) (visit-inner w h (length (stage1 o w h image).clusters) o) start-inner)

    -- before and after every turn
    pub turns-ranged : (m : ℕ) → Ranged w h (turns o w h m (start (prepare_stage2 (stage1 o w h image)))).now
    unfolding start
    turns-ranged m =
        let R = turns-keep o w h (Inner w h (length (stage1 o w h image).clusters)) (visit-inner w h (length (stage1 o w h image).clusters) o) (start (prepare_stage2 (stage1 o w h image))) (start-turning o w h image, start-inner) m in
        ranged w h (length (stage1 o w h image).clusters) (turns o w h m (start (prepare_stage2 (stage1 o w h image)))).now R.0.going.sound some-slots few-slots R.1

    drop_empty-ranged : (s : State) → Ranged w h s → Ranged w h (drop_empty s)
    unfolding drop_empty link
    drop_empty-ranged s A = record {
      slots = A.slots;
      labels = A.labels;
      links = A.links;
      firsts = A.firsts;
      areas = A.areas;
      rects = A.rects;
      sums = A.sums;
      residues = A.residues;
      into = A.into;
      depths = A.depths;
      holes = A.holes;
      children = A.children;
      first_child = A.first_child;
      next_child = A.next_child;
      outputs = below-keep (length s.clusters) (λ k. ltb 0 (cluster s k).sum.count) s.outputs A.outputs;
    }

    -- as the run returns them
    pub run-ranged : Ranged w h (run o w h image)
    unfolding run
    run-ranged =
        let R = stage2-keep o w h image (Inner w h (length (stage1 o w h image).clusters)) (visit-inner w h (length (stage1 o w h image).clusters) o) start-inner in
        drop_empty-ranged (stage2 o w h (stage1 o w h image)) (ranged w h (length (stage1 o w h image).clusters) (stage2 o w h (stage1 o w h image)) R.0.sound some-slots few-slots R.1)

-- no total of up to 2^20 pixels passes 2^32 - 1
pub fits-total : (size : ℕ) (x : ColorSum) → size ≤ capacity → Fits size x
    → (x.r ≤ largest_total) × (x.g ≤ largest_total) × (x.b ≤ largest_total) × (x.a ≤ largest_total) × (x.count ≤ largest_total)
fits-total size x l F = (omega (arith, F.r, F.count), omega (arith, F.g, F.count), omega (arith, F.b, F.count), omega (arith, F.a, F.count), omega (arith, F.count))

-- an addition whose totals do not pass that is not refused
pub totals-taken : (x y : ColorSum) → x.r + y.r ≤ largest_total → x.g + y.g ≤ largest_total → x.b + y.b ≤ largest_total → x.a + y.a ≤ largest_total → x.count + y.count ≤ largest_total
    → sum_answer x y ≡ 0
unfolding sum_answer ◌⊕◌
totals-taken x y r g b a n =
    rw (le-ltb _ (x.r + y.r) r, le-ltb _ (x.g + y.g) g, le-ltb _ (x.b + y.b) b, le-ltb _ (x.a + y.a) a, le-ltb _ (x.count + y.count) n)

-- so refusal 7 is never met where what is left is such a total
pub never-seven : (size : ℕ) (x y : ColorSum) → size ≤ capacity → Fits size (x ⊕ y) → sum_answer x y ≡ 0
unfolding ◌⊕◌
never-seven size x y l F =
    let t = fits-total size (x ⊕ y) l F in
    totals-taken x y t.0 t.1 t.2 t.3 t.4

-- No addition of a run meets refusal 7: not that of a pixel or the merge of two clusters in stage 1 (Early holds after every pixel: `early-at`), not the merge of
-- two sums in stage 2, nor of two residues (Going holds before every visit).
module _ (image : List ℕ) (bytes : (i : ℕ) → get_or image i 0 ≤ 255) {size : ℕ} (few : size ≤ capacity) where
  module _ {Gone : ℕ → Type 0} {Keyed : Type 0} (i : ℕ) (s : State) (E : Early image size Gone Keyed i s) where
    pub add-never-seven : (k : ℕ) → i < size → sum_answer (cluster s k).sum (sum_of_one (pixel image i)) ≡ 0
    add-never-seven k l = never-seven size (cluster s k).sum (sum_of_one (pixel image i)) few (subst (Fits size) total (tally-fits image bytes (λ q. ledger s.log k q || eqb q i) size))
      where
        apart : (p : ℕ) → T (ledger s.log k p) → T (eqb p i) → ⊥
        apart p a b = let y : p ≡ i = eqb→eq p i b in omega (arith, E.before k p a)

        total : tally image (λ q. ledger s.log k q || eqb q i) size ≡ (cluster s k).sum ⊕ sum_of_one (pixel image i)
        total =
            tally-or image (ledger s.log k) (λ q. eqb q i) apart size ∙ ap (λ x. x ⊕ tally image (λ q. eqb q i) size) (sym (E.basic.sums k))
            ∙ ap (λ y. (cluster s k).sum ⊕ y) (tally-one image i size l)

    pub combine-never-seven : (f t : ℕ) → f ≢ t → sum_answer (cluster s t).sum (cluster s f).sum ≡ 0
    combine-never-seven f t n = never-seven size (cluster s t).sum (cluster s f).sum few (subst (Fits size) total (tally-fits image bytes (λ q. ledger s.log t q || ledger s.log f q) size))
      where
        total : tally image (λ q. ledger s.log t q || ledger s.log f q) size ≡ (cluster s t).sum ⊕ (cluster s f).sum
        total =
            tally-or image (ledger s.log t) (ledger s.log f) (flats-apart E f t n) size ∙ ap (λ x. x ⊕ tally image (ledger s.log f) size) (sym (E.basic.sums t))
            ∙ ap (λ y. (cluster s t).sum ⊕ y) (sym (E.basic.sums f))

  pub merge-never-seven : (a k : ℕ) (s : State) → Going image size a k s → 0 < a → area (cluster s k) ≡ a → (t : ℕ) → Near s (label s (get_or (cluster s k).pixels 0 0)) t
      → (sum_answer (cluster s t).sum (cluster s k).sum ≡ 0) × (sum_answer (cluster s t).residue (cluster s k).residue ≡ 0)
  unfolding merge_cluster_into with_residue
  merge-never-seven a k s G pos e t N =
      let S = (merge-going a k s G pos e t N).sound in
      let z = target-stands a k s G pos e t N in (
        never-seven size (cluster s t).sum (cluster s k).sum few (subst (Fits size) (merge-changes a k s G pos e t N).t-sum (sum_fits image bytes S.basic t)),
        never-seven size (cluster s t).residue (cluster s k).residue few (subst (Fits size) (ap (λ c. c.residue) (merge-to a k s G pos e t N)) (residue-fits image bytes S t (stood z))),
      )
    where
      stood : Stands (ledger s.log) t → Stands (ledger (merge_cluster_into k t s).log) t
      stood z = (z.0, plain-up (ledger s.log) k t (k≢t a k s G pos e t N) t z.0 (λ y. k≢t a k s G pos e t N (sym y)) z.1)
