-- The merges of stage 2 in the buffers: what they ask is there, and what they leave holds the state of the rules.
use Rattle.std.specs.Prelude.{if◌then◌else◌}
use mathlib.Core.Path.{◌≡◌, refl, sym, ap, ap₂, ◌∙◌, subst}
use mathlib.Core.Bool.{true, false}
use mathlib.Core.List.{List}
use Prim.Native.Nat.{ℕ, ◌+◌, ◌*◌, ◌≤◌, ◌<◌}
use native.Mathlib.Omega.{arith}
use lib.Dec.{T, eqb}
use lib.ListN.{length, get_or, set}
use Rattle.rules.specs.Color.{RunnerConfig, ColorSum, ◌⊕◌}
use Rattle.rules.specs.State.{State, cluster, label, area, relabel, with_cluster, merge_cluster_into, deepen_cluster_into}
use Rattle.rules.specs.Layout.{first_of, walk, slot_width, merged_into_place, depth_place, num_holes_place}
use Rattle.rules.specs.Paint.{reads}
use Rattle.rules.specs.Code.Order.{Queue}
use Rattle.rules.specs.Code.Ranges.{Fits}
use Rattle.rules.proofs.Facts.{eqb_no}
use Rattle.rules.proofs.Visits.{Near}
use Rattle.rules.proofs.Visits as visits
use Rattle.rules.proofs.Holes.{merge-same-holes, deepen-holes, deepen-t-holes}
use Rattle.rules.specs.Code.Bounds.{count_bound, capacity}
use Rattle.color.specs.Colors.{sum_of}
use Rattle.runner.specs.declared.slot.Head.{Head}
use Rattle.runner.specs.Code.Slots.{Adds, head_at, head_of, saved_head, residue_at, saved_residue}
use Rattle.runner.specs.Code.Rep.{Rep, HoleEnds, link_after}
use Rattle.runner.specs.Code.Ops.{Open, CanAppend, CanMerge, Merged, CanDeepen, Deepened, CanHollow, Hollowed}
use Rattle.runner.proofs.Ops.{residue-head}
use Rattle.runner.proofs.Tables.{head-at, residue-at, depth-at, holes-at}
use Rattle.runner.proofs.RepReads.{root-chain, rep-reads, rep-walk, rep-tail, rep-labels-length, rep-links-length}
use Rattle.runner.proofs.RepStage2.{holes-same, deepen-same-holes, rep-merge, rep-deepen}
use Rattle.runner.proofs.RepHollow.{hole-tail-fits, rep-hollow, hole-ends-hollow}
use Rattle.runner.proofs.Moment.{At, going, some-pixels, slot-fits}
use Rattle.runner.proofs.Stage1Laws.{rep-is}

-- the totals of two clusters of an image fit
adds : (size : ℕ) → size ≤ capacity → (x y : ColorSum) → Fits size x → Fits size y → Adds x y
adds size l x y F G = record {
  r = omega (arith, F.r, F.count, G.r, G.count);
  g = omega (arith, F.g, F.count, G.g, G.count);
  b = omega (arith, F.b, F.count, G.b, G.count);
  a = omega (arith, F.a, F.count, G.a, G.count);
  count = omega (arith, F.count, G.count);
}

module _ {o : RunnerConfig} {w h : ℕ} {image : List ℕ} {q : Queue} {k : ℕ} (A : At o w h image q k) (t : ℕ) (N : Near q.now (label q.now (get_or (cluster q.now k).pixels 0 0)) t) where
  abbrev s : State
  s = q.now

  abbrev a : ℕ
  a = area (cluster q.now k)

  pub target-slot : t < length q.now.clusters
  target-slot = visits.t-slot a k s (going A) (some-pixels A) refl t N

  own-slot : k < length q.now.clusters
  own-slot = A.ready.picked.slot

  all_fit : (n : ℕ) → slot_width * (w * h + 1) ≤ n → slot_width * length q.now.clusters ≤ n
  all_fit n l = omega (arith, A.ranged.slots)

  module _ {t₀ L K B E : List ℕ} (R : Rep (w * h) q.now t₀ L K B E) (fits : slot_width * (w * h + 1) ≤ length t₀) where
    head : (j : ℕ) → j < length q.now.clusters → head_at B j ≡ head_of (cluster q.now j)
    head j l = head-at s R.tabled j l

    open-slot : (j : ℕ) → j < length q.now.clusters → (cluster q.now j).merged_into ≡ 0 → Open j K B E
    open-slot j l r = record {
      slot = slot-fits A R fits j l;
      end = omega (arith, R.room, A.ranged.slots);
      count = subst (λ x. x.count < count_bound) (sym (head j l)) (omega (arith, A.ranged.areas j, A.image-fits.small));
      tail = subst (λ x. 0 < x.count → (0 < get_or E j 0) × (get_or E j 0 ≤ length K)) (sym (head j l))
          (λ z. let y = rep-tail (going A).sound.basic R j z r in (y.0, omega (arith, y.1, rep-links-length (going A).sound.basic R)));
    }

    can-append : CanAppend k t L K B E
    can-append = record {
      from = open-slot k own-slot A.ready.root;
      to = open-slot t target-slot (visits.target-root a k s (going A) (some-pixels A) refl t N);
      list = record {
        links = omega (arith, rep-labels-length (going A).sound.basic R, rep-links-length (going A).sound.basic R);
        small = omega (arith, rep-labels-length (going A).sound.basic R, A.image-fits.small);
        readable = subst (λ x. T (reads (length L) K x.first x.count)) (sym (head k own-slot))
            (subst (λ n. T (reads n K (first_of (cluster s k).pixels) a)) (sym (rep-labels-length (going A).sound.basic R)) (rep-reads (going A).sound.basic R k (root-chain (going A).sound k A.ready.root)));
      };
      sum = subst (λ x. Adds (sum_of x.sum) (sum_of (head_at B k).sum)) (sym (head t target-slot))
          (subst (λ x. Adds (cluster s t).sum (sum_of x.sum)) (sym (head k own-slot)) (adds (w * h) A.image-fits.small (cluster s t).sum (cluster s k).sum (A.ranged.sums t) (A.ranged.sums k)));
    }

    pub can-merge : CanMerge k t L K B E
    can-merge = record {
      append = can-append;
      residue = subst (λ x. Adds x (sum_of (residue_at B k))) (sym (residue-at s R.tabled t target-slot))
          (subst (Adds (cluster s t).residue) (sym (residue-at s R.tabled k own-slot)) (adds (w * h) A.image-fits.small (cluster s t).residue (cluster s k).residue (A.ranged.residues t) (A.ranged.residues k)));
    }

    pub can-deepen : CanDeepen k t L K B E
    can-deepen = record { append = can-append; depth = omega (arith, depth-at s R.tabled t target-slot, A.ranged.depths t, A.image-fits.small) }

    -- what both merges write, with the heads that they read
    module _ (x : Head) (e : x ≡ head_of (cluster q.now k)) where
      relabels : relabel t (walk (λ p. get_or K p 0) x.first x.count) L ≡ relabel t (cluster q.now k).pixels L
      relabels = ap (λ y. relabel t (walk (λ p. get_or K p 0) y.first y.count) L) e ∙ ap (λ ps. relabel t ps L) (rep-walk (going A).sound.basic R k (root-chain (going A).sound k A.ready.root))

      ends_there : (if eqb x.count 0 then E else set E t (get_or E k 0)) ≡ set E t (get_or E k 0)
      ends_there = ap (λ y. if eqb y.count 0 then E else set E t (get_or E k 0)) e ∙ ap (λ b. if b then E else set E t (get_or E k 0)) (eqb_no a 0 (λ z. omega (arith, some-pixels A)))

      relinks : (y : Head) → y ≡ head_of (cluster q.now t) → link_after K y.count (get_or E t 0) x.first ≡ link_after K (area (cluster q.now t)) (get_or E t 0) (first_of (cluster q.now k).pixels)
      relinks y d = ap₂ (λ u v. link_after K v.count (get_or E t 0) u.first) e d

    pub merged-rep : {L' K' B' E' : List ℕ} → Merged k t L K B E L' K' B' E' → Rep (w * h) (merge_cluster_into k t q.now) t₀ L' K' B' E'
    merged-rep {L'} {K'} {B'} {E'} M =
        rep-is (M.combined.labels ∙ relabels x e) (M.combined.links ∙ relinks x e y d) (M.combined.table (cluster s t) (cluster s k) d e) (M.combined.ends ∙ ends_there x e)
        (rep-merge a k s (going A) (some-pixels A) refl t N R A.ranged.slots (all_fit (length t₀) fits) M.r (M.residue ∙ ap₂ ◌⊕◌ (residue-at s R.tabled t target-slot) (residue-at s R.tabled k own-slot)))
      where
        x : Head
        x = head_at (saved_residue B t M.r) k

        y : Head
        y = head_at (saved_residue B t M.r) t

        e : head_at (saved_residue B t M.r) k ≡ head_of (cluster q.now k)
        e = residue-head B t M.r k ∙ head k own-slot

        d : head_at (saved_residue B t M.r) t ≡ head_of (cluster q.now t)
        d = residue-head B t M.r t ∙ head t target-slot

    pub deepened-rep : {L' K' B' E' : List ℕ} → Deepened k t L K B E L' K' B' E' → Rep (w * h) (deepen_cluster_into false k t q.now) t₀ L' K' B' E'
    deepened-rep {L'} {K'} {B'} {E'} D =
        rep-is (D.labels ∙ relabels (head_at B k) e) (D.links ∙ relinks (head_at B k) e (head_at B t) d)
        (D.table (cluster s t) (cluster s k) d e
        ∙ ap (λ n. set (set (saved_head B t (head_of (with_cluster (cluster s k) (cluster s t)))) (slot_width * k + merged_into_place) t) (slot_width * t + depth_place) (n + 1)) (depth-at s R.tabled t target-slot))
        (D.ends ∙ ends_there (head_at B k) e)
        (rep-deepen a k s (going A) (some-pixels A) refl t N R A.ranged.slots (all_fit (length t₀) fits) A.holes)
      where
        e : head_at B k ≡ head_of (cluster q.now k)
        e = head k own-slot

        d : head_at B t ≡ head_of (cluster q.now t)
        d = head t target-slot

  -- neither changes a hole list
  pub merged-holes : {H : List ℕ} → HoleEnds (w * h) q.now H → HoleEnds (w * h) (merge_cluster_into k t q.now) H
  merged-holes = holes-same (merge-same-holes a k s (going A) (some-pixels A) refl t N)

  pub deepened-holes : {H : List ℕ} → HoleEnds (w * h) q.now H → HoleEnds (w * h) (deepen_cluster_into false k t q.now) H
  deepened-holes = holes-same (deepen-same-holes a k s (going A) (some-pixels A) refl t N)

  -- and a hole child
  module _ {t₀ L K B E H : List ℕ} (R : Rep (w * h) (deepen_cluster_into false k t q.now) t₀ L K B E) (X : HoleEnds (w * h) (deepen_cluster_into false k t q.now) H) (fits : slot_width * (w * h + 1) ≤ length t₀) where
    slots : length (deepen_cluster_into false k t q.now).clusters ≡ length q.now.clusters
    slots = (visits.deepen-changes a k s (going A) (some-pixels A) refl t N false).table

    held : t < length (deepen_cluster_into false k t q.now).clusters
    held = omega (arith, slots, target-slot)

    pub can-hollow : CanHollow k t B H
    can-hollow = record {
      slot = omega (arith, R.tabled.long, A.ranged.slots, target-slot);
      small = omega (arith, A.image-fits.small, A.ranged.slots, own-slot);
      end = omega (arith, X.room, A.ranged.slots, target-slot);
      holes = omega (arith, count, A.ranged.holes t, A.image-fits.small);
      child = λ z. let y = hole-tail-fits X (deepen-holes a k s (going A) (some-pixels A) refl t N false A.holes) t (omega (arith, z, own)) in
          (y.0, omega (arith, y.0, y.1, slots, A.ranged.slots, R.tabled.long));
    }
      where
        own : get_or B (slot_width * t + num_holes_place) 0 ≡ length (cluster (deepen_cluster_into false k t q.now) t).holes
        own = holes-at (deepen_cluster_into false k t s) R.tabled t held

        count : get_or B (slot_width * t + num_holes_place) 0 ≡ length (cluster q.now t).holes
        count = own ∙ ap length (deepen-t-holes a k s (going A) (some-pixels A) refl t N false)

    pub hollowed-rep : {B' H' : List ℕ} → Hollowed k t B H B' H' → Rep (w * h) (deepen_cluster_into true k t q.now) t₀ L K B' E
    hollowed-rep Z = rep-is refl refl Z.table refl (rep-hollow a k s (going A) (some-pixels A) refl t N A.holes R X A.ranged.slots (all_fit (length t₀) fits))

    pub hollowed-holes : {B' H' : List ℕ} → Hollowed k t B H B' H' → HoleEnds (w * h) (deepen_cluster_into true k t q.now) H'
    hollowed-holes Z = subst (HoleEnds (w * h) (deepen_cluster_into true k t s)) (sym Z.ends) (hole-ends-hollow a k s (going A) (some-pixels A) refl t N A.holes R X A.ranged.slots (all_fit (length t₀) fits))
