-- Hole children: a cluster that names one is the cluster it deepened into, and names it once; a cluster that deepened never changes again.
use Rattle.std.specs.Prelude.{if◌then◌else◌}
use mathlib.Core.Path.{◌≡◌, refl, sym, ap, ◌∙◌, subst}
use mathlib.Core.Logic.{◌≢◌, by_cases}
use mathlib.Core.Bool.{Bool, true, false}
use mathlib.Core.List.{List, [], ◌∷◌, ◌++◌}
use Prim.Native.Nat.{ℕ, ◌+◌, ◌≤◌, ◌<◌}
use native.Mathlib.Decide.{ℕ_discrete, dec_lt}
use native.Mathlib.Omega.{arith}
use lib.Dec.{eqb}
use lib.ListN.{length, get_or, get_or-eq_default}
use Rattle.rules.specs.Color.{RunnerConfig}
use Rattle.rules.specs.State.{State, new_cluster, cluster, label, area, emptied, with_cluster, merged_to, deeper, with_residue, put_out, merge_cluster_into, deepen_cluster_into}
use Rattle.rules.specs.Stage2.{prepare_stage2, visit}
use Rattle.rules.specs.Run.{stage1}
use Rattle.rules.specs.Code.Order.{start, turns}
use Rattle.rules.specs.Claim.{bit, occurs}
use Rattle.rules.proofs.Facts.{eqb_yes, eqb_no, occurs-append}
use Rattle.rules.proofs.Basic.{three}
use Rattle.rules.proofs.Visits.{Going, Near, visit-cases, isolated-cases, root, target-root, merge-from, deepen-to, deepen-from, deepen-changes, merge-changes, merge-to}
use Rattle.rules.proofs.Early.{settled}
use Rattle.rules.proofs.Slots.{stage1-slots}
use Rattle.rules.proofs.Order.{turns-keep, start-turning}

pub record Holes (s : State) : Type 0 where
  -- number 0 names none: nothing deepens into it
  pub inside : (k c : ℕ) → occurs c (cluster s k).holes ≢ 0 → (k ≢ 0) × ((cluster s c).merged_into ≡ k)
  pub once : (k c : ℕ) → occurs c (cluster s k).holes ≤ 1

-- a cluster inside no other is named nowhere
pub root-unnamed : {s : State} → Holes s → (c : ℕ) → (cluster s c).merged_into ≡ 0 → (k : ℕ) → occurs c (cluster s k).holes ≡ 0
root-unnamed {s} H c r k = elim (ℕ_discrete (occurs c (cluster s k).holes) 0) [ yes z ↦ z | no z ↦ let y = H.inside k c z in absurd (y.0 (sym y.1 ∙ r)) ]

-- a hole child has a slot
pub child-slot : {s : State} → Holes s → (k c : ℕ) → occurs c (cluster s k).holes ≢ 0 → c < length s.clusters
child-slot {s} H k c x = by_cases (dec_lt c (length s.clusters))
    (λ l. l)
    (λ l. let y = H.inside k c x in absurd (y.0 (sym y.1 ∙ ap (λ d. d.merged_into) (get_or-eq_default s.clusters new_cluster {n = c} (omega arith)))))

pub put-holes : (k : ℕ) (s : State) → Holes s → Holes (put_out k s)
unfolding put_out
put-holes k s H = record { inside = H.inside; once = H.once }

module _ {image : List ℕ} {size : ℕ} (a k : ℕ) (s : State) (G : Going image size a k s) (pos : 0 < a) (e : area (cluster s k) ≡ a) (t : ℕ) (N : Near s (label s (get_or (cluster s k).pixels 0 0)) t) where
  -- a plain merge changes no hole list
  pub merge-same-holes : (j : ℕ) → (cluster (merge_cluster_into k t s) j).holes ≡ (cluster s j).holes
  unfolding with_residue with_cluster emptied
  merge-same-holes = three k t (λ j. (cluster (merge_cluster_into k t s) j).holes ≡ (cluster s j).holes)
      (ap (λ c. c.holes) (merge-from a k s G pos e t N)) (ap (λ c. c.holes) (merge-to a k s G pos e t N)) (λ j m l. ap (λ c. c.holes) ((merge-changes a k s G pos e t N).other j m l))

  pub merge-same-into : (j : ℕ) → (cluster (merge_cluster_into k t s) j).merged_into ≡ (cluster s j).merged_into
  unfolding emptied
  merge-same-into = three k t (λ j. (cluster (merge_cluster_into k t s) j).merged_into ≡ (cluster s j).merged_into)
      (ap (λ c. c.merged_into) (merge-from a k s G pos e t N)) (merge-changes a k s G pos e t N).t-merged (λ j m l. ap (λ c. c.merged_into) ((merge-changes a k s G pos e t N).other j m l))

  pub merge-holes : Holes s → Holes (merge_cluster_into k t s)
  merge-holes H = record {
    inside = λ j c x. let y = H.inside j c (λ z. x (ap (occurs c) (merge-same-holes j) ∙ z)) in (y.0, merge-same-into c ∙ y.1);
    once = λ j c. subst (λ l. occurs c l ≤ 1) (sym (merge-same-holes j)) (H.once j c);
  }

  module _ (b : Bool) where
    -- a deepening one only the target's
    pub deepen-t-holes : (cluster (deepen_cluster_into b k t s) t).holes ≡ (if b then (cluster s t).holes ++ (k ∷ []) else (cluster s t).holes)
    unfolding with_cluster deeper
    deepen-t-holes = ap (λ c. c.holes) (deepen-to a k s G pos e t N b)

    pub deepen-other-holes : (j : ℕ) → j ≢ t → (cluster (deepen_cluster_into b k t s) j).holes ≡ (cluster s j).holes
    unfolding merged_to
    deepen-other-holes j n = by_cases (ℕ_discrete j k)
        (λ z. subst (λ m. (cluster (deepen_cluster_into b k t s) m).holes ≡ (cluster s m).holes) (sym z) (ap (λ c. c.holes) (deepen-from a k s G pos e t N b)))
        (λ z. ap (λ c. c.holes) ((deepen-changes a k s G pos e t N b).other j z n))

    pub deepen-other-into : (j : ℕ) → j ≢ k → (cluster (deepen_cluster_into b k t s) j).merged_into ≡ (cluster s j).merged_into
    deepen-other-into j n = by_cases (ℕ_discrete j t)
        (λ z. subst (λ m. (cluster (deepen_cluster_into b k t s) m).merged_into ≡ (cluster s m).merged_into) (sym z) (deepen-changes a k s G pos e t N b).t-merged)
        (λ z. ap (λ c. c.merged_into) ((deepen-changes a k s G pos e t N b).other j n z))

    pub deepen-into : (cluster (deepen_cluster_into b k t s) k).merged_into ≡ t
    unfolding merged_to
    deepen-into = ap (λ c. c.merged_into) (deepen-from a k s G pos e t N b)

    pub deepen-holes : Holes s → Holes (deepen_cluster_into b k t s)
    deepen-holes H = record { inside = λ j. inside j (ℕ_discrete j t); once = λ j. once j (ℕ_discrete j t) }
      where
        u : State
        u = deepen_cluster_into b k t s

        unnamed : (j : ℕ) → occurs k (cluster s j).holes ≡ 0
        unnamed = root-unnamed H k (root a k s G pos e)

        old : (j c : ℕ) → occurs c (cluster s j).holes ≢ 0 → (j ≢ 0) × ((cluster u c).merged_into ≡ j)
        old j c x = let y = H.inside j c x in (y.0, deepen-other-into c (λ z. x (ap (λ m. occurs m (cluster s j).holes) z ∙ unnamed j)) ∙ y.1)

        grown : (c : ℕ) → occurs c ((cluster s t).holes ++ (k ∷ [])) ≡ occurs c (cluster s t).holes + (bit (eqb c k) + 0)
        grown c = occurs-append c (cluster s t).holes (k ∷ [])

        new : (c : ℕ) → Dec (c ≡ k) → (y : Bool) → occurs c (if y then (cluster s t).holes ++ (k ∷ []) else (cluster s t).holes) ≢ 0 → (t ≢ 0) × ((cluster u c).merged_into ≡ t)
        new c (yes z) y x = (N.0, ap (λ m. (cluster u m).merged_into) z ∙ deepen-into)
        new c (no z) true x = old t c (λ v. x (omega (arith, grown c, ap bit (eqb_no c k z))))
        new c (no z) false x = old t c x

        inside : (j : ℕ) → Dec (j ≡ t) → (c : ℕ) → occurs c (cluster u j).holes ≢ 0 → (j ≢ 0) × ((cluster u c).merged_into ≡ j)
        inside j (yes z) c x =
            subst (λ m. (m ≢ 0) × ((cluster u c).merged_into ≡ m)) (sym z)
            (new c (ℕ_discrete c k) b (λ v. x (ap (λ m. occurs c (cluster u m).holes) z ∙ ap (occurs c) deepen-t-holes ∙ v)))
        inside j (no z) c x = old j c (λ v. x (ap (occurs c) (deepen-other-holes j z) ∙ v))

        more : (c : ℕ) → Dec (c ≡ k) → (y : Bool) → occurs c (if y then (cluster s t).holes ++ (k ∷ []) else (cluster s t).holes) ≤ 1
        more c (yes z) true = omega (arith, grown c, ap bit (eqb_yes c k z), ap (λ m. occurs m (cluster s t).holes) z, unnamed t)
        more c (no z) true = omega (arith, grown c, ap bit (eqb_no c k z), H.once t c)
        more c z false = H.once t c

        once : (j : ℕ) → Dec (j ≡ t) → (c : ℕ) → occurs c (cluster u j).holes ≤ 1
        once j (yes z) c = subst (λ m. occurs c (cluster u m).holes ≤ 1) (sym z) (subst (λ l. occurs c l ≤ 1) (sym deepen-t-holes) (more c (ℕ_discrete c k) b))
        once j (no z) c = subst (λ l. occurs c l ≤ 1) (sym (deepen-other-holes j z)) (H.once j c)

-- every visit keeps it
pub visit-holes : {image : List ℕ} {size : ℕ} (o : RunnerConfig) (w h a k : ℕ) (s : State) → Going image size a k s → 0 < a → area (cluster s k) ≡ a → Holes s → Holes (visit o w h a k s)
visit-holes o w h a k s G pos e H =
    visit-cases o w h a k s Holes (λ x. H) (λ z l. put-holes k s H) (λ z l n. isolated-cases o w h a k s Holes (put-holes k s H) H)
    (λ z l t N. merge-holes a k s G pos e t N H) (λ z l t N b. deepen-holes a k s G pos e t N b H)

-- a cluster that deepened into another is left as it is by every later visit: the list of a hole child is the one it had as it deepened, which is what the Rust's `holes` copied
pub deepened-stays : {image : List ℕ} {size : ℕ} (o : RunnerConfig) (w h a k : ℕ) (s : State) → Going image size a k s → 0 < a → (c : ℕ) → (cluster s c).merged_into ≢ 0
    → cluster (visit o w h a k s) c ≡ cluster s c
unfolding put_out
deepened-stays o w h a k s G pos c d =
    visit-cases o w h a k s (λ u. cluster u c ≡ cluster s c) (λ x. refl) (λ z l. refl) (λ z l n. isolated-cases o w h a k s (λ u. cluster u c ≡ cluster s c) refl refl)
    (λ z l t N. (merge-changes a k s G pos z t N).other c (not-k z) (not_t z t N))
    (λ z l t N b. (deepen-changes a k s G pos z t N b).other c (not-k z) (not_t z t N))
  where
    not-k : area (cluster s k) ≡ a → c ≢ k
    not-k z y = d (subst (λ j. (cluster s j).merged_into ≡ 0) (sym y) (root a k s G pos z))

    not_t : area (cluster s k) ≡ a → (t : ℕ) → Near s (label s (get_or (cluster s k).pixels 0 0)) t → c ≢ t
    not_t z t N y = d (subst (λ j. (cluster s j).merged_into ≡ 0) (sym y) (target-root a k s G pos z t N))

pub prepare_stage2-holes : (o : RunnerConfig) (w h : ℕ) (image : List ℕ) → Holes (prepare_stage2 (stage1 o w h image))
unfolding with_residue
prepare_stage2-holes o w h image = record {
  inside = λ k c x. absurd (x (ap (occurs c) (none k)));
  once = λ k c. omega (arith, ap (occurs c) (none k));
}
  where
    none : (k : ℕ) → (cluster (prepare_stage2 (stage1 o w h image)) k).holes ≡ []
    none k = ap (λ x. x.holes) (settled (stage1 o w h image) k) ∙ (stage1-slots o w h image k).holes

-- before and after every turn
pub turns-holes : (o : RunnerConfig) (w h : ℕ) (image : List ℕ) (m : ℕ) → Holes (turns o w h m (start (prepare_stage2 (stage1 o w h image)))).now
unfolding start
turns-holes o w h image m = (turns-keep o w h Holes (visit-holes o w h) (start (prepare_stage2 (stage1 o w h image))) (start-turning o w h image, prepare_stage2-holes o w h image) m).1
