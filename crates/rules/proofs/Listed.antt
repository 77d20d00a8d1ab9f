-- The area of every standing cluster that is inside no other is listed, so a pass at an area that is not listed does nothing.
use Rattle.std.specs.Prelude.{if◌then◌else◌}
use mathlib.Core.Path.{◌≡◌, refl, sym, ap, ◌∙◌, subst}
use mathlib.Core.Logic.{◌≢◌, ◌⊎◌, inl, inr}
use mathlib.Core.Bool.{Bool, true, false}
use mathlib.Core.List.{List, [], ◌∷◌}
use Prim.Native.Nat.{ℕ, zero, suc, ◌<◌}
use native.Mathlib.Omega.{arith}
use borrow.Author.Tests.{eqb-true}
use lib.Dec.{T, eqb, ltb}
use lib.ListN.{length, get_or}
use Rattle.rules.specs.Base.{times, insert_once}
use Rattle.rules.specs.Color.{RunnerConfig}
use Rattle.rules.specs.State.{State, Cluster, new_cluster, cluster, label, area, with_cluster, merged_to, deeper, with_residue, put_out, merge_cluster_into, deepen_cluster_into}
use Rattle.rules.specs.Stage2.{areas_of, prepare_stage2, visit, pass, passes}
use Rattle.rules.specs.Ledger.{ledger}
use Rattle.rules.specs.Claim.{Stands}
use Rattle.rules.specs.Code.Early.{Early}
use Rattle.rules.proofs.Facts.{eqb_no}
use Rattle.rules.proofs.Basic.{Moved, three, plain_down, plain-o, deepened-o}
use Rattle.rules.proofs.Visits.{Going, Near, visit-cases, isolated-cases, stands, root, k≢t, merge-changes, deepen-changes, deepen-from, passes-keep}
use Rattle.rules.proofs.Early.{settled}
use Rattle.rules.proofs.Outputs.{In, area-pos}

pub insert-old : (x a : ℕ) (xs : List ℕ) → In x xs → In x (insert_once a xs)
insert-old x a [] i = absurd i
insert-old x a (y ∷ ys) i = pick (ltb a y) (eqb a y) i (insert-old x a ys)
  where
    pick : (b c : Bool) → (x ≡ y) ⊎ In x ys → (In x ys → In x (insert_once a ys)) → In x (if b then a ∷ y ∷ ys else (if c then y ∷ ys else y ∷ insert_once a ys))
    pick true c z ih = inr z
    pick false true z ih = z
    pick false false (inl e) ih = inl e
    pick false false (inr z) ih = inr (ih z)

pub insert-new : (a : ℕ) (xs : List ℕ) → In a (insert_once a xs)
insert-new a [] = inl refl
insert-new a (y ∷ ys) = pick (ltb a y) (eqb a y) refl (insert-new a ys)
  where
    pick : (b c : Bool) → eqb a y ≡ c → In a (insert_once a ys) → In a (if b then a ∷ y ∷ ys else (if c then y ∷ ys else y ∷ insert_once a ys))
    pick true c e ih = inl refl
    pick false true e ih = inl (eqb-true a y e)
    pick false false e ih = inr ih

areas-old : (x : ℕ) (cs : List Cluster) (l : List ℕ) → In x l → In x (areas_of cs l)
unfolding areas_of
areas-old x [] l i = i
areas-old x (c ∷ cs) l i = areas-old x cs (if eqb (area c) 0 then l else insert_once (area c) l) (pick (eqb (area c) 0))
  where
    pick : (b : Bool) → In x (if b then l else insert_once (area c) l)
    pick true = i
    pick false = insert-old x (area c) l i

areas-in : (k : ℕ) (cs : List Cluster) (l : List ℕ) → 0 < area (get_or cs k new_cluster) → In (area (get_or cs k new_cluster)) (areas_of cs l)
unfolding areas_of
areas-in k [] l p = absurd (omega arith)
areas-in zero (c ∷ cs) l p = areas-old (area c) cs (if eqb (area c) 0 then l else insert_once (area c) l) (pick (eqb (area c) 0) refl)
  where
    pick : (b : Bool) → eqb (area c) 0 ≡ b → In (area c) (if b then l else insert_once (area c) l)
    pick true e = let z : area c ≡ 0 = eqb-true (area c) 0 e in absurd (omega arith)
    pick false e = insert-new (area c) l
areas-in (suc k) (c ∷ cs) l p = areas-in k cs (if eqb (area c) 0 then l else insert_once (area c) l) p

pub record Listed (s : State) : Type 0 where
  pub areas : (k : ℕ) → Stands (ledger s.log) k → (cluster s k).merged_into ≡ 0 → In (area (cluster s k)) s.listed

pub put-listed : (k : ℕ) (s : State) → Listed s → Listed (put_out k s)
unfolding put_out
put-listed k s L = record { areas = L.areas }

module _ {image : List ℕ} {size : ℕ} where
  -- the new area of t is listed
  module _ (a k : ℕ) (s : State) (G : Going image size a k s) (pos : 0 < a) (e : area (cluster s k) ≡ a) (t : ℕ) (N : Near s (label s (get_or (cluster s k).pixels 0 0)) t) where
    pub merge-lists : (merge_cluster_into k t s).listed ≡ insert_once (area (cluster (merge_cluster_into k t s) t)) s.listed
    unfolding merge_cluster_into with_cluster with_residue
    merge-lists = ap (λ x. insert_once x s.listed) (sym (ap length (merge-changes a k s G pos e t N).t-pixels))

    pub deepen-lists : (b : Bool) → (deepen_cluster_into b k t s).listed ≡ insert_once (area (cluster (deepen_cluster_into b k t s) t)) s.listed
    unfolding deepen_cluster_into with_cluster deeper
    deepen-lists b = ap (λ x. insert_once x s.listed) (sym (ap length (deepen-changes a k s G pos e t N b).t-pixels))

  module _ (a k : ℕ) (s : State) (G : Going image size a k s) (L : Listed s) (pos : 0 < a) (e : area (cluster s k) ≡ a) (t : ℕ) (N : Near s (label s (get_or (cluster s k).pixels 0 0)) t) where
    -- t's new area is listed, and what else stands is as it was
    moved_listed : {u : State} → Moved k t s u → u.listed ≡ insert_once (area (cluster u t)) s.listed → (Stands (ledger u.log) k → (cluster u k).merged_into ≡ 0 → ⊥)
        → ((j : ℕ) → j ≢ k → j ≢ t → Stands (ledger u.log) j → Stands (ledger s.log) j) → Listed u
    moved_listed {u} M new gone old = record {
      areas = three k t (λ j. Stands (ledger u.log) j → (cluster u j).merged_into ≡ 0 → In (area (cluster u j)) u.listed)
          (λ z r. absurd (gone z r))
          (λ z r. subst (In (area (cluster u t))) (sym new) (insert-new (area (cluster u t)) s.listed))
          (λ j m n z r. subst (In (area (cluster u j))) (sym new) (insert-old (area (cluster u j)) (area (cluster u t)) s.listed
          (subst (λ c. In (area c) s.listed) (sym (M.other j m n)) (L.areas j (old j m n z) (sym (ap (λ c. c.merged_into) (M.other j m n)) ∙ r)))));
    }

    pub merge-listed : Listed (merge_cluster_into k t s)
    unfolding merge_cluster_into
    merge-listed = moved_listed (merge-changes a k s G pos e t N) (merge-lists a k s G pos e t N) (λ z r. (plain_down (ledger s.log) k t (k≢t a k s G pos e t N) k z.0 z.1).0 refl)
        (λ j m n z. (z.0, subst (λ g. T (g z.0)) (plain-o (ledger s.log) k t j m n) z.1))

    pub deepen-listed : (hollow : Bool) → Listed (deepen_cluster_into hollow k t s)
    unfolding deepen_cluster_into merged_to
    deepen-listed hollow = moved_listed (deepen-changes a k s G pos e t N hollow) (deepen-lists a k s G pos e t N hollow)
        (λ z r. N.0 (sym (ap (λ c. c.merged_into) (deepen-from a k s G pos e t N hollow)) ∙ r))
        (λ j m n z. (z.0, subst (λ g. T (g z.0)) (deepened-o (ledger s.log) k t j n) z.1))

  module _ (o : RunnerConfig) (w h : ℕ) where
    -- every visit keeps it, and so it holds before every pass
    pub visit-lists : (a k : ℕ) (s : State) → Going image size a k s → 0 < a → area (cluster s k) ≡ a → Listed s → Listed (visit o w h a k s)
    visit-lists a k s G pos e L = visit-cases o w h a k s Listed (λ x. L) (λ z l. put-listed k s L) (λ z l n. isolated-cases o w h a k s Listed (put-listed k s L) L)
        (λ z l t N. merge-listed a k s G L pos e t N) (λ z l t N b. deepen-listed a k s G L pos e t N b)

    pub passes-listed : (s : State) → Going image size 1 0 s → Listed s → (m : ℕ) → Going image size (suc m) 0 (passes o w h m s) × Listed (passes o w h m s)
    passes-listed s G L = passes-keep o w h Listed visit-lists s (G, L)

    -- a pass at an area that is not listed
    pub pass-skips : (a : ℕ) (s : State) → Going image size (suc a) 0 s → Listed s → (In (suc a) s.listed → ⊥) → pass o w h (suc a) s ≡ s
    unfolding pass visit
    pass-skips a s G L none = all (length s.clusters)
      where
        from : (k : ℕ) → Going image size (suc a) k s
        from k = record { sound = G.sound; past = λ j x. elim (G.past j x) [ inl y ↦ inl y | inr y ↦ absurd (omega arith) ] }

        differs : (k : ℕ) → area (cluster s k) ≢ suc a
        differs k e = none (subst (λ x. In x s.listed) e (L.areas k (get_or (cluster s k).pixels 0 0, stands (suc a) k s (from k) (omega arith) e) (root (suc a) k s (from k) (omega arith) e)))

        same : (k : ℕ) → visit o w h (suc a) k s ≡ s
        same k = rw (eqb_no (area (cluster s k)) (suc a) (differs k)) refl

        all : (n : ℕ) → times n (visit o w h (suc a)) s ≡ s
        all zero = refl
        all (suc n) = ap (visit o w h (suc a) n) (all n) ∙ same n

pub prepare_stage2-listed : {image : List ℕ} {size : ℕ} {Gone : ℕ → Type 0} {Keyed : Type 0} (i : ℕ) (s : State) → Early image size Gone Keyed i s → Listed (prepare_stage2 s)
unfolding prepare_stage2 with_residue
prepare_stage2-listed i s E = record { areas = λ k z r. subst (λ c. In (area c) (areas_of s.clusters [])) (sym (settled s k)) (areas-in k s.clusters [] (area-pos E.basic k z.0 z.1)) }
