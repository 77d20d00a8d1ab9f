-- How many are put out: at most two for each pixel, under every setting.
-- Each put takes a root that is not yet due, and each merge takes a root: outputs + roots not due + roots never rises.
use mathlib.Core.Path.{◌≡◌, refl, sym, ap, ◌∙◌, subst}
use mathlib.Core.Logic.{◌≢◌, ◌⊎◌, inl, inr}
use mathlib.Core.Bool.{Bool, true, false, ◌&&◌, ◌||◌}
use mathlib.Core.List.{List, [], ◌∷◌}
use Prim.Native.Nat.{ℕ, zero, suc, ◌+◌, ◌*◌, ◌≤◌, ◌<◌}
use native.Mathlib.Decide.{ℕ_discrete}
use native.Mathlib.Omega.{arith}
use borrow.Author.Tests.{ltb-true}
use lib.Dec.{T, eqb, ltb, leb, eqb→eq, eqb_refl, ltb→lt, lt→ltb, leb→le, le→leb}
use lib.ListN.{length, get_or, length-append, length-map}
use Rattle.rules.specs.Base.{times}
use Rattle.rules.specs.Color.{RunnerConfig}
use Rattle.rules.specs.State.{State, cluster, label, area, emptied, merged_to, with_residue, put_out, merge_cluster_into, deepen_cluster_into}
use Rattle.rules.specs.Stage2.{prepare_stage2, visit, pass, passes}
use Rattle.rules.specs.Run.{stage1, stage2}
use Rattle.rules.specs.Claim.{count_of}
use Rattle.rules.specs.Code.Early.{standing}
use Rattle.rules.proofs.Facts.{T_and, T-both, count_of-le, count_of-lt, count_of-swap}
use Rattle.rules.proofs.Basic.{Moved}
use Rattle.rules.proofs.Visits.{Going, Near, visit-cases, isolated-cases, visit-going, pass-going, times-keep, root, target-root, target-stands, merge-changes, deepen-changes, merge-from, deepen-from}
use Rattle.rules.proofs.Early.{prepare_stage2-going, settled}
use Rattle.rules.proofs.Whole.{early, stage2-passes}
use Rattle.rules.proofs.Outputs.{area-pos}

-- slot k has pixels and is inside no other
unfoldable pub rooted : State → ℕ → Bool
rooted s k = standing s k && eqb (cluster s k).merged_into 0

abbrev pub Root : State → ℕ → Type 0
Root s j = (0 < area (cluster s j)) × ((cluster s j).merged_into ≡ 0)

pub root-out : (s : State) (j : ℕ) → T (rooted s j) → Root s j
unfolding rooted
root-out s j x = (ltb→lt 0 (area (cluster s j)) (T-both (standing s j) (eqb (cluster s j).merged_into 0) x).0, eqb→eq (cluster s j).merged_into 0 (T-both (standing s j) (eqb (cluster s j).merged_into 0) x).1)

pub root_in : (s : State) (j : ℕ) → Root s j → T (rooted s j)
unfolding rooted
root_in s j r = T_and (standing s j) (eqb (cluster s j).merged_into 0) (lt→ltb 0 (area (cluster s j)) r.0) (subst (λ x. T (eqb x 0)) (sym r.1) tt)

-- and its turn is still to come
unfoldable pub waiting : ℕ → ℕ → State → ℕ → Bool
unfolding rooted
waiting a k s j = rooted s j && (ltb a (area (cluster s j)) || (eqb (area (cluster s j)) a && leb k j))

abbrev pub Wait : ℕ → ℕ → State → ℕ → Type 0
Wait a k s j = (a < area (cluster s j)) ⊎ ((area (cluster s j) ≡ a) × (k ≤ j))

pub wait-out : (a k : ℕ) (s : State) (j : ℕ) → T (waiting a k s j) → Root s j × Wait a k s j
unfolding waiting
wait-out a k s j x = (
  root-out s j (T-both (rooted s j) (ltb a (area (cluster s j)) || (eqb (area (cluster s j)) a && leb k j)) x).0,
  pick (ltb a (area (cluster s j))) refl (T-both (rooted s j) (ltb a (area (cluster s j)) || (eqb (area (cluster s j)) a && leb k j)) x).1,
)
  where
    pick : (b : Bool) → ltb a (area (cluster s j)) ≡ b → T (b || (eqb (area (cluster s j)) a && leb k j)) → Wait a k s j
    pick true e y = inl (ltb-true a (area (cluster s j)) e)
    pick false e y = inr (eqb→eq (area (cluster s j)) a (T-both (eqb (area (cluster s j)) a) (leb k j) y).0, leb→le k j (T-both (eqb (area (cluster s j)) a) (leb k j) y).1)

pub wait-in : (a k : ℕ) (s : State) (j : ℕ) → Root s j → Wait a k s j → T (waiting a k s j)
unfolding waiting
wait-in a k s j r l = T_and (rooted s j) (ltb a (area (cluster s j)) || (eqb (area (cluster s j)) a && leb k j)) (root_in s j r) (go l (ltb a (area (cluster s j))) refl)
  where
    go : Wait a k s j → (b : Bool) → ltb a (area (cluster s j)) ≡ b → T (b || (eqb (area (cluster s j)) a && leb k j))
    go w true e = tt
    go (inl m) false e = absurd (subst T e (lt→ltb a (area (cluster s j)) m))
    go (inr m) false e = T_and (eqb (area (cluster s j)) a) (leb k j) (subst (λ x. T (eqb (area (cluster s j)) x)) m.0 (eqb_refl (area (cluster s j)))) (le→leb k j m.1)

-- what waits for the next pass waits while this one ends
pub next-waits : (a n : ℕ) (s : State) (j : ℕ) → T (waiting (suc (suc a)) 0 s j) → T (waiting (suc a) n s j)
next-waits a n s j x = wait-in (suc a) n s j (wait-out (suc (suc a)) 0 s j x).0 (go (wait-out (suc (suc a)) 0 s j x).1)
  where
    go : Wait (suc (suc a)) 0 s j → Wait (suc a) n s j
    go (inl l) = inl (omega arith)
    go (inr l) = inl (omega arith)

pub record Bounded (cap n a k : ℕ) (s : State) : Type 0 where
  pub total : length s.outputs + count_of (waiting a k s) n + count_of (rooted s) n ≤ cap
  pub table : length s.clusters ≡ n

pub later-waits : (a k : ℕ) (s : State) (j : ℕ) → T (waiting a (suc k) s j) → T (waiting a k s j)
later-waits a k s j x = wait-in a k s j (wait-out a (suc k) s j x).0 (pick (wait-out a (suc k) s j x).1)
  where
    pick : Wait a (suc k) s j → Wait a k s j
    pick (inl l) = inl l
    pick (inr l) = inr (l.0, omega arith)

module _ {cap n : ℕ} where
  skip-bounded : (a k : ℕ) (s : State) → Bounded cap n a k s → Bounded cap n a (suc k) s
  skip-bounded a k s B = record { total = omega (arith, B.total, count_of-le (waiting a (suc k) s) (waiting a k s) (later-waits a k s) n); table = B.table }

  module _ {image : List ℕ} {size : ℕ} (a k : ℕ) (s : State) (G : Going image size a k s) (B : Bounded cap n a k s) (pos : 0 < a) (e : area (cluster s k) ≡ a) (fits : k < n) where
    pub here : T (waiting a k s k)
    here = wait-in a k s k (omega arith, root a k s G pos e) (inr (e, omega arith))

    pub not-then : T (waiting a (suc k) s k) → ⊥
    not-then x = pick (wait-out a (suc k) s k x).1
      where
        pick : Wait a (suc k) s k → ⊥
        pick (inl l) = omega arith
        pick (inr l) = omega arith

    put-bounded : Bounded cap n a (suc k) (put_out k s)
    unfolding put_out waiting rooted
    put-bounded = record {
      total = omega (arith, B.total, count_of-lt (waiting a (suc k) s) (waiting a k s) (later-waits a k s) n k fits here not-then, length-append s.outputs (k ∷ []));
      table = B.table;
    }

    module _ (t : ℕ) (N : Near s (label s (get_or (cluster s k).pixels 0 0)) t) {s' : State} (M : Moved k t s s') (gone : Root s' k → ⊥) (table : length s'.clusters ≡ length s.clusters) where
      pub t-root : Root s t
      t-root = let z = target-stands a k s G pos e t N in (area-pos G.sound.basic t z.0 z.1, target-root a k s G pos e t N)

      pub was : (j : ℕ) → Root s' j → Root s j
      was j r = pick (ℕ_discrete j k) (ℕ_discrete j t)
        where
          pick : Dec (j ≡ k) → Dec (j ≡ t) → Root s j
          pick (yes z) y = absurd (gone (subst (Root s') z r))
          pick (no z) (yes y) = subst (Root s) (sym y) t-root
          pick (no z) (no y) = subst (λ c. (0 < area c) × (c.merged_into ≡ 0)) (M.other j z y) r

      pub fewer-roots : count_of (rooted s') n < count_of (rooted s) n
      fewer-roots = count_of-lt (rooted s') (rooted s) (λ j x. root_in s j (was j (root-out s' j x))) n k fits (root_in s k (omega arith, root a k s G pos e)) (λ x. gone (root-out s' k x))

      pub waited : (j : ℕ) → j ≢ t → T (waiting a (suc k) s' j) → T (waiting a k s j)
      waited j d x = pick (ℕ_discrete j k) (wait-out a (suc k) s' j x)
        where
          side : Wait a (suc k) s j → Wait a k s j
          side (inl l) = inl l
          side (inr l) = inr (l.0, omega arith)

          pick : Dec (j ≡ k) → Root s' j × Wait a (suc k) s' j → T (waiting a k s j)
          pick (yes z) y = absurd (gone (subst (Root s') z y.0))
          pick (no z) y = wait-in a k s j (was j y.0) (side (subst (λ c. (a < area c) ⊎ ((area c ≡ a) × (suc k ≤ j))) (M.other j z d) y.1))

      pub fewer-waits : count_of (waiting a (suc k) s') n ≤ count_of (waiting a k s) n
      fewer-waits = count_of-swap (waiting a (suc k) s') (waiting a k s) k t waited (λ x. gone (wait-out a (suc k) s' k x).0) here n fits

    -- a merge leaves fewer roots, and no more to wait
    pub merge-fewer : (t : ℕ) → Near s (label s (get_or (cluster s k).pixels 0 0)) t
        → (count_of (rooted (merge_cluster_into k t s)) n < count_of (rooted s) n) × (count_of (waiting a (suc k) (merge_cluster_into k t s)) n ≤ count_of (waiting a k s) n)
    unfolding emptied
    merge-fewer t N = (fewer-roots t N M gone M.table, fewer-waits t N M gone M.table)
      where
        M : Moved k t s (merge_cluster_into k t s)
        M = merge-changes a k s G pos e t N

        gone : Root (merge_cluster_into k t s) k → ⊥
        gone r = omega (arith, r.0, ap area (merge-from a k s G pos e t N))

    pub deepen-fewer : (t : ℕ) → Near s (label s (get_or (cluster s k).pixels 0 0)) t → (b : Bool)
        → (count_of (rooted (deepen_cluster_into b k t s)) n < count_of (rooted s) n) × (count_of (waiting a (suc k) (deepen_cluster_into b k t s)) n ≤ count_of (waiting a k s) n)
    unfolding merged_to
    deepen-fewer t N b = (fewer-roots t N M gone M.table, fewer-waits t N M gone M.table)
      where
        M : Moved k t s (deepen_cluster_into b k t s)
        M = deepen-changes a k s G pos e t N b

        gone : Root (deepen_cluster_into b k t s) k → ⊥
        gone r = N.0 (sym (ap (λ c. c.merged_into) (deepen-from a k s G pos e t N b)) ∙ r.1)

    merge-bounded : (t : ℕ) → Near s (label s (get_or (cluster s k).pixels 0 0)) t → Bounded cap n a (suc k) (merge_cluster_into k t s)
    unfolding merge_cluster_into
    merge-bounded t N = let l = merge-fewer t N in record { total = omega (arith, B.total, l.0, l.1); table = (merge-changes a k s G pos e t N).table ∙ B.table }

    deepen-bounded : (t : ℕ) → Near s (label s (get_or (cluster s k).pixels 0 0)) t → (hollow : Bool) → Bounded cap n a (suc k) (deepen_cluster_into hollow k t s)
    unfolding deepen_cluster_into
    deepen-bounded t N hollow =
        let l = deepen-fewer t N hollow in
        record { total = omega (arith, B.total, l.0, l.1, length-append s.outputs (k ∷ [])); table = (deepen-changes a k s G pos e t N hollow).table ∙ B.table }

  module _ {image : List ℕ} {size : ℕ} (o : RunnerConfig) (w h : ℕ) where
    visit-bounded : (a k : ℕ) (s : State) → Going image size a k s → Bounded cap n a k s → 0 < a → k < n → Bounded cap n a (suc k) (visit o w h a k s)
    visit-bounded a k s G B pos fits =
        visit-cases o w h a k s (Bounded cap n a (suc k)) (λ x. skip-bounded a k s B) (λ e l. put-bounded a k s G B pos e fits)
        (λ e l z. isolated-cases o w h a k s (Bounded cap n a (suc k)) (put-bounded a k s G B pos e fits) (skip-bounded a k s B))
        (λ e l t N. merge-bounded a k s G B pos e fits t N) (λ e l t N b. deepen-bounded a k s G B pos e fits t N b)

    slots-bounded : (a : ℕ) (s : State) → Going image size (suc a) 0 s → Bounded cap n (suc a) 0 s → (m : ℕ) → m ≤ n
        → Going image size (suc a) m (times m (visit o w h (suc a)) s) × Bounded cap n (suc a) m (times m (visit o w h (suc a)) s)
    slots-bounded a s G B zero l = (G, B)
    slots-bounded a s G B (suc m) l =
        let r = slots-bounded a s G B m (omega arith) in
        (visit-going o w h (suc a) m _ r.0 (omega arith), visit-bounded (suc a) m _ r.0 r.1 (omega arith) l)

    pass-bounded : (a : ℕ) (s : State) → Going image size (suc a) 0 s × Bounded cap n (suc a) 0 s → Going image size (suc (suc a)) 0 (pass o w h (suc a) s) × Bounded cap n (suc (suc a)) 0 (pass o w h (suc a) s)
    unfolding pass
    pass-bounded a s R = (pass-going o w h a s R.0, record { total = omega (arith, E.total, count_of-le (waiting (suc (suc a)) 0 u) (waiting (suc a) N u) (next-waits a N u) n); table = E.table })
      where
        N : ℕ
        N = length s.clusters

        u : State
        u = times N (visit o w h (suc a)) s

        E : Bounded cap n (suc a) N u
        E = (slots-bounded a s R.0 R.1 N (omega (arith, R.1.table))).1

    passes-bounded : (s : State) → Going image size 1 0 s → Bounded cap n 1 0 s → (m : ℕ) → Going image size (suc m) 0 (passes o w h m s) × Bounded cap n (suc m) 0 (passes o w h m s)
    unfolding passes
    passes-bounded s G B = times-keep (λ a v. Going image size (suc a) 0 v × Bounded cap n (suc a) 0 v) (λ a. pass o w h (suc a)) pass-bounded s (G, B)

-- what is a root when stage 2 begins has pixels
pub stood : (s : State) (j : ℕ) → Root (prepare_stage2 s) j → T (standing s j)
unfolding with_residue
stood s j r = lt→ltb 0 (area (cluster s j)) (subst (λ c. 0 < area c) (settled s j) r.0)

-- before they are thinned, and so after it too, the outputs are at most 2 × w × h
pub outputs-bound : (o : RunnerConfig) (w h : ℕ) (image : List ℕ) → length (stage2 o w h (stage1 o w h image)).outputs ≤ 2 * (w * h)
unfolding prepare_stage2 with_residue
outputs-bound o w h image = rw (stage2-passes o w h image) (omega (arith, (passes-bounded o w h (prepare_stage2 s) G start (w * h)).1.total))
  where
    s : State
    s = stage1 o w h image

    n : ℕ
    n = length s.clusters

    G : Going image (w * h) 1 0 (prepare_stage2 s)
    G = prepare_stage2-going (w * h) s (early o w h image)

    start : Bounded (2 * (w * h)) n 1 0 (prepare_stage2 s)
    start = record {
      total = omega (
        arith,
        count_of-le (rooted (prepare_stage2 s)) (standing s) (λ j x. stood s j (root-out (prepare_stage2 s) j x)) n,
        count_of-le (waiting 1 0 (prepare_stage2 s)) (standing s) (λ j x. stood s j (wait-out 1 0 (prepare_stage2 s) j x).0) n,
        (early o w h image).few n (omega arith),
        ap length (early o w h image).quiet,
      );
      table = length-map s.clusters (λ c. with_residue c.sum c);
    }

pub slots-bound : (o : RunnerConfig) (w h : ℕ) (image : List ℕ) → length (stage1 o w h image).clusters ≤ w * h + 1
slots-bound o w h image = omega (arith, (early o w h image).short)
