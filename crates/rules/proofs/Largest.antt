-- "No larger area is listed" is "no slot has a larger pixel count".
use Rattle.std.specs.Prelude.{if◌then◌else◌}
use mathlib.Core.Path.{◌≡◌, refl, ap, ◌∙◌, subst}
use mathlib.Core.Logic.{◌⊎◌, inl, inr}
use mathlib.Core.Bool.{Bool, true, false}
use mathlib.Core.List.{List, [], ◌∷◌}
use Prim.Native.Nat.{ℕ, zero, suc, ◌+◌, ◌*◌, ◌≤◌, ◌<◌, max}
use native.Mathlib.Decide.{ℕ_discrete, dec_lt}
use native.Mathlib.Omega.{arith}
use lib.Dec.{T, eqb, ltb, leb, leb→le, le→leb}
use lib.ListN.{length, get_or, length-append}
use Rattle.rules.specs.Base.{none_above, insert_once}
use Rattle.rules.specs.Color.{RunnerConfig}
use Rattle.rules.specs.State.{State, Cluster, new_cluster, cluster, label, area, emptied, merged_to, with_residue, put_out, merge_cluster_into, deepen_cluster_into}
use Rattle.rules.specs.Stage2.{areas_of, prepare_stage2, visit}
use Rattle.rules.specs.Run.{stage1}
use Rattle.rules.specs.Ledger.{ledger}
use Rattle.rules.specs.Claim.{Stands}
use Rattle.rules.specs.Code.Order.{largest, start, turns}
use Rattle.rules.specs.Code.Early.{Basic}
use Rattle.rules.proofs.Facts.{count_of-some, count_of-none, same_bool, T-both, T_and}
use Rattle.rules.proofs.Basic.{Moved, three}
use Rattle.rules.proofs.Visits.{Going, Near, visit-cases, isolated-cases, merge-changes, deepen-changes, merge-from, deepen-from}
use Rattle.rules.proofs.Early.{settled}
use Rattle.rules.proofs.Whole.{early}
use Rattle.rules.proofs.Outputs.{In, area-count_of}
use Rattle.rules.proofs.Listed.{Listed, put-listed, merge-listed, deepen-listed, prepare_stage2-listed, merge-lists, deepen-lists}
use Rattle.rules.proofs.Order.{Turning, turns-keep, start-turning}

pub insert-from : (x a : ℕ) (xs : List ℕ) → In x (insert_once a xs) → (x ≡ a) ⊎ In x xs
insert-from x a [] (inl e) = inl e
insert-from x a [] (inr i) = absurd i
insert-from x a (y ∷ ys) i = pick (ltb a y) (eqb a y) i (insert-from x a ys)
  where
    pick : (b c : Bool) → In x (if b then a ∷ y ∷ ys else (if c then y ∷ ys else y ∷ insert_once a ys)) → (In x (insert_once a ys) → (x ≡ a) ⊎ In x ys) → (x ≡ a) ⊎ ((x ≡ y) ⊎ In x ys)
    pick true c (inl e) ih = inl e
    pick true c (inr z) ih = inr z
    pick false true z ih = inr z
    pick false false (inl e) ih = inr (inl e)
    pick false false (inr z) ih = elim (ih z) [ inl e ↦ inl e | inr z ↦ inr (inr z) ]

areas-from : (x : ℕ) (cs : List Cluster) (l : List ℕ) → In x (areas_of cs l) → In x l ⊎ ((j : ℕ) × (x ≡ area (get_or cs j new_cluster)))
unfolding areas_of
areas-from x [] l i = inl i
areas-from x (c ∷ cs) l i = elim (areas-from x cs (if eqb (area c) 0 then l else insert_once (area c) l) i) [ inl z ↦ pick (eqb (area c) 0) z | inr z ↦ inr (suc z.0, z.1) ]
  where
    pick : (b : Bool) → In x (if b then l else insert_once (area c) l) → In x l ⊎ ((j : ℕ) × (x ≡ area (get_or (c ∷ cs) j new_cluster)))
    pick true z = inl z
    pick false z = elim (insert-from x (area c) l z) [ inl e ↦ inr (0, e) | inr z ↦ inl z ]

-- ---- the largest

pub largest-ge : (cs : List Cluster) (j : ℕ) → area (get_or cs j new_cluster) ≤ largest cs
unfolding largest
largest-ge [] j = omega arith
largest-ge (c ∷ cs) zero = omega arith
largest-ge (c ∷ cs) (suc j) = omega (arith, largest-ge cs j)

pub largest-le : (cs : List Cluster) (a : ℕ) → ((j : ℕ) → area (get_or cs j new_cluster) ≤ a) → largest cs ≤ a
unfolding largest
largest-le [] a f = omega arith
largest-le (c ∷ cs) a f = omega (arith, f 0, largest-le cs a (λ j. f (suc j)))

-- ---- what is listed

-- every area listed is at most that of some slot
pub record Topped (s : State) : Type 0 where
  pub tops : (x : ℕ) → In x s.listed → (j : ℕ) × (x ≤ area (cluster s j))

put-topped : (k : ℕ) (s : State) → Topped s → Topped (put_out k s)
unfolding put_out
put-topped k s L = record { tops = L.tops }

-- the from's count is not above the to's new one
module _ (k t : ℕ) (s u : State) (M : Moved k t s u) where
  grows : area (cluster u t) ≡ area (cluster s t) + area (cluster s k)
  grows = ap length M.t-pixels ∙ length-append (cluster s t).pixels (cluster s k).pixels

  above : (j : ℕ) → (i : ℕ) × (area (cluster s j) ≤ area (cluster u i))
  above = three k t (λ j. (i : ℕ) × (area (cluster s j) ≤ area (cluster u i))) (t, omega (arith, grows)) (t, omega (arith, grows))
      (λ j m n. (j, omega (arith, ap area (M.other j m n))))

  moved-topped : Topped s → u.listed ≡ insert_once (area (cluster u t)) s.listed → Topped u
  moved-topped L e = record {
    tops = λ x i. elim (insert-from x (area (cluster u t)) s.listed (subst (In x) e i)) [
      | inl z ↦ (t, omega arith)
      | inr z ↦ let y = L.tops x z in let i = above y.0 in (i.0, omega (arith, y.1, i.1))
    ];
  }

  -- the largest after a merge: the one before, or the target's new count
  pub moved-largest : area (cluster u k) ≤ area (cluster s k) → largest u.clusters ≡ max (largest s.clusters) (area (cluster u t))
  moved-largest l = omega (arith, up, down, largest-ge u.clusters t)
    where
      up : largest u.clusters ≤ max (largest s.clusters) (area (cluster u t))
      up = largest-le u.clusters (max (largest s.clusters) (area (cluster u t))) (three k t (λ j. area (cluster u j) ≤ max (largest s.clusters) (area (cluster u t)))
          (omega (arith, largest-ge s.clusters k)) (omega arith) (λ j m n. omega (arith, largest-ge s.clusters j, ap area (M.other j m n))))

      down : largest s.clusters ≤ largest u.clusters
      down = largest-le s.clusters (largest u.clusters) (λ j. let i = above j in omega (arith, i.1, largest-ge u.clusters i.0))

module _ {image : List ℕ} {size : ℕ} (a k : ℕ) (s : State) (G : Going image size a k s) (pos : 0 < a) (e : area (cluster s k) ≡ a) (t : ℕ) (N : Near s (label s (get_or (cluster s k).pixels 0 0)) t) where
  pub merge-largest : largest (merge_cluster_into k t s).clusters ≡ max (largest s.clusters) (area (cluster (merge_cluster_into k t s) t))
  unfolding emptied
  merge-largest = moved-largest k t s (merge_cluster_into k t s) (merge-changes a k s G pos e t N) (omega (arith, ap area (merge-from a k s G pos e t N)))

  pub deepen-largest : (b : Bool) → largest (deepen_cluster_into b k t s).clusters ≡ max (largest s.clusters) (area (cluster (deepen_cluster_into b k t s) t))
  unfolding merged_to
  deepen-largest b = moved-largest k t s (deepen_cluster_into b k t s) (deepen-changes a k s G pos e t N b) (omega (arith, ap area (deepen-from a k s G pos e t N b)))

prepare_stage2-topped : (s : State) → Topped (prepare_stage2 s)
unfolding prepare_stage2 with_residue
prepare_stage2-topped s = record { tops = λ x i. elim (areas-from x s.clusters [] i) [ inl i ↦ absurd i | inr z ↦ (z.0, omega (arith, z.1, ap area (settled s z.0))) ] }

module _ {image : List ℕ} {size : ℕ} where
  -- both are kept by every visit
  pub visit-listed : (o : RunnerConfig) (w h a k : ℕ) (s : State) → Going image size a k s → 0 < a → area (cluster s k) ≡ a → Listed s × Topped s → Listed (visit o w h a k s) × Topped (visit o w h a k s)
  visit-listed o w h a k s G pos e R =
      visit-cases o w h a k s (λ u. Listed u × Topped u) (λ x. R) (λ z l. out) (λ z l n. isolated-cases o w h a k s (λ u. Listed u × Topped u) out R)
      (λ z l t N. (merge-listed a k s G R.0 pos e t N, moved-topped k t s (merge_cluster_into k t s) (merge-changes a k s G pos e t N) R.1 (merge-lists a k s G pos e t N)))
      (λ z l t N b. (deepen-listed a k s G R.0 pos e t N b, moved-topped k t s (deepen_cluster_into b k t s) (deepen-changes a k s G pos e t N b) R.1 (deepen-lists a k s G pos e t N b)))
    where
      out : Listed (put_out k s) × Topped (put_out k s)
      out = (put-listed k s R.0, put-topped k s R.1)

  area-stands : {s : State} → Basic image size (ledger s.log) s → (j : ℕ) → 0 < area (cluster s j) → Stands (ledger s.log) j
  area-stands {s} B j p =
      let y = count_of-some (λ q. false) (ledger s.log j) size (omega (arith, count_of-none (λ q. false) (λ q x. x) size, area-count_of B j)) in (y.0, y.1)

  -- no larger area is listed: no slot has a larger pixel count
  pub none_above_lem : (o : RunnerConfig) (w h a k : ℕ) (s : State) → Going image size a k s → Listed s → Topped s → none_above a s.listed ≡ leb (largest s.clusters) a
  none_above_lem o w h a k s G L P = same_bool (none_above a s.listed) (leb (largest s.clusters) a) (λ t. le→leb (largest s.clusters) a (largest-le s.clusters a (down t)))
      (λ t. back s.listed (λ x i. let y = P.tops x i in omega (arith, y.1, largest-ge s.clusters y.0, leb→le (largest s.clusters) a t)))
    where
      below : (l : List ℕ) → T (none_above a l) → (x : ℕ) → In x l → x ≤ a
      below [] t x i = absurd i
      below (y ∷ ys) t x (inl e) = let z : y ≤ a = leb→le y a (T-both (leb y a) (none_above a ys) t).0 in omega arith
      below (y ∷ ys) t x (inr i) = below ys (T-both (leb y a) (none_above a ys) t).1 x i

      back : (l : List ℕ) → ((x : ℕ) → In x l → x ≤ a) → T (none_above a l)
      back [] f = tt
      back (y ∷ ys) f = T_and (leb y a) (none_above a ys) (le→leb y a (f y (inl refl))) (back ys (λ x i. f x (inr i)))

      down : T (none_above a s.listed) → (j : ℕ) → area (cluster s j) ≤ a
      down t j = go (dec_lt 0 (area (cluster s j))) (ℕ_discrete (cluster s j).merged_into 0)
        where
          past : (area (cluster s j) < a) ⊎ ((area (cluster s j) ≡ a) × (j < k)) → area (cluster s j) ≤ a
          past (inl x) = omega arith
          past (inr x) = omega (arith, x.0)

          go : Dec (0 < area (cluster s j)) → Dec ((cluster s j).merged_into ≡ 0) → area (cluster s j) ≤ a
          go (no n) d = omega arith
          go (yes p) (yes r) = below s.listed t (area (cluster s j)) (L.areas j (area-stands G.sound.basic j p) r)
          go (yes p) (no r) = past (G.past j r)

-- and so before every turn
pub turns-listed : (o : RunnerConfig) (w h : ℕ) (image : List ℕ) (m : ℕ) → Turning image (w * h) (turns o w h m (start (prepare_stage2 (stage1 o w h image))))
    × (Listed (turns o w h m (start (prepare_stage2 (stage1 o w h image)))).now × Topped (turns o w h m (start (prepare_stage2 (stage1 o w h image)))).now)
unfolding start
turns-listed o w h image m =
    turns-keep o w h (λ s. Listed s × Topped s) (visit-listed o w h) (start (prepare_stage2 (stage1 o w h image)))
    (start-turning o w h image, (prepare_stage2-listed (w * h) (stage1 o w h image) (early o w h image), prepare_stage2-topped (stage1 o w h image))) m
