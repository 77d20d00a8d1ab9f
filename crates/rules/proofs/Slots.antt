-- What stage 1 leaves in a slot: no holes, depth 0, nothing in the residue, a rectangle on the image.
use Rattle.std.specs.Prelude.{if◌then◌else◌}
use mathlib.Core.Path.{◌≡◌, refl, sym, ◌∙◌, subst}
use mathlib.Core.Bool.{Bool, true, false, ◌&&◌}
use mathlib.Core.List.{List, [], ◌∷◌, ◌++◌}
use mathlib.Core.Option.{some}
use Prim.Native.Nat.{ℕ, zero, suc, ◌+◌, ◌-◌, ◌*◌, ◌/◌, ◌%◌, ◌≤◌, ◌<◌, min, max}
use native.Mathlib.Decide.{ℕ_discrete, dec_lt}
use native.Mathlib.Nat.{mod-lt, div-lt_iff_lt-mul, mul_comm}
use native.Mathlib.Omega.{arith}
use lib.Dec.{eqb, ltb, leb}
use lib.ListN.{length, get_or, set, length-set, get_or-eq_default}
use lib.Seq.{get_or-set_same, get_or-set_other}
use Rattle.rules.specs.Base.{times}
use Rattle.rules.specs.Color.{Color, RunnerConfig, zero_sum, pixel, is_discard}
use Rattle.rules.specs.Grid.{up, left, up_left}
use Rattle.rules.specs.State.{State, Cluster, BoundingRect, empty_rect, is_empty, merge_rect, new_cluster, cluster, area, pixel_rect, with_pixel, fresh, add_pixel, begin_cluster, combine_clusters, emptied, with_cluster}
use Rattle.rules.specs.Stage1.{same_at, label_at, left_meets_up, lower_next, is_key, place, take_pixel, taken, combine_then_place}
use Rattle.rules.specs.Run.{stage1}
use Rattle.rules.specs.Code.Ranges.{OnImage}
use Rattle.rules.proofs.Early.{Placed, placed, fresh-cluster}
use Rattle.rules.proofs.Whole.{early-at}

pub no-rect : (w h : ℕ) → OnImage w h empty_rect
no-rect w h = record { left = omega arith; right = omega arith; top = omega arith; bottom = omega arith }

pub both-rects : (w h : ℕ) (a b : BoundingRect) → OnImage w h a → OnImage w h b → OnImage w h (merge_rect a b)
unfolding merge_rect
both-rects w h a b A B = pick (is_empty b) (is_empty a)
  where
    pick : (x y : Bool)
        → OnImage w h (if x then a else (if y then b else record { left = min a.left b.left; top = min a.top b.top; right = max a.right b.right; bottom = max a.bottom b.bottom }))
    pick true y = A
    pick false true = B
    pick false false = record { left = omega (arith, A.left, B.left); right = omega (arith, A.right, B.right); top = omega (arith, A.top, B.top); bottom = omega (arith, A.bottom, B.bottom) }

-- ---- what holds of each slot throughout stage 1

pub positive : (w h i : ℕ) → i < w * h → 0 < w
positive zero h i l = absurd (let z : i < 0 * h = l in omega arith)
positive (suc w) h i l = omega arith

module _ (o : RunnerConfig) (w h : ℕ) (image : List ℕ) (Q : Cluster → Type 0) (none_is : Q new_cluster)
    (joins : (i : ℕ) → i < w * h → (c : Cluster) → Q c → Q (with_pixel i (pixel image i) (pixel_rect (i % w) (i / w)) c))
    (grows : (f t : Cluster) → Q f → Q t → Q (with_cluster f t)) (empties : (f : Cluster) → Q f → Q (emptied f)) where
  abbrev Every : List Cluster → Type 0
  Every cs = (j : ℕ) → Q (get_or cs j new_cluster)

  set-every : (cs : List Cluster) (k : ℕ) (x : Cluster) → Every cs → Q x → Every (set cs k x)
  set-every cs k x f e j = pick (dec_lt k (length cs)) (ℕ_discrete j k)
    where
      pick : Dec (k < length cs) → Dec (j ≡ k) → Q (get_or (set cs k x) j new_cluster)
      pick (yes l) (yes z) = subst (λ m. Q (get_or (set cs k x) m new_cluster)) (sym z) (subst Q (sym (get_or-set_same cs k x new_cluster l)) e)
      pick (no l) (yes z) = subst Q (sym (get_or-eq_default (set cs k x) new_cluster {n = j} (omega (arith, length-set cs k x)))) none_is
      pick l (no z) = subst Q (sym (get_or-set_other cs k j x new_cluster z)) (f j)

  combine-every : (a b : ℕ) (s : State) → Every s.clusters → Every (combine_clusters a b s).clusters
  unfolding combine_clusters
  combine-every a b s f =
      set-every (set s.clusters b (with_cluster (cluster s a) (cluster s b))) a (emptied (cluster s a)) (set-every s.clusters b (with_cluster (cluster s a) (cluster s b)) f (grows (cluster s a) (cluster s b) (f a) (f b)))
      (empties (cluster s a) (f a))

  module _ (i : ℕ) (fits : i < w * h) where
    add-every : (k : ℕ) (s : State) → Every s.clusters → Every (add_pixel i (pixel image i) (pixel_rect (i % w) (i / w)) k s).clusters
    unfolding add_pixel
    add-every k s f = set-every s.clusters k (with_pixel i (pixel image i) (pixel_rect (i % w) (i / w)) (cluster s k)) f (joins i fits (cluster s k) (f k))

    begin_cluster-every : (s : State) → s.next_index ≤ length s.clusters → Every s.clusters → Every (begin_cluster i (pixel image i) (pixel_rect (i % w) (i / w)) s).clusters
    unfolding begin_cluster
    begin_cluster-every s l f j = pick (ℕ_discrete j s.next_index)
      where
        x : Cluster
        x = with_pixel i (pixel image i) (pixel_rect (i % w) (i / w)) new_cluster

        P : Placed s.clusters (if ltb s.next_index (length s.clusters) then set s.clusters s.next_index x else s.clusters ++ (x ∷ [])) s.next_index x
        P = placed s.clusters s.next_index x l (ltb s.next_index (length s.clusters)) refl

        pick : Dec (j ≡ s.next_index) → Q (get_or (if ltb s.next_index (length s.clusters) then set s.clusters s.next_index x else s.clusters ++ (x ∷ [])) j new_cluster)
        pick (yes z) =
            subst (λ m. Q (get_or (if ltb s.next_index (length s.clusters) then set s.clusters s.next_index x else s.clusters ++ (x ∷ [])) m new_cluster)) (sym z) (subst Q (sym P.here) (joins i fits new_cluster none_is))
        pick (no z) = subst Q (sym (P.other j z)) (f j)

    place-every : (l u : ℕ) (s : State) → s.next_index ≤ length s.clusters → Every s.clusters → Every (place o w image i l u s).clusters
    unfolding place
    place-every l u s r f =
        pick (is_key o image i) (is_discard o.keying_action) (same_at o image (some i) (up w i) && same_at o image (some i) (up_left w i)) (same_at o image (some i) (left w i) && same_at o image (some i) (up_left w i))
      where
        c : Color
        c = pixel image i

        at : BoundingRect
        at = pixel_rect (i % w) (i / w)

        pick : (k d x y : Bool) → Every (if k then (if d then s else add_pixel i c at 0 s) else (if x then add_pixel i c at u s else (if y then add_pixel i c at l s else begin_cluster i c at s))).clusters
        pick true true x y = f
        pick true false x y = add-every 0 s f
        pick false d true y = add-every u s f
        pick false d false true = add-every l s f
        pick false d false false = begin_cluster-every s r f

    take-every : (s : State) → s.next_index ≤ length s.clusters → Every s.clusters → Every (take_pixel o w image i s).clusters
    unfolding take_pixel combine_then_place combine_clusters lower_next
    take-every s r f = pick (left_meets_up o w image i s) (leb (area (cluster s l)) (area (cluster s u)))
      where
        l : ℕ
        l = label_at s (left w i)

        u : ℕ
        u = label_at s (up w i)

        same : (a b : ℕ) → length (combine_clusters a b s).clusters ≡ length s.clusters
        same a b = length-set (set s.clusters b (with_cluster (cluster s a) (cluster s b))) a (emptied (cluster s a)) ∙ length-set s.clusters b (with_cluster (cluster s a) (cluster s b))

        less : (b : Bool) → (if b then s.next_index - 1 else s.next_index) ≤ length s.clusters
        less true = omega arith
        less false = r

        pick : (b c : Bool) → Every (if b then (if c then place o w image i u u (lower_next l (combine_clusters l u s)) else place o w image i l l (combine_clusters u l s)) else place o w image i l u s).clusters
        pick true true = place-every u u (lower_next l (combine_clusters l u s)) (omega (arith, less (eqb (l + 1) s.next_index && eqb s.next_index (length (combine_clusters l u s).clusters)), same l u)) (combine-every l u s f)
        pick true false = place-every l l (combine_clusters u l s) (omega (arith, same u l)) (combine-every u l s f)
        pick false c = place-every l u s r f

  pub stage1-every : Every (stage1 o w h image).clusters
  unfolding stage1 taken
  stage1-every = all (w * h) (omega arith)
    where
      all : (n : ℕ) → n ≤ w * h → Every (times n (take_pixel o w image) (fresh (w * h))).clusters
      all zero l = λ j. subst Q (sym (fresh-cluster (w * h) j)) none_is
      all (suc n) l = take-every n l (times n (take_pixel o w image) (fresh (w * h))) (early-at o w h image n (omega arith)).room (all n (omega arith))

-- ----

pub record Slot (w h : ℕ) (c : Cluster) : Type 0 where
  pub holes : c.holes ≡ []
  pub depth : c.depth ≡ 0
  pub residue : c.residue ≡ zero_sum
  pub rect : OnImage w h c.rect

pub stage1-slots : (o : RunnerConfig) (w h : ℕ) (image : List ℕ) (k : ℕ) → Slot w h (cluster (stage1 o w h image) k)
unfolding with_pixel with_cluster emptied pixel_rect
stage1-slots o w h image =
    stage1-every o w h image (Slot w h) (record { holes = refl; depth = refl; residue = refl; rect = no-rect w h })
    (λ i l c S. record { holes = S.holes; depth = S.depth; residue = S.residue; rect = both-rects w h c.rect (pixel_rect (i % w) (i / w)) S.rect (at i l) })
    (λ f t F T. record { holes = T.holes; depth = T.depth; residue = T.residue; rect = both-rects w h t.rect f.rect T.rect F.rect })
    (λ f F. record { holes = F.holes; depth = F.depth; residue = F.residue; rect = no-rect w h })
  where
    at : (i : ℕ) → i < w * h → OnImage w h (pixel_rect (i % w) (i / w))
    at i l = record {
      left = omega arith;
      right = omega (arith, mod-lt i (positive w h i l));
      top = omega arith;
      bottom = omega (arith, (div-lt_iff_lt-mul {k = w} {x = i} {y = h} (positive w h i l)).1 (omega (arith, mul_comm w h)));
    }
