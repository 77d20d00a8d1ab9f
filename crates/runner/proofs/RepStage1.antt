-- The buffers hold the rules' state through the operations of stage 1.
use Rattle.std.specs.Prelude.{if◌then◌else◌}
use mathlib.Core.Path.{◌≡◌, refl, sym, ap, ◌∙◌, subst}
use mathlib.Core.Logic.{◌≢◌}
use mathlib.Core.Bool.{Bool, true, false}
use mathlib.Core.List.{List, [], ◌∷◌, ◌++◌, append-nil}
use Prim.Native.Nat.{ℕ, ◌+◌, ◌*◌, ◌≤◌, ◌<◌}
use native.Mathlib.Decide.{ℕ_discrete}
use native.Mathlib.Omega.{arith}
use lib.Dec.{T, eqb, eqb-suc-zero, ltb}
use lib.ListN.{length, get_or, set, replicate, length-set, length-replicate, get_or-replicate}
use lib.Seq.{get_or-set_same, get_or-set_other, ext_get_or}
use Rattle.rules.specs.Color.{Color}
use Rattle.rules.specs.State.{State, BoundingRect, new_cluster, cluster, label, area, relabel, with_pixel, with_cluster, emptied, fresh, add_pixel, begin_cluster, combine_clusters}
use Rattle.rules.specs.Stage1.{lower_next}
use Rattle.rules.specs.Layout.{after, first_of, link, links, slot, walk, slot_width}
use Rattle.rules.specs.Claim.{bit, occurs}
use Rattle.rules.specs.Paint.{reads}
use Rattle.rules.specs.Code.Early.{Early}
use Rattle.rules.proofs.Facts.{eqb_yes, eqb_no}
use Rattle.rules.proofs.Basic.{Moved, three, combine-f, combine-t, combine-moved, some-held, held_none, once-held}
use Rattle.rules.proofs.Early.{Placed, placed, fresh-cluster}
use Rattle.rules.proofs.Links.{after_none, Tailed, moved-tailed, moved_other}
use Rattle.rules.proofs.Layouts.{links-length, links-at}
use Rattle.runner.specs.Code.Slots.{head_of, saved_head, cleared_slot}
use Rattle.runner.specs.Code.Rep.{Table, Rep, last_of, slots_of, link_after}
use Rattle.runner.proofs.Tails.{last_of-append, link_after-empty, linked-tail}
use Rattle.runner.proofs.RepReads.{label-chain, rep-labels-length, rep-links-length, rep-reads, rep-walk, rep-tail}
use Rattle.runner.proofs.PlainSlots.{Plain, rest_of, plain-of, of_plain, plain-head, plain-new, plain-begin}

named_none : (xs : List ℕ) → ((p : ℕ) → occurs p xs ≡ 0) → xs ≡ []
named_none [] e = refl
named_none (x ∷ r) e = absurd (let b : bit (eqb x x) ≡ 1 = ap bit (eqb_yes x x refl) in omega (arith, e x))

-- ---- the list of a cluster gets a tail

module _ {image : List ℕ} {size : ℕ} {Gone : ℕ → Type 0} {Keyed : Type 0} {i : ℕ} {s : State} (E : Early image size Gone Keyed i s) where
  -- the pixel to be taken is in no list
  untaken : (k : ℕ) → occurs i (cluster s k).pixels ≡ 0
  untaken k = held_none E.basic k i (λ x. let l : i < i = E.before k i x in omega arith)

  -- by the pixel to be taken
  pixel-tailed : {s' : State} (k : ℕ) → i < size → s'.labels ≡ set s.labels i k → (cluster s' k).pixels ≡ (cluster s k).pixels ++ (i ∷ []) → Tailed k (i ∷ []) s s'
  unfolding link after
  pixel-tailed {s'} k l labels here = record {
    wide = ap length labels ∙ length-set s.labels i k;
    grown = here;
    once = once-held E.basic k;
    own = λ p d. E.flats k p (some-held E.basic k p d);
    apart = λ p d. subst (λ q. occurs q (cluster s k).pixels ≡ 0) (sym (only p d)) (untaken k);
    moved = λ p d. ap (label s') (only p d) ∙ ap (λ ls. get_or ls i 0) labels ∙ get_or-set_same s.labels i k 0 (omega (arith, E.basic.width));
    along = λ p d. ap (link s) (only p d) ∙ after_none i (cluster s (label s i)).pixels (untaken (label s i));
    stays = λ p e. ap (λ ls. get_or ls p 0) labels ∙ get_or-set_other s.labels i p k 0 (λ z. let b : bit (eqb p i) ≡ 1 = ap bit (eqb_yes p i z) in omega arith);
  }
    where
      only : (p : ℕ) → occurs p (i ∷ []) ≢ 0 → p ≡ i
      only p d = elim (ℕ_discrete p i) [ yes e ↦ e | no e ↦ absurd (d (let b : bit (eqb p i) ≡ 0 = ap bit (eqb_no p i e) in omega arith)) ]

-- ---- the buffers

-- before the first pixel
pub rep-fresh : (size : ℕ) (t₀ ends : List ℕ) → length ends ≡ size + 1 → slot_width ≤ length t₀
    → Rep size (fresh size) t₀ (replicate size 0) (replicate size 0) (cleared_slot t₀ 0) ends
unfolding fresh link after
rep-fresh size t₀ ends e l = record {
  labelled = refl;
  linked = ext_get_or 0 (replicate size 0) (links (fresh size)) (sym (links-length (fresh size)))
      (λ p b. get_or-replicate size p 0 0 (omega (arith, length-replicate {A = ℕ} size 0))
      ∙ sym (links-at (fresh size) p b ∙ ap (λ c. after p c.pixels) (fresh-cluster size (label (fresh size) p))));
  tabled = of_plain (fresh size) none (plain-new begun l);
  tails = λ k a z. absurd (omega (arith, ap area (fresh-cluster size k)));
  room = e;
}
  where
    begun : Plain t₀ [] t₀
    begun = record { tabled = record { long = refl; slots = λ k f a b. absurd (omega arith); beyond = λ i b. refl } }

    none : (k : ℕ) → (cluster (fresh size) k).holes ≡ []
    none k = ap (λ c. c.holes) (fresh-cluster size k)

-- only next changes
pub rep-lower : {size : ℕ} {s : State} {t₀ labels links' table ends : List ℕ} (l : ℕ) → Rep size s t₀ labels links' table ends → Rep size (lower_next l s) t₀ labels links' table ends
unfolding lower_next links link slot
rep-lower l R = record { labelled = R.labelled; linked = R.linked; tabled = R.tabled; tails = R.tails; room = R.room }

module _ {image : List ℕ} {size : ℕ} {Gone : ℕ → Type 0} {Keyed : Type 0} {i : ℕ} {s : State} {t₀ labels links' table ends : List ℕ} (E : Early image size Gone Keyed i s)
    (R : Rep size s t₀ labels links' table ends) (fits : i < size) where
  -- pixel i goes to cluster k
  rep-pixel : (s' : State) (table' : List ℕ) (k : ℕ) → k ≤ size → s'.labels ≡ set s.labels i k → (cluster s' k).pixels ≡ (cluster s k).pixels ++ (i ∷ [])
      → ((j : ℕ) → j ≢ k → cluster s' j ≡ cluster s j) → (cluster s' k).holes ≡ []
      → (((j : ℕ) → (cluster s' j).holes ≡ []) → Table (length s'.clusters) (slots_of s') t₀ table')
      → Rep size s' t₀ (set labels i k) (link_after links' (area (cluster s k)) (get_or ends k 0) (i + 1)) table' (set ends k (i + 1))
  unfolding first_of last_of link
  rep-pixel s' table' k small labels' here other none tabled = record {
    labelled = ap (λ ls. set ls i k) R.labelled ∙ sym labels';
    linked = ap (link_after links' (area (cluster s k)) (get_or ends k 0)) (omega arith) ∙ linked-tail tailed
        (λ p e d. ap (λ m. after p (cluster s' m).pixels) (tailed.stays p e) ∙ ap (λ c. after p c.pixels) (other (label s p) d)) R.linked (λ l. R.tails k l (E.roots k));
    tabled = tabled nones;
    tails = λ j a z. tail j a (ℕ_discrete j k);
    room = length-set ends k (i + 1) ∙ R.room;
  }
    where
      tailed : Tailed k (i ∷ []) s s'
      tailed = pixel-tailed E k fits labels' here

      nones : (j : ℕ) → (cluster s' j).holes ≡ []
      nones j = elim (ℕ_discrete j k) [ yes e ↦ ap (λ m. (cluster s' m).holes) e ∙ none | no d ↦ ap (λ c. c.holes) (other j d) ∙ E.no_holes j ]

      tail : (j : ℕ) → 0 < area (cluster s' j) → Dec (j ≡ k) → get_or (set ends k (i + 1)) j 0 ≡ last_of (cluster s' j).pixels
      tail j a (yes e) =
          ap (λ m. get_or (set ends k (i + 1)) m 0) e ∙ get_or-set_same ends k (i + 1) 0 (omega (arith, R.room)) ∙ omega arith
          ∙ sym (ap (λ m. last_of (cluster s' m).pixels) e ∙ ap last_of here ∙ last_of-append (cluster s k).pixels (i ∷ []) (omega arith))
      tail j a (no d) =
          get_or-set_other ends k j (i + 1) 0 d ∙ R.tails j (omega (arith, ap area (other j d))) (E.roots j) ∙ ap (λ c. last_of c.pixels) (sym (other j d))

  module _ (c : Color) (at : BoundingRect) where
    pub rep_add : (k : ℕ) → k < s.next_index → slot_width * length s.clusters ≤ length t₀
        → Rep size (add_pixel i c at k s) t₀ (set labels i k) (link_after links' (area (cluster s k)) (get_or ends k 0) (i + 1)) (saved_head table k (head_of (with_pixel i c at (cluster s k)))) (set ends k (i + 1))
    unfolding add_pixel with_pixel rest_of
    rep_add k l room =
        rep-pixel (add_pixel i c at k s) (saved_head table k (head_of (with_pixel i c at (cluster s k)))) k (omega (arith, E.short)) refl (ap (λ x. x.pixels) here)
        (λ j d. get_or-set_other s.clusters k j (with_pixel i c at (cluster s k)) new_cluster d) (ap (λ x. x.holes) here ∙ E.no_holes k)
        (λ none. of_plain (add_pixel i c at k s) none (plain-head (plain-of s E.no_holes R.tabled) k (with_pixel i c at (cluster s k)) slot-k room refl))
      where
        slot-k : k < length s.clusters
        slot-k = omega (arith, E.room)

        here : cluster (add_pixel i c at k s) k ≡ with_pixel i c at (cluster s k)
        here = get_or-set_same s.clusters k (with_pixel i c at (cluster s k)) new_cluster slot-k

    pub rep_begin : slot_width * (length s.clusters + 1) ≤ length t₀
        → Rep size (begin_cluster i c at s) t₀ (set labels i s.next_index) links' (saved_head (cleared_slot table s.next_index) s.next_index (head_of (with_pixel i c at new_cluster))) (set ends s.next_index (i + 1))
    unfolding begin_cluster with_pixel rest_of
    rep_begin room =
        subst (λ ls. Rep size (begin_cluster i c at s) t₀ (set labels i s.next_index) ls (saved_head (cleared_slot table s.next_index) s.next_index (head_of (with_pixel i c at new_cluster))) (set ends s.next_index (i + 1)))
        (ap (λ n. link_after links' n (get_or ends s.next_index 0) (i + 1)) (ap length empty) ∙ link_after-empty links' (get_or ends s.next_index 0) (i + 1))
        (rep-pixel (begin_cluster i c at s) (saved_head (cleared_slot table s.next_index) s.next_index (head_of (with_pixel i c at new_cluster))) s.next_index (omega (arith, E.short, E.room)) refl
        (ap (λ x. x.pixels) P.here ∙ ap (λ xs. xs ++ (i ∷ [])) (sym empty)) P.other (ap (λ x. x.holes) P.here)
        (λ none. of_plain (begin_cluster i c at s) none (plain-begin (plain-of s E.no_holes R.tabled) s.next_index (with_pixel i c at new_cluster) E.room room refl)))
      where
        P : Placed s.clusters (begin_cluster i c at s).clusters s.next_index (with_pixel i c at new_cluster)
        P = placed s.clusters s.next_index (with_pixel i c at new_cluster) E.room (ltb s.next_index (length s.clusters)) refl

        empty : (cluster s s.next_index).pixels ≡ []
        empty = named_none (cluster s s.next_index).pixels (λ p. held_none E.basic s.next_index p (E.free s.next_index p (omega arith)))

  module _ (f t : ℕ) (n : f ≢ t) (hf : f < s.next_index) (ht : t < s.next_index) where
    to : t < length s.clusters
    to = omega (arith, E.room)

    from : f < length s.clusters
    from = omega (arith, E.room)

    M : Moved f t s (combine_clusters f t s)
    M = combine-moved f t s n from to

    -- one of three: f is empty, t has both lists, another is as it was
    combine-tails : (j : ℕ) → 0 < area (cluster (combine_clusters f t s) j)
        → get_or (if eqb (area (cluster s f)) 0 then ends else set ends t (get_or ends f 0)) j 0 ≡ last_of (cluster (combine_clusters f t s) j).pixels
    unfolding emptied
    combine-tails = three f t (λ j. 0 < area (cluster (combine_clusters f t s) j) → get_or (ends' (area (cluster s f))) j 0 ≡ last_of (cluster (combine_clusters f t s) j).pixels)
        (λ a. absurd (omega (arith, ap area (combine-f f t s n from to))))
        (λ a. joined (cluster s f).pixels refl a)
        (λ j d e a. far (eqb (area (cluster s f)) 0) j e ∙ R.tails j (omega (arith, ap area (M.other j d e))) (E.roots j) ∙ ap (λ c. last_of c.pixels) (sym (M.other j d e)))
      where
        ends' : ℕ → List ℕ
        ends' count = if eqb count 0 then ends else set ends t (get_or ends f 0)

        far : (b : Bool) (j : ℕ) → j ≢ t → get_or (if b then ends else set ends t (get_or ends f 0)) j 0 ≡ get_or ends j 0
        far true j d = refl
        far false j d = get_or-set_other ends t j (get_or ends f 0) 0 d

        joined : (fs : List ℕ) → (cluster s f).pixels ≡ fs → 0 < area (cluster (combine_clusters f t s) t) → get_or (ends' (length fs)) t 0 ≡ last_of (cluster (combine_clusters f t s) t).pixels
        joined [] e a =
            let q : (cluster (combine_clusters f t s) t).pixels ≡ (cluster s t).pixels = M.t-pixels ∙ ap (λ xs. (cluster s t).pixels ++ xs) e ∙ append-nil (cluster s t).pixels in
            R.tails t (omega (arith, ap length q)) (E.roots t) ∙ ap last_of (sym q)
        joined (y ∷ ys) e a = rw (eqb-suc-zero (length ys))
            (get_or-set_same ends t (get_or ends f 0) 0 (omega (arith, R.room, E.short)) ∙ R.tails f (omega (arith, ap length e)) (E.roots f) ∙ ap last_of e
            ∙ sym (ap last_of (M.t-pixels ∙ ap (λ xs. (cluster s t).pixels ++ xs) e) ∙ last_of-append (cluster s t).pixels (y ∷ ys) (omega arith)))

    combine-table : slot_width * length s.clusters ≤ length t₀
        → Plain t₀ (combine_clusters f t s).clusters (saved_head (saved_head table t (head_of (with_cluster (cluster s f) (cluster s t)))) f (head_of new_cluster))
    unfolding combine_clusters with_cluster emptied rest_of
    combine-table room =
        plain-head (plain-head (plain-of s E.no_holes R.tabled) t (with_cluster (cluster s f) (cluster s t)) to room refl) f (emptied (cluster s f)) (omega (arith, long, from)) (omega (arith, long))
        (ap rest_of (sym (get_or-set_other s.clusters t f (with_cluster (cluster s f) (cluster s t)) new_cluster n)))
      where
        long : length (set s.clusters t (with_cluster (cluster s f) (cluster s t))) ≡ length s.clusters
        long = length-set s.clusters t (with_cluster (cluster s f) (cluster s t))

    pub rep-combine : slot_width * length s.clusters ≤ length t₀
        → Rep size (combine_clusters f t s) t₀ (relabel t (cluster s f).pixels labels) (link_after links' (area (cluster s t)) (get_or ends t 0) (first_of (cluster s f).pixels))
        (saved_head (saved_head table t (head_of (with_cluster (cluster s f) (cluster s t)))) f (head_of new_cluster)) (if eqb (area (cluster s f)) 0 then ends else set ends t (get_or ends f 0))
    unfolding with_cluster emptied
    rep-combine room = record {
      labelled = ap (relabel t (cluster s f).pixels) R.labelled ∙ sym M.labels;
      linked = linked-tail (moved-tailed E.basic f t n M (E.flats f) (E.flats t))
          (λ p. moved_other E.basic f t n M (E.flats f) (E.flats t) p (λ z. ap (λ c. occurs p c.pixels) (combine-f f t s n from to))) R.linked (λ l. R.tails t l (E.roots t));
      tabled = of_plain (combine_clusters f t s) nones (combine-table room);
      tails = λ j a z. combine-tails j a;
      room = long (eqb (area (cluster s f)) 0);
    }
      where
        nones : (j : ℕ) → (cluster (combine_clusters f t s) j).holes ≡ []
        nones =
            three f t (λ j. (cluster (combine_clusters f t s) j).holes ≡ []) (ap (λ c. c.holes) (combine-f f t s n from to) ∙ E.no_holes f) (ap (λ c. c.holes) (combine-t f t s n from to) ∙ E.no_holes t)
            (λ j a b. ap (λ c. c.holes) (M.other j a b) ∙ E.no_holes j)

        long : (b : Bool) → length (if b then ends else set ends t (get_or ends f 0)) ≡ size + 1
        long true = R.room
        long false = length-set ends t (get_or ends f 0) ∙ R.room

-- ---- what the code reads of a cluster

module _ {image : List ℕ} {size : ℕ} {Gone : ℕ → Type 0} {Keyed : Type 0} {i : ℕ} {s : State} {t₀ labels links' table ends : List ℕ} (E : Early image size Gone Keyed i s)
    (R : Rep size s t₀ labels links' table ends) where
  pub labels-long : length labels ≡ size
  labels-long = rep-labels-length E.basic R

  pub links-long : length links' ≡ size
  links-long = rep-links-length E.basic R

  -- its list can be read along the links
  pub list-reads : (k : ℕ) → T (reads size links' (first_of (cluster s k).pixels) (area (cluster s k)))
  list-reads k = rep-reads E.basic R k (label-chain E.basic k (E.flats k))

  pub list-walk : (k : ℕ) → walk (λ p. get_or links' p 0) (first_of (cluster s k).pixels) (area (cluster s k)) ≡ (cluster s k).pixels
  list-walk k = rep-walk E.basic R k (label-chain E.basic k (E.flats k))

  -- the last pixel is on the image
  pub tail-in : (k : ℕ) → 0 < area (cluster s k) → (0 < get_or ends k 0) × (get_or ends k 0 ≤ size)
  tail-in k a = rep-tail E.basic R k a (E.roots k)
