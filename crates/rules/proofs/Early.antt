-- Stage 1: what holds after i pixels, and that stage 2 starts from it.
use Rattle.std.specs.Prelude.{if◌then◌else◌}
use mathlib.Core.Path.{◌≡◌, refl, sym, ap, ◌∙◌, subst, fun_ext}
use mathlib.Core.Logic.{◌≢◌, ◌⊎◌, inl, inr, by_cases}
use mathlib.Core.Bool.{Bool, true, false, not, ◌&&◌, ◌||◌, true≢false}
use mathlib.Core.List.{List, [], ◌∷◌, ◌++◌}
use mathlib.Core.Option.{Option, some, none as off}
use Prim.Native.Nat.{ℕ, zero, suc, ◌+◌, ◌-◌, ◌/◌, ◌%◌, ◌≤◌, ◌<◌}
use native.Mathlib.Decide.{ℕ_discrete}
use native.Mathlib.Nat.{mod-le}
use native.Mathlib.Omega.{arith}
use borrow.Author.Tests.{eqb-true, leb-true, ltb-false, ltb-true}
use lib.Dec.{T, not_T, eqb, ltb, leb, ltb→lt, lt→ltb, nltb→le}
use lib.ListN.{length, get_or, set, replicate, length-set, length-append, length-replicate, get_or-append, get_or-eq_default, get_or-map, length-map}
use lib.Seq.{get_or-set_same, get_or-set_other, get_or-append_seam}
use Rattle.rules.specs.Base.{times}
use Rattle.rules.specs.Color.{Color, RunnerConfig, sum_of_one, ◌⊕◌, pixel, is_discard}
use Rattle.rules.specs.Grid.{up, left, up_left}
use Rattle.rules.specs.State.{State, Cluster, BoundingRect, new_cluster, cluster, label, area, pixel_rect, with_pixel, with_cluster, emptied, with_residue, fresh, add_pixel, begin_cluster, combine_clusters, added, plain}
use Rattle.rules.specs.Stage1.{same_at, label_at, left_meets_up, lower_next, is_key, place, combine_then_place, take_pixel, taken}
use Rattle.rules.specs.Stage2.{prepare_stage2}
use Rattle.rules.specs.Ledger.{Held, enter, ledger}
use Rattle.rules.specs.Claim.{bit, occurs, tally, count_of}
use Rattle.rules.specs.Code.Early.{Basic, owned, standing, Early}
use Rattle.rules.proofs.Facts.{count_of-le, count_of-more, count_of-swap, count_of-none}
use Rattle.rules.proofs.Facts.{is_true, is_false, T-dec, T-or-r, eqb_yes, eqb_no, bit_or, occurs-append, ⊕-comm, tally-or, tally-none, tally-one, both_true}
use Rattle.rules.proofs.Forest.{flat}
use Rattle.rules.proofs.Basic.{Moved, three, plain_down, plain-to, plain-up, lab-from, lab-other, plain-basic, combine-f, combine-t, combine-moved}
use Rattle.rules.proofs.Sound.{Sound}
use Rattle.rules.proofs.Visits.{Going}

-- ---- the ledger after a pixel is added

module _ (g : Held) (i k : ℕ) where
  pub added-k : enter (added i k) g k ≡ (λ q. eqb q i || g k q)
  added-k = fun_ext λ q. rw (eqb_yes k k refl)

  pub added-o : (j : ℕ) → j ≢ k → enter (added i k) g j ≡ g j
  added-o j n = fun_ext λ q. rw (eqb_no j k n)

  pub added-up : (j q : ℕ) → T (g j q) → T (enter (added i k) g j q)
  added-up j q x = T-or-r (eqb j k && eqb q i) (g j q) x

  pub added-here : T (enter (added i k) g k i)
  added-here = rw (eqb_yes k k refl, eqb_yes i i refl) tt

  pub added-down : (j q : ℕ) → T (enter (added i k) g j q) → ((j ≡ k) × (q ≡ i)) ⊎ T (g j q)
  added-down j q x = pick (eqb j k) refl (eqb q i) refl x
    where
      pick : (b : Bool) → eqb j k ≡ b → (c : Bool) → eqb q i ≡ c → T ((b && c) || g j q) → ((j ≡ k) × (q ≡ i)) ⊎ T (g j q)
      pick true e true d y = inl (eqb-true j k e, eqb-true q i d)
      pick true e false d y = inr y
      pick false e c d y = inr y

pub record Adds (image : List ℕ) (size : ℕ) (i k : ℕ) (s s' : State) : Type 0 where
  pub k-pixels : (p : ℕ) → occurs p (cluster s' k).pixels ≡ bit (ledger s.log k p) + bit (eqb p i)
  pub k-sum : (cluster s' k).sum ≡ tally image (ledger s.log k) size ⊕ sum_of_one (pixel image i)
  pub k-root : (cluster s' k).merged_into ≡ 0
  pub k-holes : (cluster s' k).holes ≡ []
  pub other : (j : ℕ) → j ≢ k → cluster s' j ≡ cluster s j
  pub labels : s'.labels ≡ set s.labels i k
  pub grows : length s.clusters ≤ length s'.clusters
  pub k-next : k < s'.next_index
  pub next_up : s.next_index ≤ s'.next_index
  pub next-room : s'.next_index ≤ length s'.clusters
  pub logs : s'.log ≡ added i k ∷ s.log
  pub outs : s'.outputs ≡ s.outputs
  pub one-slot : length s'.clusters ≤ suc (length s.clusters)

-- one of two: k, or another
two : (k : ℕ) (P : ℕ → Type 0) → P k → ((j : ℕ) → j ≢ k → P j) → (j : ℕ) → P j
two k P a b j = elim (ℕ_discrete j k) [ yes e ↦ subst P (sym e) a | no d ↦ b j d ]

-- slot n of a list of at least n, replaced or appended
pub record Placed (cs cs' : List Cluster) (n : ℕ) (x : Cluster) : Type 0 where
  pub here : get_or cs' n new_cluster ≡ x
  pub other : (j : ℕ) → j ≢ n → get_or cs' j new_cluster ≡ get_or cs j new_cluster
  pub grows : length cs ≤ length cs'
  pub holds : n < length cs'
  pub short : length cs' ≤ suc (length cs)

pub placed : (cs : List Cluster) (n : ℕ) (x : Cluster) → n ≤ length cs → (c : Bool) → ltb n (length cs) ≡ c → Placed cs (if c then set cs n x else cs ++ (x ∷ [])) n x
placed cs n x r true e =
    let l : n < length cs = ltb-true n (length cs) e in
    record { here = get_or-set_same cs n x new_cluster l; other = λ j d. get_or-set_other cs n j x new_cluster d; grows = omega (arith, length-set cs n x); holds = omega (arith, length-set cs n x); short = omega (arith, length-set cs n x) }
placed cs n x r false e =
    record {
      here = subst (λ y. get_or (cs ++ (x ∷ [])) y new_cluster ≡ x) q (get_or-append_seam cs x [] new_cluster);
      other = λ j d. far j d (T-dec (ltb j (length cs)));
      grows = omega (arith, m);
      holds = omega (arith, m, q);
      short = omega (arith, m);
    }
  where
    q : length cs ≡ n
    q = let l : length cs ≤ n = ltb-false n (length cs) e in omega arith

    m : length (cs ++ (x ∷ [])) ≡ length cs + 1
    m = length-append cs (x ∷ [])

    far : (j : ℕ) → j ≢ n → Dec (T (ltb j (length cs))) → get_or (cs ++ (x ∷ [])) j new_cluster ≡ get_or cs j new_cluster
    far j d (yes z) = get_or-append cs (x ∷ []) new_cluster j (ltb→lt j (length cs) z)
    far j d (no z) =
        let l : length cs ≤ j = nltb→le j (length cs) (not_T (ltb j (length cs)) z) in
        get_or-eq_default (cs ++ (x ∷ [])) new_cluster (omega (arith, m, q)) ∙ sym (get_or-eq_default cs new_cluster l)

pub fresh-cluster : (size k : ℕ) → cluster (fresh size) k ≡ new_cluster
unfolding fresh
fresh-cluster size zero = refl
fresh-cluster size (suc k) = refl

zeros : (n i : ℕ) → ◌≡◌ {A = ℕ} (get_or (replicate n 0) i 0) 0
zeros zero i = refl
zeros (suc n) zero = refl
zeros (suc n) (suc i) = zeros n i

pub settled : (s : State) (k : ℕ) → cluster (prepare_stage2 s) k ≡ with_residue (cluster s k).sum (cluster s k)
unfolding prepare_stage2 with_residue
settled s k = get_or-map (λ c. with_residue c.sum c) s.clusters k new_cluster

-- a place that is none, or below i
abbrev pub Earlier : ℕ → Option ℕ → Type 0
Earlier i (some j) = j < i
Earlier i off = Unit {0}

-- left and up come before
pub left-earlier : (w i : ℕ) → 0 < w → Earlier i (left w i)
unfolding left
left-earlier w i pos = pick (ltb 0 (i % w)) refl
  where
    pick : (b : Bool) → ltb 0 (i % w) ≡ b → Earlier i (if b then some (i - 1) else off)
    pick true e = let l : 0 < i % w = ltb-true 0 (i % w) e in omega (arith, mod-le i w)
    pick false e = tt

pub up-earlier : (w i : ℕ) → 0 < w → Earlier i (up w i)
unfolding up
up-earlier w i pos = pick (leb w i) refl
  where
    pick : (b : Bool) → leb w i ≡ b → Earlier i (if b then some (i - w) else off)
    pick true e = let l : w ≤ i = leb-true w i e in omega arith
    pick false e = tt

module _ {image : List ℕ} {size : ℕ} {Gone : ℕ → Type 0} {Keyed : Type 0} where
  module _ {i k : ℕ} {s s' : State} (E : Early image size Gone Keyed i s) (fits : i < size) (A : Adds image size i k s s') (zero-keyed : k ≡ 0 → Keyed) (here-held : Gone i → ⊥) where
    h : Held
    h = ledger s.log

    h' : Held
    h' = enter (added i k) h

    new : (j : ℕ) → eqb j i ≡ true → T (h k j) → ⊥
    unfolding h
    new j e x = let z : j < i = E.before k j x in let y : j ≡ i = eqb-true j i e in omega arith

    at_i : label s' i ≡ k
    at_i = ap (λ l. get_or l i 0) A.labels ∙ get_or-set_same s.labels i k 0 (omega (arith, E.basic.width))

    at-o : (p : ℕ) → p ≢ i → label s' p ≡ label s p
    at-o p n = ap (λ l. get_or l p 0) A.labels ∙ get_or-set_other s.labels i p k 0 n

    disjoint : (p : ℕ) → T (eqb p i) → T (h k p) → ⊥
    disjoint p a b = new p (is_true (eqb p i) a) b

    add-basic : Basic image size h' s'
    unfolding h h'
    add-basic = record {
      lists = two k (λ j. (p : ℕ) → occurs p (cluster s' j).pixels ≡ bit (enter (added i k) (ledger s.log) j p))
          (λ p. A.k-pixels p ∙ omega (arith, bit_or (eqb p i) (ledger s.log k p) (disjoint p)) ∙ sym (ap (λ g. bit (g p)) (added-k (ledger s.log) i k)))
          (λ j n p. ap (λ c. occurs p c.pixels) (A.other j n) ∙ E.basic.lists j p ∙ sym (ap (λ g. bit (g p)) (added-o (ledger s.log) i k j n)));
      sums = two k (λ j. (cluster s' j).sum ≡ tally image (enter (added i k) (ledger s.log) j) size)
          (A.k-sum ∙ ⊕-comm (tally image (ledger s.log k) size) (sum_of_one (pixel image i)) ∙ ap (λ x. x ⊕ tally image (ledger s.log k) size) (sym (tally-one image i size fits))
          ∙ sym (tally-or image (λ q. eqb q i) (ledger s.log k) disjoint size) ∙ sym (ap (λ g. tally image g size) (added-k (ledger s.log) i k)))
          (λ j n. ap (λ c. c.sum) (A.other j n) ∙ E.basic.sums j ∙ sym (ap (λ g. tally image g size) (added-o (ledger s.log) i k j n)));
      shown = λ p x. by_cases (ℕ_discrete p i)
          (λ e. subst (λ q. T (enter (added i k) (ledger s.log) (label s' q) q)) (sym e) (subst (λ m. T (enter (added i k) (ledger s.log) m i)) (sym at_i) (added-here (ledger s.log) i k)))
          (λ d. subst (λ m. T (enter (added i k) (ledger s.log) m p)) (sym (at-o p d)) (added-up (ledger s.log) i k (label s p) p (E.basic.shown p (λ z. x (at-o p d ∙ z)))));
      places = λ j p x. elim (added-down (ledger s.log) i k j p x) [ inl x ↦ omega (arith, wide) | inr x ↦ omega (arith, wide, E.basic.width, E.basic.places j p x) ];
      slots = λ j p x. elim (added-down (ledger s.log) i k j p x) [ inl x ↦ omega (arith, A.k-next, A.next-room) | inr x ↦ omega (arith, E.basic.slots j p x, A.grows) ];
      width = wide;
    }
      where
        wide : length s'.labels ≡ size
        wide = ap length A.labels ∙ length-set s.labels i k ∙ E.basic.width

    pub add-early : Early image size Gone Keyed (suc i) s'
    unfolding h h'
    add-early = subst (λ l. owned l ≡ ledger l → Basic image size (ledger l) s' → ((j p : ℕ) → T (ledger l j p) → ((j ≡ k) × (p ≡ i)) ⊎ T (ledger s.log j p))
        → (T (ledger l k i)) → ((j p : ℕ) → T (ledger s.log j p) → T (ledger l j p)) → Early image size Gone Keyed (suc i) s') A.logs build
        (ap (enter (added i k)) E.same) add-basic (added-down (ledger s.log) i k) (added-here (ledger s.log) i k) (added-up (ledger s.log) i k)
      where
        build : owned s'.log ≡ ledger s'.log → Basic image size (ledger s'.log) s' → ((j p : ℕ) → T (ledger s'.log j p) → ((j ≡ k) × (p ≡ i)) ⊎ T (ledger s.log j p))
            → (T (ledger s'.log k i)) → ((j p : ℕ) → T (ledger s.log j p) → T (ledger s'.log j p)) → Early image size Gone Keyed (suc i) s'
        build q B down here up = record {
          basic = B;
          flats = λ j p x. elim (down j p x) [ inl x ↦ ap (label s') x.1 ∙ at_i ∙ sym x.0 | inr x ↦ at-o p (λ e. let z : p < i = E.before j p x in omega arith) ∙ E.flats j p x ];
          before = λ j p x. elim (down j p x) [ inl x ↦ omega arith | inr x ↦ omega (arith, E.before j p x) ];
          covered = λ p x. by_cases (ℕ_discrete p i)
              (λ e. inr (k, subst (λ m. T (ledger s'.log k m)) (sym e) here))
              (λ d. elim (E.covered p (omega arith)) [ inl y ↦ inl y | inr y ↦ inr (y.0, up y.0 p y.1) ]);
          never = λ j p x y. elim (down j p x) [ inl x ↦ here-held (subst Gone x.1 y) | inr x ↦ E.never j p x y ];
          lit = λ p x e. by_cases (ℕ_discrete p i)
              (λ z. zero-keyed (sym at_i ∙ sym (ap (label s') z) ∙ e))
              (λ z. E.lit p (omega arith) (sym (at-o p z) ∙ e));
          free = λ j p y x. elim (down j p x) [ inl x ↦ omega (arith, A.k-next) | inr x ↦ E.free j p (omega (arith, A.next_up)) x ];
          room = A.next-room;
          some = omega (arith, E.some, A.next_up);
          roots = two k (λ j. (cluster s' j).merged_into ≡ 0) A.k-root (λ j n. ap (λ c. c.merged_into) (A.other j n) ∙ E.roots j);
          no_holes = two k (λ j. (cluster s' j).holes ≡ []) A.k-holes (λ j n. ap (λ c. c.holes) (A.other j n) ∙ E.no_holes j);
          same = q;
          quiet = A.outs ∙ E.quiet;
          short = omega (arith, E.short, A.one-slot);
          few = λ N l. omega (arith, E.few N (omega (arith, A.grows)), count_of-more (standing s') (standing s) k (λ j d. subst (λ c. T (ltb 0 (area c)) → T (standing s j)) (sym (A.other j d)) (λ x. x)) N);
        }

  -- ---- the two ways to add a pixel

  pub add-adds : (i k : ℕ) (at : BoundingRect) (s : State) → Early image size Gone Keyed i s → k < s.next_index → Adds image size i k s (add_pixel i (pixel image i) at k s)
  unfolding add_pixel with_pixel
  add-adds i k at s E fits = record {
    k-pixels = λ p. ap (λ c. occurs p c.pixels) here ∙ occurs-append p (cluster s k).pixels (i ∷ []) ∙ omega (arith, E.basic.lists k p);
    k-sum = ap (λ c. c.sum) here ∙ ap (λ x. x ⊕ sum_of_one (pixel image i)) (E.basic.sums k);
    k-root = ap (λ c. c.merged_into) here ∙ E.roots k;
    k-holes = ap (λ c. c.holes) here ∙ E.no_holes k;
    other = λ j n. get_or-set_other s.clusters k j _ new_cluster n;
    labels = refl;
    grows = omega (arith, length-set s.clusters k (with_pixel i (pixel image i) at (cluster s k)));
    k-next = fits;
    next_up = omega arith;
    next-room = omega (arith, E.room, length-set s.clusters k (with_pixel i (pixel image i) at (cluster s k)));
    logs = refl;
    outs = refl;
    one-slot = omega (arith, length-set s.clusters k (with_pixel i (pixel image i) at (cluster s k)));
  }
    where
      here : cluster (add_pixel i (pixel image i) at k s) k ≡ with_pixel i (pixel image i) at (cluster s k)
      here = get_or-set_same s.clusters k _ new_cluster (omega (arith, E.room))

  pub begin_cluster-adds : (i : ℕ) (at : BoundingRect) (s : State) → Early image size Gone Keyed i s → Adds image size i s.next_index s (begin_cluster i (pixel image i) at s)
  unfolding begin_cluster with_pixel
  begin_cluster-adds i at s E = record {
    k-pixels = λ p. ap (λ c. occurs p c.pixels) P.here ∙ omega (arith, ap bit (none-held p));
    k-sum = ap (λ c. c.sum) P.here ∙ ap (λ x. x ⊕ sum_of_one (pixel image i)) (sym (tally-none image size) ∙ ap (λ g. tally image g size) (sym (fun_ext none-held)));
    k-root = ap (λ c. c.merged_into) P.here;
    k-holes = ap (λ c. c.holes) P.here;
    other = P.other;
    labels = refl;
    grows = P.grows;
    k-next = omega arith;
    next_up = omega arith;
    next-room = omega (arith, P.holds);
    logs = refl;
    outs = refl;
    one-slot = P.short;
  }
    where
      none-held : (p : ℕ) → ledger s.log s.next_index p ≡ false
      none-held p = is_false (ledger s.log s.next_index p) (E.free s.next_index p (omega arith))

      P : Placed s.clusters (begin_cluster i (pixel image i) at s).clusters s.next_index (with_pixel i (pixel image i) at new_cluster)
      P = placed s.clusters s.next_index (with_pixel i (pixel image i) at new_cluster) E.room (ltb s.next_index (length s.clusters)) refl

  -- ---- step 1

  pub label-next : (i p : ℕ) (s : State) → Early image size Gone Keyed i s → label s p < s.next_index
  label-next i p s E = pick (ℕ_discrete (label s p) 0)
    where
      pick : Dec (label s p ≡ 0) → label s p < s.next_index
      pick (yes e) = omega (arith, E.some)
      pick (no d) = by_cases (T-dec (ltb (label s p) s.next_index))
          (λ z. ltb→lt (label s p) s.next_index z)
          (λ z. absurd (E.free (label s p) p (nltb→le (label s p) s.next_index (not_T (ltb (label s p) s.next_index) z)) (E.basic.shown p d)))

  pub label_at-next : {i : ℕ} {s : State} → Early image size Gone Keyed i s → (q : Option ℕ) → label_at s q < s.next_index
  unfolding label_at
  label_at-next {i} {s} E (some p) = label-next i p s E
  label_at-next E off = E.some

  -- a place that is like pixel i, and comes before it, has label 0 only with keying on
  pub like-lit : (o : RunnerConfig) {i : ℕ} {s : State} → Early image size Gone Keyed i s → (q : Option ℕ) → Earlier i q → same_at o image (some i) q ≡ true → label_at s q ≡ 0 → Keyed
  unfolding same_at label_at
  like-lit o E (some j) b e z = E.lit j b z
  like-lit o E off b e z = absurd (true≢false (sym e))

  -- in stage 1 no two clusters share a pixel
  pub flats-apart : {i : ℕ} {s : State} → Early image size Gone Keyed i s → (f t : ℕ) → f ≢ t → (p : ℕ) → T (ledger s.log t p) → T (ledger s.log f p) → ⊥
  flats-apart E f t n p a b = n (sym (E.flats f p b) ∙ E.flats t p a)

  module _ (i f t : ℕ) (s : State) (E : Early image size Gone Keyed i s) (n : f ≢ t) (hf : f < s.next_index) (ht : t < s.next_index) (t-keyed : t ≡ 0 → Keyed) where
    f-slot : f < length s.clusters
    f-slot = omega (arith, E.room)

    t-slot : t < length s.clusters
    t-slot = omega (arith, E.room)

    J : Moved f t s (combine_clusters f t s)
    J = combine-moved f t s n f-slot t-slot

    pub combine-empty : (p : ℕ) → T (ledger (combine_clusters f t s).log f p) → ⊥
    unfolding combine_clusters
    combine-empty p x = (plain_down (ledger s.log) f t n f p x).0 refl

    pub combine-early : Early image size Gone Keyed i (combine_clusters f t s)
    unfolding combine_clusters emptied with_cluster J
    combine-early = record {
      basic = plain-basic E.basic f t n (flats-apart E f t n) t-slot J (ap (λ c. c.pixels) (combine-f f t s n f-slot t-slot)) (ap (λ c. c.sum) (combine-f f t s n f-slot t-slot));
      flats = λ k p x. flat' k p (plain_down g f t n k p x).0 (plain_down g f t n k p x).1;
      before = λ k p x. elim (plain_down g f t n k p x).1 [ inl y ↦ E.before f p y.1 | inr y ↦ E.before k p y ];
      covered = λ p x. cover p (E.covered p x);
      never = λ k p x. elim (plain_down g f t n k p x).1 [ inl y ↦ E.never f p y.1 | inr y ↦ E.never k p y ];
      lit = λ p x e. elim (T-dec (g f p)) [ yes z ↦ t-keyed (sym (lab-from E.basic f t J p z) ∙ e) | no z ↦ E.lit p x (sym (lab-other E.basic f t J p z) ∙ e) ];
      free = λ k p z x. elim (plain_down g f t n k p x).1 [ inl y ↦ omega arith | inr y ↦ E.free k p z y ];
      room = omega (arith, E.room, J.table);
      some = E.some;
      roots = three f t (λ k. (cluster (combine_clusters f t s) k).merged_into ≡ 0) (ap (λ c. c.merged_into) (combine-f f t s n f-slot t-slot) ∙ E.roots f) (J.t-merged ∙ E.roots t)
          (λ k a b. ap (λ c. c.merged_into) (J.other k a b) ∙ E.roots k);
      no_holes = three f t (λ k. (cluster (combine_clusters f t s) k).holes ≡ []) (ap (λ c. c.holes) (combine-f f t s n f-slot t-slot) ∙ E.no_holes f) (ap (λ c. c.holes) (combine-t f t s n f-slot t-slot) ∙ E.no_holes t)
          (λ k a b. ap (λ c. c.holes) (J.other k a b) ∙ E.no_holes k);
      same = ap (enter (plain f t)) E.same;
      quiet = E.quiet;
      short = omega (arith, E.short, J.table);
      few = λ N l. few' N (omega (arith, J.table)) (T-dec (standing s f));
    }
      where
        empty : (cluster (combine_clusters f t s) f).pixels ≡ []
        empty = ap (λ c. c.pixels) (combine-f f t s n f-slot t-slot)

        gone : T (standing (combine_clusters f t s) f) → ⊥
        gone x = let l : 0 < area (cluster (combine_clusters f t s) f) = ltb→lt 0 (area (cluster (combine_clusters f t s) f)) x in omega (arith, ap length empty)

        rest : (j : ℕ) → j ≢ t → T (standing (combine_clusters f t s) j) → T (standing s j)
        rest j d x = by_cases (ℕ_discrete j f)
            (λ e. absurd (gone (subst (λ m. T (standing (combine_clusters f t s) m)) e x)))
            (λ e. subst (λ c. T (ltb 0 (area c))) (J.other j e d) x)

        few' : (N : ℕ) → length s.clusters ≤ N → Dec (T (standing s f)) → count_of (standing (combine_clusters f t s)) N ≤ i
        few' N l (yes y) = omega (arith, E.few N l, count_of-swap (standing (combine_clusters f t s)) (standing s) f t rest gone y N (omega (arith, f-slot)))
        few' N l (no y) = omega (arith, E.few N l, count_of-le (standing (combine_clusters f t s)) (standing s) all N)
          where
            all : (j : ℕ) → T (standing (combine_clusters f t s) j) → T (standing s j)
            all j x = pick (ℕ_discrete j t)
              where
                pick : Dec (j ≡ t) → T (standing s j)
                pick (no d) = rest j d x
                pick (yes e) =
                    let a : 0 < area (cluster (combine_clusters f t s) t) = ltb→lt 0 (area (cluster (combine_clusters f t s) t)) (subst (λ m. T (standing (combine_clusters f t s) m)) e x) in
                    let b : area (cluster s f) ≤ 0 = nltb→le 0 (area (cluster s f)) (not_T (standing s f) y) in
                    subst (λ m. T (standing s m)) (sym e) (lt→ltb 0 (area (cluster s t))
                    (omega (arith, ap length J.t-pixels, length-append (cluster s t).pixels (cluster s f).pixels)))

        g : Held
        g = ledger s.log

        flat' : (k p : ℕ) → k ≢ f → ((k ≡ t) × T (g f p)) ⊎ T (g k p) → label (combine_clusters f t s) p ≡ k
        flat' k p d (inl y) = lab-from E.basic f t J p y.1 ∙ sym y.0
        flat' k p d (inr y) = lab-other E.basic f t J p (λ z. d (sym (E.flats k p y) ∙ E.flats f p z)) ∙ E.flats k p y

        cover : (p : ℕ) → Gone p ⊎ ((k : ℕ) × T (g k p)) → Gone p ⊎ ((k : ℕ) × T (enter (plain f t) g k p))
        cover p (inl y) = inl y
        cover p (inr y) = inr (by_cases (ℕ_discrete y.0 f)
            (λ e. (t, plain-to g f t n p (subst (λ m. T (g m p)) e y.1)))
            (λ d. (y.0, plain-up g f t n y.0 p d y.1)))

  -- next falls to l, which holds nothing
  pub lower-early : (o : RunnerConfig) (w i l u : ℕ) (s : State) → Early image size Gone Keyed i s → l ≢ u → u < s.next_index → ((p : ℕ) → T (ledger s.log l p) → ⊥)
      → Early image size Gone Keyed i (lower_next l s) × (u < (lower_next l s).next_index)
  unfolding lower_next
  lower-early o w i l u s E n hu empty = pick (eqb (l + 1) s.next_index) refl (eqb s.next_index (length s.clusters))
    where
      with : (m : ℕ) → State
      with m = record { labels = s.labels; clusters = s.clusters; next_index = m; outputs = s.outputs; listed = s.listed; log = s.log }

      keep : (m : ℕ) → m ≤ s.next_index → 1 ≤ m → ((k p : ℕ) → m ≤ k → T (ledger s.log k p) → ⊥) → Early image size Gone Keyed i (with m)
      keep m a b c = record {
        basic = record { lists = E.basic.lists; sums = E.basic.sums; shown = E.basic.shown; places = E.basic.places; slots = E.basic.slots; width = E.basic.width };
        flats = E.flats;
        before = E.before;
        covered = E.covered;
        never = E.never;
        lit = E.lit;
        free = c;
        room = omega (arith, E.room);
        some = b;
        roots = E.roots;
        no_holes = E.no_holes;
        same = E.same;
        quiet = E.quiet;
        short = E.short;
        few = E.few;
      }

      pick : (b : Bool) → eqb (l + 1) s.next_index ≡ b → (c : Bool) → Early image size Gone Keyed i (with (if b && c then s.next_index - 1 else s.next_index)) × (u < (if b && c then s.next_index - 1 else s.next_index))
      pick true e true =
          let q : l + 1 ≡ s.next_index = eqb-true (l + 1) s.next_index e in (
            keep (s.next_index - 1) (omega arith) (omega arith) (λ k p y x. by_cases (ℕ_discrete k l)
                (λ z. empty p (subst (λ m. T (ledger s.log m p)) z x))
                (λ z. let q : l + 1 ≡ s.next_index = eqb-true (l + 1) s.next_index e in E.free k p (omega arith) x)),
            omega arith,
          )
      pick true e false = (keep s.next_index (omega arith) E.some E.free, hu)
      pick false e c = (keep s.next_index (omega arith) E.some E.free, hu)

  module _ (o : RunnerConfig) (w : ℕ) (gone : (p : ℕ) → is_key o image p ≡ true → is_discard o.keying_action ≡ true → Gone p) (keyed : (p : ℕ) → is_key o image p ≡ true → Keyed)
      (wide : (p : ℕ) → p < size → 0 < w) (only : (p : ℕ) → Gone p → (is_key o image p ≡ true) × (is_discard o.keying_action ≡ true)) where
    pub place-early : (i l u : ℕ) (s : State) → Early image size Gone Keyed i s → i < size → l < s.next_index → u < s.next_index
        → (same_at o image (some i) (left w i) ≡ true → l ≡ 0 → Keyed) → (same_at o image (some i) (up w i) ≡ true → u ≡ 0 → Keyed)
        → Early image size Gone Keyed (suc i) (place o w image i l u s)
    unfolding place
    place-early i l u s E fits hl hu zl zu =
        pick (is_key o image i) refl (is_discard o.keying_action) refl
        (same_at o image (some i) (up w i) && same_at o image (some i) (up_left w i)) refl
        (same_at o image (some i) (left w i) && same_at o image (some i) (up_left w i)) refl
      where
        at : BoundingRect
        at = pixel_rect (i % w) (i / w)

        c : Color
        c = pixel image i

        plain-pixel : is_key o image i ≡ false → Gone i → ⊥
        plain-pixel x y = true≢false (sym (only i y).0 ∙ x)

        skip : Gone i → Keyed → Early image size Gone Keyed (suc i) s
        skip g q = record {
          basic = E.basic;
          flats = E.flats;
          before = λ k p x. omega (arith, E.before k p x);
          covered = λ p x. elim (ℕ_discrete p i) [ yes e ↦ inl (subst Gone (sym e) g) | no d ↦ E.covered p (omega arith) ];
          never = E.never;
          lit = λ p x e. elim (ℕ_discrete p i) [ yes z ↦ q | no z ↦ E.lit p (omega arith) e ];
          free = E.free;
          room = E.room;
          some = E.some;
          roots = E.roots;
          no_holes = E.no_holes;
          same = E.same;
          quiet = E.quiet;
          short = omega (arith, E.short);
          few = λ N l. omega (arith, E.few N l);
        }

        pick : (b : Bool) → is_key o image i ≡ b → (d : Bool) → is_discard o.keying_action ≡ d
            → (x : Bool) → same_at o image (some i) (up w i) && same_at o image (some i) (up_left w i) ≡ x
            → (y : Bool) → same_at o image (some i) (left w i) && same_at o image (some i) (up_left w i) ≡ y
            → Early image size Gone Keyed (suc i) (if b then (if d then s else add_pixel i c at 0 s) else (if x then add_pixel i c at u s else (if y then add_pixel i c at l s else begin_cluster i c at s)))
        pick true e true d x ex y ey = skip (gone i e d) (keyed i e)
        pick true e false d x ex y ey = add-early E fits (add-adds i 0 at s E E.some) (λ z. keyed i e) (λ x. true≢false (sym (only i x).1 ∙ d))
        pick false e d z true ex y ey = add-early E fits (add-adds i u at s E hu) (zu (both_true _ _ ex).0) (plain-pixel e)
        pick false e d z false ex true ey = add-early E fits (add-adds i l at s E hl) (zl (both_true _ _ ey).0) (plain-pixel e)
        pick false e d z false ex false ey = add-early E fits (begin_cluster-adds i at s E) (λ z₀. absurd (omega (arith, E.some))) (plain-pixel e)

    combine-place : (i l u : ℕ) (s : State) → Early image size Gone Keyed i s → i < size → l ≢ u → l < s.next_index → u < s.next_index → (l ≡ 0 → Keyed) → (u ≡ 0 → Keyed)
        → Early image size Gone Keyed (suc i) (combine_then_place o w image i l u s)
    unfolding combine_then_place
    combine-place i l u s E fits n hl hu zl zu = pick (leb (area (cluster s l)) (area (cluster s u)))
      where
        pick : (b : Bool) → Early image size Gone Keyed (suc i) (if b then place o w image i u u (lower_next l (combine_clusters l u s)) else place o w image i l l (combine_clusters u l s))
        pick true =
            let L = lower-early o w i l u (combine_clusters l u s) (combine-early i l u s E n hl hu zu) n hu (combine-empty i l u s E n hl hu zu) in
            place-early i u u (lower_next l (combine_clusters l u s)) L.0 fits L.1 L.1 (λ x. zu) (λ x. zu)
        pick false = place-early i l l (combine_clusters u l s) (combine-early i u l s E (λ e. n (sym e)) hu hl zl) fits hl hl (λ x. zl) (λ x. zl)

    pub take-early : (i : ℕ) (s : State) → Early image size Gone Keyed i s → i < size → Early image size Gone Keyed (suc i) (take_pixel o w image i s)
    unfolding take_pixel
    take-early i s E fits = pick (left_meets_up o w image i s) refl
      where
        l : ℕ
        l = label_at s (left w i)

        u : ℕ
        u = label_at s (up w i)

        pl : same_at o image (some i) (left w i) ≡ true → l ≡ 0 → Keyed
        pl = like-lit o E (left w i) (left-earlier w i (wide i fits))

        pu : same_at o image (some i) (up w i) ≡ true → u ≡ 0 → Keyed
        pu = like-lit o E (up w i) (up-earlier w i (wide i fits))

        differ : left_meets_up o w image i s ≡ true → l ≢ u
        differ e x = true≢false (sym e ∙ ap (λ b. not b && same_at o image (left w i) (up w i) && same_at o image (some i) (left w i) && same_at o image (some i) (up w i)) (eqb_yes l u x))

        pick : (b : Bool) → left_meets_up o w image i s ≡ b → Early image size Gone Keyed (suc i) (if b then combine_then_place o w image i l u s else place o w image i l u s)
        pick true e =
            let f = not (eqb l u) && same_at o image (left w i) (up w i) in
            let r = both_true (f && same_at o image (some i) (left w i)) (same_at o image (some i) (up w i)) e in
            combine-place i l u s E fits (differ e) (label_at-next E (left w i)) (label_at-next E (up w i)) (pl (both_true f (same_at o image (some i) (left w i)) r.0).1) (pu r.1)
        pick false e = place-early i l u s E fits (label_at-next E (left w i)) (label_at-next E (up w i)) pl pu

    pub taken-early : Early image size Gone Keyed 0 (fresh size) → (n : ℕ) → n ≤ size → Early image size Gone Keyed n (taken o w image size n)
    unfolding taken
    taken-early z zero le = z
    taken-early z (suc n) le = take-early n (times n (take_pixel o w image) (fresh size)) (taken-early z n (omega arith)) (omega arith)

  pub fresh-early : Early image size Gone Keyed 0 (fresh size)
  unfolding fresh
  fresh-early = record {
    basic = record {
      lists = λ k p. ap (λ c. occurs p c.pixels) (fresh-cluster size k);
      sums = λ k. ap (λ c. c.sum) (fresh-cluster size k) ∙ sym (tally-none image size);
      shown = λ p x. x (zeros size p);
      places = λ k p x. absurd x;
      slots = λ k p x. absurd x;
      width = length-replicate size 0;
    };
    flats = λ k p x. absurd x;
    before = λ k p x. absurd x;
    covered = λ p x. absurd (omega arith);
    never = λ k p x y. x;
    lit = λ p x e. absurd (omega arith);
    free = λ k p y x. x;
    room = omega arith;
    some = omega arith;
    roots = λ k. ap (λ c. c.merged_into) (fresh-cluster size k);
    no_holes = λ k. ap (λ c. c.holes) (fresh-cluster size k);
    same = refl;
    quiet = refl;
    short = omega arith;
    few = λ N l. omega (arith, count_of-none (standing (fresh size)) (λ j x. subst (λ c. T (ltb 0 (area c))) (fresh-cluster size j) x) N);
  }

  -- ---- stage 1 ends

  pub prepare_stage2-going : (i : ℕ) (s : State) → Early image size Gone Keyed i s → Going image size 1 0 (prepare_stage2 s)
  unfolding prepare_stage2 with_residue
  prepare_stage2-going i s E = record {
    sound = subst (λ g. Sound image size (ledger s.log) g (prepare_stage2 s)) (sym E.same) (record {
      basic = record {
        lists = λ k p. ap (λ c. occurs p c.pixels) (settled s k) ∙ E.basic.lists k p;
        sums = λ k. ap (λ c. c.sum) (settled s k) ∙ E.basic.sums k;
        shown = E.basic.shown;
        places = E.basic.places;
        slots = λ k p x. rw length-map (E.basic.slots k p x);
        width = E.basic.width;
      };
      residues = λ k z. ap (λ c. c.residue) (settled s k) ∙ E.basic.sums k;
      owns = λ k z. z;
      forest = flat E.flats;
      tops = λ k p x e. E.flats k p x;
      labels-top = λ k p x. roots (label s p);
    });
    past = λ j x. absurd (x (roots j));
  }
    where
      roots : (k : ℕ) → (cluster (prepare_stage2 s) k).merged_into ≡ 0
      roots k = ap (λ c. c.merged_into) (settled s k) ∙ E.roots k
