-- The ledger and the state after a merge, and what lists, sums and labels have to do with the ledger in both stages.
use mathlib.Core.Path.{◌≡◌, refl, sym, ap, ap₂, ◌∙◌, subst, fun_ext}
use mathlib.Core.Logic.{◌≢◌, ◌⊎◌, inl, inr, by_cases}
use mathlib.Core.Bool.{Bool, false, ◌||◌}
use mathlib.Core.List.{List, [], ◌++◌}
use Prim.Native.Nat.{ℕ, ◌+◌, ◌≤◌, ◌<◌}
use native.Mathlib.Decide.{ℕ_discrete}
use native.Mathlib.Omega.{arith}
use lib.Dec.{T}
use lib.ListN.{length, get_or, set, length-set}
use lib.Seq.{get_or-set_same, get_or-set_other}
use Rattle.rules.specs.Color.{zero_sum, ◌⊕◌}
use Rattle.rules.specs.State.{State, Cluster, new_cluster, cluster, label, relabel, with_cluster, emptied, with_residue, merged_to, deeper, combine_clusters, merge_cluster_into, deepen_cluster_into, plain, deepened}
use Rattle.rules.specs.Ledger.{Held, enter}
use Rattle.rules.specs.Claim.{bit, occurs, tally}
use Rattle.rules.specs.Code.Early.{Basic}
use Rattle.rules.proofs.Facts.{is_false, T-dec, T-or, T-or-l, T-or-r, eqb_yes, eqb_no, bit_or, bit-T, T-bit, occurs-append, relabel-other, relabel-in, length-relabel, tally-or, tally-none}

-- ---- the ledger after a merge

pub plain-t : (h : Held) (f t : ℕ) → enter (plain f t) h t ≡ (λ q. h t q || h f q)
plain-t h f t = fun_ext λ q. rw (eqb_yes t t refl)

pub plain_f : (h : Held) (f t : ℕ) → f ≢ t → enter (plain f t) h f ≡ (λ q. false)
plain_f h f t n = fun_ext λ q. rw (eqb_no f t n, eqb_yes f f refl)

pub plain-o : (h : Held) (f t j : ℕ) → j ≢ f → j ≢ t → enter (plain f t) h j ≡ h j
plain-o h f t j n m = fun_ext λ q. rw (eqb_no j t m, eqb_no j f n)

pub deepened-t : (h : Held) (f t : ℕ) → enter (deepened f t) h t ≡ (λ q. h t q || h f q)
deepened-t h f t = fun_ext λ q. rw (eqb_yes t t refl)

pub deepened-o : (h : Held) (f t j : ℕ) → j ≢ t → enter (deepened f t) h j ≡ h j
deepened-o h f t j m = fun_ext λ q. rw (eqb_no j t m)

-- what t has after a merge of f into it was t's or f's
split-t : (g : Held) (f t j q : ℕ) → j ≡ t → T (g t q || g f q) → ((j ≡ t) × T (g f q)) ⊎ T (g j q)
split-t g f t j q e x = elim (T-or (g t q) (g f q) x) [ inl y ↦ inr (subst (λ m. T (g m q)) (sym e) y) | inr y ↦ inl (e, y) ]

-- what a plain merge leaves, read both ways
module _ (g : Held) (f t : ℕ) (n : f ≢ t) where
  pub plain_down : (j q : ℕ) → T (enter (plain f t) g j q) → (j ≢ f) × (((j ≡ t) × T (g f q)) ⊎ T (g j q))
  plain_down j q x = pick (ℕ_discrete j f) (ℕ_discrete j t)
    where
      pick : Dec (j ≡ f) → Dec (j ≡ t) → (j ≢ f) × (((j ≡ t) × T (g f q)) ⊎ T (g j q))
      pick (yes e) d = absurd (subst (λ u. T (u q)) (plain_f g f t n) (subst (λ m. T (enter (plain f t) g m q)) e x))
      pick (no d) (yes e) = (d, split-t g f t j q e (subst (λ u. T (u q)) (plain-t g f t) (subst (λ m. T (enter (plain f t) g m q)) e x)))
      pick (no d) (no e) = (d, inr (subst (λ u. T (u q)) (plain-o g f t j d e) x))

  pub plain-to : (q : ℕ) → T (g f q) → T (enter (plain f t) g t q)
  plain-to q x = subst (λ u. T (u q)) (sym (plain-t g f t)) (T-or-r (g t q) (g f q) x)

  pub plain-up : (j q : ℕ) → j ≢ f → T (g j q) → T (enter (plain f t) g j q)
  plain-up j q d x = by_cases (ℕ_discrete j t)
      (λ e. subst (λ m. T (enter (plain f t) g m q)) (sym e) (subst (λ u. T (u q)) (sym (plain-t g f t)) (T-or-l (g t q) (g f q) (subst (λ m. T (g m q)) e x))))
      (λ e. subst (λ u. T (u q)) (sym (plain-o g f t j d e)) x)

-- and a deepening merge
module _ (g : Held) (f t : ℕ) where
  pub deepened-down : (j q : ℕ) → T (enter (deepened f t) g j q) → ((j ≡ t) × T (g f q)) ⊎ T (g j q)
  deepened-down j q x = by_cases (ℕ_discrete j t)
      (λ e. split-t g f t j q e (subst (λ u. T (u q)) (deepened-t g f t) (subst (λ m. T (enter (deepened f t) g m q)) e x)))
      (λ e. inr (subst (λ u. T (u q)) (deepened-o g f t j e) x))

  pub deepened-to : (q : ℕ) → T (g f q) → T (enter (deepened f t) g t q)
  deepened-to q x = subst (λ u. T (u q)) (sym (deepened-t g f t)) (T-or-r (g t q) (g f q) x)

  pub deepened-up : (j q : ℕ) → T (g j q) → T (enter (deepened f t) g j q)
  deepened-up j q x = by_cases (ℕ_discrete j t)
      (λ e. subst (λ m. T (enter (deepened f t) g m q)) (sym e) (subst (λ u. T (u q)) (sym (deepened-t g f t)) (T-or-l (g t q) (g f q) (subst (λ m. T (g m q)) e x))))
      (λ e. subst (λ u. T (u q)) (sym (deepened-o g f t j e)) x)

-- ---- the state after a merge, of either kind

pub record Moved (f t : ℕ) (s s' : State) : Type 0 where
  pub other : (k : ℕ) → k ≢ f → k ≢ t → cluster s' k ≡ cluster s k
  pub t-pixels : (cluster s' t).pixels ≡ (cluster s t).pixels ++ (cluster s f).pixels
  pub t-sum : (cluster s' t).sum ≡ (cluster s t).sum ⊕ (cluster s f).sum
  pub t-merged : (cluster s' t).merged_into ≡ (cluster s t).merged_into
  pub labels : s'.labels ≡ relabel t (cluster s f).pixels s.labels
  pub table : length s'.clusters ≡ length s.clusters

module _ (cs : List Cluster) (f t : ℕ) (x y : Cluster) (n : f ≢ t) (hf : f < length cs) (ht : t < length cs) where
  two-f : get_or (set (set cs t x) f y) f new_cluster ≡ y
  two-f = get_or-set_same (set cs t x) f y new_cluster (omega (arith, length-set cs t x))

  two-t : get_or (set (set cs t x) f y) t new_cluster ≡ x
  two-t = get_or-set_other (set cs t x) f t y new_cluster (λ e. n (sym e)) ∙ get_or-set_same cs t x new_cluster ht

  two-o : (k : ℕ) → k ≢ f → k ≢ t → get_or (set (set cs t x) f y) k new_cluster ≡ get_or cs k new_cluster
  two-o k a b = get_or-set_other (set cs t x) f k y new_cluster a ∙ get_or-set_other cs t k x new_cluster b

  two-length : length (set (set cs t x) f y) ≡ length cs
  two-length = length-set (set cs t x) f y ∙ length-set cs t x

module _ (f t : ℕ) (s : State) (n : f ≢ t) (hf : f < length s.clusters) (ht : t < length s.clusters) where
  pub merge-f : cluster (merge_cluster_into f t s) f ≡ emptied (cluster s f)
  unfolding merge_cluster_into
  merge-f = two-f s.clusters f t _ _ n hf ht

  pub merge-t : cluster (merge_cluster_into f t s) t ≡ with_residue ((cluster s t).residue ⊕ (cluster s f).residue) (with_cluster (cluster s f) (cluster s t))
  unfolding merge_cluster_into
  merge-t = two-t s.clusters f t _ _ n hf ht

  pub merge-moved : Moved f t s (merge_cluster_into f t s)
  unfolding merge_cluster_into with_residue with_cluster
  merge-moved = record {
    other = two-o s.clusters f t _ _ n hf ht;
    t-pixels = ap (λ c. c.pixels) merge-t;
    t-sum = ap (λ c. c.sum) merge-t;
    t-merged = ap (λ c. c.merged_into) merge-t;
    labels = refl;
    table = two-length s.clusters f t _ _ n hf ht;
  }

  pub combine-f : cluster (combine_clusters f t s) f ≡ emptied (cluster s f)
  unfolding combine_clusters
  combine-f = two-f s.clusters f t _ _ n hf ht

  pub combine-t : cluster (combine_clusters f t s) t ≡ with_cluster (cluster s f) (cluster s t)
  unfolding combine_clusters
  combine-t = two-t s.clusters f t _ _ n hf ht

  pub combine-moved : Moved f t s (combine_clusters f t s)
  unfolding combine_clusters with_cluster
  combine-moved = record {
    other = two-o s.clusters f t _ _ n hf ht;
    t-pixels = ap (λ c. c.pixels) combine-t;
    t-sum = ap (λ c. c.sum) combine-t;
    t-merged = ap (λ c. c.merged_into) combine-t;
    labels = refl;
    table = two-length s.clusters f t _ _ n hf ht;
  }

  module _ (hollow : Bool) where
    pub deepen-f : cluster (deepen_cluster_into hollow f t s) f ≡ merged_to t (cluster s f)
    unfolding deepen_cluster_into
    deepen-f = two-f s.clusters f t _ _ n hf ht

    pub deepen-t : cluster (deepen_cluster_into hollow f t s) t ≡ deeper hollow f (with_cluster (cluster s f) (cluster s t))
    unfolding deepen_cluster_into
    deepen-t = two-t s.clusters f t _ _ n hf ht

    pub deepen-moved : Moved f t s (deepen_cluster_into hollow f t s)
    unfolding deepen_cluster_into deeper with_cluster
    deepen-moved = record {
      other = two-o s.clusters f t _ _ n hf ht;
      t-pixels = ap (λ c. c.pixels) deepen-t;
      t-sum = ap (λ c. c.sum) deepen-t;
      t-merged = ap (λ c. c.merged_into) deepen-t;
      labels = refl;
      table = two-length s.clusters f t _ _ n hf ht;
    }

-- ---- lists, sums and labels

-- one of three: f, t, or another
pub three : (f t : ℕ) (P : ℕ → Type 0) → P f → P t → ((k : ℕ) → k ≢ f → k ≢ t → P k) → (k : ℕ) → P k
three f t P a b c k = pick (ℕ_discrete k f) (ℕ_discrete k t)
  where
    pick : Dec (k ≡ f) → Dec (k ≡ t) → P k
    pick (yes e) d = subst P (sym e) a
    pick (no d) (yes e) = subst P (sym e) b
    pick (no d) (no e) = c k d e

-- what holds of every cluster, and of what becomes of f and t, holds after a merge
pub moved-every : {f t : ℕ} {s s' : State} {c d : Cluster} → Moved f t s s' → cluster s' f ≡ c → cluster s' t ≡ d
    → (P : Cluster → Type 0) → P c → P d → ((k : ℕ) → P (cluster s k)) → (k : ℕ) → P (cluster s' k)
moved-every {f} {t} {s' = s'} M from to P a b old = three f t (λ k. P (cluster s' k)) (subst P (sym from) a) (subst P (sym to) b) (λ k m n. subst P (sym (M.other k m n)) (old k))

-- what the ledger says of a list
module _ {image : List ℕ} {size : ℕ} {h : Held} {s : State} (S : Basic image size h s) (k p : ℕ) where
  pub held-some : T (h k p) → occurs p (cluster s k).pixels ≡ 1
  held-some x = S.lists k p ∙ T-bit (h k p) x

  pub held_none : (T (h k p) → ⊥) → occurs p (cluster s k).pixels ≡ 0
  held_none x = S.lists k p ∙ ap bit (is_false (h k p) x)

  -- and a list of the ledger
  pub some-held : occurs p (cluster s k).pixels ≢ 0 → T (h k p)
  some-held d = bit-T (h k p) (λ z. d (S.lists k p ∙ z))

  pub once-held : occurs p (cluster s k).pixels ≤ 1
  once-held = by_cases (T-dec (h k p)) (λ x. omega (arith, held-some x)) (λ x. omega (arith, held_none x))

-- the labels after a merge
module _ {image : List ℕ} {size : ℕ} {h : Held} {s s' : State} (S : Basic image size h s) (f t : ℕ) (M : Moved f t s s') where
  pub lab-from : (q : ℕ) → T (h f q) → label s' q ≡ t
  lab-from q x =
      ap (λ l. get_or l q 0) M.labels ∙ relabel-in t q (cluster s f).pixels s.labels (S.places f q x) (λ e. omega (arith, held-some S f q x))

  pub lab-other : (q : ℕ) → (T (h f q) → ⊥) → label s' q ≡ label s q
  lab-other q x = ap (λ l. get_or l q 0) M.labels ∙ relabel-other t q (cluster s f).pixels s.labels (held_none S f q x)

module _ {image : List ℕ} {size : ℕ} {h : Held} {s s' : State} (S : Basic image size h s) (f t : ℕ) (n : f ≢ t)
    (apart : (p : ℕ) → T (h t p) → T (h f p) → ⊥) (ht : t < length s.clusters) (M : Moved f t s s') where
  t-lists : (p : ℕ) → occurs p (cluster s' t).pixels ≡ bit (h t p || h f p)
  t-lists p =
      ap (occurs p) M.t-pixels ∙ occurs-append p (cluster s t).pixels (cluster s f).pixels
      ∙ ap₂ (λ x y. x + y) (S.lists t p) (S.lists f p) ∙ sym (bit_or (h t p) (h f p) (apart p))

  t-sums : (cluster s' t).sum ≡ tally image (λ q. h t q || h f q) size
  t-sums = M.t-sum ∙ ap₂ (λ x y. x ⊕ y) (S.sums t) (S.sums f) ∙ sym (tally-or image (h t) (h f) apart size)

  new-width : length s'.labels ≡ size
  new-width = ap length M.labels ∙ length-relabel t (cluster s f).pixels s.labels ∙ S.width

  -- h': the ledger after the merge
  module _ (h' : Held) (down : (j q : ℕ) → T (h' j q) → ((j ≡ t) × T (h f q)) ⊎ T (h j q)) where
    new-places : (k p : ℕ) → T (h' k p) → p < length s'.labels
    new-places k p x = elim (down k p x) [ inl y ↦ rw same (S.places f p y.1) | inr y ↦ rw same (S.places k p y) ]
      where
        same : length s'.labels ≡ length s.labels
        same = ap length M.labels ∙ length-relabel t (cluster s f).pixels s.labels

    new-slots : (k p : ℕ) → T (h' k p) → k < length s'.clusters
    new-slots k p x = elim (down k p x) [ inl y ↦ rw (M.table, y.0) ht | inr y ↦ rw M.table (S.slots k p y) ]

    new-shown : (to : (q : ℕ) → T (h f q) → T (h' t q)) → (up : (j q : ℕ) → j ≢ f → T (h j q) → T (h' j q))
        → (p : ℕ) → label s' p ≢ 0 → T (h' (label s' p) p)
    new-shown to up p x = pick (T-dec (h f p))
      where
        pick : Dec (T (h f p)) → T (h' (label s' p) p)
        pick (yes z) = subst (λ m. T (h' m p)) (sym (lab-from S f t M p z)) (to p z)
        pick (no z) =
            let e : label s' p ≡ label s p = lab-other S f t M p z in
            let y : T (h (label s p) p) = S.shown p (λ v. x (e ∙ v)) in
            subst (λ m. T (h' m p)) (sym e) (up (label s p) p (λ v. z (subst (λ m. T (h m p)) v y)) y)

  -- a plain merge, of stage 1 or 2
  pub plain-basic : (cluster s' f).pixels ≡ [] → (cluster s' f).sum ≡ zero_sum → Basic image size (enter (plain f t) h) s'
  plain-basic e₁ e₂ = record {
    lists = three f t (λ k. (p : ℕ) → occurs p (cluster s' k).pixels ≡ bit (enter (plain f t) h k p))
        (λ p. ap (occurs p) e₁ ∙ sym (ap (λ g. bit (g p)) (plain_f h f t n)))
        (λ p. t-lists p ∙ sym (ap (λ g. bit (g p)) (plain-t h f t)))
        (λ k a b p. ap (λ c. occurs p c.pixels) (M.other k a b) ∙ S.lists k p ∙ sym (ap (λ g. bit (g p)) (plain-o h f t k a b)));
    sums = three f t (λ k. (cluster s' k).sum ≡ tally image (enter (plain f t) h k) size)
        (e₂ ∙ sym (tally-none image size) ∙ sym (ap (λ g. tally image g size) (plain_f h f t n)))
        (t-sums ∙ sym (ap (λ g. tally image g size) (plain-t h f t)))
        (λ k a b. ap (λ c. c.sum) (M.other k a b) ∙ S.sums k ∙ sym (ap (λ g. tally image g size) (plain-o h f t k a b)));
    shown = new-shown (enter (plain f t) h) down (plain-to h f t n) (plain-up h f t n);
    places = new-places (enter (plain f t) h) down;
    slots = new-slots (enter (plain f t) h) down;
    width = new-width;
  }
    where
      down : (j q : ℕ) → T (enter (plain f t) h j q) → ((j ≡ t) × T (h f q)) ⊎ T (h j q)
      down j q x = (plain_down h f t n j q x).1

  pub deepened-basic : (cluster s' f).pixels ≡ (cluster s f).pixels → (cluster s' f).sum ≡ (cluster s f).sum → Basic image size (enter (deepened f t) h) s'
  deepened-basic e₁ e₂ = record {
    lists = three f t (λ k. (p : ℕ) → occurs p (cluster s' k).pixels ≡ bit (enter (deepened f t) h k p))
        (λ p. ap (occurs p) e₁ ∙ S.lists f p ∙ sym (ap (λ g. bit (g p)) (deepened-o h f t f n)))
        (λ p. t-lists p ∙ sym (ap (λ g. bit (g p)) (deepened-t h f t)))
        (λ k a b p. ap (λ c. occurs p c.pixels) (M.other k a b) ∙ S.lists k p ∙ sym (ap (λ g. bit (g p)) (deepened-o h f t k b)));
    sums = three f t (λ k. (cluster s' k).sum ≡ tally image (enter (deepened f t) h k) size)
        (e₂ ∙ S.sums f ∙ sym (ap (λ g. tally image g size) (deepened-o h f t f n)))
        (t-sums ∙ sym (ap (λ g. tally image g size) (deepened-t h f t)))
        (λ k a b. ap (λ c. c.sum) (M.other k a b) ∙ S.sums k ∙ sym (ap (λ g. tally image g size) (deepened-o h f t k b)));
    shown = new-shown (enter (deepened f t) h) down (deepened-to h f t) (λ j q d. deepened-up h f t j q);
    places = new-places (enter (deepened f t) h) down;
    slots = new-slots (enter (deepened f t) h) down;
    width = new-width;
  }
    where
      down : (j q : ℕ) → T (enter (deepened f t) h j q) → ((j ≡ t) × T (h f q)) ⊎ T (h j q)
      down = deepened-down h f t
