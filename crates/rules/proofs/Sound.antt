-- What holds of a state throughout stage 2, and that a merge keeps it.
use mathlib.Core.Path.{◌≡◌, refl, sym, ap, ap₂, ◌∙◌, subst}
use mathlib.Core.Logic.{◌≢◌, ◌⊎◌, inl, inr, by_cases}
use mathlib.Core.Bool.{Bool}
use mathlib.Core.List.{List}
use Prim.Native.Nat.{ℕ, ◌<◌}
use native.Mathlib.Decide.{ℕ_discrete}
use lib.Dec.{T}
use lib.ListN.{length}
use Rattle.rules.specs.Color.{◌⊕◌}
use Rattle.rules.specs.State.{State, cluster, label, with_cluster, emptied, with_residue, merged_to, deeper, merge_cluster_into, deepen_cluster_into, plain, deepened}
use Rattle.rules.specs.Ledger.{Held, enter}
use Rattle.rules.specs.Claim.{tally, Stands}
use Rattle.rules.specs.Code.Early.{Basic}
use Rattle.rules.proofs.Forest.{Forest, Merges, merged}
use Rattle.rules.proofs.Facts.{T-dec, tally-or}
use Rattle.rules.proofs.Basic.{Moved, three, plain-t, plain-o, plain_down, plain-up, plain-to, deepened-o, deepened-down, deepened-up, deepened-to}
use Rattle.rules.proofs.Basic.{lab-from, lab-other, plain-basic, deepened-basic, merge-f, merge-t, merge-moved, deepen-f, deepen-t, deepen-moved}

-- h: the ledger. O: the same without the deepening merges, which is the residue of each cluster.
-- A cluster whose merged_into is 0 is a root: it is inside no other.
pub record Sound (image : List ℕ) (size : ℕ) (h O : Held) (s : State) : Type 0 where
  pub basic : Basic image size h s
  pub residues : (k : ℕ) → Stands h k → (cluster s k).residue ≡ tally image (O k) size
  -- and no residue of a standing cluster is empty
  pub owns : (k : ℕ) → Stands h k → Stands O k
  pub forest : Forest (λ k p. T (h k p)) (λ k p. T (O k p)) (label s)
  pub tops : (k p : ℕ) → T (h k p) → (cluster s k).merged_into ≡ 0 → label s p ≡ k
  pub labels-top : (k p : ℕ) → T (h k p) → (cluster s (label s p)).merged_into ≡ 0

module _ {image : List ℕ} {size : ℕ} {h O : Held} {s : State} (S : Sound image size h O s) (f t : ℕ) (n : f ≢ t)
    (f-root : (cluster s f).merged_into ≡ 0) (t-root : (cluster s t).merged_into ≡ 0) (f-stands : Stands h f) (t-stands : Stands h t) where
  f-slot : f < length s.clusters
  f-slot = S.basic.slots f f-stands.0 f-stands.1

  t-slot : t < length s.clusters
  t-slot = S.basic.slots t t-stands.0 t-stands.1

  apart : (p : ℕ) → T (h t p) → T (h f p) → ⊥
  apart p a b = n (sym (S.tops f p b f-root) ∙ S.tops t p a t-root)

  own-apart : (p : ℕ) → T (O t p) → T (O f p) → ⊥
  own-apart p a b = apart p (S.forest.own_held t p a) (S.forest.own_held f p b)

  module _ {s' : State} (M : Moved f t s s') where
    from : (q : ℕ) → T (h f q) → label s' q ≡ t
    from = lab-from S.basic f t M

    other : (q : ℕ) → (T (h f q) → ⊥) → label s' q ≡ label s q
    other = lab-other S.basic f t M

    roots : (k : ℕ) → k ≢ f → (cluster s' k).merged_into ≡ (cluster s k).merged_into
    roots k d = by_cases (ℕ_discrete k t)
        (λ e. subst (λ m. (cluster s' m).merged_into ≡ (cluster s m).merged_into) (sym e) M.t-merged)
        (λ e. ap (λ c. c.merged_into) (M.other k d e))

    -- h': the ledger after the merge
    module _ (h' : Held) (down : (j q : ℕ) → T (h' j q) → ((j ≡ t) × T (h f q)) ⊎ T (h j q)) where
      new-tops : ((p : ℕ) → T (h' f p) → (cluster s' f).merged_into ≡ 0 → ⊥) → (k p : ℕ) → T (h' k p) → (cluster s' k).merged_into ≡ 0 → label s' p ≡ k
      new-tops gone k p x e = pick (ℕ_discrete k f) (down k p x)
        where
          pick : Dec (k ≡ f) → ((k ≡ t) × T (h f p)) ⊎ T (h k p) → label s' p ≡ k
          pick (yes z) y = absurd (gone p (subst (λ m. T (h' m p)) z x) (subst (λ m. (cluster s' m).merged_into ≡ 0) z e))
          pick (no z) (inl y) = from p y.1 ∙ sym y.0
          pick (no z) (inr y) =
              let l : label s p ≡ k = S.tops k p y (sym (roots k z) ∙ e) in
              other p (λ v. z (sym l ∙ S.tops f p v f-root)) ∙ l

      new-labels-top : (k p : ℕ) → T (h' k p) → (cluster s' (label s' p)).merged_into ≡ 0
      new-labels-top k p x = pick (T-dec (h f p)) (down k p x)
        where
          pick : Dec (T (h f p)) → ((k ≡ t) × T (h f p)) ⊎ T (h k p) → (cluster s' (label s' p)).merged_into ≡ 0
          pick (yes z) y = subst (λ m. (cluster s' m).merged_into ≡ 0) (sym (from p z)) (M.t-merged ∙ t-root)
          pick (no z) (inl y) = absurd (z y.1)
          pick (no z) (inr y) =
              subst (λ m. (cluster s' m).merged_into ≡ 0) (sym (other p z))
              (roots (label s p) (λ e. z (subst (λ m. T (h m p)) e (S.forest.top-held k p y))) ∙ S.labels-top k p y)

  plain-forest : Merges (λ k p. T (h k p)) (λ k p. T (O k p)) (λ k p. T (enter (plain f t) h k p)) (λ k p. T (enter (plain f t) O k p))
      (label s) (label (merge_cluster_into f t s)) (λ j. j ≢ f) f t
  plain-forest = record {
    f≢t = n;
    f-top = λ p x. S.tops f p x f-root;
    t-top = λ p x. S.tops t p x t-root;
    t-stands = t-stands;
    dec = λ p. T-dec (h f p);
    kept = λ j d. d;
    down = plain_down h f t n;
    up = plain-up h f t n;
    to = plain-to h f t n;
    own-down = λ j q x. ((plain_down O f t n j q x).0, elim (plain_down O f t n j q x).1 [ inl x ↦ inr (x.0, x.1, λ c. c refl) | inr x ↦ inl x ]);
    own_any = λ j q x. elim (ℕ_discrete j f) [ yes e ↦ (t, plain-to O f t n q (subst (λ m. T (O m q)) e x)) | no d ↦ (j, plain-up O f t n j q d x) ];
    lab-from = from (merge-moved f t s n f-slot t-slot);
    lab-other = other (merge-moved f t s n f-slot t-slot);
  }

  pub plain-sound : Sound image size (enter (plain f t) h) (enter (plain f t) O) (merge_cluster_into f t s)
  unfolding emptied with_cluster with_residue
  plain-sound = record {
    basic = plain-basic S.basic f t n apart t-slot M (ap (λ c. c.pixels) (merge-f f t s n f-slot t-slot)) (ap (λ c. c.sum) (merge-f f t s n f-slot t-slot));
    owns = three f t (λ k. Stands (enter (plain f t) h) k → Stands (enter (plain f t) O) k)
        (λ z. absurd ((plain_down h f t n f z.0 z.1).0 refl))
        (λ z. let y = S.owns t t-stands in (y.0, plain-up O f t n t y.0 (λ e. n (sym e)) y.1))
        (λ k a b z. let y = S.owns k (z.0, subst (λ u. T (u z.0)) (plain-o h f t k a b) z.1) in (y.0, plain-up O f t n k y.0 a y.1));
    residues = three f t (λ k. Stands (enter (plain f t) h) k → (cluster (merge_cluster_into f t s) k).residue ≡ tally image (enter (plain f t) O k) size)
        (λ z. absurd ((plain_down h f t n f z.0 z.1).0 refl))
        (λ z. ap (λ c. c.residue) (merge-t f t s n f-slot t-slot) ∙ ap₂ (λ x y. x ⊕ y) (S.residues t t-stands) (S.residues f f-stands)
        ∙ sym (tally-or image (O t) (O f) own-apart size) ∙ sym (ap (λ g. tally image g size) (plain-t O f t)))
        (λ k a b z. ap (λ c. c.residue) (M.other k a b) ∙ S.residues k (z.0, subst (λ u. T (u z.0)) (plain-o h f t k a b) z.1)
        ∙ sym (ap (λ g. tally image g size) (plain-o O f t k a b)));
    forest = merged S.forest plain-forest;
    tops = new-tops M (enter (plain f t) h) down (λ p x e. (plain_down h f t n f p x).0 refl);
    labels-top = new-labels-top M (enter (plain f t) h) down;
  }
    where
      M : Moved f t s (merge_cluster_into f t s)
      M = merge-moved f t s n f-slot t-slot

      down : (j q : ℕ) → T (enter (plain f t) h j q) → ((j ≡ t) × T (h f q)) ⊎ T (h j q)
      down j q x = (plain_down h f t n j q x).1

  module _ (hollow : Bool) (t_some : t ≢ 0) where
    deepened-forest : Merges (λ k p. T (h k p)) (λ k p. T (O k p)) (λ k p. T (enter (deepened f t) h k p)) (λ k p. T (O k p))
        (label s) (label (deepen_cluster_into hollow f t s)) (λ j. Unit {0}) f t
    deepened-forest = record {
      f≢t = n;
      f-top = λ p x. S.tops f p x f-root;
      t-top = λ p x. S.tops t p x t-root;
      t-stands = t-stands;
      dec = λ p. T-dec (h f p);
      kept = λ j d. tt;
      down = λ j q x. (tt, deepened-down h f t j q x);
      up = λ j q c x. deepened-up h f t j q x;
      to = deepened-to h f t;
      own-down = λ j q x. (tt, inl x);
      own_any = λ j q x. (j, x);
      lab-from = from (deepen-moved f t s n f-slot t-slot hollow);
      lab-other = other (deepen-moved f t s n f-slot t-slot hollow);
    }

    pub deepened-sound : Sound image size (enter (deepened f t) h) O (deepen_cluster_into hollow f t s)
    unfolding merged_to with_cluster deeper
    deepened-sound = record {
      basic = deepened-basic S.basic f t n apart t-slot M (ap (λ c. c.pixels) (deepen-f f t s n f-slot t-slot hollow)) (ap (λ c. c.sum) (deepen-f f t s n f-slot t-slot hollow));
      owns = three f t (λ k. Stands (enter (deepened f t) h) k → Stands O k)
          (λ z. S.owns f f-stands)
          (λ z. S.owns t t-stands)
          (λ k a b z. S.owns k (z.0, subst (λ u. T (u z.0)) (deepened-o h f t k b) z.1));
      residues = three f t (λ k. Stands (enter (deepened f t) h) k → (cluster s' k).residue ≡ tally image (O k) size)
          (λ z. ap (λ c. c.residue) (deepen-f f t s n f-slot t-slot hollow) ∙ S.residues f f-stands)
          (λ z. ap (λ c. c.residue) (deepen-t f t s n f-slot t-slot hollow) ∙ S.residues t t-stands)
          (λ k a b z. ap (λ c. c.residue) (M.other k a b) ∙ S.residues k (z.0, subst (λ u. T (u z.0)) (deepened-o h f t k b) z.1));
      forest = merged S.forest deepened-forest;
      tops = new-tops M (enter (deepened f t) h) down (λ p x e. t_some (sym (ap (λ c. c.merged_into) (deepen-f f t s n f-slot t-slot hollow)) ∙ e));
      labels-top = new-labels-top M (enter (deepened f t) h) down;
    }
      where
        s' : State
        s' = deepen_cluster_into hollow f t s

        M : Moved f t s s'
        M = deepen-moved f t s n f-slot t-slot hollow

        down : (j q : ℕ) → T (enter (deepened f t) h j q) → ((j ≡ t) × T (h f q)) ⊎ T (h j q)
        down = deepened-down h f t
