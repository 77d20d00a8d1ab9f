-- Clusters as a forest, with no state and no list: what holds before a merge holds after it.
-- H k p: cluster k holds pixel p. O k p: p is in k's residue. lab p: the label of p.
--
use mathlib.Core.Path.{◌≡◌, sym, ◌∙◌, subst}
use mathlib.Core.Logic.{◌≢◌, ◌⊎◌, inl, inr, by_cases}
use Prim.Native.Nat.{ℕ}
use native.Mathlib.Decide.{ℕ_discrete}

-- j is inside k: k holds all of j's pixels, and one more
abbrev pub Inside : (ℕ → ℕ → Type 0) → ℕ → ℕ → Type 0
Inside H j k = ((q : ℕ) → H j q → H k q) × ((q : ℕ) × H k q × (H j q → ⊥))

pub record Forest (H O : ℕ → ℕ → Type 0) (lab : ℕ → ℕ) : Type 0 where
  pub own_held : (k p : ℕ) → O k p → H k p
  pub owner : (k p : ℕ) → H k p → (j : ℕ) × O j p
  pub top-held : (k p : ℕ) → H k p → H (lab p) p
  pub under_top : (k p : ℕ) → H k p → k ≢ lab p → Inside H k (lab p)
  pub nested : (j k p : ℕ) → H j p → H k p → j ≢ k → Inside H j k ⊎ Inside H k j
  pub own-inner : (j k p : ℕ) → O j p → H k p → j ≢ k → Inside H j k

pub inside-not : (H : ℕ → ℕ → Type 0) (j k : ℕ) → Inside H j k → Inside H k j → ⊥
inside-not H j k a b = a.1.2 (b.0 a.1.0 a.1.1)

-- where every standing cluster is labelled, all are apart, and each is its own residue
pub flat : {H : ℕ → ℕ → Type 0} {lab : ℕ → ℕ} → ((k p : ℕ) → H k p → lab p ≡ k) → Forest H H lab
flat {H} {lab} e = record {
  own_held = λ k p h. h;
  owner = λ k p h. (k, h);
  top-held = λ k p h. subst (λ j. H j p) (sym (e k p h)) h;
  under_top = λ k p h n. absurd (n (sym (e k p h)));
  nested = λ j k p a b n. absurd (n (sym (e j p a) ∙ e k p b));
  own-inner = λ j k p a b n. absurd (n (sym (e j p a) ∙ e k p b));
}

-- A merge of f into t. Kept says which clusters still hold something of their own: all of them where the merge deepens, all but f where it is plain.
pub record Merges (H O H' O' : ℕ → ℕ → Type 0) (lab lab' : ℕ → ℕ) (Kept : ℕ → Type 0) (f t : ℕ) : Type 0 where
  pub f≢t : f ≢ t
  pub f-top : (p : ℕ) → H f p → lab p ≡ f
  pub t-top : (p : ℕ) → H t p → lab p ≡ t
  pub t-stands : (p : ℕ) × H t p
  pub dec : (p : ℕ) → Dec (H f p)
  pub kept : (j : ℕ) → j ≢ f → Kept j
  pub down : (j q : ℕ) → H' j q → Kept j × (((j ≡ t) × H f q) ⊎ H j q)
  pub up : (j q : ℕ) → Kept j → H j q → H' j q
  pub to : (q : ℕ) → H f q → H' t q
  pub own-down : (j q : ℕ) → O' j q → Kept j × (O j q ⊎ ((j ≡ t) × O f q × (Kept f → ⊥)))
  pub own_any : (j q : ℕ) → O j q → (k : ℕ) × O' k q
  pub lab-from : (q : ℕ) → H f q → lab' q ≡ t
  pub lab-other : (q : ℕ) → (H f q → ⊥) → lab' q ≡ lab q

module _ {H O H' O' : ℕ → ℕ → Type 0} {lab lab' : ℕ → ℕ} {Kept : ℕ → Type 0} {f t : ℕ} (F : Forest H O lab) (M : Merges H O H' O' lab lab' Kept f t) where
  apart : (p : ℕ) → H f p → H t p → ⊥
  apart p a b = M.f≢t (sym (M.f-top p a) ∙ M.t-top p b)

  t-kept : Kept t
  t-kept = M.kept t (λ e. M.f≢t (sym e))

  old : (j q : ℕ) → j ≢ t → H' j q → H j q
  old j q n h = elim (M.down j q h).1 [ inl e ↦ absurd (n e.0) | inr x ↦ x ]

  -- what was inside stays inside, unless it is t
  still : (j k : ℕ) → j ≢ t → Kept k → Inside H j k → Inside H' j k
  still j k n c i =
      (λ q h. M.up k q c (i.0 q (old j q n h)), (i.1.0, M.up k i.1.0 c i.1.1, λ h. i.1.2 (old j i.1.0 n h)))

  -- whatever meets t is inside it now
  into : (j p : ℕ) → j ≢ t → H j p → H' t p → Inside H' j t
  into j p n a b = elim (M.down t p b).1 [
    | inl x ↦ by x.1 (ℕ_discrete j f)
    | inr x ↦ let l : lab p ≡ t = M.t-top p x in still j t n t-kept (subst (λ m. Inside H j m) l (F.under_top j p a (λ e. n (e ∙ l))))
  ]
    where
      by : H f p → Dec (j ≡ f) → Inside H' j t
      by x (yes e) = (
        λ q h. M.to q (subst (λ i. H i q) e (old j q n h)),
        (
          M.t-stands.0,
          M.up t M.t-stands.0 t-kept M.t-stands.1,
          λ h. apart M.t-stands.0 (subst (λ i. H i M.t-stands.0) e (old j M.t-stands.0 n h)) M.t-stands.1,
        ),
      )
      by x (no d) =
          let l : lab p ≡ f = M.f-top p x in
          let i : Inside H j f = subst (λ m. Inside H j m) l (F.under_top j p a (λ e. d (e ∙ l))) in
          (λ q h. M.to q (i.0 q (old j q n h)), (i.1.0, M.to i.1.0 i.1.1, λ h. i.1.2 (old j i.1.0 n h)))

  -- the clusters that hold p, where f does not, are those that did
  same_place : (k p : ℕ) → (H f p → ⊥) → H' k p → H k p
  same_place k p x h = elim (M.down k p h).1 [ inl y ↦ absurd (x y.1) | inr y ↦ y ]

  -- the label of a pixel that f does not hold is not f
  lab-kept : (k p : ℕ) → (H f p → ⊥) → H k p → Kept (lab p)
  lab-kept k p x a = M.kept (lab p) (λ e. x (subst (λ m. H m p) e (F.top-held k p a)))

  new-top : (k p : ℕ) → H' k p → H' (lab' p) p
  new-top k p h = by_cases (M.dec p)
      (λ x. subst (λ m. H' m p) (sym (M.lab-from p x)) (M.to p x))
      (λ x. let a : H k p = same_place k p x h in subst (λ m. H' m p) (sym (M.lab-other p x)) (M.up (lab p) p (lab-kept k p x a) (F.top-held k p a)))

  new_under : (k p : ℕ) → H' k p → k ≢ lab' p → Inside H' k (lab' p)
  new_under k p h n = by_cases (M.dec p)
      (λ x. let e : lab' p ≡ t = M.lab-from p x in subst (λ m. Inside H' k m) (sym e) (into k p (λ y. n (y ∙ sym e)) (old k p (λ y. n (y ∙ sym e)) h) (M.to p x)))
      (λ x. deep x (same_place k p x h) (M.lab-other p x) (ℕ_discrete (lab p) t))
    where
      deep : (H f p → ⊥) → H k p → lab' p ≡ lab p → Dec (lab p ≡ t) → Inside H' k (lab' p)
      deep x a e (yes z) = subst (λ m. Inside H' k m) (sym (e ∙ z)) (into k p (λ y. n (y ∙ sym (e ∙ z))) a (M.up t p t-kept (subst (λ m. H m p) z (F.top-held k p a))))
      deep x a e (no z) =
          subst (λ m. Inside H' k m) (sym e)
          (still k (lab p) (λ y. z (M.t-top p (subst (λ m. H m p) y a))) (lab-kept k p x a) (F.under_top k p a (λ y. n (y ∙ sym e))))

  new-nested : (j k p : ℕ) → H' j p → H' k p → j ≢ k → Inside H' j k ⊎ Inside H' k j
  new-nested j k p a b n = pick (ℕ_discrete j t) (ℕ_discrete k t)
    where
      carry : j ≢ t → k ≢ t → Inside H j k ⊎ Inside H k j → Inside H' j k ⊎ Inside H' k j
      carry x y (inl i) = inl (still j k x (M.down k p b).0 i)
      carry x y (inr i) = inr (still k j y (M.down j p a).0 i)

      pick : Dec (j ≡ t) → Dec (k ≡ t) → Inside H' j k ⊎ Inside H' k j
      pick (yes x) (yes y) = absurd (n (x ∙ sym y))
      pick (yes x) (no y) = inr (subst (λ m. Inside H' k m) (sym x) (into k p y (old k p y b) (subst (λ m. H' m p) x a)))
      pick (no x) (yes y) = inl (subst (λ m. Inside H' j m) (sym y) (into j p x (old j p x a) (subst (λ m. H' m p) y b)))
      pick (no x) (no y) = carry x y (F.nested j k p (old j p x a) (old k p y b) n)

  new-own-inner : (j k p : ℕ) → O' j p → H' k p → j ≢ k → Inside H' j k
  new-own-inner j k p a b n = pick (M.own-down j p a).1 (ℕ_discrete k t)
    where
      -- k is inside the label of p, so j, which owns p and whose label it is, is not inside k
      clash : (m : ℕ) → lab p ≡ m → O m p → H k p → m ≢ k → ⊥
      clash m e x y z = inside-not H m k (F.own-inner m k p x y z) (subst (λ l. Inside H k l) e (F.under_top k p y (λ q. z (sym (q ∙ e)))))

      mine : O j p → k ≢ t → Dec (j ≡ t) → Inside H' j k
      mine x y (yes e) =
          let x' : O t p = subst (λ m. O m p) e x in
          absurd (clash t (M.t-top p (F.own_held t p x')) x' (old k p y b) (λ q. y (sym q)))
      mine x y (no e) = still j k e (M.down k p b).0 (F.own-inner j k p x (old k p y b) n)

      pick : O j p ⊎ ((j ≡ t) × O f p × (Kept f → ⊥)) → Dec (k ≡ t) → Inside H' j k
      pick (inl x) (yes e) =
          let d : j ≢ t = λ y. n (y ∙ sym e) in
          subst (λ m. Inside H' j m) (sym e) (into j p d (F.own_held j p x) (subst (λ m. H' m p) e b))
      pick (inl x) (no e) = mine x e (ℕ_discrete j t)
      pick (inr x) (yes e) = absurd (n (x.0 ∙ sym e))
      pick (inr x) (no e) =
          absurd (clash f (M.f-top p (F.own_held f p x.1)) x.1 (old k p e b) (λ y. x.2 (subst Kept (sym y) (M.down k p b).0)))

  pub merged : Forest H' O' lab'
  merged = record {
    own_held = λ k p x. own k p (M.own-down k p x).0 (M.own-down k p x).1;
    owner = λ k p x. M.own_any (own_of k p (M.down k p x).1).0 p (own_of k p (M.down k p x).1).1;
    top-held = new-top;
    under_top = new_under;
    nested = new-nested;
    own-inner = new-own-inner;
  }
    where
      own : (k p : ℕ) → Kept k → O k p ⊎ ((k ≡ t) × O f p × (Kept f → ⊥)) → H' k p
      own k p c (inl x) = M.up k p c (F.own_held k p x)
      own k p c (inr x) = subst (λ m. H' m p) (sym x.0) (M.to p (F.own_held f p x.1))

      own_of : (k p : ℕ) → ((k ≡ t) × H f p) ⊎ H k p → (j : ℕ) × O j p
      own_of k p (inl x) = F.owner f p x.1
      own_of k p (inr x) = F.owner k p x

-- what the forest says of the residue: p is in k's residue exactly if k holds it and no cluster inside k does
module _ {H O : ℕ → ℕ → Type 0} {lab : ℕ → ℕ} (F : Forest H O lab) where
  pub residue-out : (k p : ℕ) → O k p → H k p × ((j : ℕ) → Inside H j k → H j p → ⊥)
  residue-out k p x = (F.own_held k p x, λ j i y. inside-not H j k i (F.own-inner k j p x y (λ e. i.1.2 (subst (λ m. H m i.1.0) e i.1.1))))

  pub residue-in : (k p : ℕ) → H k p → ((j : ℕ) → Inside H j k → H j p → ⊥) → O k p
  residue-in k p x n = pick (F.owner k p x) (ℕ_discrete (F.owner k p x).0 k)
    where
      pick : (o : (j : ℕ) × O j p) → Dec (o.0 ≡ k) → O k p
      pick o (yes e) = subst (λ m. O m p) e o.1
      pick o (no d) = absurd (n o.0 (F.own-inner o.0 k p o.1 x d) (F.own_held o.0 p o.1))
