-- With no label 0 on the image, every standing cluster is put out, and the first output that holds a pixel owns it.
use Rattle.std.specs.Prelude.{if◌then◌else◌}
use mathlib.Core.Path.{◌≡◌, refl, sym, ap, ap₂, ◌∙◌, subst}
use mathlib.Core.Logic.{◌≢◌, ◌⊎◌, inl, inr, by_cases}
use mathlib.Core.Bool.{Bool, true, false, ◌||◌}
use mathlib.Core.List.{List, [], ◌∷◌, ◌++◌}
use Prim.Native.Nat.{ℕ, zero, suc, ◌+◌, ◌*◌, ◌≤◌, ◌<◌}
use native.Mathlib.Decide.{ℕ_discrete}
use native.Mathlib.Omega.{arith}
use lib.Dec.{T, eqb, leb, le→leb}
use lib.ListN.{length, get_or, length-append}
use Rattle.rules.specs.Base.{none_above, times, insert_once, keep}
use Rattle.rules.specs.Color.{RunnerConfig, discards}
use Rattle.rules.specs.State.{State, Cluster, new_cluster, cluster, label, area, emptied, with_cluster, with_residue, merged_to, deeper, put_out, merge_cluster_into, deepen_cluster_into, plain, deepened}
use Rattle.rules.specs.Stage2.{areas_of, neighbours, isolated, visit, pass, passes}
use Rattle.rules.specs.Ledger.{Held, enter, ledger}
use Rattle.rules.specs.Claim.{bit, occurs, count_of, Stands}
use Rattle.rules.specs.Code.Early.{Basic, owned}
use Rattle.rules.proofs.Facts.{is_true, T-dec, T-bit, eqb_yes, eqb_no, count_of-one, count_of-lt, occurs-append, count_of-bound}
use Rattle.rules.proofs.Forest.{Inside, inside-not}
use Rattle.rules.proofs.Basic.{Moved, three, lab-from, lab-other, plain_down, plain-o, deepened-o, some-held, held-some}
use Rattle.rules.proofs.Visits.{Going, pass-going, All, insert_all, Near, neighbours-near, visit-cases, visit-going, times-keep}
use Rattle.rules.proofs.Visits.{stands, root, mine, target-stands, target-root, k≢t, merge-going, deepen-going, merge-changes, deepen-changes, deepen-from}
use Rattle.rules.proofs.Painting.{First}
use Rattle.rules.proofs.Connected.{covers}

-- ---- entries

abbrev pub In : ℕ → List ℕ → Type 0
In x [] = ⊥
In x (y ∷ ys) = (x ≡ y) ⊎ In x ys

in_left : (x : ℕ) (xs ys : List ℕ) → In x xs → In x (xs ++ ys)
in_left x [] ys i = absurd i
in_left x (y ∷ xs) ys (inl e) = inl e
in_left x (y ∷ xs) ys (inr i) = inr (in_left x xs ys i)

in-last : (k : ℕ) (xs : List ℕ) → In k (xs ++ (k ∷ []))
in-last k [] = inl refl
in-last k (x ∷ xs) = inr (in-last k xs)

pub in-snoc : (x k : ℕ) (xs : List ℕ) → In x (xs ++ (k ∷ [])) → In x xs ⊎ (x ≡ k)
in-snoc x k [] (inl e) = inr e
in-snoc x k [] (inr i) = absurd i
in-snoc x k (y ∷ ys) (inl e) = inl (inl e)
in-snoc x k (y ∷ ys) (inr i) = elim (in-snoc x k ys i) [ inl j ↦ inl (inr j) | inr e ↦ inr e ]

pub first-find : (h : Held) (p j : ℕ) (xs : List ℕ) → In j xs → T (h j p) → (x : ℕ) × First h p xs x
first-find h p j [] i t = absurd i
first-find h p j (y ∷ ys) i t = pick (T-dec (h y p)) i (λ z. first-find h p j ys z t)
  where
    pick : Dec (T (h y p)) → (j ≡ y) ⊎ In j ys → (In j ys → (x : ℕ) × First h p ys x) → (x : ℕ) × First h p (y ∷ ys) x
    pick (yes d) z ih = (y, inl (d, refl))
    pick (no d) (inl e) ih = absurd (d (subst (λ m. T (h m p)) e t))
    pick (no d) (inr z) ih = ((ih z).0, inr (d, (ih z).1))

pub first_holds : (h : Held) (p x : ℕ) (xs : List ℕ) → First h p xs x → T (h x p)
first_holds h p x [] f = absurd f
first_holds h p x (y ∷ ys) (inl z) = subst (λ m. T (h m p)) z.1 z.0
first_holds h p x (y ∷ ys) (inr z) = first_holds h p x ys z.1

first-in : (h : Held) (p x : ℕ) (xs : List ℕ) → First h p xs x → In x xs
first-in h p x [] f = f
first-in h p x (y ∷ ys) (inl z) = inl (sym z.1)
first-in h p x (y ∷ ys) (inr z) = inr (first-in h p x ys z.1)

first-snoc : (h : Held) (p k x : ℕ) (xs : List ℕ) → First h p (xs ++ (k ∷ [])) x → First h p xs x ⊎ (((y : ℕ) → In y xs → T (h y p) → ⊥) × (k ≡ x))
first-snoc h p k x [] (inl z) = inr (λ y i. absurd i, z.1)
first-snoc h p k x [] (inr z) = absurd z.1
first-snoc h p k x (y ∷ ys) (inl z) = inl (inl z)
first-snoc h p k x (y ∷ ys) (inr z) = pick (first-snoc h p k x ys z.1)
  where
    pick : First h p ys x ⊎ (((v : ℕ) → In v ys → T (h v p) → ⊥) × (k ≡ x)) → First h p (y ∷ ys) x ⊎ (((v : ℕ) → In v (y ∷ ys) → T (h v p) → ⊥) × (k ≡ x))
    pick (inl f) = inl (inr (z.0, f))
    pick (inr f) = inr (here, f.1)
      where
        here : (v : ℕ) → (v ≡ y) ⊎ In v ys → T (h v p) → ⊥
        here v (inl e) t = z.0 (subst (λ m. T (h m p)) e t)
        here v (inr i) t = f.0 v i t

first-map : (h g : Held) (p x : ℕ) (xs : List ℕ) → ((y : ℕ) → In y xs → h y ≡ g y) → First h p xs x → First g p xs x
first-map h g p x [] e f = f
first-map h g p x (y ∷ ys) e (inl z) = inl (subst (λ u. T (u p)) (e y (inl refl)) z.0, z.1)
first-map h g p x (y ∷ ys) e (inr z) = inr (λ t. z.0 (subst (λ u. T (u p)) (sym (e y (inl refl))) t), first-map h g p x ys (λ v i. e v (inr i)) z.1)

pub first-keep : (h : Held) (f : ℕ → Bool) (p x : ℕ) (xs : List ℕ) → ((y : ℕ) → T (h y p) → f y ≡ true) → First h p xs x → First h p (keep f xs) x
first-keep h f p x [] e z = z
first-keep h f p x (y ∷ ys) e (inl z) = subst (λ b. First h p (if b then y ∷ keep f ys else keep f ys) x) (sym (e y z.0)) (inl z)
first-keep h f p x (y ∷ ys) e (inr z) = pick (f y) (first-keep h f p x ys e z.1)
  where
    pick : (b : Bool) → First h p (keep f ys) x → First h p (if b then y ∷ keep f ys else keep f ys) x
    pick true r = inr (z.0, r)
    pick false r = r

pub in-keep : (f : ℕ → Bool) (x : ℕ) (xs : List ℕ) → In x (keep f xs) → T (f x)
in-keep f x [] i = absurd i
in-keep f x (y ∷ ys) i = pick (f y) refl i (in-keep f x ys)
  where
    pick : (b : Bool) → f y ≡ b → In x (if b then y ∷ keep f ys else keep f ys) → (In x (keep f ys) → T (f x)) → T (f x)
    pick true e (inl z) ih = subst (λ m. T (f m)) (sym z) (subst T (sym e) tt)
    pick true e (inr z) ih = ih z
    pick false e z ih = ih z

not_in : (x : ℕ) (xs : List ℕ) → (In x xs → ⊥) → occurs x xs ≡ 0
not_in x [] n = refl
not_in x (y ∷ ys) n = omega (arith, ap bit (eqb_no x y (λ e. n (inl e))), not_in x ys (λ i. n (inr i)))

once_more : (k : ℕ) (xs : List ℕ) → (In k xs → ⊥) → ((x : ℕ) → occurs x xs ≤ 1) → (x : ℕ) → occurs x (xs ++ (k ∷ [])) ≤ 1
once_more k xs n a x = by_cases (ℕ_discrete x k)
    (λ e. subst (λ m. occurs m (xs ++ (k ∷ [])) ≤ 1) (sym e) (omega (arith, occurs-append k xs (k ∷ []), not_in k xs n, ap bit (eqb_yes k k refl))))
    (λ d. omega (arith, occurs-append x xs (k ∷ []), a x, ap bit (eqb_no x k d)))

-- ---- areas

total : List ℕ → ℕ → ℕ
total xs zero = 0
total xs (suc n) = occurs n xs + total xs n

total-count_of : (xs : List ℕ) (f : ℕ → Bool) → ((p : ℕ) → occurs p xs ≡ bit (f p)) → (n : ℕ) → total xs n ≡ count_of f n
unfolding total count_of
total-count_of xs f e zero = refl
total-count_of xs f e (suc n) = ap₂ (λ a b. a + b) (e n) (total-count_of xs f e n)

total-cons : (x : ℕ) (xs : List ℕ) (n : ℕ) → total (x ∷ xs) n ≡ count_of (λ p. eqb p x) n + total xs n
unfolding total count_of
total-cons x xs zero = refl
total-cons x xs (suc n) = omega (arith, total-cons x xs n)

total-length : (xs : List ℕ) (n : ℕ) → ((p : ℕ) → occurs p xs ≢ 0 → p < n) → total xs n ≡ length xs
unfolding total
total-length [] zero b = refl
total-length [] (suc n) b = omega (arith, total-length [] n (λ p z. absurd (z refl)))
total-length (x ∷ xs) n b =
    total-cons x xs n
    ∙ omega (arith, count_of-one x n (b x (λ z. let y : bit (eqb x x) ≡ 1 = ap bit (eqb_yes x x refl) in omega arith)), total-length xs n (λ p z. b p (λ y. z (omega arith))))

count_of-all : (f : ℕ → Bool) (n : ℕ) → ((p : ℕ) → p < n → T (f p)) → count_of f n ≡ n
unfolding count_of
count_of-all f zero a = refl
count_of-all f (suc n) a = omega (arith, T-bit (f n) (a n (omega arith)), count_of-all f n (λ p l. a p (omega arith)))

occurs-length : (p : ℕ) (xs : List ℕ) → occurs p xs ≢ 0 → 0 < length xs
occurs-length p [] n = absurd (n refl)
occurs-length p (x ∷ xs) n = omega arith

module _ {image : List ℕ} {size : ℕ} {h : Held} {s : State} (B : Basic image size h s) where
  pub area-count_of : (k : ℕ) → area (cluster s k) ≡ count_of (h k) size
  area-count_of k =
      sym (total-length (cluster s k).pixels size (λ p n. omega (arith, B.width, B.places k p (some-held B k p n))))
      ∙ total-count_of (cluster s k).pixels (h k) (B.lists k) size

  pub area-le : (k : ℕ) → area (cluster s k) ≤ size
  area-le k = omega (arith, area-count_of k, count_of-bound (h k) size)

  pub area-pos : (k p : ℕ) → T (h k p) → 0 < area (cluster s k)
  area-pos k p x = occurs-length p (cluster s k).pixels (λ z. omega (arith, held-some B k p x))

-- ---- the outputs before slot k is visited at area a

-- x was put out though it is inside no other: no merge is to come
abbrev pub Over : RunnerConfig → ℕ → ℕ → State → ℕ → Type 0
Over o size a s x = (o.hierarchical < a) ⊎ ((p : ℕ) → p < size → label s p ≡ x)

-- j was visited, or would have been
abbrev pub Due : ℕ → ℕ → State → ℕ → Type 0
Due a k s j = (area (cluster s j) < a) ⊎ ((area (cluster s j) ≡ a) × (j < k))

due-later : (a k : ℕ) (s : State) (j : ℕ) → Due a k s j → Due a (suc k) s j
due-later a k s j (inl x) = inl x
due-later a k s j (inr x) = inr (x.0, omega arith)

pub record Shows (o : RunnerConfig) (size n a k : ℕ) (s : State) : Type 0 where
  pub inner : (j : ℕ) → Stands (ledger s.log) j → (cluster s j).merged_into ≢ 0 → In j s.outputs
  pub outer : (j : ℕ) → Stands (ledger s.log) j → (cluster s j).merged_into ≡ 0 → Due a k s j → In j s.outputs
  pub over : (x : ℕ) → In x s.outputs → (cluster s x).merged_into ≡ 0 → Over o size a s x
  pub firsts : (p x : ℕ) → First (ledger s.log) p s.outputs x → T (owned s.log x p)
  pub bounds : All (λ x. x ≤ size) s.listed
  pub lit : (p : ℕ) → p < size → label s p ≢ 0
  pub table : length s.clusters ≡ n
  -- no entry stands twice, and the turn of a root among them is over
  pub once : (x : ℕ) → occurs x s.outputs ≤ 1
  pub turned : (x : ℕ) → In x s.outputs → (cluster s x).merged_into ≡ 0 → Due a k s x

skip-shows : {o : RunnerConfig} {size n : ℕ} (a k : ℕ) (s : State) → Shows o size n a k s → area (cluster s k) ≢ a → Shows o size n a (suc k) s
skip-shows a k s W d = record {
  inner = W.inner;
  outer = λ j z r u. W.outer j z r (pick j u);
  over = W.over;
  firsts = W.firsts;
  bounds = W.bounds;
  lit = W.lit;
  table = W.table;
  once = W.once;
  turned = λ x i r. due-later a k s x (W.turned x i r);
}
  where
    pick : (j : ℕ) → Due a (suc k) s j → Due a k s j
    pick j (inl x) = inl x
    pick j (inr x) = elim (ℕ_discrete j k) [ yes e ↦ absurd (d (subst (λ m. area (cluster s m) ≡ a) e x.0)) | no e ↦ inr (x.0, omega arith) ]

module _ {image : List ℕ} {o : RunnerConfig} {size n : ℕ} where
  -- the first that holds p, after k is put out, owns p
  snoc-firsts : (a k : ℕ) (s : State) → Going image size a k s → Shows o size n a k s → (p x : ℕ) → First (ledger s.log) p (s.outputs ++ (k ∷ [])) x → T (owned s.log x p)
  snoc-firsts a k s G W p x f = elim (first-snoc (ledger s.log) p k x s.outputs f) [ inl g ↦ W.firsts p x g | inr g ↦ mine_or g.0 (G.sound.forest.owner x p t) ]
    where
      t : T (ledger s.log x p)
      t = first_holds (ledger s.log) p x (s.outputs ++ (k ∷ [])) f

      mine_or : ((y : ℕ) → In y s.outputs → T (ledger s.log y p) → ⊥) → (j : ℕ) × T (owned s.log j p) → T (owned s.log x p)
      mine_or none w = elim (ℕ_discrete w.0 x) [ yes e ↦ subst (λ m. T (owned s.log m p)) e w.1 | no d ↦ rooted d (ℕ_discrete (cluster s w.0).merged_into 0) ]
        where
          held : T (ledger s.log w.0 p)
          held = G.sound.forest.own_held w.0 p w.1

          rooted : w.0 ≢ x → Dec ((cluster s w.0).merged_into ≡ 0) → T (owned s.log x p)
          rooted d (no r) = absurd (none w.0 (W.inner w.0 (p, held) r) held)
          rooted d (yes r) =
              let l : label s p ≡ w.0 = G.sound.tops w.0 p held r in
              absurd (inside-not (λ a b. T (ledger s.log a b)) w.0 x (G.sound.forest.own-inner w.0 x p w.1 t d)
              (subst (λ m. Inside (λ a b. T (ledger s.log a b)) x m) l (G.sound.forest.under_top x p t (λ e. d (sym (e ∙ l))))))

  put-shows : (a k : ℕ) (s : State) → Going image size a k s → Shows o size n a k s → 0 < a → area (cluster s k) ≡ a → Over o size a s k → Shows o size n a (suc k) (put_out k s)
  unfolding put_out
  put-shows a k s G W pos e₀ v = record {
    inner = λ j z r. in_left j s.outputs (k ∷ []) (W.inner j z r);
    outer = λ j z r u. out j z r u (ℕ_discrete j k);
    over = λ x i r. elim (in-snoc x k s.outputs i) [ inl i ↦ W.over x i r | inr e ↦ subst (Over o size a s) (sym e) v ];
    firsts = snoc-firsts a k s G W;
    bounds = W.bounds;
    lit = W.lit;
    table = W.table;
    once = once_more k s.outputs fresh-entry W.once;
    turned = λ x i r. elim (in-snoc x k s.outputs i) [ inl i ↦ due-later a k s x (W.turned x i r) | inr z ↦ subst (Due a (suc k) s) (sym z) (inr (e₀, omega arith)) ];
  }
    where
      out : (j : ℕ) → Stands (ledger s.log) j → (cluster s j).merged_into ≡ 0 → Due a (suc k) s j → Dec (j ≡ k) → In j (s.outputs ++ (k ∷ []))
      out j z r u (yes e) = subst (λ m. In m (s.outputs ++ (k ∷ []))) (sym e) (in-last k s.outputs)
      out j z r (inl u) (no d) = in_left j s.outputs (k ∷ []) (W.outer j z r (inl u))
      out j z r (inr u) (no d) = in_left j s.outputs (k ∷ []) (W.outer j z r (inr (u.0, omega arith)))

      fresh-entry : In k s.outputs → ⊥
      fresh-entry i = never (W.turned k i (root a k s G pos e₀))
        where
          never : Due a k s k → ⊥
          never (inl l) = omega arith
          never (inr l) = omega arith

  module _ (a k : ℕ) (s : State) (G : Going image size a k s) (W : Shows o size n a k s) (pos : 0 < a) (e : area (cluster s k) ≡ a) (nh : a ≤ o.hierarchical)
      (t : ℕ) (N : Near s (label s (get_or (cluster s k).pixels 0 0)) t) where
    k-holds : T (ledger s.log k (get_or (cluster s k).pixels 0 0))
    k-holds = stands a k s G pos e

    t-holds : Stands (ledger s.log) t
    t-holds = target-stands a k s G pos e t N

    k-root : (cluster s k).merged_into ≡ 0
    k-root = root a k s G pos e

    t-root : (cluster s t).merged_into ≡ 0
    t-root = target-root a k s G pos e t N

    ne : k ≢ t
    ne = k≢t a k s G pos e t N

    -- nothing that was put out is inside no other
    no-root : (x : ℕ) → In x s.outputs → (cluster s x).merged_into ≡ 0 → ⊥
    no-root x i r = pick (W.over x i r)
      where
        pick : Over o size a s x → ⊥
        pick (inl l) = omega arith
        pick (inr all) =
            ne (sym (G.sound.tops k _ k-holds k-root) ∙ all _ (omega (arith, G.sound.basic.width, G.sound.basic.places k _ k-holds))
            ∙ sym (all t-holds.0 (omega (arith, G.sound.basic.width, G.sound.basic.places t t-holds.0 t-holds.1)))
            ∙ G.sound.tops t t-holds.0 t-holds.1 t-root)

    not-k : (x : ℕ) → In x s.outputs → x ≢ k
    not-k x i z = no-root k (subst (λ m. In m s.outputs) z i) k-root

    not_t : (x : ℕ) → In x s.outputs → x ≢ t
    not_t x i z = no-root t (subst (λ m. In m s.outputs) z i) t-root

    module _ {s' : State} (M : Moved k t s s') where
      t-area : area (cluster s' t) ≡ area (cluster s t) + area (cluster s k)
      t-area = ap length M.t-pixels ∙ length-append (cluster s t).pixels (cluster s k).pixels

      t-not-due : Due a (suc k) s' t → ⊥
      t-not-due (inl l) = omega (arith, t-area, area-pos G.sound.basic t t-holds.0 t-holds.1)
      t-not-due (inr l) = omega (arith, t-area, area-pos G.sound.basic t t-holds.0 t-holds.1)

      other-due : (j : ℕ) → j ≢ k → j ≢ t → Due a (suc k) s' j → Due a k s j
      other-due j u v d = go (subst (λ c. (area c < a) ⊎ ((area c ≡ a) × (j < suc k))) (M.other j u v) d)
        where
          go : Due a (suc k) s j → Due a k s j
          go (inl l) = inl l
          go (inr l) = inr (l.0, omega arith)

      still-over : (x : ℕ) → In x s.outputs → (cluster s' x).merged_into ≡ 0 → ⊥
      still-over x i r = no-root x i (sym (ap (λ c. c.merged_into) (M.other x (not-k x i) (not_t x i))) ∙ r)

      new-lit : (p : ℕ) → p < size → label s' p ≢ 0
      new-lit p l z = by_cases (T-dec (ledger s.log k p))
          (λ x. N.0 (sym (lab-from G.sound.basic k t M p x) ∙ z))
          (λ x. W.lit p l (sym (lab-other G.sound.basic k t M p x) ∙ z))

    M₁ : Moved k t s (merge_cluster_into k t s)
    M₁ = merge-changes a k s G pos e t N

    merge-shows : Shows o size n a (suc k) (merge_cluster_into k t s)
    unfolding merge_cluster_into emptied with_cluster with_residue
    merge-shows = record {
      inner = three k t (λ j. Stands h' j → (cluster (merge_cluster_into k t s) j).merged_into ≢ 0 → In j s.outputs)
          (λ z r. absurd ((plain_down h k t ne k z.0 z.1).0 refl))
          (λ z r. absurd (r (M₁.t-merged ∙ t-root)))
          (λ j u v z r. W.inner j (old j u v z) (λ y. r (ap (λ c. c.merged_into) (M₁.other j u v) ∙ y)));
      outer = three k t (λ j. Stands h' j → (cluster (merge_cluster_into k t s) j).merged_into ≡ 0 → Due a (suc k) (merge_cluster_into k t s) j → In j s.outputs)
          (λ z r d. absurd ((plain_down h k t ne k z.0 z.1).0 refl))
          (λ z r d. absurd (t-not-due M₁ d))
          (λ j u v z r d. W.outer j (old j u v z) (sym (ap (λ c. c.merged_into) (M₁.other j u v)) ∙ r) (other-due M₁ j u v d));
      over = λ x i r. absurd (still-over M₁ x i r);
      firsts = λ p x f.
          let i : In x s.outputs = first-in h' p x s.outputs f in
          subst (λ u. T (u p)) (sym (plain-o (owned s.log) k t x (not-k x i) (not_t x i)))
          (W.firsts p x (first-map h' h p x s.outputs (λ y j. plain-o h k t y (not-k y j) (not_t y j)) f));
      bounds = insert_all (λ x. x ≤ size) _ s.listed (subst (λ c. c ≤ size) (ap length M₁.t-pixels) (area-le (merge-going a k s G pos e t N).sound.basic t)) W.bounds;
      lit = new-lit M₁;
      table = M₁.table ∙ W.table;
      once = W.once;
      turned = λ x i r. absurd (still-over M₁ x i r);
    }
      where
        h : Held
        h = ledger s.log

        h' : Held
        h' = enter (plain k t) (ledger s.log)

        old : (j : ℕ) → j ≢ k → j ≢ t → Stands h' j → Stands h j
        old j u v z = (z.0, subst (λ g. T (g z.0)) (plain-o h k t j u v) z.1)

    deepen-shows : (hollow : Bool) → Shows o size n a (suc k) (deepen_cluster_into hollow k t s)
    unfolding deepen_cluster_into merged_to with_cluster deeper
    deepen-shows hollow = record {
      inner = three k t (λ j. Stands h' j → (cluster s' j).merged_into ≢ 0 → In j (s.outputs ++ (k ∷ [])))
          (λ z r. in-last k s.outputs)
          (λ z r. absurd (r (M.t-merged ∙ t-root)))
          (λ j u v z r. in_left j s.outputs (k ∷ []) (W.inner j (old j v z) (λ y. r (ap (λ c. c.merged_into) (M.other j u v) ∙ y))));
      outer = three k t (λ j. Stands h' j → (cluster s' j).merged_into ≡ 0 → Due a (suc k) s' j → In j (s.outputs ++ (k ∷ [])))
          (λ z r d. in-last k s.outputs)
          (λ z r d. absurd (t-not-due M d))
          (λ j u v z r d. in_left j s.outputs (k ∷ []) (W.outer j (old j v z) (sym (ap (λ c. c.merged_into) (M.other j u v)) ∙ r) (other-due M j u v d)));
      over = λ x i r. absurd (none x r (in-snoc x k s.outputs i));
      firsts = λ p x f. snoc-firsts a k s G W p x (first-map h' h p x (s.outputs ++ (k ∷ [])) (λ y j. deepened-o h k t y (no-t y (in-snoc y k s.outputs j))) f);
      bounds = insert_all (λ x. x ≤ size) _ s.listed (subst (λ c. c ≤ size) (ap length M.t-pixels) (area-le (deepen-going a k s G pos e t N hollow).sound.basic t)) W.bounds;
      lit = new-lit M;
      table = M.table ∙ W.table;
      once = once_more k s.outputs (λ i. not-k k i refl) W.once;
      turned = λ x i r. absurd (none x r (in-snoc x k s.outputs i));
    }
      where
        h : Held
        h = ledger s.log

        h' : Held
        h' = enter (deepened k t) (ledger s.log)

        s' : State
        s' = deepen_cluster_into hollow k t s

        M : Moved k t s s'
        M = deepen-changes a k s G pos e t N hollow

        old : (j : ℕ) → j ≢ t → Stands h' j → Stands h j
        old j v z = (z.0, subst (λ g. T (g z.0)) (deepened-o h k t j v) z.1)

        none : (x : ℕ) → (cluster s' x).merged_into ≡ 0 → In x s.outputs ⊎ (x ≡ k) → ⊥
        none x r (inl i) = still-over M x i r
        none x r (inr z) = N.0 (sym (ap (λ c. c.merged_into) (deepen-from a k s G pos e t N hollow)) ∙ subst (λ m. (cluster s' m).merged_into ≡ 0) z r)

        no-t : (y : ℕ) → In y s.outputs ⊎ (y ≡ k) → y ≢ t
        no-t y (inl i) = not_t y i
        no-t y (inr z) = λ q. ne (sym z ∙ q)

none_above_lem : (o : RunnerConfig) (w h a size : ℕ) (xs : List ℕ) → All (λ x. x ≤ size) xs → size ≤ a → none_above a xs ≡ true
none_above_lem o w h a size [] b l = refl
none_above_lem o w h a size (x ∷ xs) b l = rw (is_true (leb x a) (le→leb x a (omega arith))) (none_above_lem o w h a size xs b.1 l)

positive : (p w h : ℕ) → p < w * h → (0 < w) × (0 < h)
positive p zero h l = absurd (omega arith)
positive p (suc w) zero l = absurd (omega arith)
positive p (suc w) (suc h) l = (omega arith, omega arith)

module _ {image : List ℕ} (o : RunnerConfig) (w h : ℕ) {n : ℕ} where
  module _ (a k : ℕ) (s : State) (G : Going image (w * h) a k s) (W : Shows o (w * h) n a k s) (pos : 0 < a) where
    isolated-shows : area (cluster s k) ≡ a → neighbours w h s k ≡ [] → Shows o (w * h) n a (suc k) (isolated o a k s)
    unfolding isolated
    isolated-shows e none =
        subst (λ b. Shows o (w * h) n a (suc k) (if b || discards o then put_out k s else s))
        (sym (none_above_lem o w h a (w * h) s.listed W.bounds (omega (arith, full)))) (put-shows a k s G W pos e (inr whole))
      where
        B : Basic image (w * h) (ledger s.log) s
        B = G.sound.basic

        q : ℕ
        q = get_or (cluster s k).pixels 0 0

        on : q < w * h
        on = omega (arith, B.width, B.places k q (stands a k s G pos e))

        holds : (p : ℕ) → p < w * h → label s p ≡ k → T (ledger s.log k p)
        holds p l x = subst (λ m. T (ledger s.log m p)) x (B.shown p (W.lit p l))

        whole : (p : ℕ) → p < w * h → label s p ≡ k
        whole = covers o w h s k (positive q w h on).0 (positive q w h on).1 W.lit (mine a k s G pos e) on (λ p l x z. omega (arith, held-some B k p (holds p l x))) none

        full : a ≡ w * h
        full = sym e ∙ area-count_of B k ∙ count_of-all (ledger s.log k) (w * h) (λ p l. holds p l (whole p l))

    visit-shows : Shows o (w * h) n a (suc k) (visit o w h a k s)
    visit-shows =
        visit-cases o w h a k s (Shows o (w * h) n a (suc k)) (skip-shows a k s W) (λ e l. put-shows a k s G W pos e (inl l)) (λ e l z. isolated-shows e z)
        (λ e l t N. merge-shows a k s G W pos e l t N) (λ e l t N b. deepen-shows a k s G W pos e l t N b)

  pass-shows : (a : ℕ) (s : State) → Going image (w * h) (suc a) 0 s × Shows o (w * h) n (suc a) 0 s
      → Going image (w * h) (suc (suc a)) 0 (pass o w h (suc a) s) × Shows o (w * h) n (suc (suc a)) 0 (pass o w h (suc a) s)
  unfolding pass
  pass-shows a s G = (
    pass-going o w h a s G.0,
    record {
      inner = W.inner;
      outer = λ j z r d. W.outer j z r (due j z d);
      over = λ x i r. more x (W.over x i r);
      firsts = W.firsts;
      bounds = W.bounds;
      lit = W.lit;
      table = W.table;
      once = W.once;
      turned = λ x i r. next-due x (W.turned x i r);
    },
  )
    where
      N : ℕ
      N = length s.clusters

      u : State
      u = times N (visit o w h (suc a)) s

      end : Going image (w * h) (suc a) N u × Shows o (w * h) n (suc a) N u
      end = times-keep (λ k v. Going image (w * h) (suc a) k v × Shows o (w * h) n (suc a) k v) (visit o w h (suc a))
          (λ k v H. (visit-going o w h (suc a) k v H.0 (omega arith), visit-shows (suc a) k v H.0 H.1 (omega arith))) s G N

      W : Shows o (w * h) n (suc a) N u
      W = end.1

      due : (j : ℕ) → Stands (ledger u.log) j → Due (suc (suc a)) 0 u j → Due (suc a) N u j
      due j z (inr d) = absurd (omega arith)
      due j z (inl d) = by_cases (ℕ_discrete (area (cluster u j)) (suc a))
          (λ x. inr (x, omega (arith, end.0.sound.basic.slots j z.0 z.1, W.table, G.1.table)))
          (λ x. inl (omega arith))

      next-due : (x : ℕ) → Due (suc a) N u x → Due (suc (suc a)) 0 u x
      next-due x (inl l) = inl (omega arith)
      next-due x (inr l) = inl (omega arith)

      more : (x : ℕ) → Over o (w * h) (suc a) u x → Over o (w * h) (suc (suc a)) u x
      more x (inl l) = inl (omega arith)
      more x (inr l) = inr l

  pub passes-shows : (s : State) → Going image (w * h) 1 0 s → Shows o (w * h) n 1 0 s → (m : ℕ) → Going image (w * h) (suc m) 0 (passes o w h m s) × Shows o (w * h) n (suc m) 0 (passes o w h m s)
  unfolding passes
  passes-shows s G W = times-keep (λ a v. Going image (w * h) (suc a) 0 v × Shows o (w * h) n (suc a) 0 v) (λ a. pass o w h (suc a)) pass-shows s (G, W)

  -- at the end all that stands is put out
  pub all-out : (s : State) → Going image (w * h) (suc (w * h)) 0 s → Shows o (w * h) n (suc (w * h)) 0 s → (j : ℕ) → Stands (ledger s.log) j → In j s.outputs
  all-out s G W j z = elim (ℕ_discrete (cluster s j).merged_into 0) [ yes r ↦ W.outer j z r (inl (omega (arith, area-le G.sound.basic j))) | no r ↦ W.inner j z r ]

pub areas-le : (size : ℕ) (cs : List Cluster) (l : List ℕ) → ((k : ℕ) → area (get_or cs k new_cluster) ≤ size) → All (λ x. x ≤ size) l → All (λ x. x ≤ size) (areas_of cs l)
unfolding areas_of
areas-le size [] l b a = a
areas-le size (c ∷ cs) l b a = areas-le size cs (if eqb (area c) 0 then l else insert_once (area c) l) (λ k. b (suc k)) (pick (eqb (area c) 0))
  where
    pick : (q : Bool) → All (λ x. x ≤ size) (if q then l else insert_once (area c) l)
    pick true = a
    pick false = insert_all (λ x. x ≤ size) (area c) l (b 0) a

-- a cluster of all pixels has no neighbour
pub whole-alone : (o : RunnerConfig) (w h : ℕ) {image : List ℕ} (a k : ℕ) (s : State) → Going image (w * h) a k s → 0 < a → area (cluster s k) ≡ a → a ≡ w * h → neighbours w h s k ≡ []
whole-alone o w h a k s G pos e whole = go (neighbours w h s k) (neighbours-near o w h s k)
  where
    held : (p : ℕ) → p < w * h → T (ledger s.log k p)
    held p l = by_cases (T-dec (ledger s.log k p)) (λ x. x)
        (λ x. absurd (omega (arith, area-count_of G.sound.basic k, count_of-lt (ledger s.log k) (λ q. true) (λ q z. tt) (w * h) p l tt x, count_of-bound (λ q. true) (w * h))))

    go : (ts : List ℕ) → All (Near s (label s (get_or (cluster s k).pixels 0 0))) ts → ts ≡ []
    go [] N = refl
    go (t ∷ ts) N =
        let (p, x) = target-stands a k s G pos e t N.0 in
        let b = G.sound.basic in
        absurd (N.0.1 (sym (G.sound.tops t p x (target-root a k s G pos e t N.0))
        ∙ G.sound.tops k p (held p (omega (arith, b.width, b.places t p x))) (root a k s G pos e) ∙ sym (mine a k s G pos e)))
