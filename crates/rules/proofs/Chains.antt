-- The list of every standing cluster is read along the links: a cluster inside another is a stretch of the outer one's list.
use mathlib.Core.Path.{◌≡◌, refl, sym, ap, ◌∙◌, subst}
use mathlib.Core.Logic.{◌≢◌, ◌⊎◌, inl, inr, by_cases}
use mathlib.Core.Bool.{Bool}
use mathlib.Core.List.{List, [], ◌∷◌, ◌++◌, append_assoc, append-nil}
use Prim.Native.Nat.{ℕ, suc, ◌+◌, ◌≤◌, ◌<◌}
use native.Mathlib.Decide.{ℕ_discrete}
use native.Mathlib.Omega.{arith}
use lib.Dec.{T, eqb}
use lib.ListN.{length, get_or}
use Rattle.rules.specs.State.{State, cluster, label, area, merged_to, put_out, merge_cluster_into, deepen_cluster_into}
use Rattle.rules.specs.Layout.{after, first_of, link, walk}
use Rattle.rules.specs.Ledger.{Held, ledger}
use Rattle.rules.specs.Claim.{bit, occurs, Stands}
use Rattle.rules.proofs.Facts.{T-dec, eqb_yes, eqb_no, occurs-append}
use Rattle.rules.proofs.Basic.{Moved, lab-from, lab-other, plain_down, deepened-down, some-held, once-held}
use Rattle.rules.proofs.Sound.{Sound}
use Rattle.rules.specs.Stage2.{prepare_stage2}
use Rattle.rules.specs.Code.Early.{owned, Early}
use Rattle.rules.proofs.Visits.{Going, Near, root, k≢t, target-root, merge-changes, deepen-changes, deepen-from}

-- xs is a stretch of ys
abbrev pub Within : List ℕ → List ℕ → Type 0
Within xs ys = (pre : List ℕ) × (post : List ℕ) × (ys ≡ pre ++ (xs ++ post))

within-left : (xs ys zs : List ℕ) → Within xs ys → Within xs (zs ++ ys)
within-left xs ys zs w = (zs ++ w.0, w.1, ap (λ l. zs ++ l) w.2 ∙ sym (append_assoc zs w.0 (xs ++ w.1)))

within-right : (xs ys zs : List ℕ) → Within xs ys → Within xs (ys ++ zs)
within-right xs ys zs w = (w.0, w.1 ++ zs, ap (λ l. l ++ zs) w.2 ∙ append_assoc w.0 (xs ++ w.1) zs ∙ ap (λ l. w.0 ++ l) (append_assoc xs w.1 zs))

within-refl : (xs : List ℕ) → Within xs xs
within-refl xs = ([], [], sym (append-nil xs))

-- ---- reading along the links

after-at : (x y : ℕ) (pre r : List ℕ) → occurs x pre ≡ 0 → after x (pre ++ (x ∷ y ∷ r)) ≡ suc y
unfolding after
after-at x y [] r e = rw (eqb_yes x x refl)
after-at x y (z ∷ []) r e = rw (eqb_no x z (λ q. let b : bit (eqb x z) ≡ 1 = ap bit (eqb_yes x z q) in omega arith)) (after-at x y [] r refl)
after-at x y (z ∷ u ∷ pre) r e = rw (eqb_no x z (λ q. let b : bit (eqb x z) ≡ 1 = ap bit (eqb_yes x z q) in omega arith)) (after-at x y (u ∷ pre) r (omega arith))

module _ (next : ℕ → ℕ) (ys : List ℕ) (once : (p : ℕ) → occurs p ys ≤ 1) (along : (p : ℕ) → occurs p ys ≢ 0 → next p ≡ after p ys) where
  pub read : (pre xs post : List ℕ) → ys ≡ pre ++ (xs ++ post) → walk next (first_of xs) (length xs) ≡ xs
  unfolding walk first_of
  read pre [] post e = refl
  read pre (x ∷ []) post e = refl
  read pre (x ∷ y ∷ r) post e =
      ap (λ l. x ∷ l) (ap (λ c. walk next c (suc (length r))) step ∙ read (pre ++ (x ∷ [])) (y ∷ r) post (e ∙ sym (append_assoc pre (x ∷ []) (y ∷ r ++ post))))
    where
      one : bit (eqb x x) ≡ 1
      one = ap bit (eqb_yes x x refl)

      count : occurs x ys ≡ occurs x pre + (bit (eqb x x) + occurs x (y ∷ r ++ post))
      count = ap (occurs x) e ∙ occurs-append x pre (x ∷ y ∷ r ++ post)

      step : next x ≡ suc y
      step = along x (λ z. omega (arith, count, one)) ∙ ap (after x) e ∙ after-at x y pre (r ++ post) (omega (arith, count, one, once x))

-- ---- it stays so

pub record Chained (s : State) : Type 0 where
  pub within : (j p : ℕ) → T (ledger s.log j p) → Within (cluster s j).pixels (cluster s (label s p)).pixels

module _ {image : List ℕ} {size : ℕ} (s : State) (S : Sound image size (ledger s.log) (owned s.log) s) (C : Chained s) where
  pub listed : (j : ℕ) → Stands (ledger s.log) j → walk (link s) (first_of (cluster s j).pixels) (length (cluster s j).pixels) ≡ (cluster s j).pixels
  unfolding link
  listed j z = read (link s) (cluster s r).pixels (once-held S.basic r) along w.0 (cluster s j).pixels w.1 w.2
    where
      r : ℕ
      r = label s z.0

      w : Within (cluster s j).pixels (cluster s r).pixels
      w = C.within j z.0 z.1

      along : (p : ℕ) → occurs p (cluster s r).pixels ≢ 0 → link s p ≡ after p (cluster s r).pixels
      along p d = ap (λ m. after p (cluster s m).pixels) (S.tops r p (some-held S.basic r p d) (S.labels-top j z.0 z.1))

  module _ (f t : ℕ) (f-root : (cluster s f).merged_into ≡ 0) (t-root : (cluster s t).merged_into ≡ 0) {s' : State} (M : Moved f t s s') where
    moved-chained : (down : (j q : ℕ) → T (ledger s'.log j q) → ((j ≡ t) × T (ledger s.log f q)) ⊎ T (ledger s.log j q))
        → (same : (j q : ℕ) → T (ledger s'.log j q) → j ≢ t → (cluster s' j).pixels ≡ (cluster s j).pixels) → Chained s'
    moved-chained down same = record { within = λ j p x. pick j p x (ℕ_discrete j t) (T-dec (ledger s.log f p)) (down j p x) }
      where
        h : Held
        h = ledger s.log

        other : (p : ℕ) → (T (h f p) → ⊥) → label s' p ≡ label s p
        other = lab-other S.basic f t M

        from : (p : ℕ) → T (h f p) → label s' p ≡ t
        from = lab-from S.basic f t M

        Goal : ℕ → ℕ → Type 0
        Goal j p = Within (cluster s' j).pixels (cluster s' (label s' p)).pixels

        self : (j p : ℕ) → label s' p ≡ j → Goal j p
        self j p e = subst (λ m. Within (cluster s' j).pixels (cluster s' m).pixels) (sym e) (within-refl (cluster s' j).pixels)

        stay : (j p : ℕ) → (T (h f p) → ⊥) → T (h j p) → Within (cluster s j).pixels (cluster s (label s p)).pixels → Dec (label s p ≡ t) → Within (cluster s j).pixels (cluster s' (label s p)).pixels
        stay j p z y w (yes e) =
            subst (λ m. Within (cluster s j).pixels (cluster s' m).pixels) (sym e) (subst (Within (cluster s j).pixels) (sym M.t-pixels)
            (within-right (cluster s j).pixels (cluster s t).pixels (cluster s f).pixels (subst (λ m. Within (cluster s j).pixels (cluster s m).pixels) e w)))
        stay j p z y w (no e) =
            subst (λ c. Within (cluster s j).pixels c.pixels) (sym (M.other (label s p) (λ q. z (subst (λ m. T (h m p)) q (S.forest.top-held j p y))) e)) w

        pick : (j p : ℕ) → T (ledger s'.log j p) → Dec (j ≡ t) → Dec (T (h f p)) → ((j ≡ t) × T (h f p)) ⊎ T (h j p) → Goal j p
        pick j p x (yes e) (yes z) y = self j p (from p z ∙ sym e)
        pick j p x (yes e) (no z) (inl y) = absurd (z y.1)
        pick j p x (yes e) (no z) (inr y) = self j p (other p z ∙ S.tops t p (subst (λ m. T (h m p)) e y) t-root ∙ sym e)
        pick j p x (no e) z (inl y) = absurd (e y.0)
        pick j p x (no e) (yes z) (inr y) =
            subst (λ l. Within l (cluster s' (label s' p)).pixels) (sym (same j p x e)) (subst (λ m. Within (cluster s j).pixels (cluster s' m).pixels) (sym (from p z))
            (subst (Within (cluster s j).pixels) (sym M.t-pixels) (within-left (cluster s j).pixels (cluster s f).pixels (cluster s t).pixels
            (subst (λ m. Within (cluster s j).pixels (cluster s m).pixels) (S.tops f p z f-root) (C.within j p y)))))
        pick j p x (no e) (no z) (inr y) =
            subst (λ l. Within l (cluster s' (label s' p)).pixels) (sym (same j p x e)) (subst (λ m. Within (cluster s j).pixels (cluster s' m).pixels) (sym (other p z))
            (stay j p z y (C.within j p y) (ℕ_discrete (label s p) t)))

-- ---- over the whole run

pub put-chained : (k : ℕ) (s : State) → Chained s → Chained (put_out k s)
unfolding put_out
put-chained k s C = record { within = C.within }

module _ {image : List ℕ} {size : ℕ} where
  module _ (a k : ℕ) (s : State) (G : Going image size a k s) (C : Chained s) (pos : 0 < a) (e : area (cluster s k) ≡ a) (t : ℕ) (N : Near s (label s (get_or (cluster s k).pixels 0 0)) t) where
    pub merge-chained : Chained (merge_cluster_into k t s)
    unfolding merge_cluster_into
    merge-chained =
        let M = merge-changes a k s G pos e t N in
        let down = plain_down (ledger s.log) k t (k≢t a k s G pos e t N) in
        moved-chained s G.sound C k t (root a k s G pos e) (target-root a k s G pos e t N) M (λ j q x. (down j q x).1) (λ j q x z. ap (λ c. c.pixels) (M.other j (down j q x).0 z))

    pub deepen-chained : (hollow : Bool) → Chained (deepen_cluster_into hollow k t s)
    unfolding deepen_cluster_into merged_to
    deepen-chained hollow =
        let M = deepen-changes a k s G pos e t N hollow in
        moved-chained s G.sound C k t (root a k s G pos e) (target-root a k s G pos e t N) M (deepened-down (ledger s.log) k t) (λ j q x z. by_cases (ℕ_discrete j k)
        (λ y. subst (λ m. (cluster (deepen_cluster_into hollow k t s) m).pixels ≡ (cluster s m).pixels) (sym y) (ap (λ c. c.pixels) (deepen-from a k s G pos e t N hollow)))
        (λ y. ap (λ c. c.pixels) (M.other j y z)))

pub prepare_stage2-chained : {image : List ℕ} {size : ℕ} {Gone : ℕ → Type 0} {Keyed : Type 0} (i : ℕ) (s : State) → Early image size Gone Keyed i s → Chained (prepare_stage2 s)
unfolding prepare_stage2
prepare_stage2-chained i s E = record { within = λ j p x. subst (λ m. Within (cluster (prepare_stage2 s) j).pixels (cluster (prepare_stage2 s) m).pixels) (sym (E.flats j p x)) (within-refl (cluster (prepare_stage2 s) j).pixels) }
