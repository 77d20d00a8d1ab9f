-- The neighbours of a cluster as a set, their number, and the target as the least by difference and number: what a scan with marks finds.
use Rattle.std.specs.Prelude.{if◌then◌else◌}
use mathlib.Core.Path.{◌≡◌, refl, sym, ap, ap₂, ◌∙◌, subst}
use mathlib.Core.Logic.{◌↔◌, ◌≢◌, ◌⊎◌, inl, inr, by_cases}
use mathlib.Core.Bool.{Bool, true, false, ◌||◌}
use mathlib.Core.List.{List, [], ◌∷◌}
use mathlib.Core.Option.{Option, some, none as off}
use Prim.Native.Nat.{ℕ, ◌+◌, ◌≤◌, ◌<◌}
use native.Mathlib.Decide.{dec_lt}
use native.Mathlib.Omega.{arith}
use borrow.Author.Tests.{eqb-false, eqb-true, ltb-false, ltb-true}
use lib.Dec.{T, eqb, ltb, eqb→eq}
use lib.ListN.{length, get_or}
use Rattle.rules.specs.Base.{member, insert_once, least}
use Rattle.rules.specs.Color.{RunnerConfig, ◌⊕◌}
use Rattle.rules.specs.Grid.{sides}
use Rattle.rules.specs.State.{State, cluster, label}
use Rattle.rules.specs.Stage2.{labels_at, labels_around, neighbours}
use Rattle.rules.specs.Claim.{count_of}
use Rattle.rules.proofs.Facts.{count_of-one, tally-or, count_of-none}
use Rattle.rules.proofs.Visits.{All, insert_all}
use Rattle.rules.proofs.Outputs.{In}
use Rattle.rules.proofs.Pictures.{tally-count}
use Rattle.rules.proofs.Listed.{insert-old, insert-new}
use Rattle.rules.proofs.Largest.{insert-from}
use Rattle.rules.proofs.Interior.{member-in}

-- ---- rising lists

abbrev pub Rising : List ℕ → Type 0
Rising [] = Unit {0}
Rising (x ∷ xs) = All (λ y. x < y) xs × Rising xs

all_map : (P Q : ℕ → Type 0) (xs : List ℕ) → ((x : ℕ) → P x → Q x) → All P xs → All Q xs
all_map P Q [] f a = tt
all_map P Q (x ∷ xs) f a = (f x a.0, all_map P Q xs f a.1)

pub all_in : (P : ℕ → Type 0) (xs : List ℕ) → All P xs → (x : ℕ) → In x xs → P x
all_in P [] a x i = absurd i
all_in P (y ∷ ys) a x (inl e) = subst P (sym e) a.0
all_in P (y ∷ ys) a x (inr i) = all_in P ys a.1 x i

pub insert-rising : (a : ℕ) (xs : List ℕ) → Rising xs → Rising (insert_once a xs)
insert-rising a [] r = (tt, tt)
insert-rising a (x ∷ xs) r = go (ltb a x) refl (eqb a x) refl (insert-rising a xs r.1)
  where
    go : (b : Bool) → ltb a x ≡ b → (c : Bool) → eqb a x ≡ c → Rising (insert_once a xs) → Rising (if b then a ∷ x ∷ xs else (if c then x ∷ xs else x ∷ insert_once a xs))
    go true e c d ih = let l : a < x = ltb-true a x e in ((l, all_map (λ y. x < y) (λ y. a < y) xs (λ y z. omega arith) r.0), r)
    go false e true d ih = r
    go false e false d ih = let l : x ≤ a = ltb-false a x e in let n : a ≢ x = eqb-false a x d in (insert_all (λ y. x < y) a xs (omega arith) r.0, ih)

count_of-or : (a b : ℕ → Bool) → ((p : ℕ) → T (a p) → T (b p) → ⊥) → (n : ℕ) → count_of (λ p. a p || b p) n ≡ count_of a n + count_of b n
unfolding ◌⊕◌
count_of-or a b d n = sym (tally-count [] (λ p. a p || b p) n) ∙ ap (λ x. x.count) (tally-or [] a b d n) ∙ ap₂ (λ x y. x + y) (tally-count [] a n) (tally-count [] b n)

-- the length of a rising list is the number of marks that stand for it
pub rising-count : (xs : List ℕ) (n : ℕ) → Rising xs → All (λ x. x < n) xs → length xs ≡ count_of (λ j. member j xs) n
unfolding count_of
rising-count [] n r b = sym (count_of-none (λ j. false) (λ j x. x) n)
rising-count (x ∷ xs) n r b = omega (arith, rising-count xs n r.1 b.1, count_of-or (λ j. eqb j x) (λ j. member j xs) apart n, count_of-one x n b.0)
  where
    apart : (p : ℕ) → T (eqb p x) → T (member p xs) → ⊥
    apart p e m = let l : x < p = all_in (λ y. x < y) xs r.0 p (member-in p xs m) in let z : p ≡ x = eqb→eq p x e in omega arith

-- the entry with the least key, and of several the least number
pub least-is : (key : ℕ → ℕ) (x : ℕ) (xs : List ℕ) → Rising (x ∷ xs)
    → In (least key x xs) (x ∷ xs) × ((j : ℕ) → In j (x ∷ xs) → (key (least key x xs) < key j) ⊎ ((key (least key x xs) ≡ key j) × (least key x xs ≤ j)))
least-is key x [] r = (inl refl, λ j i. elim i [ inl e ↦ inr (ap key (sym e), omega arith) | inr i ↦ absurd i ])
least-is key x (y ∷ ys) r = go (ltb (key y) (key x)) refl (least-is key y ys r.1) (least-is key x ys (r.0.1, r.1.1))
  where
    Is : ℕ → ℕ → List ℕ → Type 0
    Is t u us = In t (u ∷ us) × ((j : ℕ) → In j (u ∷ us) → (key t < key j) ⊎ ((key t ≡ key j) × (t ≤ j)))

    Goal : ℕ → Type 0
    Goal t = In t (x ∷ y ∷ ys) × ((j : ℕ) → In j (x ∷ y ∷ ys) → (key t < key j) ⊎ ((key t ≡ key j) × (t ≤ j)))

    right : key y < key x → (t : ℕ) → Is t y ys → Goal t
    right l t q =
        let under : key t < key x = elim (q.1 y (inl refl)) [ inl z ↦ omega arith | inr z ↦ omega (arith, z.0) ] in
        (inr q.0, λ j i. elim i [ inl e ↦ inl (omega (arith, ap key e)) | inr i ↦ q.1 j i ])

    left : key x ≤ key y → (t : ℕ) → Is t x ys → Goal t
    left l t q = (elim q.0 [ inl e ↦ inl e | inr i ↦ inr (inr i) ], λ j i. all j i)
      where
        at_y : (j : ℕ) → j ≡ y → (key t < key x) ⊎ ((key t ≡ key x) × (t ≤ x)) → (key t < key j) ⊎ ((key t ≡ key j) × (t ≤ j))
        at_y j e (inl z) = inl (omega (arith, ap key e))
        at_y j e (inr z) = by_cases (dec_lt (key x) (key y))
            (λ u. inl (omega (arith, ap key e, z.0)))
            (λ u. inr (omega (arith, ap key e, z.0), omega (arith, z.1, r.0.0)))

        all : (j : ℕ) → (j ≡ x) ⊎ ((j ≡ y) ⊎ In j ys) → (key t < key j) ⊎ ((key t ≡ key j) × (t ≤ j))
        all j (inl e) = q.1 j (inl e)
        all j (inr (inl e)) = at_y j e (q.1 x (inl refl))
        all j (inr (inr i)) = q.1 j (inr i)

    go : (b : Bool) → ltb (key y) (key x) ≡ b → Is (least key y ys) y ys → Is (least key x ys) x ys → Goal (if b then least key y ys else least key x ys)
    go true e u v = right (ltb-true (key y) (key x) e) (least key y ys) u
    go false e u v = left (ltb-false (key y) (key x) e) (least key x ys) v

-- only one entry is so
pub least-unique : (key : ℕ → ℕ) (t u : ℕ) → (key t < key u) ⊎ ((key t ≡ key u) × (t ≤ u)) → (key u < key t) ⊎ ((key u ≡ key t) × (u ≤ t)) → t ≡ u
least-unique key t u (inl a) (inl b) = absurd (omega arith)
least-unique key t u (inl a) (inr b) = absurd (omega arith)
least-unique key t u (inr a) (inl b) = absurd (omega arith)
least-unique key t u (inr a) (inr b) = omega arith

-- ---- the neighbours

abbrev pub InSides : ℕ → List (Option ℕ) → Type 0
InSides q [] = ⊥
InSides q (off ∷ is) = InSides q is
InSides q (some i ∷ is) = (q ≡ i) ⊎ InSides q is

module _ (o : RunnerConfig) (w h : ℕ) (s : State) (own : ℕ) where
  -- t is neither 0 nor own, and the label of one of these places
  abbrev Seen : List (Option ℕ) → ℕ → Type 0
  Seen is t = (t ≢ 0) × (t ≢ own) × ((q : ℕ) × InSides q is × (label s q ≡ t))

  labels_at-in : (is : List (Option ℕ)) (found : List ℕ) (t : ℕ) → In t (labels_at s.labels own is found) ↔ (In t found ⊎ Seen is t)
  unfolding labels_at
  labels_at-in [] found t = (λ i. inl i, λ x. elim x [ inl i ↦ i | inr x ↦ absurd x.2.1 ])
  labels_at-in (off ∷ is) found t = labels_at-in is found t
  labels_at-in (some i ∷ is) found t =
      let r = labels_at-in is (if eqb (label s i) 0 || eqb (label s i) own then found else insert_once (label s i) found) t in
      (λ x. to (r.0 x), λ x. r.1 (from x))
    where
      new : List ℕ
      new = if eqb (label s i) 0 || eqb (label s i) own then found else insert_once (label s i) found

      pick : (b : Bool) → eqb (label s i) 0 ≡ b → (c : Bool) → eqb (label s i) own ≡ c → In t (if b || c then found else insert_once (label s i) found) → In t found ⊎ Seen (some i ∷ is) t
      pick true e c d x = inl x
      pick false e true d x = inl x
      pick false e false d x = elim (insert-from t (label s i) found x) [
        | inl z ↦ inr ((λ y. eqb-false (label s i) 0 e (sym z ∙ y)), (λ y. eqb-false (label s i) own d (sym z ∙ y)), (i, inl refl, sym z))
        | inr z ↦ inl z
      ]

      to : In t new ⊎ Seen is t → In t found ⊎ Seen (some i ∷ is) t
      to (inl x) = pick (eqb (label s i) 0) refl (eqb (label s i) own) refl x
      to (inr x) = inr (x.0, x.1, (x.2.0, inr x.2.1, x.2.2))

      keep : (b : Bool) → In t found → In t (if b then found else insert_once (label s i) found)
      keep true x = x
      keep false x = insert-old t (label s i) found x

      fresh : (b : Bool) → eqb (label s i) 0 ≡ b → (c : Bool) → eqb (label s i) own ≡ c → t ≢ 0 → t ≢ own → label s i ≡ t → In t (if b || c then found else insert_once (label s i) found)
      fresh true e c d m n z = absurd (m (sym z ∙ eqb-true (label s i) 0 e))
      fresh false e true d m n z = absurd (n (sym z ∙ eqb-true (label s i) own d))
      fresh false e false d m n z = subst (λ x. In x (insert_once (label s i) found)) z (insert-new (label s i) found)

      from : In t found ⊎ Seen (some i ∷ is) t → In t new ⊎ Seen is t
      from (inl x) = inl (keep (eqb (label s i) 0 || eqb (label s i) own) x)
      from (inr x) = elim x.2.1 [
        | inl z ↦ inl (fresh (eqb (label s i) 0) refl (eqb (label s i) own) refl x.0 x.1 (ap (label s) (sym z) ∙ x.2.2))
        | inr z ↦ inr (x.0, x.1, (x.2.0, z, x.2.2))
      ]

  labels_at-rising : (is : List (Option ℕ)) (found : List ℕ) → Rising found → Rising (labels_at s.labels own is found)
  unfolding labels_at
  labels_at-rising [] found r = r
  labels_at-rising (off ∷ is) found r = labels_at-rising is found r
  labels_at-rising (some i ∷ is) found r = labels_at-rising is (if eqb (label s i) 0 || eqb (label s i) own then found else insert_once (label s i) found) (go (eqb (label s i) 0 || eqb (label s i) own))
    where
      go : (b : Bool) → Rising (if b then found else insert_once (label s i) found)
      go true = r
      go false = insert-rising (label s i) found r

  -- .. the label of a side of one of these pixels
  abbrev pub SeenFrom : List ℕ → ℕ → Type 0
  SeenFrom ps t = (t ≢ 0) × (t ≢ own) × ((p : ℕ) × In p ps × ((q : ℕ) × InSides q (sides w h p) × (label s q ≡ t)))

  around4-in : (ps found : List ℕ) (t : ℕ) → In t (labels_around w h s.labels own ps found) ↔ (In t found ⊎ SeenFrom ps t)
  unfolding labels_around
  around4-in [] found t = (λ i. inl i, λ x. elim x [ inl i ↦ i | inr x ↦ absurd x.2.1 ])
  around4-in (p ∷ ps) found t =
      let r = around4-in ps (labels_at s.labels own (sides w h p) found) t in
      let u = labels_at-in (sides w h p) found t in
      (λ x. to u.0 (r.0 x), λ x. r.1 (from u.1 x))
    where
      to : (In t (labels_at s.labels own (sides w h p) found) → In t found ⊎ Seen (sides w h p) t) → In t (labels_at s.labels own (sides w h p) found) ⊎ SeenFrom ps t → In t found ⊎ SeenFrom (p ∷ ps) t
      to f (inl x) = elim (f x) [ inl x ↦ inl x | inr x ↦ inr (x.0, x.1, (p, inl refl, x.2)) ]
      to f (inr x) = inr (x.0, x.1, (x.2.0, inr x.2.1, x.2.2))

      from : (In t found ⊎ Seen (sides w h p) t → In t (labels_at s.labels own (sides w h p) found)) → In t found ⊎ SeenFrom (p ∷ ps) t → In t (labels_at s.labels own (sides w h p) found) ⊎ SeenFrom ps t
      from f (inl x) = inl (f (inl x))
      from f (inr x) = elim x.2.1 [
        | inl z ↦ inl (f (inr (x.0, x.1, (x.2.2.0, subst (λ m. InSides x.2.2.0 (sides w h m)) z x.2.2.1, x.2.2.2))))
        | inr z ↦ inr (x.0, x.1, (x.2.0, z, x.2.2))
      ]

  around4-rising : (ps found : List ℕ) → Rising found → Rising (labels_around w h s.labels own ps found)
  unfolding labels_around
  around4-rising [] found r = r
  around4-rising (p ∷ ps) found r = around4-rising ps (labels_at s.labels own (sides w h p) found) (labels_at-rising (sides w h p) found r)

module _ (o : RunnerConfig) (w h : ℕ) (s : State) (k : ℕ) where
  -- t is a neighbour exactly when it is neither 0 nor the label of the first pixel, and the label of a side of a pixel of k
  pub neighbours-in : (t : ℕ) → In t (neighbours w h s k) ↔ SeenFrom o w h s (label s (get_or (cluster s k).pixels 0 0)) (cluster s k).pixels t
  unfolding neighbours
  neighbours-in t =
      let r = around4-in o w h s (label s (get_or (cluster s k).pixels 0 0)) (cluster s k).pixels [] t in
      (λ x. elim (r.0 x) [ inl x ↦ absurd x | inr x ↦ x ], λ x. r.1 (inr x))

  pub neighbours-rising : Rising (neighbours w h s k)
  unfolding neighbours
  neighbours-rising = around4-rising o w h s (label s (get_or (cluster s k).pixels 0 0)) (cluster s k).pixels [] tt
