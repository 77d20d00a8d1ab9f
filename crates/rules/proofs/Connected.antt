-- A cluster with no neighbour, on an image where no label is 0, covers the image.
use Rattle.std.specs.Prelude.{if◌then◌else◌}
use mathlib.Core.Path.{◌≡◌, refl, sym, ap, ◌∙◌, subst}
use mathlib.Core.Logic.{◌≢◌, ◌⊎◌, inl, inr}
use mathlib.Core.Bool.{Bool, true, false, ◌||◌}
use mathlib.Core.List.{List, [], ◌∷◌, cons≢nil}
use mathlib.Core.Option.{Option, some, none as off}
use Prim.Native.Nat.{ℕ, zero, suc, ◌+◌, ◌-◌, ◌*◌, ◌%◌, ◌≤◌, ◌<◌}
use native.Mathlib.Decide.{ℕ_discrete, dec_lt}
use native.Mathlib.Nat.{mod-eq_of_lt, le-mul_of_pos_right}
use native.Mathlib.Omega.{arith}
use borrow.Author.Tests.{eqb-true}
use lib.Dec.{eqb, ltb, leb, le→leb, lt→ltb}
use lib.ListN.{get_or}
use Rattle.rules.specs.Base.{insert_once}
use Rattle.rules.specs.Color.{RunnerConfig}
use Rattle.rules.specs.Grid.{up, down, left, right, sides}
use Rattle.rules.specs.State.{State, cluster, label}
use Rattle.rules.specs.Stage2.{labels_at, labels_around, neighbours}
use Rattle.rules.specs.Claim.{bit, occurs}
use Rattle.rules.proofs.Facts.{is_true, eqb_no}

-- ---- walking over the image

module _ (lab : ℕ → ℕ) (K w size : ℕ) (pos : 0 < w) (row : w ≤ size)
    (ups : (q : ℕ) → q < size → lab q ≡ K → w ≤ q → lab (q - w) ≡ K)
    (lefts : (q : ℕ) → q < size → lab q ≡ K → 0 < q % w → lab (q - 1) ≡ K)
    (rights : (q : ℕ) → q < size → lab q ≡ K → q % w + 1 < w → q + 1 < size → lab (q + 1) ≡ K)
    (downs : (q : ℕ) → q < size → lab q ≡ K → q + w < size → lab (q + w) ≡ K) where
  -- up to the first row
  climb : (n q : ℕ) → q ≤ n → q < size → lab q ≡ K → (x : ℕ) × (x < w) × (lab x ≡ K)
  climb zero q b l e = (q, omega arith, e)
  climb (suc n) q b l e = pick (dec_lt q w) (λ a x. climb n (q - w) a x)
    where
      pick : Dec (q < w) → (q - w ≤ n → q - w < size → lab (q - w) ≡ K → (x : ℕ) × (x < w) × (lab x ≡ K)) → (x : ℕ) × (x < w) × (lab x ≡ K)
      pick (yes a) ih = (q, a, e)
      pick (no a) ih = ih (omega arith) (omega arith) (ups q l e (omega arith))

  -- left to the first pixel
  shift : (x : ℕ) → x < w → lab x ≡ K → lab 0 ≡ K
  shift zero b e = e
  shift (suc x) b e =
      let m : suc x % w ≡ suc x = mod-eq_of_lt b in
      shift x (omega arith) (subst (λ y. lab y ≡ K) (omega arith) (lefts (suc x) (omega arith) e (omega arith)))

  -- right along the first row
  along : lab 0 ≡ K → (x : ℕ) → x < w → lab x ≡ K
  along z zero b = z
  along z (suc x) b =
      let l : x < w = omega arith in
      let m : x % w ≡ x = mod-eq_of_lt l in
      subst (λ y. lab y ≡ K) (omega arith) (rights x (omega arith) (along z x l) (omega arith) (omega arith))

  -- and down
  fall : lab 0 ≡ K → (n p : ℕ) → p ≤ n → p < size → lab p ≡ K
  fall z zero p b l = subst (λ y. lab y ≡ K) (omega arith) z
  fall z (suc n) p b l = pick (dec_lt p w) (λ a x. fall z n (p - w) a x)
    where
      pick : Dec (p < w) → (p - w ≤ n → p - w < size → lab (p - w) ≡ K) → lab p ≡ K
      pick (yes a) ih = along z p a
      pick (no a) ih = subst (λ y. lab y ≡ K) (omega arith) (downs (p - w) (omega arith) (ih (omega arith) (omega arith)) (omega arith))

  pub connected : (q : ℕ) → q < size → lab q ≡ K → (p : ℕ) → p < size → lab p ≡ K
  connected q l e p m = fall (shift c.0 c.1 c.2) p p (omega arith) m
    where
      c : (x : ℕ) × (x < w) × (lab x ≡ K)
      c = climb q q (omega arith) l e

-- ---- no neighbour

abbrev pub Some : (ℕ → Type 0) → Option ℕ → Type 0
Some P (some i) = P i
Some P off = Unit {0}

abbrev pub AllSome : (ℕ → Type 0) → List (Option ℕ) → Type 0
AllSome P [] = Unit {0}
AllSome P (x ∷ xs) = Some P x × AllSome P xs

insert-some : (a : ℕ) (xs : List ℕ) → insert_once a xs ≡ [] → ⊥
insert-some a [] e = cons≢nil e
insert-some a (x ∷ xs) e = pick (ltb a x) (eqb a x) e
  where
    pick : (b c : Bool) → (if b then a ∷ x ∷ xs else (if c then x ∷ xs else x ∷ insert_once a xs)) ≡ [] → ⊥
    pick true c y = cons≢nil y
    pick false true y = cons≢nil y
    pick false false y = cons≢nil y

module _ (o : RunnerConfig) (w h : ℕ) (s : State) (own : ℕ) where
  abbrev Own : ℕ → Type 0
  Own i = (label s i ≡ 0) ⊎ (label s i ≡ own)

  labels_at-none : (is : List (Option ℕ)) (found : List ℕ) → labels_at s.labels own is found ≡ [] → (found ≡ []) × AllSome Own is
  unfolding labels_at
  labels_at-none [] found e = (e, tt)
  labels_at-none (off ∷ is) found e = let r = labels_at-none is found e in (r.0, (tt, r.1))
  labels_at-none (some i ∷ is) found e =
      let r = labels_at-none is (if eqb (label s i) 0 || eqb (label s i) own then found else insert_once (label s i) found) e in
      let t = pick (eqb (label s i) 0) refl (eqb (label s i) own) refl r.0 in
      (t.0, (t.1, r.1))
    where
      pick : (b : Bool) → eqb (label s i) 0 ≡ b → (c : Bool) → eqb (label s i) own ≡ c → (if b || c then found else insert_once (label s i) found) ≡ [] → (found ≡ []) × Own i
      pick true x c y z = (z, inl (eqb-true (label s i) 0 x))
      pick false x true y z = (z, inr (eqb-true (label s i) own y))
      pick false x false y z = absurd (insert-some (label s i) found z)

  around4-none : (ps found : List ℕ) → labels_around w h s.labels own ps found ≡ [] → (found ≡ []) × ((q : ℕ) → occurs q ps ≢ 0 → AllSome Own (sides w h q))
  unfolding labels_around
  around4-none [] found e = (e, λ q n. absurd (n refl))
  around4-none (p ∷ ps) found e =
      let r = around4-none ps (labels_at s.labels own (sides w h p) found) e in
      let t = labels_at-none (sides w h p) found r.0 in
      (t.0, λ q n. pick q n (r.1 q) t.1 (ℕ_discrete q p))
    where
      pick : (q : ℕ) → occurs q (p ∷ ps) ≢ 0 → (occurs q ps ≢ 0 → AllSome Own (sides w h q)) → AllSome Own (sides w h p) → Dec (q ≡ p) → AllSome Own (sides w h q)
      pick q n a b (yes x) = subst (λ m. AllSome Own (sides w h m)) (sym x) b
      pick q n a b (no d) = a (λ z. let y : bit (eqb q p) ≡ 0 = ap bit (eqb_no q p d) in n (omega arith))

-- ---- the four sides

module _ (P : ℕ → Type 0) (w h q : ℕ) (a : AllSome P (sides w h q)) where
  side-up : w ≤ q → P (q - w)
  unfolding sides up
  side-up l = subst (λ b. Some P (if b then some (q - w) else off)) (is_true (leb w q) (le→leb w q l)) a.0

  side-down : q + w < w * h → P (q + w)
  unfolding sides down
  side-down l = subst (λ b. Some P (if b then some (q + w) else off)) (is_true (ltb (q + w) (w * h)) (lt→ltb (q + w) (w * h) l)) a.1.0

  side_left : 0 < q % w → P (q - 1)
  unfolding sides left
  side_left l = subst (λ b. Some P (if b then some (q - 1) else off)) (is_true (ltb 0 (q % w)) (lt→ltb 0 (q % w) l)) a.1.1.0

  side_right : q % w + 1 < w → P (q + 1)
  unfolding sides right
  side_right l = subst (λ b. Some P (if b then some (q + 1) else off)) (is_true (ltb (q % w + 1) w) (lt→ltb (q % w + 1) w l)) a.1.1.1.0

-- a cluster that holds every pixel labelled k, and has no neighbour
pub covers : (o : RunnerConfig) (w h : ℕ) (s : State) (k : ℕ) → 0 < w → 0 < h → ((p : ℕ) → p < w * h → label s p ≢ 0)
    → label s (get_or (cluster s k).pixels 0 0) ≡ k → get_or (cluster s k).pixels 0 0 < w * h
    → ((p : ℕ) → p < w * h → label s p ≡ k → occurs p (cluster s k).pixels ≢ 0)
    → neighbours w h s k ≡ [] → (p : ℕ) → p < w * h → label s p ≡ k
unfolding neighbours
covers o w h s k pw ph lit mine first all none =
    connected (label s) k w (w * h) pw (le-mul_of_pos_right w ph)
    (λ q l e b. same (q - w) (omega arith) (side-up Own' w h q (around q l e) b))
    (λ q l e b. same (q - 1) (omega arith) (side_left Own' w h q (around q l e) b))
    (λ q l e b c. same (q + 1) c (side_right Own' w h q (around q l e) b))
    (λ q l e b. same (q + w) b (side-down Own' w h q (around q l e) b))
    (get_or (cluster s k).pixels 0 0) first mine
  where
    own : ℕ
    own = label s (get_or (cluster s k).pixels 0 0)

    Own' : ℕ → Type 0
    Own' i = (label s i ≡ 0) ⊎ (label s i ≡ own)

    around : (q : ℕ) → q < w * h → label s q ≡ k → AllSome Own' (sides w h q)
    around q l e = (around4-none o w h s own (cluster s k).pixels [] none).1 q (all q l e)

    same : (i : ℕ) → i < w * h → Own' i → label s i ≡ k
    same i l (inl z) = absurd (lit i l z)
    same i l (inr z) = z ∙ mine
