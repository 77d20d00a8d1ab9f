-- Laws of the tournament tree. Assumes nothing.
use Rattle.std.specs.Prelude.{if◌then◌else◌}
use Rattle.std.proofs.Common.{Option, Some, None}
use mathlib.Core.Path.{◌≡◌, refl, sym, ap, ap₂, ◌∙◌, subst}
use mathlib.Core.Logic.{◌⊎◌, inl, inr, by_cases}
use mathlib.Core.Bool.{Bool, true, false, ◌&&◌}
use mathlib.Core.List.{List}
use Prim.Native.Nat.{ℕ, zero, suc, ◌+◌, ◌*◌, ◌-◌, ◌/◌, ◌%◌, ◌≤◌, ◌<◌}
use native.Mathlib.Decide.{ℕ_discrete, dec_lt}
use native.Mathlib.Omega.{arith}
use lib.Dec.{ltb, eqb}
use lib.ListN.{length, get_or, set, length-set}
use lib.Seq.{get_or-set_same, get_or-set_other, set-get_or}
use borrow.Author.Tests.{ltb-true, ltb-false, eqb-true, eqb-false, le-leb, lt-leb}
use Rattle.rules.proofs.Facts.{both_true}
use Rattle.runner.specs.declared.queue.Entry.{Entry}
use Rattle.runner.specs.Code.Queue.{leaf, node, entry_at, first_entry, beside_of, with_node, first_below, Tree, refreshed, Refreshed, Built, KeySet, First}

-- ---- the order of entries

-- a comes before b, or is b
abbrev Before : Entry → Entry → Type 0
Before a b = (a.key < b.key) ⊎ ((a.key ≡ b.key) × (a.slot ≤ b.slot))

before-refl : (a : Entry) → Before a a
before-refl a = inr (refl, omega arith)

before-trans : (a b c : Entry) → Before a b → Before b c → Before a c
before-trans a b c (inl x) (inl y) = inl (omega arith)
before-trans a b c (inl x) (inr y) = inl (omega (arith, y.0))
before-trans a b c (inr x) (inl y) = inl (omega (arith, x.0))
before-trans a b c (inr x) (inr y) = inr (x.0 ∙ y.0, omega (arith, x.1, y.1))

-- c is one of a and b and comes before both
abbrev Chosen : Entry → Entry → Entry → Type 0
Chosen a b c = Before c a × Before c b × ((c ≡ a) ⊎ (c ≡ b))

first-of : (a b : Entry) → Chosen a b (first_entry a b)
unfolding first_entry
first-of a b = keys (ltb a.key b.key) refl
  where
    slots : (t : Bool) → ltb a.slot b.slot ≡ t → a.key ≡ b.key → Chosen a b (if t then a else b)
    slots true e k = (before-refl a, inr (k, omega (arith, ltb-true a.slot b.slot e)), inl refl)
    slots false e k = (inr (sym k, ltb-false a.slot b.slot e), before-refl b, inr refl)

    other : (t : Bool) → ltb b.key a.key ≡ t → b.key ≤ a.key → Chosen a b (if t then b else if ltb a.slot b.slot then a else b)
    other true e l = (inl (ltb-true b.key a.key e), before-refl b, inr refl)
    other false e l = slots (ltb a.slot b.slot) refl (omega (arith, ltb-false b.key a.key e))

    keys : (t : Bool) → ltb a.key b.key ≡ t → Chosen a b (if t then a else if ltb b.key a.key then b else if ltb a.slot b.slot then a else b)
    keys true e = (before-refl a, inl (ltb-true a.key b.key e), inl refl)
    keys false e = other (ltb b.key a.key) refl (ltb-false a.key b.key e)

before-antisym : (a b : Entry) → Before a b → Before b a → a ≡ b
before-antisym a b (inl x) (inl y) = absurd (omega arith)
before-antisym a b (inl x) (inr y) = absurd (omega (arith, y.0))
before-antisym a b (inr x) (inl y) = absurd (omega (arith, x.0))
before-antisym a b (inr x) (inr y) = ap₂ (λ k s. record { key = k; slot = s }) x.0 (let z : a.slot ≡ b.slot = omega (arith, x.1, y.1) in z)

-- which of two entries stands first in the tree does not matter
first_either : (a b : Entry) → first_entry a b ≡ first_entry b a
first_either a b = before-antisym (first_entry a b) (first_entry b a) (come (first_entry a b) b a F.1 F.0 G.2) (come (first_entry b a) a b G.1 G.0 F.2)
  where
    F : Chosen a b (first_entry a b)
    F = first-of a b

    G : Chosen b a (first_entry b a)
    G = first-of b a

    come : (c x y : Entry) → Before c x → Before c y → {d : Entry} → (d ≡ x) ⊎ (d ≡ y) → Before c d
    come c x y p q (inl e) = subst (Before c) (sym e) p
    come c x y p q (inr e) = subst (Before c) (sym e) q

-- ---- positions

-- the position beside x: the other child of the node above, which is in the tree
module _ (x : ℕ) (P : ℕ → Type 0) where
  beside : (x ≡ 2 * (x / 2) → P (x + 1)) → (x ≡ 2 * (x / 2) + 1 → P (x - 1)) → P (beside_of x)
  beside f g = go (eqb (x % 2) 0) refl
    where
      go : (t : Bool) → eqb (x % 2) 0 ≡ t → P (if t then x + 1 else x - 1)
      go true e = f (omega (arith, eqb-true (x % 2) 0 e))
      go false e = g (omega (arith, eqb-false (x % 2) 0 e))

-- an entry and the one beside it are the children of the node above
pub first-beside : (queue : List ℕ) (n x : ℕ) → first_entry (entry_at queue n x) (entry_at queue n (beside_of x)) ≡ first_below queue n (x / 2)
first-beside queue n x = beside x (λ y. first_entry (entry_at queue n x) (entry_at queue n y) ≡ first_below queue n (x / 2))
    (λ e. ap (λ y. first_entry (entry_at queue n y) (entry_at queue n (y + 1))) e)
    (λ e. let z : x - 1 ≡ 2 * (x / 2) = omega arith in first_either (entry_at queue n x) (entry_at queue n (x - 1)) ∙ ap₂ (λ i j. first_entry (entry_at queue n i) (entry_at queue n j)) z e)

module _ (queue : List ℕ) (n x : ℕ) where
  pub at_leaf : n ≤ x → entry_at queue n x ≡ leaf queue (x - n)
  unfolding entry_at
  at_leaf l = rw (le-leb n x l)

  pub at-node : x < n → entry_at queue n x ≡ node queue n x
  unfolding entry_at
  at-node l = rw (lt-leb n x l)

-- where the numbers that a position reads are the same, it holds the same
same-entry : (queue next : List ℕ) (n x : ℕ) → (x < n → (get_or next (n + 2 * x) 0 ≡ get_or queue (n + 2 * x) 0) × (get_or next (n + 2 * x + 1) 0 ≡ get_or queue (n + 2 * x + 1) 0))
    → (n ≤ x → get_or next (x - n) 0 ≡ get_or queue (x - n) 0) → entry_at next n x ≡ entry_at queue n x
same-entry queue next n x inner outer = by_cases (dec_lt x n)
    (λ y. at-node next n x y ∙ ap₂ (λ k s. record { key = k; slot = s }) (inner y).0 (inner y).1 ∙ sym (at-node queue n x y))
    (λ y. at_leaf next n x (omega arith) ∙ ap (λ k. record { key = k; slot = x - n }) (outer (omega arith)) ∙ sym (at_leaf queue n x (omega arith)))

-- ---- the least

module _ (queue : List ℕ) (n : ℕ) (H : Tree queue n) where
  node-is : (j : ℕ) → 1 ≤ j → j < n → entry_at queue n j ≡ first_below queue n j
  unfolding Tree
  node-is = H

  -- a node comes before what stands below it
  above : (x : ℕ) → 2 ≤ x → x < 2 * n → Before (entry_at queue n (x / 2)) (entry_at queue n x)
  above x a b = by_cases (ℕ_discrete x (2 * (x / 2)))
      (λ e. subst (λ e. Before e (entry_at queue n x)) (sym N) (subst (λ y. Before (first_below queue n (x / 2)) (entry_at queue n y)) (sym e) F.0))
      (λ d. subst (λ e. Before e (entry_at queue n x)) (sym N) (subst (λ y. Before (first_below queue n (x / 2)) (entry_at queue n y)) (let z : 2 * (x / 2) + 1 ≡ x = omega arith in z) F.1))
    where
      F : Chosen (entry_at queue n (2 * (x / 2))) (entry_at queue n (2 * (x / 2) + 1)) (first_below queue n (x / 2))
      F = first-of (entry_at queue n (2 * (x / 2))) (entry_at queue n (2 * (x / 2) + 1))

      N : entry_at queue n (x / 2) ≡ first_below queue n (x / 2)
      N = node-is (x / 2) (omega arith) (omega arith)

  -- the root comes before every position
  root_before : (m x : ℕ) → x ≤ m → 1 ≤ x → x < 2 * n → Before (entry_at queue n 1) (entry_at queue n x)
  root_before zero x l a b = absurd (omega arith)
  root_before (suc m) x l a b = by_cases (ℕ_discrete x 1)
      (λ e. subst (λ y. Before (entry_at queue n 1) (entry_at queue n y)) (sym e) (before-refl (entry_at queue n 1)))
      (λ d. before-trans (entry_at queue n 1) (entry_at queue n (x / 2)) (entry_at queue n x) (root_before m (x / 2) (omega arith) (omega arith) (omega arith)) (above x (omega arith) b))

  -- every position holds some slot with its key
  some-leaf : (m x : ℕ) → 2 * n ≤ x + m → 1 ≤ x → x < 2 * n → (k : ℕ) × (k < n) × (entry_at queue n x ≡ leaf queue k)
  some-leaf zero x l a b = absurd (omega arith)
  some-leaf (suc m) x l a b = by_cases (dec_lt x n)
      (λ d. elim (first-of (entry_at queue n (2 * x)) (entry_at queue n (2 * x + 1))).2 [
        | inl e ↦ up (2 * x) (node-is x a d ∙ e) (some-leaf m (2 * x) (omega arith) (omega arith) (omega arith))
        | inr e ↦ up (2 * x + 1) (node-is x a d ∙ e) (some-leaf m (2 * x + 1) (omega arith) (omega arith) (omega arith))
      ])
      (λ d. (x - n, omega arith, at_leaf queue n x (omega arith)))
    where
      up : (y : ℕ) → entry_at queue n x ≡ entry_at queue n y → (k : ℕ) × (k < n) × (entry_at queue n y ≡ leaf queue k) → (k : ℕ) × (k < n) × (entry_at queue n x ≡ leaf queue k)
      up y e (k, l, z) = (k, l, e ∙ z)

  -- the root is the least
  pub root_first : 1 ≤ n → First queue n (entry_at queue n 1)
  root_first p = go (some-leaf (2 * n) 1 (omega arith) (omega arith) (omega arith))
    where
      go : (k : ℕ) × (k < n) × (entry_at queue n 1 ≡ leaf queue k) → First queue n (entry_at queue n 1)
      go (k, l, e) = subst (First queue n) (sym e) (record {
        in-range = l;
        own = refl;
        least = λ j b. subst (λ r. Before r (leaf queue j)) e (subst (Before (entry_at queue n 1)) (leaf-is j) (root_before (2 * n) (n + j) (omega arith) (omega arith) (omega arith)));
      })
        where
          leaf-is : (j : ℕ) → entry_at queue n (n + j) ≡ leaf queue j
          leaf-is j = at_leaf queue n (n + j) (omega arith) ∙ ap (leaf queue) (let z : n + j - n ≡ j = omega arith in z)

-- ---- one node made from its children

module _ (queue : List ℕ) (n : ℕ) (S : 3 * n ≤ length queue) (j : ℕ) (b : j < n) where
  made-length : length (refreshed queue n j) ≡ length queue
  unfolding refreshed
  made-length = simp length-set

  other : (y : ℕ) → (y ≡ n + 2 * j → ⊥) → (y ≡ n + 2 * j + 1 → ⊥) → get_or (refreshed queue n j) y 0 ≡ get_or queue y 0
  unfolding refreshed
  other y d e =
      get_or-set_other (set queue (n + 2 * j) (first_below queue n j).key) (n + 2 * j + 1) y (first_below queue n j).slot 0 e
      ∙ get_or-set_other queue (n + 2 * j) y (first_below queue n j).key 0 d

  -- the keys stay
  made-keys : (y : ℕ) → y < n → get_or (refreshed queue n j) y 0 ≡ get_or queue y 0
  made-keys y l = other y (λ e. omega arith) (λ e. omega arith)

  -- what stands at every other position stays
  made_other : (x : ℕ) → x < 2 * n → (x ≡ j → ⊥) → entry_at (refreshed queue n j) n x ≡ entry_at queue n x
  made_other x l d = same-entry queue (refreshed queue n j) n x
      (λ y. (other (n + 2 * x) (λ e. d (omega arith)) (λ e. omega arith), other (n + 2 * x + 1) (λ e. omega arith) (λ e. d (omega arith))))
      (λ y. made-keys (x - n) (omega arith))

  made-node : entry_at (refreshed queue n j) n j ≡ first_below queue n j
  unfolding refreshed
  made-node =
      at-node (refreshed queue n j) n j b
      ∙ ap₂ (λ k s. record { key = k; slot = s })
      (get_or-set_other (set queue (n + 2 * j) (first_below queue n j).key) (n + 2 * j + 1) (n + 2 * j) (first_below queue n j).slot 0 (λ e. omega arith)
      ∙ get_or-set_same queue (n + 2 * j) (first_below queue n j).key 0 (omega (arith, S)))
      (get_or-set_same (set queue (n + 2 * j) (first_below queue n j).key) (n + 2 * j + 1) (first_below queue n j).slot 0 (simp length-set (omega (arith, S))))

  -- afterwards node i holds the first of its children if it did before, or is j; but the node above j may not
  made_holds : (i : ℕ) → 1 ≤ i → i < n → (i ≡ j / 2 → ⊥) → ((i ≡ j → ⊥) → entry_at queue n i ≡ first_below queue n i)
      → entry_at (refreshed queue n j) n i ≡ first_below (refreshed queue n j) n i
  made_holds i p q d h = by_cases (ℕ_discrete i j)
      (λ e. subst (λ y. entry_at (refreshed queue n j) n y ≡ first_below queue n y) (sym e) made-node ∙ sym below)
      (λ e. made_other i (omega arith) e ∙ h e ∙ sym below)
    where
      below : first_below (refreshed queue n j) n i ≡ first_below queue n i
      below = ap₂ first_entry (made_other (2 * i) (omega arith) (λ e. d (omega arith))) (made_other (2 * i + 1) (omega arith) (λ e. d (omega arith)))

-- ---- the store of one node

module _ (queue : List ℕ) (n j : ℕ) (e : Entry) (is : e ≡ first_below queue n j) where
  pub held-node : with_node queue n j e ≡ refreshed queue n j
  unfolding refreshed
  held-node = ap (with_node queue n j) is

  -- a node that holds it already needs no store
  pub kept-node : (old : Entry) → old ≡ node queue n j → (eqb old.key e.key && eqb old.slot e.slot) ≡ true → queue ≡ refreshed queue n j
  kept-node old at t =
      let b = both_true (eqb old.key e.key) (eqb old.slot e.slot) t in
      let z : node queue n j ≡ e = sym at ∙ ap₂ (λ k s. record { key = k; slot = s }) (eqb-true old.key e.key b.0) (eqb-true old.slot e.slot b.1) in
      sym (set-get_or queue (n + 2 * j + 1) 0) ∙ ap (λ q. set q (n + 2 * j + 1) (get_or queue (n + 2 * j + 1) 0)) (sym (set-get_or queue (n + 2 * j) 0)) ∙ ap (with_node queue n j) z ∙ held-node

-- a node that takes the first of its children, or holds it already
pub ruleset takes_first = (first-beside, held-node, kept-node)

-- ---- a changed key

-- every node but j holds the first of its children
abbrev pub But : List ℕ → ℕ → ℕ → Type 0
But queue n j = (i : ℕ) → 1 ≤ i → i < n → (i ≡ j → ⊥) → entry_at queue n i ≡ first_below queue n i

-- on the way up from a changed key: e stands at position x, and only the node above it may not hold the first of its children
pub record Climbing (queue₀ queue : List ℕ) (n x : ℕ) (e : Entry) : Type 0 where
  pub fits : 3 * n ≤ length queue
  pub inside : x < 2 * n
  pub stands : e ≡ entry_at queue n x
  pub but : But queue n (x / 2)
  pub keys : (y : ℕ) → y < n → get_or queue y 0 ≡ get_or queue₀ y 0

-- a new key breaks at most the node above it
pub climb-start : (queue : List ℕ) (n k v : ℕ) → 3 * n ≤ length queue → k < n → Tree queue n → Climbing (set queue k v) (set queue k v) n (n + k) (record { key = v; slot = k })
unfolding Tree
climb-start queue n k v S b H = record {
  fits = subst (λ l. 3 * n ≤ l) (sym (length-set queue k v)) S;
  inside = omega arith;
  stands = sym (at_leaf (set queue k v) n (n + k) (omega arith) ∙ ap (leaf (set queue k v)) (let z : n + k - n ≡ k = omega arith in z) ∙ ap (λ y. record { key = y; slot = k }) (get_or-set_same queue k v 0 (omega (arith, S))));
  but = λ i p q d. same i (omega arith) (omega arith) ∙ H i p q ∙ sym (ap₂ first_entry (same (2 * i) (omega arith) (λ e. d (omega arith))) (same (2 * i + 1) (omega arith) (λ e. d (omega arith))));
  keys = λ x l. refl;
}
  where
    same : (x : ℕ) → x < 2 * n → (x ≡ n + k → ⊥) → entry_at (set queue k v) n x ≡ entry_at queue n x
    same x l d = same-entry queue (set queue k v) n x
        (λ y. (get_or-set_other queue k (n + 2 * x) v 0 (λ e. omega arith), get_or-set_other queue k (n + 2 * x + 1) v 0 (λ e. omega arith)))
        (λ y. get_or-set_other queue k (x - n) v 0 (λ e. d (omega arith)))

module _ {queue₀ queue next : List ℕ} {n n' x : ℕ} {e : Entry} {r : Option Entry} (C : Climbing queue₀ queue n x e) (l : 1 < x) (R : Refreshed queue next n' (x / 2) r) (z : n' ≡ n) where
  above_in : x / 2 < n
  above_in = omega (arith, C.inside)

  raised : {t : Entry} → t ≡ first_below queue n (x / 2) → Climbing queue₀ next n (x / 2) t
  raised {t} f = subst (λ q. Climbing queue₀ q n (x / 2) t) (sym (rw z at R.made)) (record {
    fits = subst (λ l. 3 * n ≤ l) (sym (made-length queue n C.fits (x / 2) above_in)) C.fits;
    inside = omega (arith, C.inside);
    stands = f ∙ sym (made-node queue n C.fits (x / 2) above_in);
    but = λ i p q d. made_holds queue n C.fits (x / 2) above_in i p q d (C.but i p q);
    keys = λ y b. made-keys queue n C.fits (x / 2) above_in y b ∙ C.keys y b;
  })

  -- a node made from its children leaves at most the node above it
  pub climb-up : {t : Entry} → r ≡ Some t → Climbing queue₀ next n (x / 2) t
  climb-up s = raised (rw (z, s) at R.answer)

  -- where the node is as it was, nothing is left to do
  whole : next ≡ queue → Tree next n
  unfolding Tree
  whole s i p q = by_cases (ℕ_discrete i (x / 2 / 2)) (λ y. subst (λ g. entry_at g n i ≡ first_below g n i) (sym s) (C.but i p q (λ u. omega arith))) ((raised refl).but i p q)

pub climb-stop : {queue₀ queue next : List ℕ} {n n' x k v : ℕ} {e : Entry} {r : Option Entry} → Climbing (set queue₀ k v) queue n x e → 1 < x → Refreshed queue next n' (x / 2) r → n' ≡ n → r ≡ None → KeySet queue₀ next n k v
climb-stop C l R z s = let same = rw s at R.answer in
    record { tree = whole C l R z same; keys = λ x l. ap (λ q. get_or q x 0) same ∙ C.keys x l }

pub climb-end : {queue₀ queue : List ℕ} {n x k v : ℕ} {e : Entry} → Climbing (set queue₀ k v) queue n x e → x ≤ 1 → KeySet queue₀ queue n k v
unfolding Tree
climb-end C z = record { tree = λ i p q. C.but i p q (λ u. omega arith); keys = C.keys }

-- ---- the whole tree

-- on the way down from the last node: every node from j on holds the first of its children
pub record Building (queue₀ queue : List ℕ) (n j : ℕ) : Type 0 where
  pub fits : 3 * n ≤ length queue
  pub inside : j ≤ n
  pub done : (i : ℕ) → j ≤ i → i < n → entry_at queue n i ≡ first_below queue n i
  pub keys : (x : ℕ) → x < n → get_or queue x 0 ≡ get_or queue₀ x 0

pub build-down : (queue₀ queue next : List ℕ) (n j : ℕ) → Building queue₀ queue n j → 1 < j → next ≡ refreshed queue n (j - 1) → Building queue₀ next n (j - 1)
build-down queue₀ queue next n j B pos e = subst (λ q. Building queue₀ q n (j - 1)) (sym e) (record {
  fits = subst (λ l. 3 * n ≤ l) (sym (made-length queue n B.fits (j - 1) b)) B.fits;
  inside = omega (arith, B.inside);
  done = λ i p q. made_holds queue n B.fits (j - 1) b i (omega arith) q (λ z. omega arith) (λ d. B.done i (omega arith) q);
  keys = λ x l. made-keys queue n B.fits (j - 1) b x l ∙ B.keys x l;
})
  where
    b : j - 1 < n
    b = omega (arith, B.inside)

pub build-end : (queue₀ queue : List ℕ) (n j : ℕ) → Building queue₀ queue n j → j ≤ 1 → Built queue₀ queue n
unfolding Tree
build-end queue₀ queue n j B z = record { tree = λ i p q. B.done i (omega arith) q; keys = B.keys }

-- a node made from its children, on the way down
pub ruleset builds = (build-down, held-node)
