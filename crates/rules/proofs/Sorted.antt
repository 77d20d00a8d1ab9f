-- With `hierarchical` 0 the passes put out all clusters with pixels by pixel count, then number: stage 2 has no case of its own for it.
use Rattle.std.specs.Prelude.{if◌then◌else◌}
use mathlib.Core.Path.{◌≡◌, refl, sym, ap, ◌∙◌, subst}
use mathlib.Core.Bool.{Bool, true, false}
use mathlib.Core.List.{List, [], ◌∷◌, ◌++◌, append_assoc, append-nil}
use Prim.Native.Nat.{ℕ, zero, suc, ◌≤◌, ◌<◌}
use native.Mathlib.Decide.{ℕ_discrete}
use native.Mathlib.Omega.{arith}
use borrow.Author.Tests.{eqb-true, ltb-true}
use lib.Dec.{T, eqb, ltb, leb, lt→ltb, le→leb, leb→le}
use lib.ListN.{length}
use Rattle.rules.specs.Base.{times, up_to, keep, insert_by, sort_by}
use Rattle.rules.specs.Color.{RunnerConfig}
use Rattle.rules.specs.State.{State, cluster, area, put_out}
use Rattle.rules.specs.Stage2.{output_all, neighbours, by_neighbours, visit, pass, passes}
use Rattle.rules.proofs.Facts.{is_true, is_false, eqb_yes, eqb_no}
use Rattle.rules.proofs.Visits.{All}

pub keep_append : (f : ℕ → Bool) (xs ys : List ℕ) → keep f (xs ++ ys) ≡ keep f xs ++ keep f ys
keep_append f [] ys = refl
keep_append f (x ∷ xs) ys = pick (f x) (keep_append f xs ys)
  where
    pick : (b : Bool) → keep f (xs ++ ys) ≡ keep f xs ++ keep f ys → (if b then x ∷ keep f (xs ++ ys) else keep f (xs ++ ys)) ≡ (if b then x ∷ keep f xs else keep f xs) ++ keep f ys
    pick true e = ap (λ l. x ∷ l) e
    pick false e = e

-- ---- sorting is laying out by keys

-- the entries of key 1, of key 2, .. of key m
buckets : (ℕ → ℕ) → List ℕ → ℕ → List ℕ
buckets key xs zero = []
buckets key xs (suc a) = buckets key xs a ++ keep (λ x. eqb (key x) (suc a)) xs

module _ (key : ℕ → ℕ) where
  all_append : (P : ℕ → Type 0) (xs ys : List ℕ) → All P xs → All P ys → All P (xs ++ ys)
  all_append P [] ys a b = b
  all_append P (x ∷ xs) ys a b = (a.0, all_append P xs ys a.1 b)

  keep_all : (P : ℕ → Type 0) (f : ℕ → Bool) → ((x : ℕ) → f x ≡ true → P x) → (xs : List ℕ) → All P (keep f xs)
  keep_all P f g [] = tt
  keep_all P f g (x ∷ xs) = pick (f x) refl (keep_all P f g xs)
    where
      pick : (b : Bool) → f x ≡ b → All P (keep f xs) → All P (if b then x ∷ keep f xs else keep f xs)
      pick true e r = (g x e, r)
      pick false e r = r

  all_map : (P Q : ℕ → Type 0) → ((x : ℕ) → P x → Q x) → (xs : List ℕ) → All P xs → All Q xs
  all_map P Q f [] a = tt
  all_map P Q f (x ∷ xs) a = (f x a.0, all_map P Q f xs a.1)

  bucket-all : (xs : List ℕ) (m : ℕ) → All (λ x. key x ≤ m) (buckets key xs m)
  unfolding buckets
  bucket-all xs zero = tt
  bucket-all xs (suc m) =
      all_append (λ x. key x ≤ suc m) (buckets key xs m) (keep (λ x. eqb (key x) (suc m)) xs)
      (all_map (λ x. key x ≤ m) (λ x. key x ≤ suc m) (λ x l. omega arith) (buckets key xs m) (bucket-all xs m))
      (keep_all (λ x. key x ≤ suc m) (λ x. eqb (key x) (suc m)) (λ x e. omega (arith, eqb-true (key x) (suc m) e)) xs)

  -- an entry goes behind smaller keys
  insert-behind : (a : ℕ) (xs ys : List ℕ) → All (λ x. key x < key a) xs → insert_by key a (xs ++ ys) ≡ xs ++ insert_by key a ys
  insert-behind a [] ys l = refl
  insert-behind a (x ∷ xs) ys l =
      rw (is_false (leb (key a) (key x)) (λ t. omega (arith, leb→le (key a) (key x) t, l.0))) (ap (λ z. x ∷ z) (insert-behind a xs ys l.1))

  -- and before keys that are not smaller
  insert-before : (a : ℕ) (xs ys : List ℕ) → All (λ x. key a ≤ key x) ys → insert_by key a (xs ++ ys) ≡ insert_by key a xs ++ ys
  insert-before a [] [] l = refl
  insert-before a [] (y ∷ ys) l = rw (is_true (leb (key a) (key y)) (le→leb (key a) (key y) l.0)) refl
  insert-before a (x ∷ xs) ys l = pick (leb (key a) (key x)) (insert-before a xs ys l)
    where
      pick : (b : Bool) → insert_by key a (xs ++ ys) ≡ insert_by key a xs ++ ys → (if b then a ∷ x ∷ (xs ++ ys) else x ∷ insert_by key a (xs ++ ys)) ≡ (if b then a ∷ x ∷ xs else x ∷ insert_by key a xs) ++ ys
      pick true e = refl
      pick false e = ap (λ z. x ∷ z) e

  -- an entry of another key is in none of these
  buckets-other : (x : ℕ) (xs : List ℕ) (m : ℕ) → (key x ≤ m → 0 < key x → ⊥) → buckets key (x ∷ xs) m ≡ buckets key xs m
  unfolding buckets
  buckets-other x xs zero n = refl
  buckets-other x xs (suc m) n =
      rw (eqb_no (key x) (suc m) (λ e. n (omega arith) (omega arith))) (ap (λ l. l ++ keep (λ y. eqb (key y) (suc m)) xs) (buckets-other x xs m (λ l z. n (omega arith) z)))

  buckets-insert : (x : ℕ) (xs : List ℕ) (m : ℕ) → 0 < key x → key x ≤ m → insert_by key x (buckets key xs m) ≡ buckets key (x ∷ xs) m
  unfolding buckets
  buckets-insert x xs zero z l = absurd (omega arith)
  buckets-insert x xs (suc m) z l = go (ℕ_discrete (key x) (suc m)) (buckets-insert x xs m z)
    where
      K : List ℕ
      K = keep (λ y. eqb (key y) (suc m)) xs

      mine : All (λ y. key y ≡ suc m) (keep (λ y. eqb (key y) (suc m)) xs)
      mine = keep_all (λ y. key y ≡ suc m) (λ y. eqb (key y) (suc m)) (λ y e. eqb-true (key y) (suc m) e) xs

      go : Dec (key x ≡ suc m) → (key x ≤ m → insert_by key x (buckets key xs m) ≡ buckets key (x ∷ xs) m) → insert_by key x (buckets key xs m ++ keep (λ y. eqb (key y) (suc m)) xs) ≡ buckets key (x ∷ xs) m ++ (if eqb (key x) (suc m) then x ∷ keep (λ y. eqb (key y) (suc m)) xs else keep (λ y. eqb (key y) (suc m)) xs)
      go (yes e) ih =
          insert-behind x (buckets key xs m) K (all_map (λ y. key y ≤ m) (λ y. key y < key x) (λ y b. omega arith) (buckets key xs m) (bucket-all xs m))
          ∙ ap (λ u. buckets key xs m ++ u) (insert-before x [] K (all_map (λ y. key y ≡ suc m) (λ y. key x ≤ key y) (λ y b. omega arith) K mine))
          ∙ ap (λ u. u ++ (x ∷ K)) (sym (buckets-other x xs m (λ b c. omega arith)))
          ∙ ap (λ b. buckets key (x ∷ xs) m ++ (if b then x ∷ K else K)) (sym (eqb_yes (key x) (suc m) e))
      go (no d) ih =
          insert-before x (buckets key xs m) K (all_map (λ y. key y ≡ suc m) (λ y. key x ≤ key y) (λ y b. omega arith) K mine)
          ∙ ap (λ u. u ++ K) (ih (omega arith))
          ∙ ap (λ b. buckets key (x ∷ xs) m ++ (if b then x ∷ K else K)) (sym (eqb_no (key x) (suc m) d))

  buckets-none : (m : ℕ) → [] ≡ buckets key [] m
  unfolding buckets
  buckets-none zero = refl
  buckets-none (suc m) = buckets-none m ∙ sym (append-nil (buckets key [] m))

  sort-buckets : (m : ℕ) → ((x : ℕ) → key x ≤ m) → (xs : List ℕ) → sort_by key (keep (λ x. ltb 0 (key x)) xs) ≡ buckets key xs m
  unfolding sort_by
  sort-buckets m le [] = buckets-none m
  sort-buckets m le (x ∷ xs) = pick (ltb 0 (key x)) refl (sort-buckets m le xs)
    where
      pick : (b : Bool) → ltb 0 (key x) ≡ b → sort_by key (keep (λ y. ltb 0 (key y)) xs) ≡ buckets key xs m
          → sort_by key (if b then x ∷ keep (λ y. ltb 0 (key y)) xs else keep (λ y. ltb 0 (key y)) xs) ≡ buckets key (x ∷ xs) m
      pick true e ih = ap (insert_by key x) ih ∙ buckets-insert x xs m (ltb-true 0 (key x) e) (le x)
      pick false e ih = ih ∙ sym (buckets-other x xs m (λ l z. subst T (sym (is_true (ltb 0 (key x)) (lt→ltb 0 (key x) z)) ∙ e) tt))

-- ---- the passes

-- s with these entries put out too
puts : State → List ℕ → State
puts s xs = record { labels = s.labels; clusters = s.clusters; next_index = s.next_index; outputs = s.outputs ++ xs; listed = s.listed; log = s.log }

module _ (o : RunnerConfig) (w h : ℕ) (zeroed : o.hierarchical ≡ 0) (s : State) where
  visit-puts : (a k : ℕ) (xs : List ℕ) → visit o w h (suc a) k (puts s xs) ≡ puts s (xs ++ keep (λ j. eqb (area (cluster s j)) (suc a)) (k ∷ []))
  unfolding visit put_out puts
  visit-puts a k xs = pick (eqb (area (cluster s k)) (suc a))
    where
      out : puts s (xs ++ (k ∷ [])) ≡ put_out k (puts s xs)
      out = ap (λ l. record { labels = s.labels; clusters = s.clusters; next_index = s.next_index; outputs = l; listed = s.listed; log = s.log }) (sym (append_assoc s.outputs xs (k ∷ [])))

      above : ltb o.hierarchical (suc a) ≡ true
      above = is_true (ltb o.hierarchical (suc a)) (lt→ltb o.hierarchical (suc a) (omega arith))

      pick : (b : Bool) → (if b then (if ltb o.hierarchical (suc a) then put_out k (puts s xs) else by_neighbours o w h (suc a) k (neighbours w h (puts s xs) k) (puts s xs)) else puts s xs)
          ≡ puts s (xs ++ (if b then k ∷ [] else []))
      pick true = ap (λ b. if b then put_out k (puts s xs) else by_neighbours o w h (suc a) k (neighbours w h (puts s xs) k) (puts s xs)) above ∙ sym out
      pick false = ap (puts s) (sym (append-nil xs))

  visits-put : (a : ℕ) (xs : List ℕ) (n : ℕ) → times n (visit o w h (suc a)) (puts s xs) ≡ puts s (xs ++ keep (λ j. eqb (area (cluster s j)) (suc a)) (up_to n))
  unfolding up_to
  visits-put a xs zero = ap (puts s) (sym (append-nil xs))
  visits-put a xs (suc n) =
      ap (visit o w h (suc a) n) (visits-put a xs n) ∙ visit-puts a n (xs ++ keep (λ j. eqb (area (cluster s j)) (suc a)) (up_to n))
      ∙ ap (puts s) (append_assoc xs (keep (λ j. eqb (area (cluster s j)) (suc a)) (up_to n)) (keep (λ j. eqb (area (cluster s j)) (suc a)) (n ∷ []))
      ∙ ap (λ l. xs ++ l) (sym (keep_append (λ j. eqb (area (cluster s j)) (suc a)) (up_to n) (n ∷ []))))

  passes-put : (m : ℕ) → passes o w h m s ≡ puts s (buckets (λ k. area (cluster s k)) (up_to (length s.clusters)) m)
  unfolding passes pass buckets puts
  passes-put zero = ap (λ l. record { labels = s.labels; clusters = s.clusters; next_index = s.next_index; outputs = l; listed = s.listed; log = s.log }) (sym (append-nil s.outputs))
  passes-put (suc m) = ap (pass o w h (suc m)) (passes-put m) ∙ visits-put m (buckets (λ k. area (cluster s k)) (up_to (length s.clusters)) m) (length s.clusters)

  pub output_all-passes : (m : ℕ) → ((k : ℕ) → area (cluster s k) ≤ m) → output_all s ≡ passes o w h m s
  unfolding output_all puts
  output_all-passes m le = ap (puts s) (sort-buckets (λ k. area (cluster s k)) m le (up_to (length s.clusters))) ∙ sym (passes-put m)
