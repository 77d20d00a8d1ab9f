-- The numbers of a stored sheet and their bytes: where they lie, and whether one of them takes more than two bytes. Assumes nothing.
use mathlib.Core.Path.{◌≡◌, refl, sym, ap, ap₂, ◌∙◌}
use mathlib.Core.Bool.{Bool, true, false, not, ◌&&◌, ◌||◌, and-true, or-false, or_assoc}
use mathlib.Core.List.{List, [], ◌∷◌, ◌++◌, append-nil, append_assoc, flatten}
use Prim.Native.Nat.{ℕ, zero, suc, ◌+◌, ◌*◌, ◌≤◌, ◌<◌}
use native.Mathlib.Decide.{ℕ_discrete}
use native.Mathlib.Numerals.{add-one}
use Rattle.std.proofs.Common.{add-zero}
use native.Mathlib.Omega.{arith}
use borrow.Author.Tests.{leb-true, leb-false, lt-ltb, le-ltb, ltb-false}
use lib.Dec.{leb, ltb}
use lib.ListN.{length, get_or, set, take, length-append, length-take, drop_of_length-le}
use lib.Seq.{sets, sets-eq, append_snoc, take-suc}
use Rattle.std.specs.List.{fold}
use Rattle.sheet.specs.Code.Pairs.{pairs}
use Rattle.sheet.specs.Code.Stored.{parts, slot_pairs}
use Rattle.rules.specs.Base.{up_to, none_above}
use Rattle.rules.specs.Stored.{is_large, two_bytes, stored_bytes}
use Rattle.std.proofs.lemmas.List.{take_all, take_more}
use Rattle.refusal.proofs.Laws.{refused_number}
use Rattle.sheet.proofs.Accepted.{store-number}
use Rattle.rules.proofs.Accepted.{neither}
use Rattle.rules.proofs.Layouts.{flatten-snoc, spread}

-- ---- bytes

-- a run of stores, cut in two
sets-append : (xs ys l : List ℕ) (i : ℕ) → sets l i (xs ++ ys) ≡ sets (sets l i xs) (i + length xs) ys
sets-append [] ys l i = ap (λ k. sets l k ys) (omega arith)
sets-append (x ∷ xs) ys l i = sets-append xs ys (set l i x) (suc i) ∙ ap (λ k. sets (sets (set l i x) (suc i) xs) k ys) (omega arith)

bytes-append : (xs ys : List ℕ) → stored_bytes (xs ++ ys) ≡ stored_bytes xs ++ stored_bytes ys
unfolding stored_bytes
bytes-append [] ys = refl
bytes-append (x ∷ xs) ys = ap (λ l. two_bytes x ++ l) (bytes-append xs ys)

bytes-length : (xs : List ℕ) → length (stored_bytes xs) ≡ 2 * length xs
unfolding stored_bytes
bytes-length [] = omega arith
bytes-length (x ∷ xs) = omega (arith, bytes-length xs)

-- numbers written after others
bytes-more : (d₀ d xs ys : List ℕ) (from at : ℕ) → d ≡ sets d₀ from (stored_bytes xs) → at ≡ from + 2 * length xs → sets d at (stored_bytes ys) ≡ sets d₀ from (stored_bytes (xs ++ ys))
bytes-more d₀ d xs ys from at e p = rw (bytes-append xs ys, sets-append, bytes-length xs, e, p)

-- a whole list written over
sets-whole : (l xs : List ℕ) → length xs ≡ length l → sets l 0 xs ≡ xs
sets-whole l xs e = sets-eq xs l 0 (omega arith) ∙ ap (λ r. xs ++ r) (drop_of_length-le l {i = 0 + length xs} (omega arith)) ∙ append-nil xs

pub written-whole : (d xs : List ℕ) → length d ≡ 2 * length xs → sets d 0 (stored_bytes xs) ≡ stored_bytes xs
written-whole d xs e = sets-whole d (stored_bytes xs) (bytes-length xs ∙ sym e)

-- ---- numbers that take more than two bytes

not-leb : (x a : ℕ) → not (leb x a) ≡ ltb a x
not-leb x a = elim (leb x a) as (λ b. leb x a ≡ b → not b ≡ ltb a x) [ true ↦ λ e. sym (le-ltb a x (leb-true x a e)) | false ↦ λ e. sym (lt-ltb a x (leb-false x a e)) ] refl

large-append : (xs ys : List ℕ) → is_large (xs ++ ys) ≡ is_large xs || is_large ys
unfolding is_large
large-append [] ys = refl
large-append (x ∷ xs) ys = by (leb x 65535) (large-append xs ys)
  where
    by : (b : Bool) → is_large (xs ++ ys) ≡ is_large xs || is_large ys → not (b && none_above 65535 (xs ++ ys)) ≡ not (b && none_above 65535 xs) || is_large ys
    by true e = e
    by false e = refl

large-one : (x : ℕ) → is_large (x ∷ []) ≡ ltb 65535 x
unfolding is_large
large-one x = ap not (and-true (leb x 65535)) ∙ not-leb x 65535

-- each of the numbers is small
pub small_at : (xs : List ℕ) → is_large xs ≡ false → (i : ℕ) → i < length xs → get_or xs i 0 ≤ 65535
small_at [] e i l = absurd (omega arith)
small_at (x ∷ xs) e zero l = ltb-false 65535 x (sym (large-one x) ∙ (neither _ (is_large xs) (sym (large-append (x ∷ []) xs) ∙ e)).0)
small_at (x ∷ xs) e (suc i) l = small_at xs (neither (is_large (x ∷ [])) _ (sym (large-append (x ∷ []) xs) ∙ e)).1 i (omega arith)

-- whether a number of xs is large, as a fold finds it
pub fold-large : (b : Bool) (xs : List ℕ) → fold (λ c x. c || ltb 65535 x) b xs ≡ b || is_large xs
unfolding is_large
fold-large b [] = sym (or-false b)
fold-large b (x ∷ xs) = fold-large (b || ltb 65535 x) xs ∙ or_assoc b (ltb 65535 x) (is_large xs) ∙ ap (λ c. b || c) (ap (λ c. c || is_large xs) (sym (large-one x)) ∙ sym (large-append (x ∷ []) xs))

-- ---- two numbers for each of 0 .. n - 1, as of pixels and of slots

module _ (f g : ℕ → ℕ) where
  pub pairs-length : (n : ℕ) → length (pairs f g n) ≡ 2 * n
  pairs-length = spread _ 2 (λ i. refl)

  pairs-more : (n : ℕ) → pairs f g (suc n) ≡ pairs f g n ++ (f n ∷ g n ∷ [])
  pairs-more n = flatten-snoc _ n

  pub pairs-large : (n : ℕ) → is_large (pairs f g (suc n)) ≡ is_large (pairs f g n) || is_large (f n ∷ g n ∷ [])
  pairs-large n = ap is_large (pairs-more n) ∙ large-append _ _

  pub large-two : (i : ℕ) → is_large (f i ∷ g i ∷ []) ≡ ltb 65535 (f i) || ltb 65535 (g i)
  large-two i = large-append (f i ∷ []) (g i ∷ []) ∙ ap (λ b. b || is_large (g i ∷ [])) (large-one (f i)) ∙ ap (λ b. ltb 65535 (f i) || b) (large-one (g i))

  -- each pair of small ones is small
  pub pair-small : (n : ℕ) → is_large (pairs f g n) ≡ false → (i : ℕ) → i < n → (f i ≤ 65535) × (g i ≤ 65535)
  pair-small (suc n) e i l =
      let d = neither (is_large (pairs f g n)) (is_large (f n ∷ g n ∷ [])) (sym (pairs-large n) ∙ e) in
      elim (ℕ_discrete i n) [ yes z ↦ rw z (small_at (f n ∷ g n ∷ []) d.1 0 (omega arith), small_at (f n ∷ g n ∷ []) d.1 1 (omega arith)) | no z ↦ pair-small n d.0 i (omega arith) ]
  pair-small zero e i l = absurd (omega arith)

  -- one turn of a loop that writes them
  pub pairs-put : (d₀ d d₁ d₂ : List ℕ) (n x y : ℕ) → x ≡ f n → y ≡ g n → d ≡ sets d₀ 0 (stored_bytes (pairs f g n))
      → d₁ ≡ sets d (2 * (2 * n)) (two_bytes x) → d₂ ≡ sets d₁ (2 * (2 * n + 1)) (two_bytes y) → d₂ ≡ sets d₀ 0 (stored_bytes (pairs f g (n + 1)))
  unfolding stored_bytes
  pairs-put d₀ d d₁ d₂ n x y a b e e₁ e₂ =
      let h : d₁ ≡ sets d₀ 0 (stored_bytes (pairs f g n ++ (f n ∷ []))) = e₁ ∙ rw a (bytes-more d₀ d (pairs f g n) (f n ∷ []) 0 (2 * (2 * n)) e (omega (arith, pairs-length n))) in
      e₂ ∙ rw b (bytes-more d₀ d₁ (pairs f g n ++ (f n ∷ [])) (g n ∷ []) 0 (2 * (2 * n + 1)) h (omega (arith, pairs-length n, length-append (pairs f g n) (f n ∷ []))))
      ∙ ap (λ r. sets d₀ 0 (stored_bytes r)) (append_snoc (pairs f g n) (f n) (g n ∷ []) ∙ sym (pairs-more n) ∙ ap (pairs f g) (sym (add-one n)))

-- ---- the first entries of a list

module _ (xs : List ℕ) (i : ℕ) (l : i < length xs) where
  -- one turn of a loop that writes them
  pub take_put : (d₀ d : List ℕ) → d ≡ sets d₀ 0 (stored_bytes (take i xs)) → sets d (2 * i) (two_bytes (get_or xs i 0)) ≡ sets d₀ 0 (stored_bytes (take (i + 1) xs))
  unfolding stored_bytes
  take_put d₀ d e = bytes-more d₀ d (take i xs) _ 0 (2 * i) e (omega (arith, length-take i xs)) ∙ ap (λ r. sets d₀ 0 (stored_bytes r)) (sym (take_more xs i 0 l))

-- whether one of the first n numbers of two lists is large, as their pairs say
pub two-lists : (xs ys : List ℕ) (n : ℕ) → n ≤ length xs → n ≤ length ys
    → is_large (take n xs) || is_large (take n ys) ≡ is_large (pairs (λ i. get_or xs i 0) (λ i. get_or ys i 0) n)
unfolding is_large flatten up_to
two-lists xs ys zero h l = refl
two-lists xs ys (suc n) h l =
    let k : n < length xs = omega arith in
    let m : n < length ys = omega arith in
    rw (take-suc xs n 0 k, take-suc ys n 0 m, large-append (take n xs) _, large-append (take n ys) _, pairs-large (λ i. get_or xs i 0) (λ i. get_or ys i 0) n, ← two-lists xs ys n (omega arith) (omega arith), large-append (get_or xs n 0 ∷ []) (get_or ys n 0 ∷ []))
    (swap (is_large (take n xs)) _ (is_large (take n ys)) _)
  where
    swap : (a b c d : Bool) → (a || b) || (c || d) ≡ (a || c) || (b || d)
    swap true b c d = refl
    swap false true true d = refl
    swap false true false d = refl
    swap false false c d = refl

-- ---- a whole sheet

-- each of its parts is small
pub record Small (a b c d : List ℕ) : Type 0 where
  pub sizes : is_large a ≡ false
  pub pixels : is_large b ≡ false
  pub slots : is_large c ≡ false
  pub outputs : is_large d ≡ false

module _ (sizes pixels slots outputs : List ℕ) where
  pub stored-large : is_large (sizes ++ pixels ++ slots ++ outputs) ≡ is_large sizes || is_large pixels || is_large slots || is_large outputs
  stored-large = rw (large-append _ outputs, large-append _ slots, large-append sizes pixels)

  -- none of the numbers is large
  pub stored-small : is_large (sizes ++ pixels ++ slots ++ outputs) ≡ false → Small sizes pixels slots outputs
  stored-small e =
      let o = neither _ (is_large outputs) (sym (large-append (sizes ++ pixels ++ slots) outputs) ∙ e) in
      let s = neither _ (is_large slots) (sym (large-append (sizes ++ pixels) slots) ∙ o.0) in
      let p = neither (is_large sizes) (is_large pixels) (sym (large-append sizes pixels) ∙ s.0) in
      record { sizes = p.0; pixels = p.1; slots = s.1; outputs = o.1 }

  -- the four parts, each by itself
  pub stored-parts : stored_bytes sizes ++ (stored_bytes pixels ++ (stored_bytes slots ++ stored_bytes outputs)) ≡ stored_bytes (sizes ++ pixels ++ slots ++ outputs)
  stored-parts = rw (bytes-append (sizes ++ pixels ++ slots) outputs, bytes-append (sizes ++ pixels) slots, bytes-append sizes pixels, append_assoc, append_assoc)

-- whether a number of a sheet is large, as its five lists say, each by itself
pub parts-large : (sizes labels links outputs : List ℕ) (slots : List (List ℕ)) → length links ≡ length labels
    → is_large sizes || is_large labels || is_large links || is_large (slot_pairs slots) || is_large outputs ≡ is_large (parts sizes labels links slots outputs)
parts-large sizes labels links outputs slots e =
    ap (λ b. b || is_large (slot_pairs slots) || is_large outputs) (or_assoc (is_large sizes) (is_large labels) (is_large links) ∙ ap (λ b. is_large sizes || b) both) ∙ sym (stored-large sizes _ (slot_pairs slots) outputs)
  where
    n : ℕ
    n = length labels

    both : is_large labels || is_large links ≡ is_large (pairs (λ i. get_or labels i 0) (λ i. get_or links i 0) n)
    both = ap₂ (λ a b. is_large a || is_large b) (sym (take_all n labels (omega arith))) (sym (take_all n links (omega (arith, e)))) ∙ two-lists labels links n (omega arith) (omega (arith, e))

-- how many numbers the parts have
pub stored-length : (sizes labels links outputs : List ℕ) (slots : List (List ℕ)) → length (parts sizes labels links slots outputs) ≡ length sizes + 2 * length labels + 2 * length slots + length outputs
stored-length sizes labels links outputs slots =
    let a = pairs (λ p. get_or labels p 0) (λ p. get_or links p 0) (length labels) in
    let b = pairs (λ k. get_or (get_or slots k []) 0 0) (λ k. get_or (get_or slots k []) 1 0) (length slots) in
    omega (
      arith,
      length-append (sizes ++ a ++ b) outputs,
      length-append (sizes ++ a) b,
      length-append sizes a,
      pairs-length (λ p. get_or labels p 0) (λ p. get_or links p 0) (length labels),
      pairs-length (λ k. get_or (get_or slots k []) 0 0) (λ k. get_or (get_or slots k []) 1 0) (length slots),
    )

-- pairs of the same numbers
pub pairs-same : (f g h k : ℕ → ℕ) (n : ℕ) → ((i : ℕ) → i < n → (f i ≡ h i) × (g i ≡ k i)) → pairs f g n ≡ pairs h k n
unfolding flatten up_to
pairs-same f g h k zero e = refl
pairs-same f g h k (suc n) e = let l = e n (omega arith) in rw (pairs-more f g n, pairs-more h k n, l.0, l.1, pairs-same f g h k n (λ i m. e i (omega (arith, m)))) refl

-- what the functions cite
pub ruleset large_laws = (stored-large, parts-large)

pub ruleset put_laws = (small_at, take_put, written-whole, pairs-put, pairs-length, take_all)

pub ruleset check_laws = (refused_number, store-number, stored-length)
