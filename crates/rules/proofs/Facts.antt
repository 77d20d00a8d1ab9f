-- Tests, counts and totals.
use Rattle.std.specs.Prelude.{if◌then◌else◌}
use mathlib.Core.Path.{◌≡◌, refl, sym, ap, ◌∙◌, subst}
use mathlib.Core.Logic.{◌≢◌, ◌⊎◌, inl, inr, by_cases}
use mathlib.Core.Bool.{Bool, true, false, not, ◌&&◌, ◌||◌, true≢false}
use mathlib.Core.List.{List, [], ◌∷◌, ◌++◌}
use Prim.Native.Nat.{ℕ, zero, suc, ◌+◌, ◌≤◌, ◌<◌}
use native.Mathlib.Nat.{add_comm, add_assoc, add-zero, zero-add}
use native.Mathlib.Decide.{ℕ_discrete, dec_lt}
use native.Mathlib.Omega.{arith}
use lib.Dec.{T, not_T, eqb, eqb→eq, eqb_refl}
use lib.ListN.{length, get_or, set, length-set}
use lib.Seq.{get_or-set_same, get_or-set_other}
use Rattle.rules.specs.Base.{keep}
use Rattle.rules.specs.Color.{ColorSum, zero_sum, sum_of_one, ◌⊕◌, pixel}
use Rattle.rules.specs.State.{relabel}
use Rattle.rules.specs.Claim.{bit, occurs, tally, count_of}

pub is_true : (b : Bool) → T b → b ≡ true
is_true true t = refl
is_true false t = absurd t

pub is_false : (b : Bool) → (T b → ⊥) → b ≡ false
is_false true n = absurd (n tt)
is_false false n = refl

pub T-dec : (b : Bool) → Dec (T b)
T-dec true = yes tt
T-dec false = no (λ t. t)

pub T-or : (a b : Bool) → T (a || b) → T a ⊎ T b
T-or true b t = inl tt
T-or false b t = inr t

pub T-or-l : (a b : Bool) → T a → T (a || b)
T-or-l true b t = tt
T-or-l false b t = absurd t

pub T-or-r : (a b : Bool) → T b → T (a || b)
T-or-r true b t = tt
T-or-r false b t = t

pub T_and : (a b : Bool) → T a → T b → T (a && b)
T_and true b x y = y
T_and false b x y = x

pub T-both : (a b : Bool) → T (a && b) → T a × T b
T-both true b x = (tt, x)
T-both false b x = absurd x

pub eqb_yes : (m n : ℕ) → m ≡ n → eqb m n ≡ true
eqb_yes m n e = is_true (eqb m n) (subst (λ x. T (eqb m x)) e (eqb_refl m))

pub eqb_no : (m n : ℕ) → m ≢ n → eqb m n ≡ false
eqb_no m n d = is_false (eqb m n) (λ t. d (eqb→eq m n t))

pub bit_or : (a b : Bool) → (T a → T b → ⊥) → bit (a || b) ≡ bit a + bit b
bit_or true true n = absurd (n tt tt)
bit_or true false n = refl
bit_or false true n = refl
bit_or false false n = refl

pub bit-T : (b : Bool) → bit b ≢ 0 → T b
bit-T true n = tt
bit-T false n = n refl

pub T-bit : (b : Bool) → T b → bit b ≡ 1
T-bit true t = refl
T-bit false t = absurd t

bit_le : (a b : Bool) → (T a → T b) → bit a ≤ bit b
bit_le true b f = omega (arith, T-bit b (f tt))
bit_le false b f = omega arith

pub occurs-append : (p : ℕ) (xs ys : List ℕ) → occurs p (xs ++ ys) ≡ occurs p xs + occurs p ys
occurs-append p [] ys = sym (zero-add (occurs p ys))
occurs-append p (x ∷ xs) ys = omega (arith, occurs-append p xs ys)

-- ---- relabelling

pub length-relabel : (t : ℕ) (ps ls : List ℕ) → length (relabel t ps ls) ≡ length ls
length-relabel t [] ls = refl
length-relabel t (p ∷ ps) ls = length-relabel t ps (set ls p t) ∙ length-set ls p t

pub relabel-other : (t q : ℕ) (ps ls : List ℕ) → occurs q ps ≡ 0 → get_or (relabel t ps ls) q 0 ≡ get_or ls q 0
relabel-other t q [] ls e = refl
relabel-other t q (p ∷ ps) ls e =
    relabel-other t q ps (set ls p t) (omega arith) ∙ get_or-set_other ls p q t 0 differ
  where
    differ : q ≢ p
    differ x = let y : bit (eqb q p) ≡ 1 = ap bit (eqb_yes q p x) in omega arith

pub relabel-in : (t q : ℕ) (ps ls : List ℕ) → q < length ls → occurs q ps ≢ 0 → get_or (relabel t ps ls) q 0 ≡ t
relabel-in t q [] ls h n = absurd (n refl)
relabel-in t q (p ∷ ps) ls h n = pick (relabel-in t q ps (set ls p t) (omega (arith, length-set ls p t))) (ℕ_discrete (occurs q ps) 0) (ℕ_discrete q p)
  where
    pick : (occurs q ps ≢ 0 → get_or (relabel t ps (set ls p t)) q 0 ≡ t) → Dec (occurs q ps ≡ 0) → Dec (q ≡ p) → get_or (relabel t ps (set ls p t)) q 0 ≡ t
    pick ih (no d) e = ih d
    pick ih (yes z) (yes e) =
        relabel-other t q ps (set ls p t) z ∙ subst (λ x. get_or (set ls x t) q 0 ≡ t) e (get_or-set_same ls q t 0 h)
    pick ih (yes z) (no d) = let y : bit (eqb q p) ≡ 0 = ap bit (eqb_no q p d) in absurd (n (omega arith))

-- ---- sums

pub ⊕-comm : (x y : ColorSum) → x ⊕ y ≡ y ⊕ x
unfolding ◌⊕◌
⊕-comm x y = λ i. record { r = add_comm x.r y.r i; g = add_comm x.g y.g i; b = add_comm x.b y.b i; a = add_comm x.a y.a i; count = add_comm x.count y.count i }

pub ⊕-assoc : (x y z : ColorSum) → (x ⊕ y) ⊕ z ≡ x ⊕ (y ⊕ z)
unfolding ◌⊕◌
⊕-assoc x y z = λ i. record {
  r = add_assoc x.r y.r z.r i;
  g = add_assoc x.g y.g z.g i;
  b = add_assoc x.b y.b z.b i;
  a = add_assoc x.a y.a z.a i;
  count = add_assoc x.count y.count z.count i;
}

pub ⊕-none : (x : ColorSum) → x ⊕ zero_sum ≡ x
unfolding ◌⊕◌
⊕-none x = λ i. record { r = add-zero x.r i; g = add-zero x.g i; b = add-zero x.b i; a = add-zero x.a i; count = add-zero x.count i }

module _ (image : List ℕ) where
  -- the totals of two disjoint choices
  pub tally-or : (a b : ℕ → Bool) → ((p : ℕ) → T (a p) → T (b p) → ⊥) → (n : ℕ) → tally image (λ p. a p || b p) n ≡ tally image a n ⊕ tally image b n
  unfolding tally
  tally-or a b d zero = sym (⊕-none zero_sum)
  tally-or a b d (suc n) = step (a n) (b n) (d n) (tally-or a b d n)
    where
      x : ColorSum
      x = tally image a n

      y : ColorSum
      y = tally image b n

      z : ColorSum
      z = sum_of_one (pixel image n)

      step : (u v : Bool) → (T u → T v → ⊥) → tally image (λ p. a p || b p) n ≡ x ⊕ y
          → (if u || v then tally image (λ p. a p || b p) n ⊕ z else tally image (λ p. a p || b p) n) ≡ (if u then x ⊕ z else x) ⊕ (if v then y ⊕ z else y)
      step true true k e = absurd (k tt tt)
      step true false k e = ap (λ m. m ⊕ z) e ∙ ⊕-assoc x y z ∙ ap (λ m. x ⊕ m) (⊕-comm y z) ∙ sym (⊕-assoc x z y)
      step false true k e = ap (λ m. m ⊕ z) e ∙ ⊕-assoc x y z
      step false false k e = e

  pub tally-none : (n : ℕ) → tally image (λ p. false) n ≡ zero_sum
  unfolding tally
  tally-none zero = refl
  tally-none (suc n) = tally-none n

  tally-before : (p n : ℕ) → n ≤ p → tally image (λ q. eqb q p) n ≡ zero_sum
  unfolding tally
  tally-before p zero h = refl
  tally-before p (suc n) h = rw (eqb_no n p (omega arith)) (tally-before p n (omega arith))

  -- one pixel alone
  pub tally-one : (p n : ℕ) → p < n → tally image (λ q. eqb q p) n ≡ sum_of_one (pixel image p)
  unfolding tally
  tally-one p zero h = absurd (omega arith)
  tally-one p (suc n) h = by_cases (ℕ_discrete n p)
      (λ e. rw (eqb_yes n p e) (ap (λ m. m ⊕ sum_of_one (pixel image n)) (tally-before p n (omega arith)) ∙ ⊕-comm zero_sum (sum_of_one (pixel image n)) ∙ ⊕-none (sum_of_one (pixel image n)) ∙ ap (λ m. sum_of_one (pixel image m)) e))
      (λ d. rw (eqb_no n p d) (tally-one p n (omega arith)))

-- ---- fewer, and inside

pub count_of-le : (a b : ℕ → Bool) → ((q : ℕ) → T (a q) → T (b q)) → (n : ℕ) → count_of a n ≤ count_of b n
unfolding count_of
count_of-le a b f zero = omega arith
count_of-le a b f (suc n) = omega (arith, bit_le (a n) (b n) (f n), count_of-le a b f n)

pub count_of-lt : (a b : ℕ → Bool) → ((q : ℕ) → T (a q) → T (b q)) → (n q : ℕ) → q < n → T (b q) → (T (a q) → ⊥) → count_of a n < count_of b n
unfolding count_of
count_of-lt a b f zero q l x y = absurd (omega arith)
count_of-lt a b f (suc n) q l x y = by_cases (ℕ_discrete q n)
    (λ e. omega (arith, T-bit (b n) (subst (λ m. T (b m)) e x), ap bit (is_false (a n) (λ z. y (subst (λ m. T (a m)) (sym e) z))), count_of-le a b f n))
    (λ d. omega (arith, bit_le (a n) (b n) (f n), count_of-lt a b f n q (omega arith) x y))

-- where b has more, it has one that a has not
pub count_of-some : (a b : ℕ → Bool) (n : ℕ) → count_of a n < count_of b n → (q : ℕ) × T (b q) × (T (a q) → ⊥)
unfolding count_of
count_of-some a b zero l = absurd (omega arith)
count_of-some a b (suc n) l = step (a n) (b n) (λ x. x) (λ x. x) l (count_of-some a b n)
  where
    step : (u v : Bool) → (T v → T (b n)) → (T (a n) → T u) → bit u + count_of a n < bit v + count_of b n → (count_of a n < count_of b n → (q : ℕ) × T (b q) × (T (a q) → ⊥)) → (q : ℕ) × T (b q) × (T (a q) → ⊥)
    step false true g h m ih = (n, g tt, λ z. h z)
    step true true g h m ih = ih (omega arith)
    step true false g h m ih = ih (omega arith)
    step false false g h m ih = ih (omega arith)

pub count_of-before : (x n : ℕ) → n ≤ x → count_of (λ p. eqb p x) n ≡ 0
unfolding count_of
count_of-before x zero l = refl
count_of-before x (suc n) l = rw (eqb_no n x (omega arith)) (omega (arith, count_of-before x n (omega arith)))

pub count_of-one : (x n : ℕ) → x < n → count_of (λ p. eqb p x) n ≡ 1
unfolding count_of
count_of-one x zero l = absurd (omega arith)
count_of-one x (suc n) l = by_cases (ℕ_discrete n x)
    (λ e. rw (eqb_yes n x e) (omega (arith, count_of-before x n (omega arith))))
    (λ d. rw (eqb_no n x d) (omega (arith, count_of-one x n (omega arith))))

-- one entry more
count_of-add : (f g : ℕ → Bool) (t : ℕ) → ((j : ℕ) → j ≢ t → T (f j) → T (g j)) → (n : ℕ) → count_of f n ≤ count_of g n + count_of (λ j. eqb j t) n
unfolding count_of
count_of-add f g t s zero = omega arith
count_of-add f g t s (suc n) = step (f n) (g n) (eqb n t) refl (s n) (count_of-add f g t s n)
  where
    step : (u v b : Bool) → eqb n t ≡ b → (n ≢ t → T u → T v) → count_of f n ≤ count_of g n + count_of (λ j. eqb j t) n
        → bit u + count_of f n ≤ bit v + count_of g n + (bit b + count_of (λ j. eqb j t) n)
    step false v b e h l = omega arith
    step true true b e h l = omega arith
    step true false true e h l = omega arith
    step true false false e h l = absurd (h (λ x. true≢false (sym (eqb_yes n t x) ∙ e)) tt)

count_of-once : (t n : ℕ) → count_of (λ j. eqb j t) n ≤ 1
count_of-once t n = elim (dec_lt t n) [ yes l ↦ omega (arith, count_of-one t n l) | no l ↦ omega (arith, count_of-before t n (omega arith)) ]

pub count_of-more : (f g : ℕ → Bool) (t : ℕ) → ((j : ℕ) → j ≢ t → T (f j) → T (g j)) → (n : ℕ) → count_of f n ≤ count_of g n + 1
count_of-more f g t s n = omega (arith, count_of-add f g t s n, count_of-once t n)

-- k goes, t may come
pub count_of-swap : (f g : ℕ → Bool) (k t : ℕ) → ((j : ℕ) → j ≢ t → T (f j) → T (g j)) → (T (f k) → ⊥) → T (g k) → (n : ℕ) → k < n → count_of f n ≤ count_of g n
count_of-swap f g k t s x y n l =
    omega (
      arith,
      count_of-more f (λ j. f j && not (eqb j t)) t (λ j d z. T_and (f j) (not (eqb j t)) z (not_T (eqb j t) (λ e. d (eqb→eq j t e)))) n,
      count_of-lt (λ j. f j && not (eqb j t)) g (λ j z. let v = T-both (f j) (not (eqb j t)) z in s j (λ e. subst (λ b. T (not b)) (eqb_yes j t e) v.1) v.0) n k l y
          (λ z. x (T-both (f k) (not (eqb k t)) z).0),
    )

pub count_of-none : (f : ℕ → Bool) → ((j : ℕ) → T (f j) → ⊥) → (n : ℕ) → count_of f n ≡ 0
unfolding count_of
count_of-none f a zero = refl
count_of-none f a (suc n) = omega (arith, ap bit (is_false (f n) (a n)), count_of-none f a n)

-- what is kept of a list is no longer than it
pub keep-le : (f : ℕ → Bool) (xs : List ℕ) → length (keep f xs) ≤ length xs
keep-le f [] = omega arith
keep-le f (x ∷ xs) = go (f x) (keep-le f xs)
  where
    go : (b : Bool) → length (keep f xs) ≤ length xs → length (if b then x ∷ keep f xs else keep f xs) ≤ suc (length xs)
    go true l = omega arith
    go false l = omega arith

pub same_bool : (b c : Bool) → (T b → T c) → (T c → T b) → b ≡ c
same_bool true c f g = sym (is_true c (f tt))
same_bool false true f g = absurd (g tt)
same_bool false false f g = refl

pub count_of-bound : (f : ℕ → Bool) (n : ℕ) → count_of f n ≤ n
unfolding count_of
count_of-bound f zero = omega arith
count_of-bound f (suc n) = elim (f n) as (λ b. count_of f n ≤ n → bit b + count_of f n ≤ suc n) [ true ↦ λ l. omega arith | false ↦ λ l. omega arith ] (count_of-bound f n)

pub both_true : (a b : Bool) → (a && b) ≡ true → (a ≡ true) × (b ≡ true)
both_true true b e = (refl, e)
both_true false b e = absurd (subst T (sym e) tt)
