-- Laws on numbers that the proofs cite. Assume nothing.
use Prim.Native.Nat.{min, max, ℕ, suc, ◌+◌, ◌-◌, ◌*◌, ◌/◌, ◌^◌, ◌≤◌, ◌<◌}
use native.Mathlib.Nat.{lt_of_lt_of_le, pow-le-pow_right, div-eq_of_lt, mod-eq_of_lt}
use native.Mathlib.Omega.{arith}
use mathlib.Core.Path.{◌≡◌, ◌∙◌, refl}
use Rattle.std.proofs.lemmas.Nat.{and_mask}
use borrow.Author.Differences.{up, down, Within, fits_in, ints}
use mathlib.Core.Bool.{Bool, true, false, ◌&&◌}
use Rattle.std.specs.Prelude.{if◌then◌else◌}
use lib.Bits.{bit_xor, bit_and, xor_zero_r, xor_add_and}
use lib.IntN.{ℤ, pos, negsuc}
use lib.Signed.{le_z, shr_z}
use mir.Syntax.{w8, w32}
use mir.Val.{Fits, SFits, to_z, of_z}
use mir.ValLaws.{to_z_pos, to_z-of_z}
use lib.Dec.{eqb, eqb→eq}
use borrow.Author.Tests.{ltb-false, eqb-true, le-ltb, eq-eqb}
use Rattle.rules.specs.Base.{apart}
use Rattle.rules.specs.Color.{Color, ColorSum, ◌⊕◌, at_most, equal_color, shift_of, color_same}
use Rattle.rules.specs.Refusals.{largest_total, sum_answer}
use Rattle.rules.specs.Calls.{sum_call}
use Rattle.rules.proofs.Accepted.{passed, neither}
use Rattle.rules.proofs.Facts.{both_true, is_true, same_bool}

-- the signed comparison of a number below 2^31 with a setting is the rules'
pub at-most : {d : ℕ} {z : ℤ} → d < 2 ^ 31 → SFits w32 z → le_z (to_z w32 d) (to_z w32 (of_z w32 z)) ≡ at_most d z
at-most {d} {z} h f = rw (to_z_pos w32 d h, to_z-of_z w32 z f) (by z)
  where
    by : (z : ℤ) → le_z (pos d) z ≡ at_most d z
    by (pos n) = refl
    by (negsuc n) = refl

-- the sign of a number in each of its bits: -1 below 0, else 0
pub sign_is : (d : ℤ) → Within (2 ^ 31) d → (up (shr_z d (2 ^ 31)) ≡ 0) × (down (shr_z d (2 ^ 31)) ≡ min 1 (down d - up d))
sign_is (pos n) h = (div-eq_of_lt (omega arith), omega arith)
sign_is (negsuc n) h = let small : n < 2 ^ 31 = omega arith in rw (div-eq_of_lt small) (omega arith)

-- all bits of -1 - n turned
turned : (n : ℕ) → n < 2 ^ 31 → bit_xor (2 ^ 32 - suc n) (2 ^ 32 - 1) ≡ n
turned n h =
    let m = 2 ^ 32 - suc n in
    let all : bit_and m (2 ^ 32 - 1) ≡ m = and_mask m 32 ∙ mod-eq_of_lt (omega arith) in
    omega (arith, all, xor_add_and m (2 ^ 32 - 1))

-- a number whose bits are turned where it is below 0
pub turned_is : (d : ℤ) → Within (2 ^ 31) d
    → let z = to_z w32 (bit_xor (of_z w32 d) (of_z w32 (shr_z (to_z w32 (of_z w32 d)) (2 ^ 31)))) in (up z ≡ max (up d) (down d - 1)) × (down z ≡ 0)
turned_is (pos n) h =
    let small : n < 2 ^ 31 = omega arith in
    rw (to_z_pos w32 n small, div-eq_of_lt small, xor_zero_r n, to_z_pos w32 n small) (omega arith)
turned_is (negsuc n) h =
    let small : n < 2 ^ 31 = omega arith in
    rw (to_z-of_z w32 (negsuc n) (fits_in w32 (negsuc n) h), div-eq_of_lt small, turned n small, to_z_pos w32 n small) (omega arith)

-- a shift above 7 leaves nothing of a byte
pub gone : {c n : ℕ} → Fits w8 c → 7 < n → c / 2 ^ n ≡ 0
gone b h = div-eq_of_lt (lt_of_lt_of_le b.fits (pow-le-pow_right (omega arith) h))

-- the channels of equal colours
pub equal-channels : (x y : Color) → equal_color x y ≡ true → (x.r ≡ y.r) × (x.g ≡ y.g) × (x.b ≡ y.b) × (x.a ≡ y.a)
unfolding equal_color
equal-channels x y e =
    let a = both_true (eqb x.r y.r && eqb x.g y.g && eqb x.b y.b) (eqb x.a y.a) e in
    let b = both_true (eqb x.r y.r && eqb x.g y.g) (eqb x.b y.b) a.0 in
    let c = both_true (eqb x.r y.r) (eqb x.g y.g) b.0 in
    (eqb-true x.r y.r c.0, eqb-true x.g y.g c.1, eqb-true x.b y.b b.1, eqb-true x.a y.a a.1)

-- they differ by 0
pub like-equal : (shift bound : ℤ) (x y : Color) → equal_color x y ≡ true → color_same shift bound x y ≡ at_most 0 bound
unfolding color_same
like-equal shift bound x y e =
    let a = equal-channels x y e in
    rw (a.0, a.1, a.2, none y.r, none y.g, none y.b) (same (at_most 0 bound))
  where
    none : (n : ℕ) → apart (n / 2 ^ shift_of shift) (n / 2 ^ shift_of shift) ≡ 0
    none n = omega arith

    same : (b : Bool) → b && b && b ≡ b
    same true = refl
    same false = refl

-- the totals of an addition that is not refused
pub totals-fit : (x y : ColorSum) → sum_answer x y ≡ 0
    → (x.r + y.r ≤ largest_total) × (x.g + y.g ≤ largest_total) × (x.b + y.b ≤ largest_total) × (x.a + y.a ≤ largest_total) × (x.count + y.count ≤ largest_total)
unfolding sum_answer ◌⊕◌
totals-fit x y h =
    let a = neither _ _ (passed 6 _ 0 h).0 in
    let b = neither _ _ a.0 in
    let g = neither _ _ b.0 in
    let r = neither _ _ g.0 in
    (ltb-false _ _ r.0, ltb-false _ _ r.1, ltb-false _ _ g.1, ltb-false _ _ b.1, ltb-false _ _ a.1)

-- totals that fit are not refused
pub not-refused : (x y : ColorSum) → x.r + y.r ≤ largest_total → x.g + y.g ≤ largest_total → x.b + y.b ≤ largest_total → x.a + y.a ≤ largest_total
    → x.count + y.count ≤ largest_total → sum_answer x y ≡ 0
unfolding sum_answer ◌⊕◌
not-refused x y r g b a n = rw (le-ltb _ _ r, le-ltb _ _ g, le-ltb _ _ b, le-ltb _ _ a, le-ltb _ _ n)

-- an addition that is not answered with 0 is answered with 7
pub refused : (x y : ColorSum) → ¬ (sum_answer x y ≡ 0) → sum_answer x y ≡ 7
unfolding sum_answer
refused x y = by _
  where
    by : (b : Bool) → ¬ (◌≡◌ {A = ℕ} (if b then 7 else 0) 0) → ◌≡◌ {A = ℕ} (if b then 7 else 0) 7
    by true h = refl
    by false h = absurd (h refl)

-- and its sum
pub sum-taken : (x y : ColorSum) → sum_answer x y ≡ 0 → sum_call x y ≡ x ⊕ y
unfolding sum_call
sum-taken x y e = rw (e) refl

-- a refused one leaves the sum
pub sum-kept : (x y : ColorSum) → sum_answer x y ≡ 7 → sum_call x y ≡ x
unfolding sum_call
sum-kept x y e = rw (e) refl

-- its five totals
pub five-totals : (x y : ColorSum) {r g b a n : ℕ} → r ≡ x.r + y.r → g ≡ x.g + y.g → b ≡ x.b + y.b → a ≡ x.a + y.a → n ≡ x.count + y.count
    → sum_answer x y ≡ 0 → record { r = r; g = g; b = b; a = a; count = n } ≡ sum_call x y
unfolding ◌⊕◌
five-totals x y r g b a n e = rw (sum-taken x y e, r, g, b, a, n) refl

-- four bytes are told by one number
module _ (x y : Color) (xr : x.r < 256) (xg : x.g < 256) (xb : x.b < 256) (yr : y.r < 256) (yg : y.g < 256) (yb : y.b < 256) where
  pub by_number : {p q : ℕ} → p ≡ x.r + 256 * x.g + 65536 * x.b + 16777216 * x.a → q ≡ y.r + 256 * y.g + 65536 * y.b + 16777216 * y.a → eqb p q ≡ equal_color x y
  unfolding equal_color
  by_number {p} {q} e f = same_bool (eqb p q) (equal_color x y)
      (λ z. let w : p ≡ q = eqb→eq p q z in rw (eq-eqb x.r y.r (omega arith), eq-eqb x.g y.g (omega arith), eq-eqb x.b y.b (omega arith), eq-eqb x.a y.a (omega arith)) tt)
      (λ z.
      let a = equal-channels x y (is_true (equal_color x y) z) in
      rw (eq-eqb p q (omega (arith, e, f, a))) tt)

-- what the functions cite
pub ruleset close_laws = (at-most, gone)

pub ruleset abs_laws = (sign_is, turned_is, ints)

pub ruleset same_laws = (at-most, like-equal, to_z-of_z)

pub ruleset added_laws = (totals-fit, not-refused, refused, five-totals)

pub ruleset kept_laws = (sum-kept, sum-taken)
