-- Places in an image of w columns and h rows.
use mathlib.Core.Logic.{by_cases}
use Prim.Native.Nat.{ℕ, suc, ◌+◌, ◌*◌, ◌/◌, ◌≤◌, ◌<◌}
use native.Mathlib.Nat.{mul-le-mul_left, mul_comm, suc-mul, div-add-mod'}
use native.Mathlib.Decide.{dec_lt}
use native.Mathlib.Omega.{arith}

-- column x of row y is a pixel
pub place_in : (w h x y : ℕ) → x < w → y < h → y * w + x < w * h
place_in w h x y a b = omega (arith, mul-le-mul_left w b, mul_comm w (suc y), suc-mul y w)

-- the row of a pixel
pub row_in : (w h p : ℕ) → p < w * h → p / w < h
row_in w h p a = by_cases (dec_lt (p / w) h)
    (λ b. b)
    (λ n. let m : h ≤ p / w = omega arith in absurd (omega (arith, div-add-mod' p w, mul-le-mul_left w m, mul_comm w (p / w))))
