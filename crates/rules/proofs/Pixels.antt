-- The pixel that `pixel_at` answers at a column and a row is the one that stage 1 reads.
use mathlib.Core.Path.{◌≡◌}
use mathlib.Core.List.{List}
use mathlib.Core.Option.{some}
use Prim.Native.Nat.{ℕ, ◌+◌, ◌*◌, ◌≤◌, ◌<◌}
use native.Mathlib.Nat.{mul-le-mul_left, mul-suc}
use native.Mathlib.Omega.{arith}
use borrow.Author.Tests.{lt-ltb, le-leb}
use lib.ListN.{length}
use Rattle.rules.specs.Color.{pixel_at}
use Rattle.rules.specs.Stage1.{color_at}

pub pixel-at : (image : List ℕ) (w h x y : ℕ) → length image ≡ 4 * (w * h) → x < w → y < h → pixel_at image w h x y ≡ color_at image (some (w * y + x))
unfolding pixel_at color_at
pixel-at image w h x y e a b =
    let l : 4 * (w * y + x) + 4 ≤ length image = omega (arith, mul-le-mul_left w b, mul-suc w y) in
    rw (lt-ltb x w a, lt-ltb y h b, le-leb (4 * (w * y + x) + 4) (length image) l)
