-- Numbers that fit their width: places of an image, and places of a slot's numbers in the table. Assumes nothing.
use Prim.Native.Nat.{ℕ, ◌+◌, ◌*◌, ◌≤◌, ◌<◌}
use native.Mathlib.Nat.{mul-le-mul_right}
use native.Mathlib.Omega.{arith}
use mir.Syntax.{w32, w64}
use mir.Val.{Fits}
use lib.Dec.{T, ltb, lit<}
use Rattle.rules.specs.Layout.{slot_width}

-- a place of an image of any size fits 64 bits
pub place-fits : {w x y : ℕ} → Fits w32 w → Fits w32 x → Fits w32 y → Fits w64 (w * y + x)
place-fits {w} {x} {y} f g h = omega (arith, mul-le-mul_right {m = w} {n = 4294967295} y (omega arith))

-- and so does where its row begins
pub row_fits : {w y : ℕ} → Fits w32 w → Fits w32 y → Fits w64 (w * y)
row_fits f g = omega (arith, place-fits f f g)

-- the index of number j of slot k fits, and so does its offset in bytes
pub slot-fits : {k : ℕ} → Fits w32 k → (j : ℕ) → T (ltb j slot_width) → Fits w64 (slot_width * k + j)
slot-fits f j h = omega (arith, lit< {m = j} {n = slot_width} h)

pub slot-offset : {k : ℕ} → Fits w32 k → (j : ℕ) → T (ltb j slot_width) → Fits w64 ((slot_width * k + j) * 4)
slot-offset f j h = omega (arith, lit< {m = j} {n = slot_width} h)

-- it is in the table
pub slot-in : (k : ℕ) {n : ℕ} → slot_width * k + slot_width ≤ n → (j : ℕ) → T (ltb j slot_width) → slot_width * k + j < n
slot-in k l j h = omega (arith, lit< {m = j} {n = slot_width} h)
