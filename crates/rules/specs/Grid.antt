-- The neighbours of a pixel in an image of w columns and h rows: row y, column x is pixel w * y + x. A pixel off the
-- image is none (rules 1.2, 1.3).
use Rattle.std.specs.Prelude.{List, [], ◌∷◌, ℕ, ◌+◌, ◌-◌, ◌*◌, ◌%◌, leb, ltb, if◌then◌else◌}
use Rattle.std.proofs.Math.Option.{Option, none, some}

-- the pixel above
unfoldable pub up : ℕ → ℕ → Option ℕ
up w i = if leb w i then some (i - w) else none

-- the pixel below
unfoldable pub down : ℕ → ℕ → ℕ → Option ℕ
down w h i = if ltb (i + w) (w * h) then some (i + w) else none

-- the pixel to the left, in the same row
unfoldable pub left : ℕ → ℕ → Option ℕ
left w i = if ltb 0 (i % w) then some (i - 1) else none

-- the pixel to the right, in the same row
unfoldable pub right : ℕ → ℕ → Option ℕ
right w i = if ltb (i % w + 1) w then some (i + 1) else none

-- the pixel to the left of the one above
unfoldable pub up_left : ℕ → ℕ → Option ℕ
up_left w i = if ltb 0 (i % w) then (if leb w i then some (i - w - 1) else none) else none

-- the four neighbours, in the order up, down, left, right
unfoldable pub sides : ℕ → ℕ → ℕ → List (Option ℕ)
unfolding up down left right
sides w h i = up w i ∷ down w h i ∷ left w i ∷ right w i ∷ []
