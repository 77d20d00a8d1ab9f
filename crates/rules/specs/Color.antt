-- Colours, sums of colours, the settings, and the two questions asked of colours: whether they are like, and how far
-- they differ (color.rs, runner.rs; rules, sections 2 and 4).
use Rattle.std.specs.Prelude.{Bool, true, false, not, ◌&&◌, List, ℕ, ◌+◌, ◌*◌, ◌/◌, ◌^◌, leb, ltb, eqb, length, get_or}
use Rattle.std.specs.Prelude.{ℤ, pos, negsuc, if◌then◌else◌}
use Rattle.std.proofs.Math.Option.{Option, none, some}
use Rattle.rules.specs.Base.{apart}

-- the four channels of a pixel
pub record Color : Type 0 where
  pub r : ℕ
  pub g : ℕ
  pub b : ℕ
  pub a : ℕ

-- a colour by its channels
abbrev pub rgba : ℕ → ℕ → ℕ → ℕ → Color
rgba r g b a = record { r = r; g = g; b = b; a = a }

-- the image is its bytes, four for each pixel (rule 1.2)
unfoldable pub pixel : List ℕ → ℕ → Color
pixel image i =
    rgba (get_or image (4 * i) 0) (get_or image (4 * i + 1) 0) (get_or image (4 * i + 2) 0) (get_or image (4 * i + 3) 0)

-- the pixel at column x, row y of w columns and h rows; off the image it is none (rule 1.3), and so where the bytes end
-- too soon, which those of an accepted image never do
unfoldable pub pixel_at : List ℕ → ℕ → ℕ → ℕ → ℕ → Option Color
unfolding pixel
pixel_at image w h x y =
    if ltb x w && ltb y h && leb (4 * (w * y + x) + 4) (length image) then some (pixel image (w * y + x)) else none

-- channel totals of several colours, and how many they are (rule 4.4; `counter` in color.rs)
pub record ColorSum : Type 0 where
  pub r : ℕ
  pub g : ℕ
  pub b : ℕ
  pub a : ℕ
  pub count : ℕ

-- of no colour
abbrev pub zero_sum : ColorSum
zero_sum = record { r = 0; g = 0; b = 0; a = 0; count = 0 }

-- the sum of one colour
unfoldable pub sum_of_one : Color → ColorSum
sum_of_one c = record { r = c.r; g = c.g; b = c.b; a = c.a; count = 1 }

-- two sums added, number by number (rule 4.5)
infixl 6 ◌⊕◌
unfoldable pub ◌⊕◌ : ColorSum → ColorSum → ColorSum
x ⊕ y = record { r = x.r + y.r; g = x.g + y.g; b = x.b + y.b; a = x.a + y.a; count = x.count + y.count }

-- averages are floors (rule 4.6)
unfoldable pub average : ColorSum → Color
average s = record { r = s.r / s.count; g = s.g / s.count; b = s.b / s.count; a = s.a / s.count }

-- whether a sum has an average (rule 4.6): it counts something, and no channel exceeds 255 × count
unfoldable pub has_average : ColorSum → Bool
has_average s =
    not (eqb s.count 0) && leb s.r (255 * s.count) && leb s.g (255 * s.count)
    && leb s.b (255 * s.count) && leb s.a (255 * s.count)

-- the average as it is answered: a colour, or none
unfoldable pub average_or_none : ColorSum → Option Color
unfolding has_average average
average_or_none s = if has_average s then some (average s) else none

-- what is done with pixels of the key colour
pub data KeyingAction : Type 0 where
  Keep Discard : KeyingAction

-- `HIERARCHICAL_MAX`: every area is clustered
abbrev pub hierarchical_max : ℕ
hierarchical_max = 4294967295

-- the settings, with the Rust's names (rule 2.1)
pub record RunnerConfig : Type 0 where
  pub is_same_color_a : ℤ
  pub is_same_color_b : ℤ
  pub hierarchical : ℕ
  pub good_min_area : ℕ
  pub good_max_area : ℕ
  pub hollow_neighbours : ℕ
  pub deepen_diff : ℤ
  pub key_color : Color
  pub keying_action : KeyingAction

-- d is at most the signed setting z
abbrev pub at_most : ℕ → ℤ → Bool
at_most d (pos n) = leb d n
at_most d (negsuc n) = false

-- d exceeds the signed setting z
abbrev pub exceeds : ℕ → ℤ → Bool
exceeds d z = not (at_most d z)

-- whether key pixels are discarded
abbrev pub is_discard : KeyingAction → Bool
is_discard Keep = false
is_discard Discard = true

-- all four channels are the same
unfoldable pub equal_color : Color → Color → Bool
equal_color x y = eqb x.r y.r && eqb x.g y.g && eqb x.b y.b && eqb x.a y.a

-- keying is off when the key is (0,0,0,0) (rule 2.2)
unfoldable pub keying_on : RunnerConfig → Bool
unfolding equal_color
keying_on o = not (equal_color o.key_color (rgba 0 0 0 0))

-- keying is on with Discard
unfoldable pub discards : RunnerConfig → Bool
unfolding keying_on
discards o = keying_on o && is_discard o.keying_action

-- the shift; that of an accepted call is 0 to 7
abbrev pub shift_of : ℤ → ℕ
shift_of (pos n) = n
shift_of (negsuc n) = 0

-- Two colours are like (rules 4.1, 4.3; `color_same`): r, g and b, shifted right, differ by at most the bound. Alpha
-- does not count.
unfoldable pub color_same : ℤ → ℤ → Color → Color → Bool
color_same shift bound x y = close x.r y.r && close x.g y.g && close x.b y.b
  where
    close : ℕ → ℕ → Bool
    close c d = at_most (apart (c / 2 ^ shift_of shift) (d / 2 ^ shift_of shift)) bound

-- none is like nothing (rule 4.2)
unfoldable pub is_same : ℤ → ℤ → Option Color → Option Color → Bool
unfolding color_same
is_same shift bound (some x) (some y) = color_same shift bound x y
is_same shift bound (some x) none = false
is_same shift bound none (some y) = false
is_same shift bound none none = false

-- The difference of two colours (rule 4.7; `color_diff`): the sum of the absolute r, g and b differences.
unfoldable pub color_diff : Color → Color → ℕ
color_diff x y = apart x.r y.r + apart x.g y.g + apart x.b y.b
