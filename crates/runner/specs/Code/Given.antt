-- What a run is given, once its checks are passed.
use Rattle.std.specs.Prelude.{◌≡◌, List, ℕ, ◌+◌, ◌*◌, ◌≤◌, ◌<◌, pos, length, get_or}
use Rattle.rules.specs.Color.{RunnerConfig}
use Rattle.rules.specs.Code.Bounds.{capacity}

-- an image of w columns and h rows, with the shift of the settings as a number
pub record Given (o : RunnerConfig) (w h : ℕ) (image : List ℕ) (shift : ℕ) : Type 0 where
  pub shifted : o.is_same_color_a ≡ pos shift
  pub narrow : shift < 8
  pub bytes : (p : ℕ) → get_or image p 0 ≤ 255
  pub whole : length image ≡ 4 * (w * h)
  pub columns : 0 < w
  pub rows : 0 < h
  pub small : w * h ≤ capacity

-- pixel i is at column x, row y
pub record Spot (w h i x y : ℕ) : Type 0 where
  pub index : i ≡ w * y + x
  pub column : x < w
  pub row : y < h
