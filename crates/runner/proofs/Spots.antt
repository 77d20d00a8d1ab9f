-- The pixel at column x, row y, and the pixels beside it.
use Rattle.std.specs.Prelude.{if◌then◌else◌}
use mathlib.Core.Path.{◌≡◌, refl, sym, ap, ◌∙◌}
use mathlib.Core.Logic.{by_cases}
use mathlib.Core.Bool.{Bool, true, false}
use mathlib.Core.List.{List}
use mathlib.Core.Option.{Option, none, some}
use Prim.Native.Nat.{ℕ, suc, ◌+◌, ◌-◌, ◌*◌, ◌/◌, ◌%◌, ◌≤◌, ◌<◌}
use native.Mathlib.Nat.{mul_comm, mul-suc, mul-add-mod_self_left, mul-add-div, mod-eq_of_lt, mod-eq-sub-mod, div-eq_of_lt, lt-div-mul-add, mul-le-mul_left, le-mul_of_pos_right}
use native.Mathlib.Decide.{dec_lt}
use native.Mathlib.Omega.{arith}
use borrow.Author.Tests.{lt-ltb, le-ltb, le-leb, lt-leb}
use lib.Dec.{ltb}
use lib.ListN.{length, get_or}
use Rattle.rules.specs.Color.{Color, RunnerConfig, pixel, pixel_at}
use Rattle.rules.specs.Grid.{up, left, up_left}
use Rattle.rules.specs.State.{State}
use Rattle.rules.specs.Stage1.{color_at, label_at}
use Rattle.rules.proofs.Pixels.{pixel-at}
use Rattle.rules.specs.Code.Bounds.{count_bound}
use Rattle.color.specs.Colors.{color_of, option_of}
use Rattle.color.specs.declared.Color as declared
use Rattle.std.specs.Prelude.{Option as Maybe, Some, None}
use Rattle.runner.specs.Code.Given.{Given, Spot}
use Rattle.runner.proofs.Places.{place_in}

-- a pixel of the image is in one of its rows
pub spot_of : {w h i x y : ℕ} → i ≡ w * y + x → x < w → i < w * h → Spot w h i x y
spot_of {w} {h} {i} {x} {y} e l b = record {
  index = e;
  column = l;
  row = by_cases (dec_lt y h) (λ z. z) (λ z. let g : h ≤ y = omega arith in absurd (omega (arith, mul-le-mul_left w g)));
}

-- where the row above begins
mul_pred : (w y : ℕ) → 0 < y → w * y ≡ w * (y - 1) + w
mul_pred w y l = let e : suc (y - 1) ≡ y = omega arith in ap (λ m. w * m) (sym e) ∙ mul-suc w (y - 1)

module _ {w h i x y : ℕ} (S : Spot w h i x y) where
  pub spot-column : i % w ≡ x
  spot-column = ap (λ m. m % w) S.index ∙ mul-add-mod_self_left w y x ∙ mod-eq_of_lt S.column

  pub spot-row : i / w ≡ y
  spot-row = ap (λ m. m / w) S.index ∙ mul-add-div (omega (arith, S.column)) y x ∙ ap (λ m. y + m) (div-eq_of_lt S.column) ∙ omega arith

  pub spot_in : i < w * h
  spot_in = omega (arith, S.index, place_in w h x y S.column S.row, mul_comm w y)

  -- the spot above
  pub spot-above : 0 < y → Spot w h (i - w) x (y - 1)
  spot-above l = record { index = omega (arith, S.index, mul_pred w y l); column = S.column; row = omega (arith, S.row) }

module _ {o : RunnerConfig} {w h : ℕ} {image : List ℕ} {shift i x y : ℕ} (G : Given o w h image shift) (S : Spot w h i x y) where
  -- a column and a row are small
  pub near-column : x < count_bound
  near-column = omega (arith, S.column, le-mul_of_pos_right w G.rows, G.small)

  pub near-row : y < count_bound
  near-row = omega (arith, S.row, le-mul_of_pos_right h G.columns, mul_comm w h, G.small)

-- a colour of the image, as the rules read it
pub color_there : (image : List ℕ) (i : ℕ) {c : Color} → c ≡ pixel image i → some c ≡ color_at image (some i)
unfolding color_at
color_there image i e = ap some e

-- ---- the places beside pixel i, by its column and row

module _ (w i : ℕ) where
  pub first-row-in : 0 < w → i / w ≡ 0 → i < w
  first-row-in l e = omega (arith, lt-div-mul-add {a = i} l, ap (λ m. m * w) e)

  pub later-row : 0 < i / w → w ≤ i
  later-row l = by_cases (dec_lt i w) (λ a. absurd (omega (arith, div-eq_of_lt a))) (λ a. omega arith)

  pub left-none : i % w ≡ 0 → left w i ≡ none
  unfolding left
  left-none e = ap (λ b. if b then some (i - 1) else none) (le-ltb 0 (i % w) (omega arith))

  pub left-some : 0 < i % w → left w i ≡ some (i - 1)
  unfolding left
  left-some l = ap (λ b. if b then some (i - 1) else none) (lt-ltb 0 (i % w) l)

  pub up_none : i < w → up w i ≡ none
  unfolding up
  up_none l = ap (λ b. if b then some (i - w) else none) (lt-leb w i l)

  pub up-some : w ≤ i → up w i ≡ some (i - w)
  unfolding up
  up-some l = ap (λ b. if b then some (i - w) else none) (le-leb w i l)

  pub up_left-none : i < w → up_left w i ≡ none
  unfolding up_left
  up_left-none l = ap (λ c. if ltb 0 (i % w) then (if c then some (i - w - 1) else none) else none) (lt-leb w i l) ∙ pick (ltb 0 (i % w))
    where
      pick : (b : Bool) → ◌≡◌ {A = Option ℕ} (if b then none else none) none
      pick true = refl
      pick false = refl

  -- up and left is left of the pixel above
  pub up_left-some : w ≤ i → up_left w i ≡ left w (i - w)
  unfolding up_left left
  up_left-some l =
      ap (λ c. if ltb 0 (i % w) then (if c then some (i - w - 1) else none) else none) (le-leb w i l) ∙ ap (λ m. if ltb 0 m then some (i - w - 1) else none) (mod-eq-sub-mod {n = i} {m = w} l)

-- the same where the pixel's column is known
module _ {w h i x y : ℕ} (S : Spot w h i x y) where
  pub border-left : x ≡ 0 → left w i ≡ none
  border-left e = left-none w i (spot-column S ∙ e)

  pub inner-left : 0 < x → left w i ≡ some (i - 1)
  inner-left l = left-some w i (omega (arith, l, spot-column S))

  -- and the label there
  pub no-left-label : (s : State) → x ≡ 0 → 0 ≡ label_at s (left w i)
  unfolding label_at
  no-left-label s e = ap (label_at s) (sym (border-left e))

  pub left-label : (s : State) {L : List ℕ} → L ≡ s.labels → 0 < x → get_or L (i - 1) 0 ≡ label_at s (left w i)
  unfolding label_at
  left-label s e l = ap (λ ls. get_or ls (i - 1) 0) e ∙ ap (label_at s) (sym (inner-left l))

-- ---- and what `pixel_at` answers there

module _ {w h i x y : ℕ} (image : List ℕ) (S : Spot w h i x y) (whole : length image ≡ 4 * (w * h)) where
  columns : 0 < w
  columns = omega (arith, S.column)

  -- the first row and a later one
  first : y ≡ 0 → i < w
  first e = first-row-in w i columns (spot-row S ∙ e)

  later : 0 < y → w ≤ i
  later l = later-row w i (omega (arith, spot-row S))

  pub own-pixel : pixel_at image w h x y ≡ color_at image (some i)
  own-pixel = pixel-at image w h x y whole S.column S.row ∙ ap (λ j. color_at image (some j)) (sym S.index)

  -- so it is there, and is the colour that stage 1 takes
  pub never-off : (o : Maybe declared.Color) → o ≡ None → option_of o ≡ pixel_at image w h x y → ⊥
  unfolding color_at
  never-off o e f = let z : ◌≡◌ {A = ℕ} 0 1 = cc (own-pixel, ap option_of e) in omega arith

  pub own-color : (o : Maybe declared.Color) (c : declared.Color) → o ≡ Some c → option_of o ≡ pixel_at image w h x y → color_of c ≡ pixel image i
  unfolding color_at
  own-color o c e f = cc (own-pixel, ap option_of e)

  pub no-left : x ≡ 0 → none ≡ color_at image (left w i)
  unfolding color_at
  no-left e = ap (color_at image) (sym (border-left S e))

  pub left-pixel : 0 < x → pixel_at image w h (x - 1) y ≡ color_at image (left w i)
  left-pixel l =
      pixel-at image w h (x - 1) y whole (omega (arith, S.column)) S.row
      ∙ ap (λ j. color_at image (some j)) (omega (arith, S.index))
      ∙ ap (color_at image) (sym (inner-left S l))

  pub no-up : y ≡ 0 → none ≡ color_at image (up w i)
  unfolding color_at
  no-up e = ap (color_at image) (sym (up_none w i (first e)))

  pub up-pixel : 0 < y → pixel_at image w h x (y - 1) ≡ color_at image (up w i)
  up-pixel l =
      pixel-at image w h x (y - 1) whole S.column (omega (arith, S.row))
      ∙ ap (λ j. color_at image (some j)) (sym (spot-above S l).index)
      ∙ ap (color_at image) (sym (up-some w i (later l)))

  pub no-up_left : y ≡ 0 → none ≡ color_at image (up_left w i)
  unfolding color_at
  no-up_left e = ap (color_at image) (sym (up_left-none w i (first e)))

  pub up_left-pixel : 0 < y → color_at image (left w (i - w)) ≡ color_at image (up_left w i)
  up_left-pixel l = ap (color_at image) (sym (up_left-some w i (later l)))

-- what names a pixel, those to the left of it and above it, and their places
pub ruleset own_pixels = (never-off, own-color)

pub ruleset left_pixels = (no-left, left-pixel)

pub ruleset up_pixels = (no-up, up-pixel, up_none)

pub ruleset up_places = (spot-row, first-row-in, later-row, up-some, up_none)
