-- A stretch of a list along the links, painted; the first half of the list of the last entry.
use Rattle.std.specs.Prelude.{◌≡◌, List, ℕ, ◌-◌, ◌/◌, ◌<◌, length, get_or}
use Rattle.rules.specs.Base.{each}
use Rattle.rules.specs.Color.{Color}
use Rattle.rules.specs.Layout.{walk, first_pixel_place, pixel_count_place}
use Rattle.rules.specs.Picture.{paint_pixel}
use Rattle.rules.specs.Paint.{slot_number}
use Rattle.image.specs.declared.PixelList.{PixelList}

-- the count pixels from u, a pixel number plus one, along the links
unfoldable pub paint_along : Color → List ℕ → ℕ → ℕ → List ℕ → List ℕ
unfolding walk paint_pixel
paint_along c links u count picture = each (walk (λ p. get_or links p 0) u count) (paint_pixel c) picture

-- the list is the first half of the list of the last entry; it is empty where there is none
pub record FirstHalf (table entries : List ℕ) (half : PixelList) : Type 0 where
  pub none : length entries ≡ 0 → half.count ≡ 0
  pub first : 0 < length entries
      → half.first ≡ slot_number table (get_or entries (length entries - 1) 0) first_pixel_place
  pub count : 0 < length entries
      → half.count ≡ slot_number table (get_or entries (length entries - 1) 0) pixel_count_place / 2
