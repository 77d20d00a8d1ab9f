-- When the last entry is all pixels.
use Rattle.std.specs.Prelude.{◌≡◌, List, ℕ, ◌-◌, ◌<◌, length, get_or}
use Rattle.rules.specs.Paint.{slot_number}
use Rattle.rules.specs.Layout.{first_pixel_place, pixel_count_place}
use Rattle.container.specs.Code.Leads.{Leads}

-- the last entry counts size pixels, and as many links from its first pixel lead to 0: there is no pixel that it
-- does not list
pub record Whole (size : ℕ) (links table entries : List ℕ) : Type 0 where
  pub some : 0 < length entries
  pub count : slot_number table (get_or entries (length entries - 1) 0) pixel_count_place ≡ size
  pub leads : Leads size links (slot_number table (get_or entries (length entries - 1) 0) first_pixel_place) size 0
