-- Numbers of the cluster table, 21 to a slot (rule 8.3), as the code reads and writes them.
use Rattle.std.specs.Prelude.{ℕ, suc, ◌+◌, ◌*◌, ◌≤◌, List, [], ◌∷◌, length, get_or, set, replicate}
use Rattle.rules.specs.Color.{ColorSum}
use Rattle.rules.specs.State as rules
use Rattle.rules.specs.Layout.{first_of, slot_width, first_pixel_place, pixel_count_place, left_place, top_place}
use Rattle.rules.specs.Layout.{right_place}
use Rattle.rules.specs.Layout.{bottom_place, sum_place, sum_count_place, residue_place}
use Rattle.rules.specs.Refusals.{largest_total}
use Rattle.color.specs.declared.ColorSum as declared
use Rattle.image.specs.declared.PixelList.{PixelList}
use Rattle.runner.specs.declared.slot.Head.{Head}

-- two sums whose totals fit 32 bits
pub record Adds (x y : ColorSum) : Type 0 where
  pub r : x.r + y.r ≤ largest_total
  pub g : x.g + y.g ≤ largest_total
  pub b : x.b + y.b ≤ largest_total
  pub a : x.a + y.a ≤ largest_total
  pub count : x.count + y.count ≤ largest_total

-- the sum of slot k
abbrev pub sum_at : List ℕ → ℕ → ColorSum
sum_at table k = record {
  r = get_or table (slot_width * k + sum_place) 0;
  g = get_or table (slot_width * k + (sum_place + 1)) 0;
  b = get_or table (slot_width * k + (sum_place + 2)) 0;
  a = get_or table (slot_width * k + (sum_place + 3)) 0;
  count = get_or table (slot_width * k + sum_count_place) 0;
}

-- the list of slot k
abbrev pub list_in : List ℕ → ℕ → PixelList
list_in table k = record {
  first = get_or table (slot_width * k + first_pixel_place) 0;
  count = get_or table (slot_width * k + pixel_count_place) 0;
}

-- numbers written one after another, from index base + j on
abbrev pub set_numbers : List ℕ → ℕ → ℕ → List ℕ → List ℕ
set_numbers table base j [] = table
set_numbers table base j (v ∷ vs) = set_numbers (set table (base + j) v) base (suc j) vs

-- the first eleven numbers of slot k: list, rectangle, sum
unfoldable pub head_at : List ℕ → ℕ → Head
head_at table k = record {
  first = get_or table (slot_width * k + first_pixel_place) 0;
  count = get_or table (slot_width * k + pixel_count_place) 0;
  rect = record {
    left = get_or table (slot_width * k + left_place) 0;
    top = get_or table (slot_width * k + top_place) 0;
    right = get_or table (slot_width * k + right_place) 0;
    bottom = get_or table (slot_width * k + bottom_place) 0;
  };
  sum = record {
    r = get_or table (slot_width * k + sum_place) 0;
    g = get_or table (slot_width * k + (sum_place + 1)) 0;
    b = get_or table (slot_width * k + (sum_place + 2)) 0;
    a = get_or table (slot_width * k + (sum_place + 3)) 0;
    counter = get_or table (slot_width * k + sum_count_place) 0;
  };
}

-- the list of a head
abbrev pub list_of : Head → PixelList
list_of s = record { first = s.first; count = s.count }

-- a head as eleven numbers
abbrev pub head_numbers : Head → List ℕ
head_numbers s =
    s.first ∷ s.count ∷ s.rect.left ∷ s.rect.top ∷ s.rect.right ∷ s.rect.bottom
    ∷ s.sum.r ∷ s.sum.g ∷ s.sum.b ∷ s.sum.a ∷ s.sum.counter ∷ []

-- the head of slot k written
unfoldable pub saved_head : List ℕ → ℕ → Head → List ℕ
saved_head table k s = set_numbers table (slot_width * k) 0 (head_numbers s)

-- the residue of slot k
unfoldable pub residue_at : List ℕ → ℕ → declared.ColorSum
residue_at table k = record {
  r = get_or table (slot_width * k + residue_place) 0;
  g = get_or table (slot_width * k + (residue_place + 1)) 0;
  b = get_or table (slot_width * k + (residue_place + 2)) 0;
  a = get_or table (slot_width * k + (residue_place + 3)) 0;
  counter = get_or table (slot_width * k + (residue_place + 4)) 0;
}

-- a residue as five numbers
abbrev pub residue_numbers : declared.ColorSum → List ℕ
residue_numbers s = s.r ∷ s.g ∷ s.b ∷ s.a ∷ s.counter ∷ []

-- the residue of slot k written
unfoldable pub saved_residue : List ℕ → ℕ → declared.ColorSum → List ℕ
saved_residue table k s = set_numbers table (slot_width * k) residue_place (residue_numbers s)

-- slot k with zeros alone
unfoldable pub cleared_slot : List ℕ → ℕ → List ℕ
cleared_slot table k = set_numbers table (slot_width * k) 0 (replicate slot_width 0)

-- the head of a cluster
abbrev pub head_of : rules.Cluster → Head
head_of c = record {
  first = first_of c.pixels;
  count = length c.pixels;
  rect = record { left = c.rect.left; top = c.rect.top; right = c.rect.right; bottom = c.rect.bottom };
  sum = record { r = c.sum.r; g = c.sum.g; b = c.sum.b; a = c.sum.a; counter = c.sum.count };
}
