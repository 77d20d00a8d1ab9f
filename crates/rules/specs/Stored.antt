-- The stored sheet: two-byte numbers, low byte first (rule 11.1).
use Rattle.std.specs.Prelude.{Bool, not, ℕ, ◌*◌, ◌/◌, ◌%◌, get_or, take}
use mathlib.Core.List.{List, [], ◌∷◌, ◌++◌, map, flatten}
use Rattle.rules.specs.Base.{up_to, none_above}
use Rattle.rules.specs.Layout.{first_pixel_place, pixel_count_place}
use Rattle.rules.specs.Paint.{slot_number}

-- label and link of each of the pixels 0 .. size - 1
unfoldable pub pixel_numbers : List ℕ → List ℕ → ℕ → List ℕ
unfolding flatten up_to
pixel_numbers labels links size = flatten (map (λ p. get_or labels p 0 ∷ get_or links p 0 ∷ []) (up_to size))

-- first pixel and count of each of the slots 0 .. n - 1
unfoldable pub slot_numbers : List ℕ → ℕ → List ℕ
unfolding flatten up_to slot_number
slot_numbers table n =
    flatten (map (λ k. slot_number table k first_pixel_place ∷ slot_number table k pixel_count_place ∷ []) (up_to n))

-- w, h, n, m; label and link of each pixel; first pixel and count of each slot; the outputs
unfoldable pub stored_numbers : ℕ → ℕ → List ℕ → List ℕ → List ℕ → List ℕ → ℕ → ℕ → List ℕ
unfolding pixel_numbers slot_numbers
stored_numbers w h labels links table outputs n m =
    (w ∷ h ∷ n ∷ m ∷ []) ++ pixel_numbers labels links (w * h) ++ slot_numbers table n ++ take m outputs

-- some number does not fit in two bytes
unfoldable pub is_large : List ℕ → Bool
is_large numbers = not (none_above 65535 numbers)

-- low byte first
abbrev pub two_bytes : ℕ → List ℕ
two_bytes x = x % 256 ∷ x / 256 ∷ []

-- the bytes of the numbers, in their order
unfoldable pub stored_bytes : List ℕ → List ℕ
unfolding flatten
stored_bytes numbers = flatten (map two_bytes numbers)
