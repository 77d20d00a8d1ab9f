-- Bounds that the code reckons with: below them every number fits its 32 bits.
use Rattle.std.specs.Prelude.{ℕ, ◌*◌}

-- the most pixels of an image that the code can take, whatever smaller limit the checks set
abbrev pub capacity : ℕ
capacity = 1048576

-- what every number of a pixel, slot, column or row is below
abbrev pub count_bound : ℕ
count_bound = 2000000

-- and two of them together
abbrev pub sum_bound : ℕ
sum_bound = 2 * count_bound
