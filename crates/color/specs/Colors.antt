-- The declared types, read as the rules' colours.
use Rattle.std.proofs.Math.Option as math
use Rattle.std.specs.Prelude.{List, ℕ, ◌+◌, get_or, Option, Some, None}
use Rattle.color.specs.declared.Color.{Color}
use Rattle.color.specs.declared.ColorSum.{ColorSum}
use Rattle.rules.specs.Color as rules

-- a colour's four channels
abbrev pub color_of : Color → rules.Color
color_of c = record { r = c.r; g = c.g; b = c.b; a = c.a }

-- a sum of colours; the rules call the counter count
abbrev pub sum_of : ColorSum → rules.ColorSum
sum_of s = record { r = s.r; g = s.g; b = s.b; a = s.a; count = s.counter }

-- the five numbers of a sum, in a table from an index on
abbrev pub five_at : List ℕ → ℕ → rules.ColorSum
five_at table at = record {
  r = get_or table at 0;
  g = get_or table (at + 1) 0;
  b = get_or table (at + 2) 0;
  a = get_or table (at + 3) 0;
  count = get_or table (at + 4) 0;
}

-- a colour or none: `Some c` is c, and `None` is none
abbrev pub option_of : Option Color → math.Option rules.Color
option_of (Some c) = math.some (color_of c)
option_of None = math.none
