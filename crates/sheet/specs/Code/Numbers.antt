-- The numbers that are stored of a sheet.
use Rattle.std.specs.Prelude.{List, ℕ}
use Rattle.sheet.specs.Code.Stored.{parts}
use Rattle.sheet.specs.declared.stored.Stored.{Stored}

-- those of its parts
abbrev pub numbers : Stored → List ℕ
numbers s = parts s.sizes s.labels.now s.links.now s.slots.now s.outputs.now
