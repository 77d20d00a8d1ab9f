use Rattle.std.proofs.Common.{◌≡◌, length, take}
use Rattle.std.proofs.Math.Seq.{sets}
use Rattle.rules.specs.Stored.{stored_bytes}
use Rattle.sheet.proofs.stored.put_all.Given as goal

-- the numbers before i are written
abbrev pub invariant-loop-i : goal.invariant-loop-i
invariant-loop-i l = record {
  long : length l.destination ≡ length l.initial.destination;
  written : l.destination ≡ sets l.initial.destination 0 (stored_bytes (take l.i l.numbers));
}
