use mathlib.Core.Path.{◌≡◌}
use Prim.Native.Nat.{◌≤◌}
use lib.ListN.{length}
use Rattle.rules.specs.Base.{each_back}
use Rattle.rules.specs.Paint.{paint_slot}
use Rattle.container.specs.Code.Checked.{EntriesPass}
use Rattle.container.proofs.Entries.{Middle}
use Rattle.container.proofs.checked.Sheet.paint_entries.Given as goal

-- the entries that are left give what is wanted
abbrev pub invariant-loop-left : goal.invariant-loop-left
invariant-loop-left l = let s = l.self in let paint = paint_slot s.links.now s.table.now in record {
  short : length l.left ≤ length l.fn.entries;
  passed : EntriesPass s l.left;
  middle : Middle s.size s.links.now s.table.now l.left l.mid;
  painted : each_back l.left paint l.picture ≡ each_back l.fn.entries paint l.initial.picture;
}

abbrev pub decreases-loop-left : goal.decreases-loop-left
decreases-loop-left l = length l.left
