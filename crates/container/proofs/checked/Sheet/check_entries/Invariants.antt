use mathlib.Core.Path.{◌≡◌}
use lib.ListN.{length}
use Rattle.rules.specs.Paint as rules
use Rattle.container.specs.Code.Checked.{entries_answer}
use Rattle.container.proofs.checked.Sheet.check_entries.Given as goal

-- the entries that are left answer
abbrev pub invariant-loop-k : goal.invariant-loop-k
invariant-loop-k l = let s = l.self in let rest = l.k-iterator.iter.rest.now in rules.entries_answer s.size s.n s.links.now s.table.now rest (length rest) ≡ entries_answer l.fn.self
