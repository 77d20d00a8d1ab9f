use mathlib.Core.Path.{◌≡◌}
use Prim.Native.Nat.{◌-◌}
use Rattle.rules.specs.Paint.{reads}
use Rattle.container.proofs.checked.Sheet.is_listed.Given as goal

-- what is left of the list decides
abbrev pub invariant-loop-step : goal.invariant-loop-step
invariant-loop-step l = reads l.self.size l.self.links.now l.at (l.fn.list.count - l._step) ≡ reads l.self.size l.self.links.now l.fn.list.first l.fn.list.count
