use Prim.Native.Nat.{◌≤◌}
use Rattle.container.specs.Code.Quick.{LanesPass}
use Rattle.container.proofs.numbered.Numbered.lists_pass.Given as goal

-- the rests of the lanes decide on what was taken
abbrev pub invariant-loop-lanes : goal.invariant-loop-lanes
invariant-loop-lanes l = (l.lanes.left ≤ l.m) × LanesPass l.self.sheet.size l.self.sheet.links.now l.self.sheet.table.now l.self.sheet.outputs.now l.m l.lanes

abbrev pub decreases-loop-lanes : goal.decreases-loop-lanes
decreases-loop-lanes l = l.before
