use Rattle.container.specs.Code.Quick.{LanePasses}
use Rattle.container.proofs.numbered.Numbered.filled.Given as goal

-- the entries taken so far have no pixel
abbrev pub invariant-loop-before : goal.invariant-loop-before
invariant-loop-before l = LanePasses l.self.sheet.table.now l.self.sheet.outputs.now l.rest l.left (record { first = l.rest.first; count = 0 }) l.before
