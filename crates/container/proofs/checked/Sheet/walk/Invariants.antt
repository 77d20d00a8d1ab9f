use Rattle.std.proofs.Common.{◌≡◌, ℕ, ◌<◌, get_or, length}
use Rattle.container.specs.Code.Leads.{Leads}
use Rattle.container.proofs.checked.Sheet.walk.Given as goal

abbrev pub invariant-loop-moved : goal.invariant-loop-moved
invariant-loop-moved g l = record {
  lanes : length l.at ≡ g.row.N;
  leads : (i : ℕ) → i < g.row.N → Leads l.self.size l.self.links.now (get_or l.fn.from i 0) l.moved (get_or l.at i 0);
}
