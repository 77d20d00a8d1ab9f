use Rattle.std.proofs.Common.{◌≡◌, ℕ, ◌-◌, ◌≤◌, ◌<◌, get_or, length}
use Rattle.container.proofs.checked.Sheet.follow.Given as goal

-- those before the index are one link on, and the others not yet
abbrev pub invariant-loop-v : goal.invariant-loop-v
invariant-loop-v g l = record {
  long : length l.at ≡ g.row.N;
  on : (i : ℕ) → i < l.v-index → get_or l.at i 0 ≡ get_or l.self.links.now (get_or l.fn.at i 0 - 1) 0;
  still : (i : ℕ) → l.v-index ≤ i → get_or l.at i 0 ≡ get_or l.fn.at i 0;
}
