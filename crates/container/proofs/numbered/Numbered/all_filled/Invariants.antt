use mathlib.Core.Path.{◌≡◌}
use mathlib.Core.List.{List}
use lib.ListN.{length}
use Prim.Native.Nat.{ℕ, ◌≤◌}
use Rattle.container.specs.Code.Quick.{LanesPass}
use Rattle.container.proofs.numbered.Numbered.all_filled.Given as goal

-- the rests of the lanes decide on what was taken
abbrev pub invariant-loop-i : goal.invariant-loop-i
invariant-loop-i l = record {
  at : length l.at ≡ 4;
  count : length l.count ≡ 4;
  left : l.left ≤ l.fn.lanes.left;
  pass : (size : ℕ) (links : List ℕ) (m : ℕ) → (let s = l.self.sheet in LanesPass size links s.table.now s.outputs.now m l.fn.lanes → LanesPass size links s.table.now s.outputs.now m (record { at = l.at; count = l.count; left = l.left }));
}
