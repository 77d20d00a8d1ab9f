use mathlib.Core.Path.{◌≡◌}
use mathlib.Core.List.{List, []}
use Prim.Native.Nat.{ℕ, ◌+◌, ◌*◌, ◌≤◌, ◌<◌}
use lib.ListN.{length}
use Rattle.rules.specs.Stage2.{labels_around}
use Rattle.rules.proofs.Visits.{All}
use Rattle.runner.specs.Code.Pixels.{pixels}
use Rattle.runner.specs.Code.Neighbours.{diff_at, Scan, list_at}
use Rattle.runner.proofs.Nearest.{Holds}
use Rattle.runner.proofs.cluster.neighbours.Given as goal

-- The scan with these pixels to come: with the labels around them, what is found is what the rules find.
pub record Going (labels links table marks : List ℕ) (w h k visit : ℕ) (s : Scan) (left : List ℕ) : Type 0 where
  pub kept : length s.marks ≡ length marks
  pub within : All (λ p. p < w * h) left
  pub few : s.nearest.count + 4 * length left ≤ 8000000
  pub found : List ℕ
  pub holds : Holds (diff_at table k) visit s found
  pub rest : labels_around w h labels k left found ≡ labels_around w h labels k (list_at links table k) []

abbrev pub invariant-loop-p : goal.invariant-loop-p
invariant-loop-p l = let b = l.fn.b in
    Going b.labels.now b.links.now b.table.now l.initial.marks l.fn.input.w l.fn.input.h l.k l.visit (record { marks = l.marks; nearest = l.found }) (pixels l.p-iterator.links.now (record { first = l.p-iterator.next.now; count = l.p-iterator.left }))
