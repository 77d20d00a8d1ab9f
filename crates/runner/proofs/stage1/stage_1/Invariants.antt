use mathlib.Core.Path.{◌≡◌}
use mathlib.Core.List.{List}
use Prim.Native.Nat.{ℕ, ◌+◌, ◌-◌, ◌*◌, ◌≤◌, ◌<◌}
use lib.ListN.{length}
use Rattle.rules.specs.Color.{RunnerConfig}
use Rattle.rules.specs.Stage1.{taken}
use Rattle.rules.specs.Layout.{slot_width}
use Rattle.runner.specs.Code.Slots.{cleared_slot}
use Rattle.runner.specs.Types.{config_of}
use Rattle.runner.specs.Code.Lists.{of_lists, SameLists}
use Rattle.runner.specs.Code.Stage1.{Holding}
use Rattle.runner.proofs.stage1.stage_1.Given as goal

-- i pixels are taken, and pixel i is at column x, row y. Slot 0 of some table t₀ was cleared before the loop.
pub record Going (o : RunnerConfig) (w h : ℕ) (image L₀ K₀ B₀ E₀ L K B E : List ℕ) (n m i x y : ℕ) : Type 0 where
  pub index : i ≡ w * y + x
  pub column : x < w
  pub within : i ≤ w * h
  pub held : (t₀ : List ℕ) → B₀ ≡ cleared_slot t₀ 0 → slot_width * (w * h + 1) ≤ length t₀ → Holding (w * h) (taken o w image (w * h) i) t₀ L K B E n m

abbrev pub invariant-loop-at : goal.invariant-loop-at
invariant-loop-at l = let p = l.input in
    record {
      loans : SameLists l.initial.b l.b;
      going : of_lists (of_lists (Going (config_of p.o) p.w p.h p.image.now) l.initial.b) l.b l.s.next_index l.s.count l.at.i l.at.x l.at.y;
    }

abbrev pub decreases-loop-at : goal.decreases-loop-at
decreases-loop-at l = l.size - l.at.i
