use mathlib.Core.List.{List}
use Prim.Native.Nat.{ℕ, ◌-◌, ◌*◌}
use Rattle.runner.specs.declared.stage2.Run.{Run}
use Rattle.runner.specs.declared.stage2.Turns.{Turns}
use Rattle.runner.specs.Code.Lists.{of_run, SameRun}
use Rattle.runner.specs.Code.Stage2.{Between}
use Rattle.runner.proofs.stage2.Run.stage_2.Given as goal

-- The buffers hold the rules' state before turn t.turns, if at first, with ₀, they held that before turn 0; and so they do for some t₀.
pub record Running (r₀ : Run) (b : Turns) (r : Run) (t : Turns) : Type 0 where
  pub some : (t₀ : List ℕ) × of_run Between t₀ r t
  pub from : (t₀ : List ℕ) → of_run Between t₀ r₀ b → of_run Between t₀ r t

abbrev pub invariant-loop-e : goal.invariant-loop-e
invariant-loop-e l = record {
  same : SameRun l.initial.self l.self;
  running : Running l.initial.self l.initial.t l.self l.t;
}

abbrev pub decreases-loop-e : goal.decreases-loop-e
decreases-loop-e l = 2 * (l.self.input.now.w * l.self.input.now.h) - l.t.turns
