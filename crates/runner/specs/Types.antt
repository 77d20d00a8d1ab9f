-- The declared types as values of the rules.
use Rattle.std.specs.Prelude.{◌≡◌, ℕ, eqb, if◌then◌else◌, Result, Ok, Err}
use Rattle.rules.specs.Calls as calls
use Rattle.refusal.specs.declared.Refusal.{Refusal}
use Rattle.refusal.specs.Refusal.{number_of}
use Rattle.image.specs.declared.Counts.{Counts}
use Rattle.rules.specs.State as rules
use Rattle.rules.specs.Color as colors
use Rattle.color.specs.Colors.{color_of}
use Rattle.runner.specs.declared.bound.BoundingRect.{BoundingRect}
use Rattle.runner.specs.declared.buffers.Buffers.{Buffers}
use Rattle.runner.specs.declared.KeyingAction.{KeyingAction}
use Rattle.runner.specs.declared.KeyingAction.TheVariants.{Keep, Discard}
use Rattle.runner.specs.declared.RunnerConfig.{RunnerConfig}

-- a rectangle
abbrev pub rect_of : BoundingRect → rules.BoundingRect
rect_of r = record { left = r.left; top = r.top; right = r.right; bottom = r.bottom }

-- what is done with key pixels
abbrev pub action_of : KeyingAction → colors.KeyingAction
action_of Keep = colors.Keep
action_of Discard = colors.Discard

-- 0 keeps them, any other number discards them
abbrev pub action_at : ℕ → colors.KeyingAction
action_at action = if eqb action 0 then colors.Keep else colors.Discard

-- the settings, field by field
abbrev pub config_of : RunnerConfig → colors.RunnerConfig
config_of o = record {
  is_same_color_a = o.is_same_color_a;
  is_same_color_b = o.is_same_color_b;
  hierarchical = o.hierarchical;
  good_min_area = o.good_min_area;
  good_max_area = o.good_max_area;
  hollow_neighbours = o.hollow_neighbours;
  deepen_diff = o.deepen_diff;
  key_color = color_of o.key_color;
  keying_action = action_of o.keying_action;
}

-- the numbers that the buffers hold
abbrev pub buffers_of : Buffers → calls.Buffers
buffers_of b = calls.as_buffers b.labels.now b.links.now b.table.now b.outputs.now b.work.now

-- the same five buffers are lent after a call
pub record SameLoans (old new : Buffers) : Type 0 where
  pub labels : new.labels.ghost_name ≡ old.labels.ghost_name
  pub links : new.links.ghost_name ≡ old.links.ghost_name
  pub table : new.table.ghost_name ≡ old.table.ghost_name
  pub outputs : new.outputs.ghost_name ≡ old.outputs.ghost_name
  pub work : new.work.ghost_name ≡ old.work.ghost_name

-- what a run answers: its counts, or the number of the first check that failed and zero counts
abbrev pub ran_of : Result Counts Refusal → calls.Buffers → calls.Ran
ran_of (Ok counts) b = calls.answered 0 counts.n counts.m b
ran_of (Err refusal) b = calls.refused (number_of refusal) b
