-- The four lists of a builder, and what a run has beside them.
use Rattle.std.specs.Prelude.{◌≡◌, List, ℕ, length}
use Rattle.rules.specs.Color.{RunnerConfig}
use Rattle.runner.specs.declared.builder.Builder.{Builder}
use Rattle.runner.specs.declared.input.Input.{Input}
use Rattle.runner.specs.declared.input.Here.{Here}
use Rattle.runner.specs.declared.stage2.Run.{Run}
use Rattle.runner.specs.Types.{config_of}

-- f of labels, links, table and ends
abbrev pub of_lists : {A : Type 1} → (List ℕ → List ℕ → List ℕ → List ℕ → A) → Builder → A
of_lists f b = f b.labels.now b.links.now b.table.now b.ends.now

-- the same four slices are lent after a call, as long as before
pub record SameLists (old new : Builder) : Type 0 where
  pub labels : new.labels.ghost_name ≡ old.labels.ghost_name
  pub links : new.links.ghost_name ≡ old.links.ghost_name
  pub table : new.table.ghost_name ≡ old.table.ghost_name
  pub ends : new.ends.ghost_name ≡ old.ends.ghost_name
  pub labels_long : length new.labels.now ≡ length old.labels.now
  pub links_long : length new.links.now ≡ length old.links.now
  pub table_long : length new.table.now ≡ length old.table.now
  pub ends_long : length new.ends.now ≡ length old.ends.now

-- f of settings, width, height and image
abbrev pub of_input : {A : Type 1} → (RunnerConfig → ℕ → ℕ → List ℕ → A) → Input → A
of_input f p = f (config_of p.o) p.w p.h p.image.now

-- f of the same, of the shift, and of a pixel's number, column and row
abbrev pub of_here : {A : Type 1} → (RunnerConfig → ℕ → ℕ → List ℕ → ℕ → ℕ → ℕ → ℕ → A) → Here → A
of_here f p = of_input f p.input.now p.input.now.shift p.at.i p.at.x p.at.y

-- f of labels, links, table and ends, ends of the hole lists, queue, marks and staged outputs
abbrev pub of_work : {A : Type 1} → (List ℕ → List ℕ → List ℕ → List ℕ → List ℕ → List ℕ → List ℕ → List ℕ → A)
    → Run → A
of_work f r = of_lists f r.lists.now r.hole_ends.now r.queue.now.numbers.now r.marks.now r.staged.now

-- f of what is given, a list, the same eight, and the number of slots in the queue
abbrev pub of_run : {A : Type 1}
    → (RunnerConfig → ℕ → ℕ → List ℕ → List ℕ → List ℕ → List ℕ → List ℕ → List ℕ → List ℕ → List ℕ → List ℕ → List ℕ
    → ℕ → A)
    → List ℕ → Run → A
of_run f t₀ r = of_work (of_input f r.input.now t₀) r r.queue.now.n

-- the same slices are lent after a call, as long as before, and the same is given
pub record SameRun (old new : Run) : Type 0 where
  pub builder : new.lists.ghost_name ≡ old.lists.ghost_name
  pub lists : SameLists old.lists.now new.lists.now
  pub hole_ends : new.hole_ends.ghost_name ≡ old.hole_ends.ghost_name
  pub queue : new.queue.ghost_name ≡ old.queue.ghost_name
  pub numbers : new.queue.now.numbers.ghost_name ≡ old.queue.now.numbers.ghost_name
  pub marks : new.marks.ghost_name ≡ old.marks.ghost_name
  pub staged : new.staged.ghost_name ≡ old.staged.ghost_name
  pub hole_ends_long : length new.hole_ends.now ≡ length old.hole_ends.now
  pub numbers_long : length new.queue.now.numbers.now ≡ length old.queue.now.numbers.now
  pub marks_long : length new.marks.now ≡ length old.marks.now
  pub staged_long : length new.staged.now ≡ length old.staged.now
  pub input : new.input.now ≡ old.input.now
