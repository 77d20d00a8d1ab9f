use Rattle.std.proofs.Common.{rules, sym, ℕ}
use native.Mathlib.Omega.{arith}
use mathlib.Core.List.{List}
use Rattle.runner.specs.Code.Lists.{of_lists, of_input, of_work}
use Rattle.runner.specs.Code.Stage2.{Between, Chosen, Entered}
use Rattle.runner.proofs.Starting.{queue-fits, started}
use Rattle.runner.proofs.Turning.{slots-are, some-slots, chooses, ends, turns-left}
use Rattle.runner.proofs.stage2.Run.stage_2.Goals as goal
use Rattle.runner.proofs.stage2.Run.stage_2.Goals.{After-build, In-Some}

pub invariant_of-self : goal.invariant_of-self
invariant_of-self c = let f = queue-fits c.args.self.now.input.now.given c.requires.1 in (f.0, (f.1, tt))

-- before turn 0
begun : (c : After-build) (t₀ : List ℕ) → of_work (of_input Entered c.args.self.now.input.now t₀) c.args.self.now c.args.n
    → of_lists (of_input Between c.args.self.now.input.now t₀) c.prepare_stage_2-largest.new.b c.args.self.now.hole_ends.now c.build.new.self.numbers.now
    c.args.self.now.marks.now c.args.self.now.staged.now c.build.new.self.n
    (record { m = 0; turns = 0; largest = c.prepare_stage_2-largest.result })
begun c t₀ e = let p = c.prepare_stage_2-largest.ensures in
    let b = c.build.ensures in
    rw (p.kept.0, p.kept.1, p.kept.2) (started c.args.self.now.input.now.given e p.prepared p.same.slots p.same.numbers_long b.built b.same.slots b.same.numbers_long)

pub loop-e-init : goal.loop-e-init
loop-e-init c = record { same = search rules; running = record { some = (c.requires.0, begun c c.requires.0 c.requires.1); from = λ t₀ x. x } }

pub first-requires-clause-some : goal.first-requires-clause-some
first-requires-clause-some c = some-slots c.loop-e.self.input.now.given c.loop-e.invariant.running.some.1

pub returns-clause-staged : goal.returns-clause-staged
returns-clause-staged c t₀ e =
    let g = c.loop-e.self.input.now.given in
    let r = c.loop-e.invariant.running.from t₀ (begun (goal.at.returns-clause-staged c).After-build t₀ e) in
    rw (e.slots, ← c.loop-e.invariant.same.input, sym (slots-are g r)) (ends g r (rw c.in_default.is at c.first.ensures))

-- the slot of a turn
chosen : (c : In-Some) → of_input Chosen c.loop-e.self.input.now c.loop-e.t.turns c.in-Some.e.slot c.in-Some.e.key
chosen c = chooses c.loop-e.self.input.now.given c.loop-e.invariant.running.some.1 c.in-Some.e (rw c.in-Some.is at c.first.ensures)

pub turn-t-requires-clause-chosen : goal.turn-t-requires-clause-chosen
turn-t-requires-clause-chosen c = chosen (goal.at.turn-t-requires-clause-chosen c).In-Some

pub loop-e-smaller : goal.loop-e-smaller
loop-e-smaller c = rw c.turn-t.ensures.same.input (omega (arith, c.turn-t.ensures.turns, turns-left c.loop-e.self.input.now.given c.loop-e.invariant.running.some.1 (chosen (goal.at.loop-e-smaller c).In-Some)))

pub loop-e-preserved : goal.loop-e-preserved
loop-e-preserved c = let i = c.loop-e.invariant.running in
    record {
      same = search rules;
      running = record { some = (i.some.0, c.turn-t.ensures.turned i.some.0 i.some.1); from = λ t₀ x. c.turn-t.ensures.turned t₀ (i.from t₀ x) };
    }
