use Rattle.std.proofs.Common.{rules}
use mathlib.Core.Path.{◌≡◌}
use mathlib.Core.List.{List}
use Prim.Native.Nat.{ℕ, ◌+◌, ◌*◌, ◌≤◌, ◌<◌}
use native.Mathlib.Omega.{arith}
use lib.ListN.{length}
use Rattle.rules.specs.Color.{RunnerConfig}
use Rattle.rules.specs.Layout.{slot_width}
use Rattle.runner.specs.Code.Slots.{cleared_slot}
use Rattle.runner.specs.Code.Given.{Given}
use Rattle.runner.specs.Code.Stage1.{Taking}
use Rattle.runner.proofs.SpanLaws.{row-end}
use Rattle.runner.proofs.Spots.{spot_of}
use Rattle.runner.proofs.Stage1Steps.{held-fresh, held_all}
use Rattle.runner.proofs.stage1.stage_1.Invariants.{Going}
use Rattle.runner.proofs.stage1.stage_1.Goals as goal
use Rattle.runner.proofs.stage1.stage_1.Goals.{After-take_pixels-t}

taking : {o : RunnerConfig} {w h shift : ℕ} {image L₀ K₀ B₀ E₀ L K B E : List ℕ} {n m i x y : ℕ} → Given o w h image shift → Going o w h image L₀ K₀ B₀ E₀ L K B E n m i x y → i < w * h
    → (t₀ : List ℕ) → B₀ ≡ cleared_slot t₀ 0 → slot_width * (w * h + 1) ≤ length t₀ → Taking o w h image shift i x y t₀ L K B E n m
taking G I l t₀ e r = record { given = G; spot = spot_of I.index I.column l; holding = I.held t₀ e r; room = r }

-- the pixels taken are on the image
inside : (c : After-take_pixels-t) → (let a = c.args in c.loop-at.at.i + c.take_pixels-t.result.pixels ≤ a.input.now.w * a.input.now.h)
inside c =
    omega (arith, c.take_pixels-t.ensures.pixels, row-end (spot_of c.loop-at.invariant.going.index c.loop-at.invariant.going.column c.loop-at-test.true))

pub loop-at-init : goal.loop-at-init
loop-at-init c =
    let B = c.requires in
    record {
      loans = search rules;
      going = record {
        index = omega arith;
        column = c.args.input.now.given.columns;
        within = omega arith;
        held = held-fresh _ _ _ _ B.labels B.links B.ends;
      };
    }

pub loop-at-preserved : goal.loop-at-preserved
loop-at-preserved c = let I = c.loop-at.invariant.going in
    record {
      loans = search rules;
      going = record {
        index = c.past-at.ensures.2;
        column = c.past-at.ensures.1;
        within = omega (arith, inside (goal.at.loop-at-preserved c).After-take_pixels-t);
        held = λ t₀ e r. rw c.past-at.ensures.0 (c.take_pixels-t.ensures.holding t₀ (taking c.args.input.now.given I c.loop-at-test.true t₀ e r));
      };
    }

pub returns-clause-holding : goal.returns-clause-holding
returns-clause-holding c = let I = c.loop-at.invariant.going in
    held_all _ _ _ _ (omega (arith, I.within, c.loop-at-test.false)) (I.held _ c.clear_slot.ensures c.requires.table)
