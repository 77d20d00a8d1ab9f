use Rattle.std.proofs.Common.{sym, ◌*◌}
use native.Mathlib.Omega.{arith}
use Rattle.runner.specs.Types.{config_of}
use Rattle.runner.proofs.Runs.{ended, staged-length, staged-few, staged-in, is-clustered}
use Rattle.runner.specs.Code.Lists.{of_work}
use Rattle.runner.specs.Code.Stage2.{Staged}
use Rattle.runner.proofs.stage2.Run.both_stages.Goals as goal
use Rattle.runner.proofs.stage2.Run.both_stages.Goals.{After-stage_2-t}

-- what stage 2 leaves
left : (c : After-stage_2-t) → let p = c.args.self.now.input.now in
    of_work (Staged (p.w * p.h) (ended (config_of p.o) p.w p.h p.image.now) c.args.self.now.lists.now.table.now) c.stage_2-t.new.self c.label_image-n.result c.stage_2-t.result.m
left c = rw c.label_image-n.ensures.same.input at (c.stage_2-t.ensures.staged _ c.label_image-n.ensures.entered)

pub slice_bounds-drop_empty-end : goal.slice_bounds-drop_empty-end
slice_bounds-drop_empty-end c =
    let p = c.args.self.now.input.now in
    let r = c.requires in
    sym (staged-length (config_of p.o) p.w p.h p.image.now p.given.bytes _ r.can_run.table r.outputs (left (goal.at.slice_bounds-drop_empty-end c).After-stage_2-t))

pub drop_empty-m-requires : goal.drop_empty-m-requires
drop_empty-m-requires c =
    let p = c.args.self.now.input.now in
    let r = c.requires in
    let f = left (goal.at.drop_empty-m-requires c).After-stage_2-t in
    record {
      few = staged-few (config_of p.o) p.w p.h p.image.now p.given.bytes _ r.can_run.table r.outputs f (omega arith);
      slots = staged-in (config_of p.o) p.w p.h p.image.now p.given.bytes _ r.can_run.table r.outputs f;
    }

pub returns-clause-clustered : goal.returns-clause-clustered
returns-clause-clustered c = let p = c.args.self.now.input.now in
    let r = c.requires in
    is-clustered (config_of p.o) p.w p.h p.image.now p.given.bytes _ r.can_run.table r.outputs (left (goal.at.returns-clause-clustered c).After-stage_2-t) c.drop_empty-m.ensures
