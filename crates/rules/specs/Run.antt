-- The whole run: stage 1, stage 2, and the outputs that are left (`Runner::run`; rules, sections 5 and 7).
use Rattle.std.specs.Prelude.{List, ℕ, ◌*◌, ltb, eqb, if◌then◌else◌}
use Rattle.rules.specs.Base.{keep}
use Rattle.rules.specs.Color.{RunnerConfig}
use Rattle.rules.specs.State.{State, cluster}
use Rattle.rules.specs.Stage1.{taken}
use Rattle.rules.specs.Stage2.{prepare_stage2, output_all, passes}

-- all pixels are taken (rule 5.2)
unfoldable pub stage1 : RunnerConfig → ℕ → ℕ → List ℕ → State
unfolding taken
stage1 o w h image = taken o w image (w * h) (w * h)

-- no cluster has more than w × h pixels, so the areas 1 to w × h are all
unfoldable pub stage2 : RunnerConfig → ℕ → ℕ → State → State
unfolding prepare_stage2 output_all passes
stage2 o w h s = if eqb o.hierarchical 0 then output_all (prepare_stage2 s) else passes o w h (w * h) (prepare_stage2 s)

-- at the end, entries whose sum counts nothing are dropped (rule 7.11; `result` of builder.rs)
unfoldable pub drop_empty : State → State
drop_empty s = record {
  labels = s.labels;
  clusters = s.clusters;
  next_index = s.next_index;
  outputs = keep (λ k. ltb 0 (cluster s k).sum.count) s.outputs;
  listed = s.listed;
  log = s.log;
}

-- both stages, and what is dropped at the end
unfoldable pub run : RunnerConfig → ℕ → ℕ → List ℕ → State
unfolding stage1 stage2 drop_empty
run o w h image = drop_empty (stage2 o w h (stage1 o w h image))
