use mathlib.Core.Path.{◌∙◌}
use Rattle.color.specs.Colors.{sum_of}
use Rattle.runner.specs.Code.Slots.{Adds}
use Rattle.runner.proofs.Ops.{residue-append}
use Rattle.runner.proofs.Slots.{adds-taken}
use Rattle.runner.proofs.builder.Builder.merge_cluster_into.Goals as goal

pub combine_clusters-requires : goal.combine_clusters-requires
combine_clusters-requires c = rw c.save_residue.ensures (residue-append _ _ _ c.requires.append)

pub returns-clause-merged : goal.returns-clause-merged
returns-clause-merged c = let fit : Adds (sum_of c.load_residue.result) (sum_of c.load_residue-2.result) = rw (c.load_residue-2.ensures, c.load_residue.ensures) c.requires.residue in
    record {
      r = c.plus-r.result;
      residue = rw (← c.load_residue-2.ensures, ← c.load_residue.ensures) (c.plus-r.ensures ∙ adds-taken fit);
      combined = rw (← c.save_residue.ensures) c.combine_clusters.ensures.combined;
    }
