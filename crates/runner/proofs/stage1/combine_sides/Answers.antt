use Rattle.runner.proofs.Stage1Steps.{left-into-up, up-into-left}
use Rattle.runner.proofs.stage1.combine_sides.Goals as goal

pub combine_clusters-requires : goal.combine_clusters-requires
combine_clusters-requires c = left-into-up c.requires.10

pub combine_clusters-requires-2 : goal.combine_clusters-requires-2
combine_clusters-requires-2 c = up-into-left c.requires.10
