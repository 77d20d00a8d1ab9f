use native.Mathlib.Omega.{arith}
use Rattle.runner.proofs.Visiting.{own-fits, lengths-fit, deepens-told, deepens-reads, diff-told, merge-asks, merged-grows, merged-visited}
use Rattle.runner.proofs.stage2.Run.merge_into_nearest.Goals as goal

pub deepens-requires : goal.deepens-requires
deepens-requires c = let v = c.requires.by_index.1 in
    record { slot = own-fits c.args.self.now.input.now.given v; lengths = lengths-fit c.args.self.now.input.now.given v; list = deepens-reads c.args.self.now.input.now.given v c.requires.aimed; diff_bound = diff-told c.args.self.now.input.now.given v c.requires.aimed }

pub deepen_into_nearest-requires : goal.deepen_into_nearest-requires
deepen_into_nearest-requires c = let v = c.requires.by_index in
    (v.0, _, record { visiting = v.1; aimed = c.requires.aimed; deepens = deepens-told c.args.self.now.input.now.given v.1 c.requires.aimed c.deepens.ensures c.if-deepens.true })

pub returns-then-deepens-clause-visited : goal.returns-then-deepens-clause-visited
returns-then-deepens-clause-visited c t₀ v = c.deepen_into_nearest.ensures.visited t₀ _
    (record { visiting = v; aimed = c.requires.aimed; deepens = deepens-told c.args.self.now.input.now.given v c.requires.aimed c.deepens.ensures c.if-deepens.true })

pub merge_cluster_into-requires : goal.merge_cluster_into-requires
merge_cluster_into-requires c = merge-asks c.args.self.now.input.now.given c.requires.by_index.1 c.requires.aimed

pub grown-requires : goal.grown-requires
grown-requires c = merged-grows c.args.self.now.input.now.given c.requires.by_index.1 c.requires.aimed c.merge_cluster_into.ensures.merged

pub returns-clause-visited : goal.returns-clause-visited
returns-clause-visited c t₀ v = let g = c.grown.ensures in
    merged-visited c.args.self.now.input.now.given v c.requires.aimed c.merge_cluster_into.ensures.merged (deepens-told c.args.self.now.input.now.given v c.requires.aimed c.deepens.ensures c.if-deepens.false) (omega arith) g.same.slots g.same.numbers_long g.grown
