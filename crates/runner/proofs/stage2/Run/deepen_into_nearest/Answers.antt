use native.Mathlib.Omega.{arith}
use borrow.Author.Tests.{le-leb, lt-leb}
use Rattle.runner.proofs.Visiting.{can-put, deepen-asks, deepened-grows, deepened-visited, hollow-asks, hollowed-grows, hollowed-visited}
use Rattle.runner.proofs.stage2.Run.deepen_into_nearest.Goals as goal

pub put_out-put-requires : goal.put_out-put-requires
put_out-put-requires c = can-put c.args.self.now.input.now.given c.requires.2.visiting

pub deepen_cluster_into-requires : goal.deepen_cluster_into-requires
deepen_cluster_into-requires c = let d = c.requires.2 in deepen-asks c.args.self.now.input.now.given d.visiting d.aimed

pub append_hole-requires : goal.append_hole-requires
append_hole-requires c = let d = c.requires.2 in hollow-asks c.args.self.now.input.now.given d.visiting d.aimed c.put_out-put.ensures c.deepen_cluster_into.ensures.deepened

pub grown-requires : goal.grown-requires
grown-requires c = let d = c.requires.2 in
    hollowed-grows c.args.self.now.input.now.given d.visiting d.aimed c.put_out-put.ensures c.deepen_cluster_into.ensures.deepened c.append_hole.ensures.hollowed

pub returns-then-near-self-clause-visited : goal.returns-then-near-self-clause-visited
returns-then-near-self-clause-visited c t₀ a d = let l = c.append_hole.ensures.lists in let g = c.grown.ensures in rw (l.0, l.1, l.2)
    (hollowed-visited c.args.self.now.input.now.given d.visiting d.aimed c.put_out-put.ensures c.deepen_cluster_into.ensures.deepened c.append_hole.ensures.hollowed (le-leb _ _ c.if-near-self.true) d.deepens (omega arith) g.same.slots g.same.numbers_long g.grown)

pub grown-requires-2 : goal.grown-requires-2
grown-requires-2 c = let d = c.requires.2 in deepened-grows c.args.self.now.input.now.given d.visiting d.aimed c.put_out-put.ensures c.deepen_cluster_into.ensures.deepened

pub returns-clause-visited : goal.returns-clause-visited
returns-clause-visited c t₀ a d = let g = c.grown-2.ensures in
    deepened-visited c.args.self.now.input.now.given d.visiting d.aimed c.put_out-put.ensures c.deepen_cluster_into.ensures.deepened (lt-leb _ _ c.if-near-self.false) d.deepens (omega arith) g.same.slots g.same.numbers_long g.grown
