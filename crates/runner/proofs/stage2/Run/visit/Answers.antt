use mathlib.Core.Bool.{true}
use native.Mathlib.Omega.{arith}
use Rattle.runner.proofs.Visiting.{few-turns, can-put, put-visited, visit-puts, visit-whole, visit-scans, scanned, aims, visit-alone}
use Rattle.runner.proofs.stage2.Run.visit.Goals as goal

pub put_out-requires : goal.put_out-requires
put_out-requires c = can-put c.args.self.now.input.now.given c.requires.1

pub returns-then-self-e-clause-visited : goal.returns-then-self-e-clause-visited
returns-then-self-e-clause-visited c t₀ v = put-visited c.args.self.now.input.now.given v true (visit-puts c.args.self.now.input.now.given v c.if-self-e.true) (omega arith) c.put_out.ensures

pub isolated-requires : goal.isolated-requires
isolated-requires c = can-put c.args.self.now.input.now.given c.requires.1

pub returns-then-e-self-clause-visited : goal.returns-then-e-self-clause-visited
returns-then-e-self-clause-visited c t₀ v = put-visited c.args.self.now.input.now.given v _ (visit-whole c.args.self.now.input.now.given v c.if-self-e.false c.if-e-self.true) (omega arith) c.isolated.ensures

pub overflow_add-t : goal.overflow_add-t
overflow_add-t c = let v = c.requires.1 in omega (arith, few-turns c.args.self.now.input.now.given v, c.args.self.now.input.now.given.small)

pub neighbours-near-requires : goal.neighbours-near-requires
neighbours-near-requires c = visit-scans c.args.self.now.input.now.given c.requires.1 (omega arith)

pub isolated-requires-then-near-eq0 : goal.isolated-requires-then-near-eq0
isolated-requires-then-near-eq0 c = can-put c.args.self.now.input.now.given c.requires.1

pub returns-then-near-eq0-clause-visited : goal.returns-then-near-eq0-clause-visited
returns-then-near-eq0-clause-visited c t₀ v = let n = c.neighbours-near in
    put-visited c.args.self.now.input.now.given (scanned c.args.self.now.input.now.given v n.new.marks n.auto.marks n.ensures.marked) _ (visit-alone c.args.self.now.input.now.given v n.result n.ensures.nearest c.if-self-e.false c.if-near-eq0.true) (omega arith) c.isolated-then-near-eq0.ensures

pub merge_into_nearest-requires-clause-aimed : goal.merge_into_nearest-requires-clause-aimed
merge_into_nearest-requires-clause-aimed c = let n = c.neighbours-near in aims c.args.self.now.input.now.given c.requires.1 n.result n.ensures.nearest c.if-self-e.false (omega (arith, c.if-near-eq0.false))

pub returns-clause-visited : goal.returns-clause-visited
returns-clause-visited c t₀ v = let n = c.neighbours-near in c.merge_into_nearest.ensures.visited t₀ (scanned c.args.self.now.input.now.given v n.new.marks n.auto.marks n.ensures.marked)
