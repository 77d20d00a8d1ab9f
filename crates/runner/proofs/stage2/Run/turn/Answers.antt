use Rattle.std.proofs.Common.{rules, ap, ◌+◌, arith}
use Rattle.runner.proofs.Turning.{turns-left, inside, taken-off, turned}
use Rattle.runner.proofs.stage2.Run.turn.Goals as goal

pub set_key-requires-clause-k_lt_n : goal.set_key-requires-clause-k_lt_n
set_key-requires-clause-k_lt_n c = search (rules, inside)

pub visit-v-requires : goal.visit-v-requires
visit-v-requires c = (c.requires.by_index.0, search (rules, taken-off))

pub overflow_add-result : goal.overflow_add-result
overflow_add-result c = let b = c.requires.by_index in
    let d = c.visit-v.ensures.visited b.0 (search (rules, taken-off)) in
    omega (arith, d.same, turns-left c.args.self.now.input.now.given b.1 c.requires.chosen, c.args.self.now.input.now.given.small)

pub returns-clause-turned : goal.returns-clause-turned
returns-clause-turned c t₀ b = let same = c.visit-v.ensures.same.input in
    rw same (turned c.args.self.now.input.now.given b c.requires.chosen (rw same at c.visit-v.ensures.visited t₀ (search (rules, taken-off))))

pub returns-clause-turns : goal.returns-clause-turns
returns-clause-turns c = ap (λ x. x + 1) (c.visit-v.ensures.visited c.requires.by_index.0 (search (rules, taken-off))).same
