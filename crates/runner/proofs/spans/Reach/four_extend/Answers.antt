use Rattle.runner.proofs.SpanLaws as laws
use Rattle.runner.proofs.spans.Reach.four_extend.Goals as goal

pub returns-then-four_far-eq0 : goal.returns-then-four_far-eq0
returns-then-four_far-eq0 c e t b = let s = c.args.self in
    laws.four-extend s.limits.now c.requires.0 s.input.now.given.shifted b (s.limited t b) (c.four_far.ensures c.if-four_far-eq0.true) (c.four_in_cluster.ensures c.if-four_in_cluster.true) (c.four_free.ensures e)
