use Rattle.std.proofs.Common.{◌≡◌, ◌-◌}
use Rattle.runner.specs.Code.Spans.{linked_from}
use Rattle.runner.proofs.spans.chain_links.Given as goal

abbrev pub invariant-loop-j : goal.invariant-loop-j
invariant-loop-j l = l.links ≡ linked_from l.initial.links l.i (l.j - l.i)
