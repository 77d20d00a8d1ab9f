use Rattle.std.proofs.Common.{refl}
use mathlib.Core.List.{flatten}
use Rattle.rules.specs.Base.{up_to}
use Rattle.rules.specs.Stored.{stored_bytes}
use Rattle.sheet.proofs.stored.put_pairs.Goals as goal

pub loop-i-init : goal.loop-i-init
unfolding stored_bytes flatten up_to
loop-i-init g c = record { long = refl; written = λ f h p. refl }

pub put-requires-clause-small : goal.put-requires-clause-small
put-requires-clause-small g c = ((c.requires.small c.loop-i.i c.loop-i-test.true).1 _ c.pair-first.ensures).0

pub put-requires-in-loop-i-clause-small : goal.put-requires-in-loop-i-clause-small
put-requires-in-loop-i-clause-small g c = ((c.requires.small c.loop-i.i c.loop-i-test.true).1 _ c.pair-first.ensures).1
