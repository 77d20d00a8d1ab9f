use Rattle.runner.proofs.Spots.{own-color}
use Rattle.runner.proofs.stage1.Seen.of.Goals as goal

pub invariant_of-result : goal.invariant_of-result
invariant_of-result c = let s = c.args.here in record {
  seen = record {
    own = own-color _ s.there s.input.now.given.whole _ _ c.in-Some.is c.pixel_at.ensures;
    to-left = c.left.ensures;
    to-up = c.up.ensures;
    to-up-left = c.up_left.ensures;
  };
}
