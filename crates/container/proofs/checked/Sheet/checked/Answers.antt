use Rattle.std.proofs.Common.{rules, sym}
use lib.ListN.{length}
use Rattle.container.proofs.Accepted.{CanPaint, can-paint, accepted}
use Rattle.container.proofs.checked.Sheet.checked.Goals as goal

pub invariant_of-result : goal.invariant_of-result
invariant_of-result c = let s = c.args.clusters in
    let size = c.in_ok-size.ensures in
    let e = accepted s.size.w s.size.h _ _ _ (length c.args.picture.now) _ _ c.in_ok-size.size size.pixels size.answer (search rules) in
    let p : CanPaint c.in_ok-size.size s.counts.n (length s.links.now) (length s.table.now) =
    rw size.pixels (can-paint s.size.w s.size.h _ _ _ _ _ _ (sym e)) in
    record { some = p.some; small = p.small; links_fit = p.links-fit; table_fits = p.table_fits }
