use Rattle.std.proofs.Common.{ℕ, ◌<◌, ◌≤◌, get_or, rules}
use Rattle.container.proofs.Leads.{leads-more}
use Rattle.container.proofs.checked.Sheet.walk.Goals as goal

pub loop-moved-preserved : goal.loop-moved-preserved
loop-moved-preserved g c =
    let at = c.loop-moved.at in
    let s = c.args.self in
    let on : (i : ℕ) → i < g.row.N → (0 < get_or at i 0) × (get_or at i 0 ≤ s.size) = search rules in
    record {
      lanes = c.follow.ensures.length;
      leads = λ i l. rw (c.follow.ensures.on i l) (leads-more s.size s.links.now c.loop-moved.moved (get_or c.args.from i 0) (get_or at i 0) (c.loop-moved.invariant.leads i l) (on i l).0 (on i l).1);
    }
