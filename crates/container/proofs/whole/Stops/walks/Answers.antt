use mathlib.Core.Path.{refl}
use mathlib.Core.List.{List}
use Prim.Native.Nat.{ℕ, ◌+◌}
use native.Mathlib.Omega.{arith}
use Rattle.container.specs.Code.Leads.{Leads}
use Rattle.container.proofs.Leads.{leads-on, leads-more}
use Rattle.container.proofs.whole.Stops.walks.Goals as goal

-- four stretches, one after another
four : (size : ℕ) (links : List ℕ) (c d e f u v w x y : ℕ) → Leads size links u c v → Leads size links v d w → Leads size links w e x → Leads size links x f y → Leads size links u (c + d + e + f) y
four size links c d e f u v w x y k l m n = leads-on size links (c + d + e) f u x y (leads-on size links (c + d) e u w x (leads-on size links c d u v w k l) m) n

pub returns-clause-first : goal.returns-clause-first
returns-clause-first c = let s = c.args.self.sheet in
    four s.size s.links.now _ _ _ _ _ _ _ _ _ (c.walk-t.ensures.leads 0 (omega arith)) (c.walk-u.ensures.leads 0 (omega arith)) (c.walk-w.ensures.leads 0 (omega arith)) (c.walk-x.ensures.leads 0 (omega arith))

pub returns-clause-q : goal.returns-clause-q
returns-clause-q c = let s = c.args.self.sheet in
    let t = c.walk-t.ensures.leads 1 (omega arith) in
    let b = leads-more s.size s.links.now 0 c.args.self.q c.args.self.q refl c.args.self.q_some c.args.self.q_within in
    four s.size s.links.now _ _ _ _ _ _ _ _ _ (leads-on s.size s.links.now 1 c.walk-t.result.moved c.args.self.q _ _ (rw (c.follow.ensures.on 0 (omega arith)) b) t) (c.walk-u.ensures.leads 1 (omega arith)) (c.walk-v.ensures.leads 0 (omega arith)) (c.walk-y.ensures.leads 0 (omega arith))

pub returns-clause-r : goal.returns-clause-r
returns-clause-r c = let s = c.args.self.sheet in
    let t = c.walk-t.ensures.leads 2 (omega arith) in
    let d = leads-more s.size s.links.now 0 c.args.self.r c.args.self.r refl c.args.self.r_some c.args.self.r_within in
    four s.size s.links.now _ _ _ _ _ _ _ _ _ (leads-on s.size s.links.now 1 c.walk-t.result.moved c.args.self.r _ _ (rw (c.follow.ensures.on 1 (omega arith)) d) t) (c.walk-v.ensures.leads 1 (omega arith)) (c.walk-w.ensures.leads 1 (omega arith)) (c.walk-z.ensures.leads 0 (omega arith))
