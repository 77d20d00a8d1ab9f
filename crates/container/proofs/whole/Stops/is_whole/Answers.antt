use mathlib.Core.Path.{◌≡◌, sym, ◌∙◌}
use mathlib.Core.Bool.{true, ◌&&◌}
use mathlib.Core.List.{List}
use Prim.Native.Nat.{ℕ, ◌+◌}
use native.Mathlib.Omega.{arith}
use borrow.Author.Tests.{eqb-true}
use lib.Dec.{eqb}
use Rattle.rules.proofs.Facts.{both_true}
use Rattle.container.specs.Code.Leads.{Leads}
use Rattle.container.proofs.Leads.{leads-on}
use Rattle.container.proofs.whole.Stops.is_whole.Goals as goal

-- three stretches of size links, one after another, that end with 0
joined : (size : ℕ) (links : List ℕ) (c d e u v w x y z : ℕ) → Leads size links u c x → Leads size links v d y → Leads size links w e z
    → c + d + e ≡ size → x ≡ v → y ≡ w → z ≡ 0 → Leads size links u size 0
joined size links c d e u v w x y z k l m n p q r =
    rw n at (leads-on size links (c + d) e u w 0 (leads-on size links c d u v w (rw p at k) (rw q at l)) (rw r at m))

-- what the comparison of three numbers says
each : (x y z u v w : ℕ) → eqb x u && (eqb y v && (eqb z w && true)) ≡ true → (x ≡ u) × (y ≡ v) × (z ≡ w)
each x y z u v w t =
    let s = both_true (eqb x u) _ t in
    let f = both_true (eqb y v) _ s.1 in
    (eqb-true x u s.0, eqb-true y v f.0, eqb-true z w (both_true (eqb z w) true f.1).0)

pub returns-then-eq : goal.returns-then-eq
returns-then-eq c e = let s = c.args.self.sheet in let l = c.walks.ensures in
    let t = each _ _ _ c.args.self.q c.args.self.r 0 (sym c.eq.ensures ∙ c.if-eq.true) in
    joined s.size s.links.now _ _ _ c.args.first c.args.self.q c.args.self.r _ _ _ l.first l.q l.r c.if-x-y.false t.0 t.1 t.2

pub returns : goal.returns
returns c e = let s = c.args.self.sheet in let l = c.walks.ensures in
    let t = each _ _ _ c.args.self.r 0 c.args.self.q (sym c.eq-2.ensures ∙ e) in
    joined s.size s.links.now _ _ _ c.args.first c.args.self.r c.args.self.q _ _ _ l.first l.r l.q (omega (arith, c.if-x-y.false)) t.0 t.2 t.1
