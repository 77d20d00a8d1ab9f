-- Stretches of a list along the links, put together and read.
use mathlib.Core.Path.{◌≡◌, refl, sym, ap}
use Rattle.std.specs.List.{All}
use Rattle.std.proofs.lemmas.List.Elements.{All-cons, All-nil}
use mathlib.Core.List.{List, [], ◌∷◌, ◌++◌}
use Prim.Native.Nat.{ℕ, zero, suc, ◌+◌, ◌-◌, ◌≤◌, ◌<◌}
use native.Mathlib.Nat.{not-suc-le-zero}
use native.Mathlib.Numerals.{sub-one}
use native.Mathlib.Omega.{arith}
use lib.Dec.{T, ltb, lt→ltb, ltb→lt}
use lib.ListN.{get_or}
use Rattle.rules.specs.Layout.{walk}
use Rattle.rules.specs.Paint.{reads}
use Rattle.rules.proofs.Facts.{T_and, T-both}
use Rattle.container.specs.Code.Leads.{Leads}

none-add : (d : ℕ) → 0 + d ≡ d
none-add d = omega arith

suc-add : (c d : ℕ) → suc c + d ≡ suc (c + d)
suc-add c d = omega arith

module _ (size : ℕ) (links : List ℕ) where
  -- one stretch after another
  pub leads-on : (c d u v w : ℕ) → Leads size links u c v → Leads size links v d w → Leads size links u (c + d) w
  leads-on zero d u v w e f = rw (none-add d, e) f
  leads-on (suc c) d zero v w e f = absurd e
  leads-on (suc c) d (suc p) v w e f = rw (suc-add c d) (e.0, leads-on c d (get_or links p 0) v w e.1 f)

  -- one link more
  pub leads-more : (c u v : ℕ) → Leads size links u c v → 0 < v → v ≤ size → Leads size links u (c + 1) (get_or links (v - 1) 0)
  leads-more c u zero e l b = absurd (not-suc-le-zero l)
  leads-more c u (suc p) e l b = leads-on c 1 u (suc p) (get_or links (suc p - 1) 0) e (omega arith, ap (λ x. get_or links x 0) (sym (sub-one (suc p))))

  -- what is read after a stretch is read with it
  pub leads-reads : (c d u v : ℕ) → Leads size links u c v → T (reads size links v d) → T (reads size links u (c + d))
  leads-reads zero d u v e r = rw (none-add d, e) r
  leads-reads (suc c) d zero v e r = absurd e
  leads-reads (suc c) d (suc p) v e r = rw (suc-add c d) (T_and (ltb p size) _ (lt→ltb p size e.0) (leads-reads c d (get_or links p 0) v e.1 r))

  -- what is read leads somewhere
  pub reads-leads : (c d u : ℕ) → T (reads size links u (c + d)) → (v : ℕ) × Leads size links u c v × T (reads size links v d)
  reads-leads zero d u r = (u, refl, rw (none-add d) at r)
  reads-leads (suc c) d zero r = absurd (rw (suc-add c d) at r)
  reads-leads (suc c) d (suc p) r =
      let s = T-both (ltb p size) _ (rw (suc-add c d) at r) in
      let q = reads-leads c d (get_or links p 0) s.1 in
      (q.0, (ltb→lt p size s.0, q.1), q.2)

  -- the pixels of two stretches, one after another
  pub leads-walk : (c d u v : ℕ) → Leads size links u c v → walk (λ p. get_or links p 0) u (c + d) ≡ walk (λ p. get_or links p 0) u c ++ walk (λ p. get_or links p 0) v d
  unfolding walk
  leads-walk zero d u v e = rw (none-add d, e)
  leads-walk (suc c) d zero v e = absurd e
  leads-walk (suc c) d (suc p) v e = rw (suc-add c d) (ap (λ l. p ∷ l) (leads-walk c d (get_or links p 0) v e.1))

-- a fact of each of two or three places
pub all-two : (P : ℕ → Type 0) (x y : ℕ) → P x → P y → All P (x ∷ y ∷ [])
all-two P x y a b = All-cons P x (y ∷ []) a (All-cons P y [] b (All-nil P))

pub all-three : (P : ℕ → Type 0) (x y z : ℕ) → P x → P y → P z → All P (x ∷ y ∷ z ∷ [])
all-three P x y z a b c = All-cons P x (y ∷ z ∷ []) a (all-two P y z b c)
