-- Stretches painted in one colour: the order of the pixels does not matter. And the turns of a loop that goes along a stretch.
use mathlib.Core.Path.{◌≡◌, refl, sym, ap, ◌∙◌, subst}
use mathlib.Core.Logic.{◌≢◌}
use mathlib.Core.List.{List, [], ◌∷◌, ◌++◌}
use Prim.Native.Nat.{ℕ, zero, suc, ◌+◌, ◌*◌, ◌-◌, ◌/◌, ◌≤◌, ◌<◌}
use native.Mathlib.Decide.{ℕ_discrete}
use native.Mathlib.Omega.{arith}
use lib.Dec.{T, eqb, ltb}
use mathlib.Core.Bool.{false, ◌||◌}
use lib.ListN.{length, get_or, set}
use lib.Seq.{sets, set_comm}
use Rattle.rules.specs.Base.{each}
use Rattle.rules.specs.Color.{Color}
use Rattle.rules.specs.Layout.{walk}
use Rattle.rules.specs.Picture.{paint_pixel}
use Rattle.rules.specs.Paint.{reads}
use Rattle.rules.proofs.Walks.{step, walk_none, reads-turn}
use Rattle.container.specs.Code.Leads.{Leads}
use Rattle.container.specs.Code.Stretch.{paint_along}
use Rattle.container.proofs.Leads.{leads-on, leads-more, leads-reads, reads-leads, leads-walk}

set-sets : (vs l : List ℕ) (i j b : ℕ) → ((t : ℕ) → t < length vs → i + t ≢ j) → set (sets l i vs) j b ≡ sets (set l j b) i vs
set-sets [] l i j b h = refl
set-sets (a ∷ vs) l i j b h =
    set-sets vs (set l i a) (suc i) j b (λ t m e. h (suc t) (omega arith) (omega arith)) ∙ ap (λ m. sets m (suc i) vs) (set_comm l i j a b (λ e. h 0 (omega arith) (omega arith)))

-- stores to places that are apart, in either order
sets-sets : (ws vs l : List ℕ) (i j : ℕ) → ((t s : ℕ) → t < length vs → s < length ws → i + t ≢ j + s) → sets (sets l i vs) j ws ≡ sets (sets l j ws) i vs
sets-sets [] vs l i j h = refl
sets-sets (b ∷ ws) vs l i j h =
    ap (λ m. sets m (suc j) ws) (set-sets vs l i j b (λ t m e. h t 0 m (omega arith) (omega arith)))
    ∙ sets-sets ws vs (set l j b) i (suc j) (λ t s m n e. h t (suc s) m (omega arith) (omega arith))

each_append {ℓ} : {S : Type ℓ} (xs ys : List ℕ) (f : ℕ → S → S) (s : S) → each (xs ++ ys) f s ≡ each ys f (each xs f s)
each_append [] ys f s = refl
each_append (x ∷ xs) ys f s = each_append xs ys f (f x s)

module _ (c : Color) where
  -- two pixels, in either order
  pub paint-swap : (p q : ℕ) (l : List ℕ) → paint_pixel c p (paint_pixel c q l) ≡ paint_pixel c q (paint_pixel c p l)
  unfolding paint_pixel
  paint-swap p q l = pick (c.r ∷ c.g ∷ c.b ∷ c.a ∷ []) (omega arith) (ℕ_discrete p q)
    where
      pick : (vs : List ℕ) → length vs ≤ 4 → Dec (p ≡ q) → sets (sets l (4 * q) vs) (4 * p) vs ≡ sets (sets l (4 * p) vs) (4 * q) vs
      pick vs b (yes e) = rw e
      pick vs b (no n) = sets-sets vs vs l (4 * q) (4 * p) (λ t s m k e. n (omega arith))

  each-swap : (xs : List ℕ) (q : ℕ) (l : List ℕ) → each xs (paint_pixel c) (paint_pixel c q l) ≡ paint_pixel c q (each xs (paint_pixel c) l)
  each-swap [] q l = refl
  each-swap (x ∷ xs) q l = ap (each xs (paint_pixel c)) (paint-swap x q l) ∙ each-swap xs q (paint_pixel c x l)

  lists-swap : (xs ys l : List ℕ) → each xs (paint_pixel c) (each ys (paint_pixel c) l) ≡ each ys (paint_pixel c) (each xs (paint_pixel c) l)
  lists-swap xs [] l = refl
  lists-swap xs (y ∷ ys) l = lists-swap xs ys (paint_pixel c y l) ∙ ap (each ys (paint_pixel c)) (each-swap xs y l)

  module _ (links : List ℕ) where
    abbrev list : ℕ → ℕ → List ℕ
    list u n = walk (λ p. get_or links p 0) u n

    pub along-none : (u n : ℕ) (l : List ℕ) → n ≤ 0 → paint_along c links u n l ≡ l
    unfolding paint_along
    along-none u n l h = rw (walk_none (λ p. get_or links p 0) u n h)

    along_one : (size u : ℕ) (l : List ℕ) → T (reads size links u 1) → paint_along c links u 1 l ≡ paint_pixel c (u - 1) l
    unfolding paint_along walk
    along_one size u l r = let s = step size links u 1 (omega arith) r in rw s.here

    -- one stretch after another
    pub along-on : (size a b u v : ℕ) (l : List ℕ) → Leads size links u a v → paint_along c links u (a + b) l ≡ paint_along c links v b (paint_along c links u a l)
    unfolding paint_along
    along-on size a b u v l e = rw (leads-walk size links a b u v e) (each_append (list u a) (list v b) (paint_pixel c) l)

    -- one pixel more
    pub along-more : (size n m u v : ℕ) (l : List ℕ) → n + 1 ≡ m → Leads size links u n v → T (reads size links v 1) → paint_pixel c (v - 1) (paint_along c links u n l) ≡ paint_along c links u m l
    along-more size n m u v l h e r = rw (← h) (sym (along-on size n 1 u v l e ∙ along_one size v (paint_along c links u n l) r))

    -- two stretches, in either order
    along-swap : (a b u v : ℕ) (l : List ℕ) → paint_along c links u a (paint_along c links v b l) ≡ paint_along c links v b (paint_along c links u a l)
    unfolding paint_along
    along-swap a b u v l = lists-swap (list u a) (list v b) l

    pub both-none : (n u v : ℕ) (l : List ℕ) → n ≤ 0 → paint_along c links v n (paint_along c links u n l) ≡ l
    both-none n u v l h = along-none v n (paint_along c links u n l) h ∙ along-none u n l h

    -- one pixel of each of two stretches, and then the rest of both
    pub both-turn : (size n u v : ℕ) (l : List ℕ) → 0 < n → T (reads size links u n) → T (reads size links v n)
        → paint_along c links v n (paint_along c links u n l)
        ≡ paint_along c links (get_or links (v - 1) 0) (n - 1) (paint_along c links (get_or links (u - 1) 0) (n - 1) (paint_pixel c (v - 1) (paint_pixel c (u - 1) l)))
    unfolding paint_along
    both-turn size n u v l h r s =
        let x = step size links u n h r in
        let y = step size links v n h s in
        rw (x.here, y.here) (ap (each (list (get_or links (v - 1) 0) (n - 1)) (paint_pixel c)) (sym (each-swap (list (get_or links (u - 1) 0) (n - 1)) (v - 1) (paint_pixel c (u - 1) l))))

    -- two stretches painted a pixels each and then b pixels each
    pub both-on : (size a b u v w x : ℕ) (l : List ℕ) → Leads size links u a w → Leads size links v a x
        → paint_along c links x b (paint_along c links w b (paint_along c links v a (paint_along c links u a l))) ≡ paint_along c links v (a + b) (paint_along c links u (a + b) l)
    both-on size a b u v w x l e f =
        ap (paint_along c links x b) (along-swap b a w v (paint_along c links u a l) ∙ ap (paint_along c links v a) (sym (along-on size a b u w l e)))
        ∙ sym (along-on size a b v x (paint_along c links u (a + b) l) f)

    -- the first 2 half pixels from u, whose middle is v: `both` of each half and then the rest of each
    pub halves-painted : (size half both u v w x : ℕ) (l : List ℕ) → both ≤ half → Leads size links u half v → Leads size links u both w → Leads size links v both x
        → paint_along c links x (half - both) (paint_along c links w (half - both) (paint_along c links v both (paint_along c links u both l))) ≡ paint_along c links u (half + half) l
    halves-painted size half both u v w x l h e f g =
        let s : both + (half - both) ≡ half = omega arith in
        (rw s at (both-on size both (half - both) u v w x l f g)) ∙ sym (along-on size half half u v l e)

-- A cursor that goes along count links from `first` stands at `at` after i of them.
pub record Going (size : ℕ) (links : List ℕ) (first count at i : ℕ) : Type 0 where
  pub gone : Leads size links first i at
  pub rest : T (reads size links at (count - i))

module _ (size : ℕ) (links : List ℕ) where
  leads-same : (c u v w : ℕ) → Leads size links u c v → Leads size links u c w → v ≡ w
  leads-same zero u v w e f = sym e ∙ f
  leads-same (suc c) zero v w e f = absurd e
  leads-same (suc c) (suc p) v w e f = leads-same c (get_or links p 0) v w e.1 f.1

  -- a part of what can be read can be read
  pub reads-part : (n a b u v : ℕ) → a + b ≤ n → Leads size links u a v → T (reads size links u n) → T (reads size links v b)
  reads-part n a b u v h e r =
      let d = n - (a + b) in
      let s : n ≡ a + (b + d) = omega arith in
      let q = reads-leads size links a (b + d) u (subst (λ m. T (reads size links u m)) s r) in
      let w = reads-leads size links b d q.0 q.2 in
      let z : b + 0 ≡ b = omega arith in
      subst (λ x. T (reads size links x b)) (leads-same a u q.0 v q.1 e) (rw z at (leads-reads size links b 0 q.0 w.0 w.1 tt))

  -- and so can the first half
  pub reads_half : (n u : ℕ) → T (reads size links u n) → T (reads size links u (n / 2))
  reads_half n u r = reads-part n 0 (n / 2) u u (omega arith) refl r

  -- a links and then the rest of n
  pub leads-rest : (n a u v w : ℕ) → a ≤ n → Leads size links u a v → Leads size links v (n - a) w → Leads size links u n w
  leads-rest n a u v w h e f = let s : a + (n - a) ≡ n = omega arith in rw s at (leads-on size links a (n - a) u v w e f)

  -- `both` of the second half and then the rest of it
  pub halves-end : (half both u v x y : ℕ) → both ≤ half → Leads size links u half v → Leads size links v both x → Leads size links x (half - both) y → Leads size links u (half + half) y
  halves-end half both u v x y h e f g = leads-on size links half half u v y e (leads-rest half both v x y h f g)

module _ (size : ℕ) (links : List ℕ) (u n : ℕ) where
  -- it stands at a pixel
  pub going-on : (v i : ℕ) → i < n → Going size links u n v i → (0 < v) × (v ≤ size)
  going-on v i h g = let s = step size links v (n - i) (omega arith) g.rest in (s.some, s.within)

  pub going-turn : (v i : ℕ) → i < n → Going size links u n v i → Going size links u n (get_or links (v - 1) 0) (i + 1)
  going-turn v i h g =
      let s = step size links v (n - i) (omega arith) g.rest in
      let e : (n - i) - 1 ≡ n - (i + 1) = omega arith in
      record { gone = leads-more size links i u v g.gone s.some s.within; rest = rw e at s.rest }

-- a stretch is gone along
pub ruleset going = (going-on, going-turn, both-none, both-turn)

module _ (size : ℕ) (links : List ℕ) where
  -- one pixel of a list is read, and then the rest
  pub reads_turned : (at n i : ℕ) → i < n → (eqb at 0 || ltb size at) ≡ false → reads size links (get_or links (at - 1) 0) (n - (i + 1)) ≡ reads size links at (n - i)
  reads_turned at n i l t =
      let e : n - i - 1 ≡ n - (i + 1) = omega arith in
      rw (reads-turn size links at (n - i) (omega arith), t, e)
