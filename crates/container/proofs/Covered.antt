-- A picture of one colour; and a list of all pixels, which fills the picture when it is painted.
use mathlib.Core.Path.{◌≡◌, refl, sym, ap, ◌∙◌, subst}
use mathlib.Core.Logic.{◌≢◌, by_cases}
use mathlib.Core.Bool.{Bool, true}
use mathlib.Core.List.{List, ◌∷◌}
use Prim.Native.Nat.{ℕ, zero, suc, ◌+◌, ◌*◌, ◌/◌, ◌%◌, ◌≤◌, ◌<◌}
use native.Mathlib.Decide.{ℕ_discrete}
use native.Mathlib.Nat.{div-add-mod, mod-lt, not-suc-le-zero}
use native.Mathlib.Omega.{arith}
use lib.Dec.{T, ltb, lt→ltb, ltb→lt}
use lib.ListN.{length, get_or}
use lib.Seq.{ext_get_or}
use Rattle.rules.specs.Base.{each}
use Rattle.rules.specs.Color.{Color, pixel}
use Rattle.rules.specs.Layout.{walk}
use Rattle.rules.specs.Picture.{paint_pixel}
use Rattle.rules.specs.Claim.{bit, occurs, count_of}
use Rattle.rules.proofs.Facts.{eqb_yes, eqb_no, count_of-lt}
use Rattle.rules.proofs.Painting.{pixel-same, pixel-other, each-length, each_in}
use Rattle.rules.proofs.Layouts.{spread, spread_at}
use Rattle.container.specs.Code.Leads.{Leads}
use Rattle.container.specs.Code.Uniform.{bytes_of, uniform}

-- ---- a picture of one colour

filled-length : (c : Color) (size : ℕ) → length (uniform c size) ≡ 4 * size
unfolding uniform
filled-length c size = spread (λ p. bytes_of c) 4 (λ p. refl) size

filled_at : (c : Color) (size p j : ℕ) → p < size → j < 4 → get_or (uniform c size) (4 * p + j) 0 ≡ get_or (bytes_of c) j 0
unfolding uniform
filled_at c size p j l b = spread_at (λ p. bytes_of c) 4 (λ p. refl) size p j l b

byte : (l : List ℕ) (p j : ℕ) → j < 4 → get_or l (4 * p + j) 0 ≡ get_or (bytes_of (pixel l p)) j 0
unfolding pixel
byte l p zero b = ap (λ i. get_or l i 0) (omega arith)
byte l p (suc zero) b = refl
byte l p (suc (suc zero)) b = refl
byte l p (suc (suc (suc zero))) b = refl
byte l p (suc (suc (suc (suc j)))) b = absurd (omega arith)

-- every place of a picture is a byte of one of its pixels
split : (P : ℕ → Type 0) → ((p j : ℕ) → j < 4 → P (4 * p + j)) → (i : ℕ) → P i
split P f i = subst P (div-add-mod i 4) (f (i / 4) (i % 4) (mod-lt i (omega arith)))

-- the first n pixels have colour c
pub record Begins (n : ℕ) (c : Color) (l : List ℕ) : Type 0 where
  pub each : (p : ℕ) → p < n → pixel l p ≡ c

pub begins-none : (c : Color) (l : List ℕ) → Begins 0 c l
begins-none c l = record { each = λ p b. absurd (not-suc-le-zero b) }

pub begins-more : (c : Color) (n : ℕ) (l : List ℕ) → 4 * n + 3 < length l → Begins n c l → Begins (n + 1) c (paint_pixel c n l)
begins-more c n l h f = record { each = λ p b. elim (ℕ_discrete p n) [ yes e ↦ rw e (pixel-same c n l h) | no d ↦ pixel-other c n l p d ∙ f.each p (omega arith) ] }

pub begins-all : (c : Color) (size : ℕ) (l : List ℕ) → length l ≡ 4 * size → Begins size c l → l ≡ uniform c size
begins-all c size l e f =
    ext_get_or 0 l (uniform c size) (e ∙ sym (filled-length c size))
    (split (λ i. i < length l → get_or l i 0 ≡ get_or (uniform c size) i 0)
    (λ p j b h. let m : p < size = omega arith in byte l p j b ∙ ap (λ x. get_or (bytes_of x) j 0) (f.each p m) ∙ sym (filled_at c size p j m b)))

-- a picture is filled pixel by pixel
pub ruleset fills = (begins-none, begins-more, begins-all)

-- ---- a list of all pixels

abbrev named : List ℕ → ℕ → Bool
named ps q = ltb 0 (occurs q ps)

name : (ps : List ℕ) (q : ℕ) → T (named ps q) → 0 < occurs q ps
name ps q t = ltb→lt 0 (occurs q ps) t

count-all : (n : ℕ) → count_of (λ q. true) n ≡ n
unfolding count_of
count-all zero = refl
count-all (suc n) = omega (arith, count-all n)

module _ (size : ℕ) (links : List ℕ) where
  -- the pixels of a list
  pixels : ℕ → ℕ → List ℕ
  pixels u c = walk (λ p. get_or links p 0) u c

  -- the number of links to the end is determined
  leads-once : (c d u : ℕ) → Leads size links u c 0 → Leads size links u d 0 → c ≡ d
  leads-once zero zero u e f = refl
  leads-once zero (suc d) zero e f = absurd f
  leads-once zero (suc d) (suc p) e f = absurd (omega arith)
  leads-once (suc c) zero zero e f = absurd e
  leads-once (suc c) zero (suc p) e f = absurd (omega arith)
  leads-once (suc c) (suc d) zero e f = absurd e
  leads-once (suc c) (suc d) (suc p) e f = ap suc (leads-once c d (get_or links p 0) e.1 f.1)

  -- from a pixel of a list its rest leads to the end
  rest : (c u q : ℕ) → Leads size links u c 0 → 0 < occurs q (pixels u c) → (d : ℕ) × (d ≤ c) × Leads size links (suc q) d 0
  unfolding walk pixels
  rest zero u q e o = absurd (omega arith)
  rest (suc c) zero q e o = absurd e
  rest (suc c) (suc p) q e o = by_cases (ℕ_discrete q p)
      (λ z. (suc c, omega arith, rw z e))
      (λ z. let s = rest c (get_or links p 0) q e.1 (omega (arith, ap bit (eqb_no q p z))) in (s.0, omega (arith, s.1), s.2))

  -- so no pixel stands twice: the list names as many pixels as it is long
  many : (c u : ℕ) → Leads size links u c 0 → c ≤ count_of (named (pixels u c)) size
  unfolding walk pixels
  many zero u e = omega arith
  many (suc c) zero e = absurd e
  many (suc c) (suc p) e =
      omega (arith, many c (get_or links p 0) e.1, count_of-lt (named ps) (named (p ∷ ps)) (λ q t. later q (name ps q t)) size p e.0 here (λ t. twice (name ps p t)))
    where
      ps : List ℕ
      ps = pixels (get_or links p 0) c

      here : T (named (p ∷ ps) p)
      here = lt→ltb 0 (occurs p (p ∷ ps)) (omega (arith, ap bit (eqb_yes p p refl)))

      later : (q : ℕ) → 0 < occurs q ps → T (named (p ∷ ps) q)
      later q o = lt→ltb 0 (occurs q (p ∷ ps)) (omega arith)

      twice : 0 < occurs p ps → ⊥
      twice o = let r = rest c (get_or links p 0) p e.1 o in omega (arith, r.1, leads-once (suc c) r.0 (suc p) e r.2)

  -- a list of size pixels names every pixel
  every : (u : ℕ) → Leads size links u size 0 → (q : ℕ) → q < size → occurs q (pixels u size) ≢ 0
  every u e q l z =
      omega (arith, many size u e, count-all size, count_of-lt (named (pixels u size)) (λ p. true) (λ p t. tt) size q l tt (λ t. omega (arith, z, name (pixels u size) q t)))

-- painting a list of size pixels that ends fills the picture
pub whole-fill : (size : ℕ) (links : List ℕ) (first : ℕ) (c : Color) (picture : List ℕ) → length picture ≡ 4 * size → Leads size links first size 0
    → each (walk (λ p. get_or links p 0) first size) (paint_pixel c) picture ≡ uniform c size
unfolding pixels
whole-fill size links first c picture e a =
    let ps = walk (λ p. get_or links p 0) first size in
    begins-all c size (each ps (paint_pixel c) picture) (each-length c ps picture ∙ e) (record { each = λ p l. each_in c p ps picture (omega arith) (every size links first a p l) })
