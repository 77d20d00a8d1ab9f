-- The pixels of a list whose links lead through them all.
use mathlib.Core.Path.{◌≡◌, refl, ap}
use mathlib.Core.Bool.{Bool, ◌||◌}
use mathlib.Core.List.{List, [], ◌∷◌}
use Prim.Native.Nat.{ℕ, zero, suc, ◌≤◌, ◌<◌}
use native.Mathlib.Nat.{not-suc-le-zero}
use native.Mathlib.Omega.{arith}
use lib.Dec.{T, ltb, ltb→lt, lt→ltb}
use lib.ListN.{length, get_or}
use Rattle.std.specs.List.{list_any}
use Rattle.image.specs.declared.PixelList.{PixelList}
use Rattle.rules.specs.Layout.{walk}
use Rattle.rules.specs.Paint.{reads}
use Rattle.rules.specs.Code.Order.{any_of}
use Rattle.rules.proofs.Facts.{T-both, T_and}
use Rattle.rules.proofs.Visits.{All}
use Rattle.runner.specs.Code.Pixels.{pixels, Readable}

walk-within : (size : ℕ) (links : List ℕ) (at left : ℕ) → T (reads size links at left) → All (λ p. p < size) (walk (λ p. get_or links p 0) at left)
unfolding walk
walk-within size links at zero r = tt
walk-within size links zero (suc n) r = absurd r
walk-within size links (suc p) (suc n) r = let b = T-both (ltb p size) _ r in (ltb→lt p size b.0, walk-within size links (get_or links p 0) n b.1)

walk-short : (next : ℕ → ℕ) (at left : ℕ) → length (walk next at left) ≤ left
unfolding walk
walk-short next at zero = omega arith
walk-short next zero (suc n) = omega arith
walk-short next (suc p) (suc n) = omega (arith, walk-short next (next p) n)

reads-wider : (size more : ℕ) (links : List ℕ) (at left : ℕ) → size ≤ more → T (reads size links at left) → T (reads more links at left)
reads-wider size more links at zero l r = tt
reads-wider size more links zero (suc n) l r = absurd r
reads-wider size more links (suc p) (suc n) l r =
    let b = T-both (ltb p size) _ r in T_and (ltb p more) _ (lt→ltb p more (omega (arith, ltb→lt p size b.0))) (reads-wider size more links (get_or links p 0) n l b.1)

-- each is in the image
pub pixels_within : (size : ℕ) (links : List ℕ) (list : PixelList) → Readable size links list → All (λ p. p < size) (pixels links list)
pixels_within size links list = walk-within size links list.first list.count

-- they are no more than the list has
pub pixels_few : (links : List ℕ) (list : PixelList) → length (pixels links list) ≤ list.count
pixels_few links list = walk-short (λ p. get_or links p 0) list.first list.count

-- and where there are more places, the links lead through them too
pub readable_wider : (size : ℕ) (links : List ℕ) (list : PixelList) → size ≤ length links → Readable size links list → Readable (length links) links list
readable_wider size links list = reads-wider size (length links) links list.first list.count

-- so is the one at any place
all-at : (P : ℕ → Type 0) (ps : List ℕ) → All P ps → (k d : ℕ) → k < length ps → P (get_or ps k d)
all-at P [] a k d l = absurd (not-suc-le-zero l)
all-at P (p ∷ ps) a zero d l = a.0
all-at P (p ∷ ps) a (suc k) d l = all-at P ps a.1 k d (omega arith)

pub pixel-within : (size : ℕ) (links : List ℕ) (list : PixelList) → Readable size links list → (p k : ℕ) → k < length (pixels links list) → p ≡ get_or (pixels links list) k p → p < size
pixel-within size links list r p k l e = rw e (all-at (λ q. q < size) (pixels links list) (pixels_within size links list r) k p l)

-- whether one of a list has f, in the library's words
pub any-of-is : (f : ℕ → Bool) (ps : List ℕ) → list_any f ps ≡ any_of f ps
any-of-is f [] = refl
any-of-is f (p ∷ ps) = ap (λ b. f p || b) (any-of-is f ps)
