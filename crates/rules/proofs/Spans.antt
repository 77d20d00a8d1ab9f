-- A span of stage 1, added at once, is its pixels taken one by one.
use mathlib.Core.Path.{◌≡◌, refl, sym, ap, ap₂, ◌∙◌}
use mathlib.Core.Bool.{Bool, true, false, ◌&&◌, true≢false}
use mathlib.Core.List.{List, [], ◌∷◌, ◌++◌, append_assoc}
use mathlib.Core.Option.{some}
use Prim.Native.Nat.{ℕ, zero, suc, ◌+◌, ◌-◌, ◌*◌, ◌/◌, ◌%◌, ◌^◌, ◌≤◌, ◌<◌, min, max}
use native.Mathlib.Decide.{ℕ_discrete}
use native.Mathlib.Nat.{mul-add-mod_self_left, mul-add-div, mod-eq_of_lt, div-eq_of_lt, le-mul_of_pos_right}
use native.Mathlib.Omega.{arith}
use borrow.Author.Tests.{lt-ltb, le-leb}
use lib.IntN.{ℤ, pos, negsuc}
use lib.ListN.{length, get_or, set, length-set, length-append}
use lib.Seq.{get_or-set_same, get_or-set_other, set-set}
use Rattle.rules.specs.Base.{times, apart}
use Rattle.rules.specs.Color.{Color, ColorSum, RunnerConfig, zero_sum, sum_of_one, ◌⊕◌, pixel, color_same, is_same}
use Rattle.rules.specs.Grid.{up, left, up_left}
use Rattle.rules.specs.State.{State, fresh, Cluster, BoundingRect, Event, added, new_cluster, cluster, area, label, is_empty, merge_rect, pixel_rect, with_pixel, with_cluster, add_pixel}
use Rattle.rules.specs.Stage1.{color_at, same_at, is_key, label_at, left_meets_up, place, take_pixel, taken}
use Rattle.rules.specs.Layout.{first_of}
use Rattle.rules.specs.Code.Ranges.{Fits}
use Rattle.rules.specs.Code.Spans.{up_from, set_from, sum_from, span_rect, span_of, logged, add_span, steps_from, Span, InnerSpan, AllExtend, NearBytes}
use Rattle.rules.proofs.Facts.{eqb_yes, eqb_no, ⊕-assoc, ⊕-comm, ⊕-none}

-- ---- rectangles

four : {l t r b l' t' r' b' : ℕ} → l ≡ l' → t ≡ t' → r ≡ r' → b ≡ b' → ◌≡◌ {A = BoundingRect} (record { left = l; top = t; right = r; bottom = b }) (record { left = l'; top = t'; right = r'; bottom = b' })
four e f g h = cc

-- a rectangle with a width is not empty
wide : (a : BoundingRect) → a.left < a.right → is_empty a ≡ false
unfolding is_empty
wide a l = rw (eqb_no a.right a.left (λ e. omega (arith, e)))

module _ (a b : BoundingRect) (some-b : is_empty b ≡ false) where
  merge-first : is_empty a ≡ true → merge_rect a b ≡ b
  unfolding merge_rect
  merge-first e = rw (some-b, e)

  merge-both : is_empty a ≡ false → merge_rect a b ≡ record { left = min a.left b.left; top = min a.top b.top; right = max a.right b.right; bottom = max a.bottom b.bottom }
  unfolding merge_rect
  merge-both e = rw (some-b, e)

-- the span's rectangle grows by the next pixel
rect-more : (a : BoundingRect) (x y n : ℕ) → 0 < n → merge_rect (merge_rect a (span_rect x y n)) (pixel_rect (x + n) y) ≡ merge_rect a (span_rect x y (suc n))
unfolding span_rect pixel_rect
rect-more a x y n l = pick (is_empty a) refl
  where
    R : ℕ → BoundingRect
    R = span_rect x y

    P : BoundingRect
    P = pixel_rect (x + n) y

    both : BoundingRect
    both = record { left = min a.left (R n).left; top = min a.top (R n).top; right = max a.right (R n).right; bottom = max a.bottom (R n).bottom }

    r : (m : ℕ) → 0 < m → is_empty (R m) ≡ false
    r m z = wide (R m) (omega arith)

    p : is_empty P ≡ false
    p = wide P (omega arith)

    pick : (b : Bool) → is_empty a ≡ b → merge_rect (merge_rect a (R n)) P ≡ merge_rect a (R (suc n))
    pick true e =
        ap (λ q. merge_rect q P) (merge-first a (R n) (r n l) e) ∙ merge-both (R n) P p (r n l) ∙ four (omega arith) (omega arith) (omega arith) (omega arith)
        ∙ sym (merge-first a (R (suc n)) (r (suc n) (omega arith)) e)
    pick false e =
        ap (λ q. merge_rect q P) (merge-both a (R n) (r n l) e) ∙ merge-both both P p (wide both (omega arith)) ∙ four (omega arith) (omega arith) (omega arith) (omega arith)
        ∙ sym (merge-both a (R (suc n)) (r (suc n) (omega arith)) e)

-- ---- the span as a cluster

-- a cluster with other pixels, sum and rectangle
abbrev cluster_with : Cluster → List ℕ → ColorSum → BoundingRect → Cluster
cluster_with t ps s r = record { pixels = ps; sum = s; residue = t.residue; rect = r; merged_into = t.merged_into; depth = t.depth; holes = t.holes }

same-cluster : (t : Cluster) {ps qs : List ℕ} {s z : ColorSum} {r q : BoundingRect} → ps ≡ qs → s ≡ z → r ≡ q → cluster_with t ps s r ≡ cluster_with t qs z q
same-cluster t e f g = cc

-- a state with other labels, clusters and log
abbrev state_with : State → List ℕ → List Cluster → List Event → State
state_with s ls cs es = record { labels = ls; clusters = cs; next_index = s.next_index; outputs = s.outputs; listed = s.listed; log = es }

same-state : (s : State) {ls ms : List ℕ} {cs ds : List Cluster} {es fs : List Event} → ls ≡ ms → cs ≡ ds → es ≡ fs → state_with s ls cs es ≡ state_with s ms ds fs
same-state s e f g = cc

module _ (image : List ℕ) (i x y : ℕ) where
  -- of one pixel
  pub span-first : (t : Cluster) → with_cluster (span_of image i x y 1) t ≡ with_pixel i (pixel image i) (pixel_rect x y) t
  unfolding with_cluster with_pixel span_of up_from sum_from span_rect pixel_rect
  span-first t = same-cluster t (ap (λ m. t.pixels ++ (m ∷ [])) (omega arith)) (ap (λ m. t.sum ⊕ m) (none_first (sum_of_one (pixel image (i + 0))) ∙ ap (λ m. sum_of_one (pixel image m)) (omega arith))) refl
    where
      none_first : (z : ColorSum) → zero_sum ⊕ z ≡ z
      none_first z = ⊕-comm zero_sum z ∙ ⊕-none z

  -- of one more
  pub span-next : (n : ℕ) → 0 < n → (t : Cluster) → with_cluster (span_of image i x y (suc n)) t ≡ with_pixel (i + n) (pixel image (i + n)) (pixel_rect (x + n) y) (with_cluster (span_of image i x y n) t)
  unfolding with_cluster with_pixel span_of up_from sum_from
  span-next n l t =
      same-cluster t (sym (append_assoc t.pixels (up_from i n) ((i + n) ∷ []))) (sym (⊕-assoc t.sum (sum_from image i n) (sum_of_one (pixel image (i + n))))) (sym (rect-more t.rect x y n l))

  -- ---- the span added

  module _ (k : ℕ) (s : State) where
    pub add-first : add_span image i x y 1 k s ≡ add_pixel i (pixel image i) (pixel_rect x y) k s
    unfolding add_span add_pixel set_from logged
    add-first = same-state s (ap (λ m. set s.labels m k) (omega arith)) (ap (set s.clusters k) (span-first (cluster s k))) (ap (λ m. added m k ∷ s.log) (omega arith))

    pub add-next : (n : ℕ) → 0 < n → k < length s.clusters → add_span image i x y (suc n) k s ≡ add_pixel (i + n) (pixel image (i + n)) (pixel_rect (x + n) y) k (add_span image i x y n k s)
    unfolding add_span add_pixel set_from logged
    add-next n l z = same-state s refl
        (ap (set s.clusters k) (span-next n l (cluster s k))
        ∙ sym (set-set s.clusters k A (with_pixel (i + n) (pixel image (i + n)) (pixel_rect (x + n) y) A))
        ∙ ap (λ c. set (set s.clusters k A) k (with_pixel (i + n) (pixel image (i + n)) (pixel_rect (x + n) y) c)) (sym (get_or-set_same s.clusters k A new_cluster z))) refl
      where
        A : Cluster
        A = with_cluster (span_of image i x y n) (cluster s k)

pub span-cluster : (image : List ℕ) (i x y n k : ℕ) (s : State) → k < length s.clusters → cluster (add_span image i x y n k s) k ≡ with_cluster (span_of image i x y n) (cluster s k)
unfolding add_span
span-cluster image i x y n k s l = get_or-set_same s.clusters k (with_cluster (span_of image i x y n) (cluster s k)) new_cluster l

pub span-free : (image : List ℕ) (i x y n k : ℕ) (s : State) → (add_span image i x y n k s).next_index ≡ s.next_index
unfolding add_span
span-free image i x y n k s = refl

pub span-slots : (image : List ℕ) (i x y n k : ℕ) (s : State) → length (add_span image i x y n k s).clusters ≡ length s.clusters
unfolding add_span
span-slots image i x y n k s = length-set s.clusters k (with_cluster (span_of image i x y n) (cluster s k))

pub length-up_from : (i n : ℕ) → length (up_from i n) ≡ n
unfolding up_from
length-up_from i zero = refl
length-up_from i (suc n) = length-append (up_from i n) ((i + n) ∷ []) ∙ omega (arith, length-up_from i n)

pub span-area : (image : List ℕ) (i x y n : ℕ) (t : Cluster) → area (with_cluster (span_of image i x y n) t) ≡ area t + n
unfolding with_cluster span_of
span-area image i x y n t = length-append t.pixels (up_from i n) ∙ omega (arith, length-up_from i n)

pub span-labels : (image : List ℕ) (i x y n k : ℕ) (s : State) → (add_span image i x y n k s).labels ≡ set_from s.labels i n k
unfolding add_span
span-labels image i x y n k s = refl

-- the first pixel, and the totals, of a span
pub first-up_from : (i n : ℕ) → first_of (up_from i (suc n)) ≡ i + 1
unfolding first_of up_from
first-up_from i zero = omega arith
first-up_from i (suc n) = first-of (up_from i (suc n)) ((i + suc n) ∷ []) (omega (arith, length-up_from i (suc n))) ∙ first-up_from i n
  where
    first-of : (xs ys : List ℕ) → 0 < length xs → first_of (xs ++ ys) ≡ first_of xs
    first-of [] ys l = absurd (omega arith)
    first-of (x ∷ xs) ys l = refl

pub sum_fits : (image : List ℕ) → ((p : ℕ) → get_or image p 0 ≤ 255) → (i n : ℕ) → Fits n (sum_from image i n)
unfolding sum_from sum_of_one ◌⊕◌ pixel
sum_fits image b i zero = record { count = omega arith; r = omega arith; g = omega arith; b = omega arith; a = omega arith }
sum_fits image b i (suc n) =
    let F = sum_fits image b i n in
    record {
      count = omega (arith, F.count);
      r = omega (arith, F.r, b (4 * (i + n)));
      g = omega (arith, F.g, b (4 * (i + n) + 1));
      b = omega (arith, F.b, b (4 * (i + n) + 2));
      a = omega (arith, F.a, b (4 * (i + n) + 3));
    }

-- ---- labels in a span

pub length-set_from : (ls : List ℕ) (i n v : ℕ) → length (set_from ls i n v) ≡ length ls
unfolding set_from
length-set_from ls i zero v = refl
length-set_from ls i (suc n) v = length-set (set_from ls i n v) (i + n) v ∙ length-set_from ls i n v

-- an entry that was v is v, and so is one of the span
pub set_from-was : (ls : List ℕ) (i n v p : ℕ) → get_or ls p 0 ≡ v → i + n ≤ length ls → get_or (set_from ls i n v) p 0 ≡ v
unfolding set_from
set_from-was ls i zero v p e l = e
set_from-was ls i (suc n) v p e l = elim (ℕ_discrete p (i + n)) [
  | yes d ↦ ap (λ m. get_or (set (set_from ls i n v) (i + n) v) m 0) d ∙ get_or-set_same (set_from ls i n v) (i + n) v 0 (omega (arith, length-set_from ls i n v))
  | no d ↦ get_or-set_other (set_from ls i n v) (i + n) p v 0 d ∙ set_from-was ls i n v p e (omega arith)
]

pub set_from-last : (ls : List ℕ) (i n v : ℕ) → i + suc n ≤ length ls → get_or (set_from ls i (suc n) v) (i + n) 0 ≡ v
unfolding set_from
set_from-last ls i n v l = get_or-set_same (set_from ls i n v) (i + n) v 0 (omega (arith, length-set_from ls i n v))

-- ---- a pixel that joins the cluster of left and up

module _ (o : RunnerConfig) (w : ℕ) (image : List ℕ) where
  -- left and up of one cluster do not meet
  take_places : (i : ℕ) (s : State) → label_at s (left w i) ≡ label_at s (up w i) → take_pixel o w image i s ≡ place o w image i (label_at s (left w i)) (label_at s (up w i)) s
  unfolding take_pixel left_meets_up
  take_places i s e = rw (eqb_yes (label_at s (left w i)) (label_at s (up w i)) e)

  place-joins : (i l u : ℕ) (s : State) → is_key o image i ≡ false → same_at o image (some i) (up w i) && same_at o image (some i) (up_left w i) ≡ true
      → place o w image i l u s ≡ add_pixel i (pixel image i) (pixel_rect (i % w) (i / w)) u s
  unfolding place
  place-joins i l u s f e = rw (f, e)

  pub take-joins : (i k : ℕ) (s : State) → label_at s (left w i) ≡ k → label_at s (up w i) ≡ k → is_key o image i ≡ false
      → same_at o image (some i) (up w i) && same_at o image (some i) (up_left w i) ≡ true
      → take_pixel o w image i s ≡ add_pixel i (pixel image i) (pixel_rect (i % w) (i / w)) k s
  take-joins i k s l u f e =
      take_places i s (l ∙ sym u) ∙ place-joins i (label_at s (left w i)) (label_at s (up w i)) s f e ∙ ap (λ m. add_pixel i (pixel image i) (pixel_rect (i % w) (i / w)) m s) u

  -- ---- the span

  module _ {i n k : ℕ} {s : State} (R : Span o w image i n k s) where
    -- the labels that the pixel after j of the span reads
    before-is : (j : ℕ) → j < n → get_or (set_from s.labels i j k) (i + j - 1) 0 ≡ k
    unfolding set_from
    before-is zero l = ap (λ p. get_or s.labels p 0) (let a : i + 0 - 1 ≡ i - 1 = omega arith in a) ∙ R.before
    before-is (suc j) l = ap (λ p. get_or (set_from s.labels i (suc j) k) p 0) (let a : i + suc j - 1 ≡ i + j = omega arith in a) ∙ set_from-last s.labels i j k (omega (arith, R.fits))

    lefts : (j : ℕ) (v : State) → v.labels ≡ set_from s.labels i j k → j < n → label_at v (left w (i + j)) ≡ k
    unfolding label_at
    lefts j v e l = ap (label_at v) (R.beside j l) ∙ ap (λ ls. get_or ls (i + j - 1) 0) e ∙ before-is j l

    ups : (j : ℕ) (v : State) → v.labels ≡ set_from s.labels i j k → j < n → label_at v (up w (i + j)) ≡ k
    unfolding label_at
    ups j v e l = ap (label_at v) (R.below j l) ∙ ap (λ ls. get_or ls (i + j - w) 0) e ∙ set_from-was s.labels i j k (i + j - w) (R.above j l) (omega (arith, R.fits))

    module _ (x y : ℕ) (column : (j : ℕ) → j < n → (i + j) % w ≡ x + j) (row : (j : ℕ) → j < n → (i + j) / w ≡ y) where
      -- the pixel after j of the span is added
      on : (j : ℕ) (v : State) → v.labels ≡ set_from s.labels i j k → j < n → take_pixel o w image (i + j) v ≡ add_pixel (i + j) (pixel image (i + j)) (pixel_rect (x + j) y) k v
      on j v e l =
          take-joins (i + j) k v (lefts j v e l) (ups j v e l) (R.free j l) (R.likes j l)
          ∙ ap (λ p. add_pixel (i + j) (pixel image (i + j)) (pixel_rect p ((i + j) / w)) k v) (column j l) ∙ ap (λ p. add_pixel (i + j) (pixel image (i + j)) (pixel_rect (x + j) p) k v) (row j l)

      -- A span is its pixels taken one by one.
      pub span-steps : (m : ℕ) → m < n → steps_from i (suc m) (take_pixel o w image) s ≡ add_span image i x y (suc m) k s
      unfolding steps_from set_from
      span-steps zero l = on 0 s refl l ∙ again ∙ sym (add-first image i x y k s)
        where
          again : add_pixel (i + 0) (pixel image (i + 0)) (pixel_rect (x + 0) y) k s ≡ add_pixel i (pixel image i) (pixel_rect x y) k s
          again = ap (λ p. add_pixel p (pixel image p) (pixel_rect (x + 0) y) k s) (let a : i + 0 ≡ i = omega arith in a) ∙ ap (λ p. add_pixel i (pixel image i) (pixel_rect p y) k s) (let a : x + 0 ≡ x = omega arith in a)
      span-steps (suc m) l =
          ap (take_pixel o w image (i + suc m)) (span-steps m (omega arith)) ∙ on (suc m) (add_span image i x y (suc m) k s) (labels-of (suc m)) l
          ∙ sym (add-next image i x y k s (suc m) (omega arith) R.slot)
        where
          labels-of : (j : ℕ) → (add_span image i x y j k s).labels ≡ set_from s.labels i j k
          labels-of j = span-labels image i x y j k s

-- n steps more
pub times_more {ℓ} : {S : Type ℓ} (f : ℕ → S → S) (s : S) (i n : ℕ) → times (i + n) f s ≡ steps_from i n f (times i f s)
unfolding steps_from
times_more f s i zero = ap (λ m. times m f s) (let a : i + 0 ≡ i = omega arith in a)
times_more f s i (suc n) = ap (λ m. times m f s) (let a : i + suc n ≡ suc (i + n) = omega arith in a) ∙ ap (f (i + n)) (times_more f s i n)

-- so after i pixels and a span
pub taken-span : (o : RunnerConfig) (w : ℕ) (image : List ℕ) (size : ℕ) {i n k : ℕ} (x y m : ℕ) → Span o w image i n k (taken o w image size i) → ((j : ℕ) → j < n → (i + j) % w ≡ x + j) → ((j : ℕ) → j < n → (i + j) / w ≡ y) → m < n
    → taken o w image size (i + suc m) ≡ add_span image i x y (suc m) k (taken o w image size i)
unfolding taken
taken-span o w image size {i} x y m R column row l = times_more (take_pixel o w image) (fresh size) i (suc m) ∙ span-steps o w image R x y column row m l

-- ---- what the cheap test gives

-- pixels whose channels but alpha, shifted, are near are like
pub same-near : (o : RunnerConfig) (image : List ℕ) (shift t a b : ℕ) → o.is_same_color_a ≡ pos shift → o.is_same_color_b ≡ pos t
    → ((c : ℕ) → c < 3 → NearBytes shift t image (4 * a + c) (4 * b + c)) → same_at o image (some a) (some b) ≡ true
unfolding same_at color_at is_same color_same pixel
same-near o image shift t a b e f near =
    ap₂ (λ p q. is_same p q (color_at image (some a)) (color_at image (some b))) e f
    ∙ like (pixel image a) (pixel image b) (rw (none a, none b) at (near 0 (omega arith))) (near 1 (omega arith)) (near 2 (omega arith))
  where
    none : (m : ℕ) → 4 * m + 0 ≡ 4 * m
    none m = omega arith

    like : (x y : Color) → apart (x.r / 2 ^ shift) (y.r / 2 ^ shift) ≤ t → apart (x.g / 2 ^ shift) (y.g / 2 ^ shift) ≤ t → apart (x.b / 2 ^ shift) (y.b / 2 ^ shift) ≤ t
        → color_same (pos shift) (pos t) x y ≡ true
    like x y r g b =
        rw (le-leb (apart (x.r / 2 ^ shift) (y.r / 2 ^ shift)) t r, le-leb (apart (x.g / 2 ^ shift) (y.g / 2 ^ shift)) t g, le-leb (apart (x.b / 2 ^ shift) (y.b / 2 ^ shift)) t b)

module _ {w i x y n : ℕ} (I : InnerSpan w i x y n) where
  pub inner-column : (j : ℕ) → j < n → (i + j) % w ≡ x + j
  inner-column j l = ap (λ m. m % w) (let a : i + j ≡ w * y + (x + j) = omega (arith, I.index) in a) ∙ mul-add-mod_self_left w y (x + j) ∙ mod-eq_of_lt (omega (arith, I.within))

  pub inner-row : (j : ℕ) → j < n → (i + j) / w ≡ y
  inner-row j l =
      ap (λ m. m / w) (let a : i + j ≡ w * y + (x + j) = omega (arith, I.index) in a) ∙ mul-add-div (omega (arith, I.within)) y (x + j)
      ∙ ap (λ m. y + m) (div-eq_of_lt (let a : x + j < w = omega (arith, I.within) in a)) ∙ omega arith

  -- the row above
  above-row : w ≤ i
  above-row = omega (arith, I.index, le-mul_of_pos_right w I.row)

  pub inner-left : (j : ℕ) → j < n → left w (i + j) ≡ some (i + j - 1)
  unfolding left
  inner-left j l = rw (lt-ltb 0 ((i + j) % w) (omega (arith, inner-column j l, I.column)))

  pub inner_up : (j : ℕ) → j < n → up w (i + j) ≡ some (i + j - w)
  unfolding up
  inner_up j l = rw (le-leb w (i + j) (omega (arith, above-row)))

  pub inner-up_left : (j : ℕ) → j < n → up_left w (i + j) ≡ some (i + j - w - 1)
  unfolding up_left
  inner-up_left j l = rw (lt-ltb 0 ((i + j) % w) (omega (arith, inner-column j l, I.column)), le-leb w (i + j) (omega (arith, above-row)))

pub span-of : (o : RunnerConfig) (image : List ℕ) {w i x y n k : ℕ} {s : State} → InnerSpan w i x y n → k < length s.clusters → i + n ≤ length s.labels → label s (i - 1) ≡ k
    → AllExtend o w image s.labels k i n → Span o w image i n k s
span-of o image {w} {i} I slot fits before T = record {
  slot = slot;
  fits = fits;
  later = omega (arith, I.index, I.column);
  before = before;
  beside = inner-left I;
  below = inner_up I;
  above = λ j l. (T j l).label-up;
  free = λ j l. (T j l).no_key;
  likes = λ j l. ap₂ ◌&&◌ (ap (same_at o image (some (i + j))) (inner_up I j l) ∙ (T j l).like-up) (ap (same_at o image (some (i + j))) (inner-up_left I j l) ∙ (T j l).like-up-left);
}

-- two pixels that are like show that the bound is not negative
pub same-bound : (o : RunnerConfig) (image : List ℕ) (a b : ℕ) → same_at o image (some a) (some b) ≡ true → (t : ℕ) × (o.is_same_color_b ≡ pos t)
unfolding same_at color_at is_same color_same
same-bound o image a b e = go o.is_same_color_b e
  where
    go : (z : ℤ) → color_same o.is_same_color_a z (pixel image a) (pixel image b) ≡ true → (t : ℕ) × (z ≡ pos t)
    go (pos t) q = (t, refl)
    go (negsuc t) q = absurd (true≢false (sym q))
