-- What is read of a slot in buffers that a state lies in; painting from the buffers of a run answers 0 and gives its picture.
use Rattle.std.specs.Prelude.{if◌then◌else◌}
use mathlib.Core.Path.{◌≡◌, refl, sym, ap, ap₂, ◌∙◌, subst}
use mathlib.Core.Logic.{◌≢◌, inl, inr}
use mathlib.Core.Bool.{Bool, true, false}
use mathlib.Core.List.{List, [], ◌∷◌}
use Prim.Native.Nat.{ℕ, zero, suc, ◌*◌, ◌≤◌, ◌<◌}
use native.Mathlib.Decide.{ℕ_discrete}
use native.Mathlib.Omega.{arith}
use borrow.Author.Tests.{eqb-true, lt-ltb, le-leb}
use lib.Dec.{T, ltb, eqb, lt→ltb}
use lib.ListN.{length, get_or, replicate}
use Rattle.rules.specs.Base.{each, each_back, times_back}
use Rattle.rules.specs.Color.{RunnerConfig, ColorSum, average, has_average}
use Rattle.rules.specs.State.{State, cluster}
use Rattle.rules.specs.Run.{run}
use Rattle.rules.specs.Layout.{slot_width, first_of, link, walk, sum_numbers, slot, first_pixel_place, pixel_count_place}
use Rattle.rules.specs.Picture.{paint_pixel, paint_cluster, paint}
use Rattle.rules.specs.Ledger.{Held, ledger}
use Rattle.rules.specs.Claim.{occurs, bit}
use Rattle.rules.specs.Code.Ranges.{AllBelow}
use Rattle.rules.specs.Paint.{reads, Painted, slot_number, five_from, slot_sum, slot_residue, slot_pixels, entry_answer, entries_answer, paint_slot, paint_entries, painting}
use Rattle.rules.specs.Code.InBuffers.{InBuffers}
use Rattle.rules.specs.Demand3.{Agrees}
use Rattle.rules.proofs.Facts.{eqb_no, eqb_yes, bit-T, T_and, is_true}
use Rattle.rules.proofs.Outputs.{In}
use Rattle.rules.proofs.Pictures.{Paintable, run-paintable}
use Rattle.rules.proofs.Moments.{run-returned}
use Rattle.rules.proofs.Ranges.{pixels-below}

-- ---- from last to first

back-front {ℓ} : {S : Type ℓ} (l : ℕ) (g : ℕ → S → S) (x : S) → times_back (suc l) g x ≡ g 0 (times_back l (λ i. g (suc i)) x)
back-front zero g x = refl
back-front (suc l) g x = back-front l g (g (suc l) x)

back-list {ℓ} : {S : Type ℓ} (f : ℕ → S → S) (xs : List ℕ) (x : S) → times_back (length xs) (λ i. f (get_or xs i 0)) x ≡ each_back xs f x
back-list f [] x = refl
back-list f (y ∷ ys) x = back-front (length ys) (λ i. f (get_or (y ∷ ys) i 0)) x ∙ ap (f y) (back-list f ys x)

back-same {ℓ} : {S : Type ℓ} (f g : ℕ → S → S) (m : ℕ) → ((i : ℕ) → i < m → (x : S) → f i x ≡ g i x) → (x : S) → times_back m f x ≡ times_back m g x
back-same f g zero e x = refl
back-same f g (suc i) e x = ap (times_back i f) (e i (omega arith) x) ∙ back-same f g i (λ j l. e j (omega arith)) (g i x)

get_or-in : (xs : List ℕ) (i : ℕ) → i < length xs → In (get_or xs i 0) xs
get_or-in [] i l = omega arith
get_or-in (x ∷ xs) zero l = inl refl
get_or-in (x ∷ xs) (suc i) l = inr (get_or-in xs i (omega arith))

-- ---- a list along the links

module _ (size : ℕ) (s : State) (ls : List ℕ) (same : (p : ℕ) → p < size → get_or ls p 0 ≡ link s p) where
  pub reads-walk : (c v : ℕ) → length (walk (link s) v c) ≡ c → AllBelow size (walk (link s) v c) → T (reads size ls v c) × (walk (λ p. get_or ls p 0) v c ≡ walk (link s) v c)
  unfolding walk
  reads-walk zero v e b = (tt, refl)
  reads-walk (suc c) zero e b = absurd (omega arith)
  reads-walk (suc c) (suc p) e b =
      let r = reads-walk c (link s p) (omega arith) b.1 in
      let q : get_or ls p 0 ≡ link s p = same p b.0 in (
        T_and (ltb p size) (reads size ls (get_or ls p 0) c) (lt→ltb p size b.0) (subst (λ x. T (reads size ls x c)) (sym q) r.0),
        ap (λ l. p ∷ l) (ap (λ x. walk (λ y. get_or ls y 0) x c) q ∙ r.1),
      )

pub has-average : (x : ColorSum) → 0 < x.count → x.r ≤ 255 * x.count → x.g ≤ 255 * x.count → x.b ≤ 255 * x.count → x.a ≤ 255 * x.count → T (has_average x)
unfolding has_average
has-average x z r g b a = rw (eqb_no x.count 0 (λ e. omega arith), le-leb x.r _ r, le-leb x.g _ g, le-leb x.b _ b, le-leb x.a _ a) tt

-- ---- one slot of a state that agrees with a ledger

-- the list of any slot is read along the links: a cluster that lists a pixel stands
pub chained : {o : RunnerConfig} {w h : ℕ} {image : List ℕ} {held : Held} (s : State) → Agrees o w h image held s → (k : ℕ)
    → walk (link s) (first_of (cluster s k).pixels) (length (cluster s k).pixels) ≡ (cluster s k).pixels
unfolding walk
chained {held} s A k = go (cluster s k).pixels refl
  where
    go : (ps : List ℕ) → (cluster s k).pixels ≡ ps → walk (link s) (first_of ps) (length ps) ≡ ps
    go [] e = refl
    go (p ∷ ps) e = rw e at (A.chains k (p, bit-T (held k p) (λ y. omega (arith, ap (occurs p) e, A.view.lists k p, ap bit (eqb_yes p p refl)))))

module _ {o : RunnerConfig} {w h : ℕ} {image : List ℕ} {held : Held} {n m : ℕ} {ls tb os : List ℕ} (s : State) (A : Agrees o w h image held s) (L : InBuffers (w * h) s n m ls tb os) (k : ℕ) (l : k < n) where
  number : (f : ℕ) → f < slot_width → slot_number tb k f ≡ get_or (slot s k) f 0
  unfolding slot_number
  number f b = L.numbers k f l b

  first : slot_number tb k first_pixel_place ≡ first_of (cluster s k).pixels
  unfolding slot
  first = number 0 (omega arith)

  count : slot_number tb k pixel_count_place ≡ length (cluster s k).pixels
  unfolding slot
  count = number 1 (omega arith)

  pub slot-sum : slot_sum tb k ≡ (cluster s k).sum
  unfolding five_from slot sum_numbers
  slot-sum = λ j. record { r = number 6 (omega arith) j; g = number 7 (omega arith) j; b = number 8 (omega arith) j; a = number 9 (omega arith) j; count = number 10 (omega arith) j }

  pub slot-residue : slot_residue tb k ≡ (cluster s k).residue
  unfolding five_from slot sum_numbers
  slot-residue = λ j. record { r = number 11 (omega arith) j; g = number 12 (omega arith) j; b = number 13 (omega arith) j; a = number 14 (omega arith) j; count = number 15 (omega arith) j }

  pub slot-pixels : T (reads (w * h) ls (slot_number tb k first_pixel_place) (slot_number tb k pixel_count_place)) × (slot_pixels ls tb k ≡ (cluster s k).pixels)
  unfolding slot_pixels
  slot-pixels =
      let c = chained s A k in
      let r = reads-walk (w * h) s ls L.linked (length (cluster s k).pixels) (first_of (cluster s k).pixels) (ap length c) (subst (AllBelow (w * h)) (sym c) (pixels-below s A k)) in
      rw (first, count) (r.0, r.1 ∙ c)

  pub entry-passes : Paintable (w * h) n (cluster s k) k → entry_answer (w * h) n ls tb k ≡ 0
  unfolding entry_answer
  entry-passes P = rw (
    lt-ltb k n l,
    is_true (has_average (slot_residue tb k)) (subst (λ x. T (has_average x)) (sym slot-residue) (has-average (cluster s k).residue P.some P.r P.g P.b P.a)),
    le-leb (slot_number tb k pixel_count_place) (w * h) (omega (arith, count, P.pixels)),
    is_true (reads (w * h) ls (slot_number tb k first_pixel_place) (slot_number tb k pixel_count_place)) slot-pixels.0,
  )

  pub entry-paints : (picture : List ℕ) → paint_slot ls tb k picture ≡ paint_cluster s k picture
  unfolding paint_slot paint_cluster
  entry-paints picture = ap₂ (λ ps x. each ps (paint_pixel (average x)) picture) slot-pixels.1 slot-residue

-- ---- all entries

module _ (size n : ℕ) (ls tb os : List ℕ) where
  abbrev at : ℕ → ℕ
  at i = entry_answer size n ls tb (get_or os i 0)

  answers-zero : (i : ℕ) → ((j : ℕ) → j < i → at j ≡ 0) → entries_answer size n ls tb os i ≡ 0
  unfolding entries_answer
  answers-zero zero f = refl
  answers-zero (suc i) f = rw (f i (omega arith)) (answers-zero i (λ j l. f j (omega arith)))

  -- a refusal is that of the last entry that does not pass
  pub answer-first : (i : ℕ) → entries_answer size n ls tb os i ≢ 0 → (j : ℕ) × (j < i) × (entries_answer size n ls tb os i ≡ at j) × ((k : ℕ) → j < k → k < i → at k ≡ 0)
  unfolding entries_answer
  answer-first zero d = absurd (d refl)
  answer-first (suc i) d = go (eqb (at i) 0) refl d (answer-first i)
    where
      Found : ℕ → ℕ → Type 0
      Found a b = (j : ℕ) × (j < b) × (a ≡ at j) × ((k : ℕ) → j < k → k < b → at k ≡ 0)

      later : (j k : ℕ) → ((k : ℕ) → j < k → k < i → at k ≡ 0) → at i ≡ 0 → j < k → k < suc i → Dec (k ≡ i) → at k ≡ 0
      later j k f z l b (yes e) = ap at e ∙ z
      later j k f z l b (no e) = f k l (omega arith)

      go : (b : Bool) → eqb (at i) 0 ≡ b → (if b then entries_answer size n ls tb os i else at i) ≢ 0
          → (entries_answer size n ls tb os i ≢ 0 → Found (entries_answer size n ls tb os i) i) → Found (if b then entries_answer size n ls tb os i else at i) (suc i)
      go true z x ih = let r = ih x in (r.0, omega (arith, r.1), r.2, λ k l b. later r.0 k r.3 (eqb-true (at i) 0 z) l b (ℕ_discrete k i))
      go false z x ih = (i, omega arith, refl, λ k l b. absurd (omega arith))

-- ---- a run

module _ (image : List ℕ) (bytes : (i : ℕ) → get_or image i 0 ≤ 255) (o : RunnerConfig) (w h : ℕ) where
  pub run-painting : (n m : ℕ) (ls tb os given : List ℕ) → InBuffers (w * h) (run o w h image) n m ls tb os
      → painting (w * h) n m ls tb os given ≡ record { answer = 0; picture = paint (w * h) (run o w h image) }
  unfolding painting paint_entries paint
  run-painting n m ls tb os given L = subst (λ a. whole a ≡ record { answer = 0; picture = paint (w * h) (run o w h image) }) (sym zero-all) (λ i. record { answer = 0; picture = same i })
    where
      s : State
      s = run o w h image

      entry : ℕ → ℕ
      entry i = get_or s.outputs i 0

      whole : ℕ → Painted
      whole a = record { answer = a; picture = if eqb a 0 then times_back m (λ i. paint_slot ls tb (get_or os i 0)) (replicate (4 * (w * h)) 0) else given }

      inside : (i : ℕ) → i < m → In (entry i) s.outputs
      inside i l = get_or-in s.outputs i (omega (arith, L.entries))

      fit : (i : ℕ) → i < m → Paintable (w * h) n (cluster s (entry i)) (entry i)
      fit i l = subst (λ x. Paintable (w * h) x (cluster s (entry i)) (entry i)) (sym L.slots) (run-paintable image bytes o w h (entry i) (inside i l))

      A : Agrees o w h image (ledger s.log) s
      A = run-returned o w h image

      zero-all : entries_answer (w * h) n ls tb os m ≡ 0
      zero-all = answers-zero (w * h) n ls tb os m (λ i l. ap (entry_answer (w * h) n ls tb) (L.put i l) ∙ entry-passes s A L (entry i) (fit i l).slot (fit i l))

      same : times_back m (λ i. paint_slot ls tb (get_or os i 0)) (replicate (4 * (w * h)) 0) ≡ each_back s.outputs (paint_cluster s) (replicate (4 * (w * h)) 0)
      same =
          back-same (λ i. paint_slot ls tb (get_or os i 0)) (λ i. paint_cluster s (entry i)) m
          (λ i l x. ap (λ k. paint_slot ls tb k x) (L.put i l) ∙ entry-paints s A L (entry i) (fit i l).slot x) (replicate (4 * (w * h)) 0)
          ∙ ap (λ z. times_back z (λ i. paint_cluster s (entry i)) (replicate (4 * (w * h)) 0)) L.entries
          ∙ back-list (paint_cluster s) s.outputs (replicate (4 * (w * h)) 0)
