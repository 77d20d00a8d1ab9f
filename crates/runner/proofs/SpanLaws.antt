-- The buffers hold the rules' state after a span of pixels that were added at once.
use mathlib.Core.Path.{◌≡◌, refl, sym, ap, ap₂, ◌∙◌, subst}
use mathlib.Core.Logic.{by_cases}
use mathlib.Core.Bool.{false}
use mathlib.Core.List.{List, [], ◌∷◌}
use mathlib.Core.Option.{some}
use Prim.Native.Nat.{ℕ, zero, suc, ◌+◌, ◌-◌, ◌*◌, ◌≤◌, ◌<◌}
use native.Mathlib.Decide.{dec_lt}
use native.Mathlib.Nat.{mul_comm, le-mul_of_pos_right}
use native.Mathlib.Omega.{arith}
use lib.Dec.{T}
use lib.IntN.{pos}
use lib.ListN.{length, get_or, set}
use lib.Seq.{get_or-set_same, set-set, set_comm}
use Rattle.rules.specs.Color.{RunnerConfig, pixel, keying_on}
use Rattle.rules.specs.State.{State, cluster, label, area, pixel_rect, with_pixel, with_cluster, add_pixel}
use Rattle.rules.specs.Stage1.{label_at, is_key, taken}
use Rattle.rules.specs.Code.Ranges.{Fits}
use Rattle.rules.specs.Code.Spans.{set_from, sum_from, span_of, add_span, Span, Extends, AllExtend, NearBytes}
use Rattle.rules.specs.Demand3.{Discarded}
use Rattle.rules.proofs.Early.{label_at-next}
use Rattle.rules.proofs.Whole.{early-at}
use Rattle.rules.proofs.Ranges.{sum_fits as cluster-fits}
use Rattle.rules.proofs.Spans.{same-near, sum_fits, inner-column, inner-row, span-of, span-cluster, span-free, span-slots, span-area, span-first, span-next, add-first, add-next, taken-span}
use Rattle.rules.specs.Layout.{slot_width}
use Rattle.rules.specs.Code.Early.{Early}
use Rattle.color.specs.Colors.{sum_of}
use Rattle.runner.specs.declared.slot.Head.{Head}
use Rattle.runner.specs.Code.Slots.{Adds, set_numbers, head_at, head_of, head_numbers, saved_head}
use Rattle.runner.specs.Code.Rep.{Rep, link_after}
use Rattle.runner.specs.Code.Spans.{linked_from, CanAddSpan, AddedSpan, Extending, FoundSpan, Limits, ManyNear}
use Rattle.runner.specs.Code.Given.{Spot}
use Rattle.runner.specs.Code.Stage1.{Holding, Placing, Taking}
use Rattle.runner.proofs.Places.{place_in}
use Rattle.runner.proofs.Spots.{spot_in, near-row}
use Rattle.runner.proofs.Tables.{head-at}
use Rattle.runner.proofs.Tails.{link_after-joins}
use Rattle.runner.proofs.RepStage1.{rep_add, labels-long, links-long}
use Rattle.runner.proofs.Stage1Laws.{rep-is, can-add}
use Rattle.color.proofs.Chunks.{in_chunk}
use Rattle.runner.proofs.Slots.{adds-taken}

-- ---- a head saved twice

set-store : (t : List ℕ) (b j : ℕ) (vs : List ℕ) (p w : ℕ) → p < b + j → set (set_numbers t b j vs) p w ≡ set_numbers (set t p w) b j vs
set-store t b j [] p w l = refl
set-store t b j (v ∷ vs) p w l = set-store (set t (b + j) v) b (suc j) vs p w (omega arith) ∙ ap (λ u. set_numbers u b (suc j) vs) (set_comm t (b + j) p v w (λ e. omega (arith, e)))

store-twice : (t : List ℕ) (b j : ℕ) (vs ws : List ℕ) → length vs ≡ length ws → set_numbers (set_numbers t b j vs) b j ws ≡ set_numbers t b j ws
store-twice t b j [] [] e = refl
store-twice t b j [] (w ∷ ws) e = absurd (omega (arith, e))
store-twice t b j (v ∷ vs) [] e = absurd (omega (arith, e))
store-twice t b j (v ∷ vs) (w ∷ ws) e =
    ap (λ u. set_numbers u b (suc j) ws) (set-store (set t (b + j) v) b (suc j) vs (b + j) w (omega arith) ∙ ap (λ u. set_numbers u b (suc j) vs) (set-set t (b + j) v w))
    ∙ store-twice (set t (b + j) w) b (suc j) vs ws (omega (arith, e))

saved-twice : (t : List ℕ) (k : ℕ) (g h : Head) → saved_head (saved_head t k g) k h ≡ saved_head t k h
unfolding saved_head
saved-twice t k g h = store-twice t (slot_width * k) 0 (head_numbers g) (head_numbers h) refl

-- ---- the span

-- the rest of a row is on the image
pub row-end : {w h i x y : ℕ} → Spot w h i x y → i + (w - x) ≤ w * h
row-end {w} {h} {y = y} S = omega (arith, S.index, S.column, mul_comm w y, place_in w h (w - 1) y (let a : w - 1 < w = omega (arith, S.column) in a) S.row)

-- a pixel behind the first column and the first row
pub past-first : {w h i x y : ℕ} → Spot w h i x y → 0 < x → 0 < y → w + 1 ≤ i
past-first {w} {y = y} S l m = omega (arith, S.index, l, mul_comm w y, le-mul_of_pos_right w m)

pub ruleset row_places = (row-end, past-first)

module _ {o : RunnerConfig} {w h : ℕ} {image : List ℕ} {shift i x y n k : ℕ} {t₀ L K B E : List ℕ} {free count : ℕ} (Q : Extending o w h image shift i x y n k t₀ L K B E free count) where
  abbrev s : State
  s = taken o w image (w * h) i

  R : Rep (w * h) s t₀ L K B E
  R = Q.taking.holding.rep

  -- the span is on the image
  pub inside : i + n ≤ w * h
  inside = omega (arith, row-end Q.taking.spot, Q.inner.within)

  early : (j : ℕ) → j ≤ n → Early image (w * h) (Discarded o image) (T (keying_on o)) (i + j) (taken o w image (w * h) (i + j))
  early j l = early-at o w h image (i + j) (omega (arith, inside))

  early-i : Early image (w * h) (Discarded o image) (T (keying_on o)) i s
  early-i = early-at o w h image i (omega (arith, inside))

  before : label s (i - 1) ≡ k
  before = ap (λ ls. get_or ls (i - 1) 0) (sym R.labelled) ∙ Q.before

  in-next : k < s.next_index
  unfolding label_at
  in-next = subst (λ m. m < s.next_index) before (label_at-next early-i (some (i - 1)))

  in-slots : k < length s.clusters
  in-slots = omega (arith, in-next, early-i.room)

  span : Span o w image i n k s
  span = span-of o image Q.inner in-slots (omega (arith, early-i.basic.width, inside)) before (λ j l. subst (λ ls. Extends o w image ls k (i + j)) R.labelled (Q.tests j l))

  -- the state after m + 1 pixels
  so_far : (m : ℕ) → m < n → taken o w image (w * h) (i + suc m) ≡ add_span image i x y (suc m) k s
  so_far m l = taken-span o w image (w * h) x y m span (inner-column Q.inner) (inner-row Q.inner) l

  then_next : (m : ℕ) → m < n → (taken o w image (w * h) (i + suc m)).next_index ≡ s.next_index
  then_next m l = ap (λ v. v.next_index) (so_far m l) ∙ span-free image i x y (suc m) k s

  then-slots : (m : ℕ) → m < n → length (taken o w image (w * h) (i + suc m)).clusters ≡ length s.clusters
  then-slots m l = ap (λ v. length v.clusters) (so_far m l) ∙ span-slots image i x y (suc m) k s

  then-cluster : (m : ℕ) → m < n → cluster (taken o w image (w * h) (i + suc m)) k ≡ with_cluster (span_of image i x y (suc m)) (cluster s k)
  then-cluster m l = ap (λ v. cluster v k) (so_far m l) ∙ span-cluster image i x y (suc m) k s in-slots

  room_for : slot_width * length s.clusters ≤ length t₀
  room_for = omega (arith, early-i.short, inside, Q.taking.room)

  in-ends : k < length E
  in-ends = omega (arith, R.room, in-slots, early-i.short, inside)

  -- the links after the first pixel
  K₁ : List ℕ
  K₁ = link_after K (area (cluster s k)) (get_or E k 0) (i + 1)

  -- the table after m + 1 pixels
  B₁ : ℕ → List ℕ
  B₁ m = saved_head B k (head_of (with_cluster (span_of image i x y (suc m)) (cluster s k)))

  rep-span : (m : ℕ) → m < n → Rep (w * h) (taken o w image (w * h) (i + suc m)) t₀ (set_from L i (suc m) k) (linked_from K₁ i m) (B₁ m) (set E k (i + suc m))
  unfolding set_from linked_from K₁ B₁
  rep-span zero l = subst (λ v. Rep (w * h) v t₀ (set_from L i 1 k) (linked_from K₁ i 0) (B₁ 0) (set E k (i + 1))) (sym (so_far 0 l ∙ add-first image i x y k s))
      (rep-is (ap (λ p. set L p k) (let a : i + 0 ≡ i = omega arith in a)) refl (ap (λ c. saved_head B k (head_of c)) (span-first image i x y (cluster s k))) refl
      (rep_add early-i R (omega (arith, inside)) (pixel image i) (pixel_rect x y) k in-next room_for))
  rep-span (suc m) l = subst (λ v. Rep (w * h) v t₀ (set_from L i (suc (suc m)) k) (linked_from K₁ i (suc m)) (B₁ (suc m)) (set E k (i + suc (suc m)))) (sym state)
      (rep-is refl linked tabled (ended ∙ sym (set-set E k (i + suc m) (i + suc m + 1)))
      (rep_add (early (suc m) (omega arith)) (rep-span m (omega arith)) (omega (arith, inside)) (pixel image (i + suc m)) (pixel_rect (x + suc m) y) k
      (omega (arith, in-next, then_next m (omega arith))) (omega (arith, room_for, then-slots m (omega arith)))))
    where
      v : State
      v = taken o w image (w * h) (i + suc m)

      state : taken o w image (w * h) (i + suc (suc m)) ≡ add_pixel (i + suc m) (pixel image (i + suc m)) (pixel_rect (x + suc m) y) k v
      state = so_far (suc m) l ∙ add-next image i x y k s (suc m) (omega arith) in-slots ∙ ap (add_pixel (i + suc m) (pixel image (i + suc m)) (pixel_rect (x + suc m) y) k) (sym (so_far m (omega arith)))

      linked : linked_from K₁ i (suc m) ≡ link_after (linked_from K₁ i m) (area (cluster v k)) (get_or (set E k (i + suc m)) k 0) (i + suc m + 1)
      linked =
          sym (link_after-joins (linked_from K₁ i m) (area (cluster v k)) (get_or (set E k (i + suc m)) k 0) (i + suc m + 1) (omega (arith, ap area (then-cluster m (omega arith)), span-area image i x y (suc m) (cluster s k))) (omega arith)
          ∙ ap (λ t. set (linked_from K₁ i m) (t - 1) (i + suc m + 1)) (get_or-set_same E k (i + suc m) 0 in-ends)
          ∙ ap₂ (set (linked_from K₁ i m)) (let a : i + suc m - 1 ≡ i + m = omega arith in a) (let a : i + suc m + 1 ≡ i + m + 2 = omega arith in a))

      tabled : B₁ (suc m) ≡ saved_head (B₁ m) k (head_of (with_pixel (i + suc m) (pixel image (i + suc m)) (pixel_rect (x + suc m) y) (cluster v k)))
      tabled =
          ap (λ c. saved_head B k (head_of c)) (span-next image i x y (suc m) (omega arith) (cluster s k) ∙ ap (with_pixel (i + suc m) (pixel image (i + suc m)) (pixel_rect (x + suc m) y)) (sym (then-cluster m (omega arith))))
          ∙ sym (saved-twice B k (head_of (with_cluster (span_of image i x y (suc m)) (cluster s k))) (head_of (with_pixel (i + suc m) (pixel image (i + suc m)) (pixel_rect (x + suc m) y) (cluster v k))))

      ended : set E k (i + suc (suc m)) ≡ set E k (i + suc m + 1)
      ended = ap (set E k) (omega arith)

  -- What the code leaves holds the state after the span.
  pub held-span : {L' K' B' E' : List ℕ} → 0 < n → AddedSpan image k i x y n L K B E L' K' B' E' → Holding (w * h) (taken o w image (w * h) (i + n)) t₀ L' K' B' E' free count
  unfolding K₁ B₁
  held-span {L'} {K'} {B'} {E'} z A = go n refl z A
    where
      head : head_at B k ≡ head_of (cluster s k)
      head = head-at s R.tabled k in-slots

      go : (m : ℕ) → m ≡ n → 0 < m → AddedSpan image k i x y m L K B E L' K' B' E' → Holding (w * h) (taken o w image (w * h) (i + m)) t₀ L' K' B' E' free count
      go zero e z A = absurd (omega arith)
      go (suc m) e z A = record {
        rep = rep-is A.labels (A.links ∙ ap (linked_from (link_after K (head_at B k).count (get_or E k 0) (i + 1)) i) (let a : suc m - 1 ≡ m = omega arith in a) ∙ ap (λ c. linked_from (link_after K c.count (get_or E k 0) (i + 1)) i m) head) (A.table (cluster s k) head) A.ends (rep-span m (omega (arith, e)));
        free = Q.taking.holding.free ∙ sym (then_next m (omega (arith, e)));
        slots = Q.taking.holding.slots ∙ sym (then-slots m (omega (arith, e)));
      }

-- ---- from a pixel that is to be taken

module _ {o : RunnerConfig} {w h : ℕ} {image : List ℕ} {shift i x y : ℕ} {t₀ L K B E : List ℕ} {free count : ℕ} (Q : Taking o w h image shift i x y t₀ L K B E free count) where
  here : Early image (w * h) (Discarded o image) (T (keying_on o)) i (taken o w image (w * h) i)
  here = early-at o w h image i (omega (arith, spot_in Q.spot))

  -- every pixel has a label
  pub labels-fit : w * h ≤ length L
  labels-fit = omega (arith, labels-long here Q.holding.rep)

  module _ {n : ℕ} (F : FoundSpan o w image L i x y n) (some-n : 0 < n) where
    pub extending : Extending o w h image shift i x y n (get_or L (i - 1) 0) t₀ L K B E free count
    extending = record {
      taking = Q;
      inner = record { index = Q.spot.index; column = (F.inner some-n).0; row = (F.inner some-n).1; within = F.within };
      before = refl;
      tests = F.tests;
    }

    k : ℕ
    k = get_or L (i - 1) 0

    to-k : k < (taken o w image (w * h) i).next_index
    unfolding k
    to-k = in-next extending

    placing : Placing o w h image shift i x y k k (taken o w image (w * h) i) t₀ L K B E free count
    placing = record { given = Q.given; spot = Q.spot; early = here; holding = Q.holding; room = Q.room; to-left = to-k; to-up = to-k }

    both-fit : Adds (sum_of (head_at B k).sum) (sum_from image i n)
    both-fit =
        let A : Fits (w * h) (sum_of (head_at B k).sum) = subst (λ d. Fits (w * h) (sum_of d.sum)) (sym (head-at (taken o w image (w * h) i) Q.holding.rep.tabled k (omega (arith, to-k, here.room)))) (cluster-fits image Q.given.bytes here.basic k) in
        let C = sum_fits image Q.given.bytes i n in
        let z = Q.given.small in
        let d = inside extending in
        record {
          r = omega (arith, A.r, A.count, C.r, C.count);
          g = omega (arith, A.g, A.count, C.g, C.count);
          b = omega (arith, A.b, A.count, C.b, C.count);
          a = omega (arith, A.a, A.count, C.a, C.count);
          count = omega (arith, A.count, C.count);
        }

    -- it can be added
    pub can-span : CanAddSpan image (get_or L (i - 1) 0) i x y n L K B E
    unfolding k
    can-span = record {
      room = (can-add placing refl k to-k).room;
      some = some-n;
      pixels = omega (arith, inside extending, labels-long here Q.holding.rep);
      bytes = omega (arith, inside extending, Q.given.whole);
      links = omega (arith, labels-long here Q.holding.rep, links-long here Q.holding.rep);
      small = (omega (arith, inside extending, Q.given.small), omega (arith, F.within, le-mul_of_pos_right w Q.given.rows, Q.given.small), near-row Q.given Q.spot);
      sum = both-fit;
    }

-- ---- four pixels at once

module _ {o : RunnerConfig} {shift w t : ℕ} {image L : List ℕ} (limits : List ℕ) {i k : ℕ} (row : w + 1 ≤ i) (shifted : o.is_same_color_a ≡ pos shift) (bounded : o.is_same_color_b ≡ pos t) (limited : Limits t limits) (near : ManyNear shift limits image i (i - w) 16) where
  pub four-extend : ((j : ℕ) → j < 4 → get_or L (i - w + j) 0 ≡ k) → ((j : ℕ) → j < 4 → is_key o image (i + j) ≡ false) → AllExtend o w image L k i 4
  four-extend labels free q l = record {
    label-up = ap (λ p. get_or L p 0) (let e : i + q - w ≡ i - w + q = omega arith in e) ∙ labels q l;
    no_key = free q l;
    like-up = same-near o image shift t (i + q) (i + q - w) shifted bounded
        (λ c z. there (let e : 4 * (i + q) + c ≡ 4 * i + (4 * q + c) = omega arith in e) (let e : 4 * (i + q - w) + c ≡ 4 * (i - w) + (4 * q + c) = omega arith in e) (limited q c l z) (near (4 * q + c) (omega arith)).0);
    like-up-left = same-near o image shift t (i + q) (i + q - w - 1) shifted bounded
        (λ c z. there (let e : 4 * (i + q) + c ≡ 4 * i + (4 * q + c) = omega arith in e) (let e : 4 * (i + q - w - 1) + c ≡ 4 * (i - w) + (4 * q + c) - 4 = omega arith in e) (limited q c l z) (near (4 * q + c) (omega arith)).1);
  }
    where
      there : {l a a' b b' : ℕ} → a' ≡ a → b' ≡ b → l ≤ t → NearBytes shift l image a b → NearBytes shift t image a' b'
      there e f z m = rw (e, f) (omega (arith, z, m))

-- what holds of n numbers from i on, and of m after them
pub then-more : (P : ℕ → Type 0) (i n m : ℕ) → ((j : ℕ) → j < n → P (i + j)) → ((j : ℕ) → j < m → P (i + n + j)) → (j : ℕ) → j < n + m → P (i + j)
then-more P i n m f g j l = by_cases (dec_lt j n) (λ z. f j z) (λ z. subst P (let e : i + n + (j - n) ≡ i + j = omega (arith, z) in e) (g (j - n) (omega (arith, z))))

-- what sums the colours of pixels
pub ruleset summed = (adds-taken, in_chunk, sum_fits)
