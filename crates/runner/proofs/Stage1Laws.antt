-- What the operations of stage 1 ask holds of the buffers of a state, and what they leave holds the rules' next state.
use Rattle.std.specs.Prelude.{if◌then◌else◌}
use mathlib.Core.Path.{◌≡◌, sym, ap, ap₂, ◌∙◌, subst}
use mathlib.Core.Logic.{◌≢◌}
use mathlib.Core.List.{List}
use Prim.Native.Nat.{ℕ, ◌+◌, ◌-◌, ◌*◌, ◌/◌, ◌%◌, ◌≤◌, ◌<◌}
use native.Mathlib.Omega.{arith}
use lib.Dec.{T, eqb, lit<}
use lib.ListN.{length, get_or, set, replicate, get_or-replicate}
use Rattle.rules.specs.Color.{Color, RunnerConfig, ColorSum, sum_of_one, pixel}
use Rattle.rules.specs.State.{State, new_cluster, cluster, area, pixel_rect, relabel, with_pixel, add_pixel, begin_cluster, combine_clusters}
use Rattle.rules.specs.Layout.{first_of, walk, slot_width, pixel_count_place}
use Rattle.rules.specs.Paint.{reads}
use Rattle.rules.specs.Code.Ranges.{Fits}
use Rattle.rules.proofs.Outputs.{area-le}
use Rattle.rules.proofs.Ranges.{sum_fits}
use Rattle.rules.specs.Code.Bounds.{count_bound}
use Rattle.color.specs.Colors.{sum_of}
use Rattle.runner.specs.Code.Slots.{Adds, set_numbers, head_at, head_of, saved_head, cleared_slot}
use Rattle.runner.specs.Code.Rep.{Table, Rep, slots_of, link_after}
use Rattle.runner.specs.Code.Ops.{Open, CanAdd, Added, CanAppend, Combined}
use Rattle.runner.specs.Code.Stage1.{Placing}
use Rattle.runner.proofs.Tables.{store_in, cleared-length, head-at, count_at}
use Rattle.runner.proofs.Tails.{link_after-empty}
use Rattle.runner.proofs.RepStage1.{rep_add, rep_begin, rep-combine, labels-long, links-long, list-reads, list-walk, tail-in}
use Rattle.runner.proofs.Spots.{spot-column, spot-row, spot_in, near-column, near-row}

-- buffers that are the same hold the same
pub rep-is : {size : ℕ} {s : State} {t₀ L K B E L' K' B' E' : List ℕ} → L' ≡ L → K' ≡ K → B' ≡ B → E' ≡ E → Rep size s t₀ L K B E → Rep size s t₀ L' K' B' E'
rep-is {size} {s} {t₀} a b c d R = record {
  labelled = a ∙ R.labelled;
  linked = b ∙ R.linked;
  tabled = subst (Table (length s.clusters) (slots_of s) t₀) (sym c) R.tabled;
  tails = λ k x y. ap (λ e. get_or e k 0) d ∙ R.tails k x y;
  room = ap length d ∙ R.room;
}

-- a slot that was cleared has the head of a new cluster
cleared-head : (t : List ℕ) (k : ℕ) → slot_width * k + slot_width ≤ length t → head_at (cleared_slot t k) k ≡ head_of new_cluster
unfolding head_at cleared_slot first_of
cleared-head t k l = λ i. record {
  first = z 0 (lit< tt) i;
  count = z 1 (lit< tt) i;
  rect = record { left = z 2 (lit< tt) i; top = z 3 (lit< tt) i; right = z 4 (lit< tt) i; bottom = z 5 (lit< tt) i };
  sum = record { r = z 6 (lit< tt) i; g = z 7 (lit< tt) i; b = z 8 (lit< tt) i; a = z 9 (lit< tt) i; counter = z 10 (lit< tt) i };
}
  where
    z : (f : ℕ) → f < slot_width → get_or (set_numbers t (slot_width * k) 0 (replicate slot_width 0)) (slot_width * k + f) 0 ≡ 0
    z f b = store_in t (slot_width * k) 0 (replicate slot_width 0) f (omega arith) (omega arith) (omega arith) ∙ get_or-replicate slot_width (f - 0) 0 0 (omega arith)

module _ {o : RunnerConfig} {w h : ℕ} {image : List ℕ} {shift i x y l u : ℕ} {s : State} {t₀ L K B E : List ℕ} {n m : ℕ} (P : Placing o w h image shift i x y l u s t₀ L K B E n m) where
  pub fits : i < w * h
  fits = spot_in P.spot

  pub at-is : pixel_rect x y ≡ pixel_rect (i % w) (i / w)
  at-is = sym (ap₂ pixel_rect (spot-column P.spot) (spot-row P.spot))

  on-image : i < length L
  on-image = omega (arith, fits, labels-long P.early P.holding.rep)

  -- a slot for each pixel that was taken, and slot 0
  some_left : length s.clusters ≤ w * h
  some_left = omega (arith, P.early.short, fits)

  pub in_table : (k : ℕ) → k < s.next_index → k < length s.clusters
  in_table k z = omega (arith, P.early.room)

  pub next-in : slot_width * s.next_index + slot_width ≤ length B
  next-in = omega (arith, P.early.room, some_left, P.room, P.holding.rep.tabled.long)

  pub slot-in : (k : ℕ) → k < s.next_index → slot_width * k + slot_width ≤ length B
  slot-in k z = omega (arith, next-in)

  pub few : s.next_index < count_bound
  few = omega (arith, P.early.room, some_left, P.given.small)

  -- ---- what is read of a slot

  head_is : (k : ℕ) → k < s.next_index → head_at B k ≡ head_of (cluster s k)
  head_is k z = head-at s P.holding.rep.tabled k (in_table k z)

  count-is : (k : ℕ) → k < s.next_index → (head_at B k).count ≡ area (cluster s k)
  count-is k z = ap (λ d. d.count) (head_is k z)

  pub count_of : (k : ℕ) → k < s.next_index → get_or B (slot_width * k + pixel_count_place) 0 ≡ area (cluster s k)
  count_of k z = count_at s P.holding.rep.tabled k (in_table k z)

  total : (k : ℕ) → k < s.next_index → Fits (w * h) (sum_of (head_at B k).sum)
  total k z = subst (λ d. Fits (w * h) (sum_of d.sum)) (sym (head_is k z)) (sum_fits image P.given.bytes P.early.basic k)

  opens : (k : ℕ) → k < s.next_index → Open k K B E
  opens k z = record {
    slot = slot-in k z;
    end = omega (arith, in_table k z, some_left, P.holding.rep.room);
    count = omega (arith, count-is k z, area-le P.early.basic k, P.given.small);
    tail = λ p. subst (λ e. (0 < get_or E k 0) × (get_or E k 0 ≤ e)) (sym (links-long P.early P.holding.rep)) (tail-in P.early P.holding.rep k (omega (arith, count-is k z)));
  }

  -- ---- the pixel is added

  module _ {c : Color} (e : c ≡ pixel image i) where
    one_more : {v : ColorSum} → Fits (w * h) v → Adds v (sum_of_one c)
    unfolding sum_of_one pixel
    one_more F =
        let b = P.given.bytes in
        let d = P.given.small in
        record {
          r = omega (arith, F.r, F.count, ap (λ z. z.r) e, b (4 * i));
          g = omega (arith, F.g, F.count, ap (λ z. z.g) e, b (4 * i + 1));
          b = omega (arith, F.b, F.count, ap (λ z. z.b) e, b (4 * i + 2));
          a = omega (arith, F.a, F.count, ap (λ z. z.a) e, b (4 * i + 3));
          count = omega (arith, F.count);
        }

    pixel-small : (i < count_bound) × (x < count_bound) × (y < count_bound)
    pixel-small = (omega (arith, fits, P.given.small), near-column P.given P.spot, near-row P.given P.spot)

    pub can-add : (k : ℕ) → k < s.next_index → CanAdd k i x y c L K B E
    can-add k z = record { room = opens k z; pixel = on-image; small = pixel-small; sum = one_more (total k z) }

    pub rep-added : {L' K' B' E' : List ℕ} (k : ℕ) → k < s.next_index → Added k i x y c L K B E L' K' B' E' → Rep (w * h) (add_pixel i (pixel image i) (pixel_rect x y) k s) t₀ L' K' B' E'
    rep-added k z A = rep-is A.labels (A.links ∙ ap (λ d. link_after K d (get_or E k 0) (i + 1)) (count-is k z))
        (A.table (cluster s k) (head_is k z) ∙ ap (λ d. saved_head B k (head_of (with_pixel i d (pixel_rect x y) (cluster s k)))) e) A.ends
        (rep_add P.early P.holding.rep fits (pixel image i) (pixel_rect x y) k z (omega (arith, some_left, P.room)))

    new : head_at (cleared_slot B s.next_index) s.next_index ≡ head_of new_cluster
    new = cleared-head B s.next_index next-in

    can-begin-next : CanAdd s.next_index i x y c L K (cleared_slot B s.next_index) E
    can-begin-next = record {
      room = record {
        slot = omega (arith, next-in, cleared-length B s.next_index);
        end = omega (arith, P.early.room, some_left, P.holding.rep.room);
        count = omega (arith, ap (λ d. d.count) new);
        tail = λ p. absurd (omega (arith, ap (λ d. d.count) new));
      };
      pixel = on-image;
      small = pixel-small;
      sum = one_more (subst (λ d. Fits (w * h) (sum_of d.sum)) (sym new) (record { count = omega arith; r = omega arith; g = omega arith; b = omega arith; a = omega arith }));
    }

    pub can-begin : CanAdd n i x y c L K (cleared_slot B n) E
    can-begin = subst (λ k. CanAdd k i x y c L K (cleared_slot B k) E) (sym P.holding.free) can-begin-next

    rep-begun-next : {L' K' B' E' : List ℕ} → Added s.next_index i x y c L K (cleared_slot B s.next_index) E L' K' B' E' → Rep (w * h) (begin_cluster i (pixel image i) (pixel_rect x y) s) t₀ L' K' B' E'
    rep-begun-next A = rep-is A.labels
        (A.links ∙ ap (λ d. link_after K d (get_or E s.next_index 0) (i + 1)) (ap (λ d. d.count) new) ∙ link_after-empty K (get_or E s.next_index 0) (i + 1))
        (A.table new_cluster new ∙ ap (λ d. saved_head (cleared_slot B s.next_index) s.next_index (head_of (with_pixel i d (pixel_rect x y) new_cluster))) e) A.ends
        (rep_begin P.early P.holding.rep fits (pixel image i) (pixel_rect x y) (omega (arith, some_left, P.room)))

    pub rep-begun : {L' K' B' E' : List ℕ} → Added n i x y c L K (cleared_slot B n) E L' K' B' E' → Rep (w * h) (begin_cluster i (pixel image i) (pixel_rect x y) s) t₀ L' K' B' E'
    rep-begun {L'} {K'} {B'} {E'} A = rep-begun-next (subst (λ k. Added k i x y c L K (cleared_slot B k) E L' K' B' E') P.holding.free A)

  -- ---- a cluster goes into another

  module _ (f t : ℕ) (d : f ≢ t) (hf : f < s.next_index) (ht : t < s.next_index) where
    pub can-append : CanAppend f t L K B E
    can-append = record {
      from = opens f hf;
      to = opens t ht;
      list = record {
        links = omega (arith, labels-long P.early P.holding.rep, links-long P.early P.holding.rep);
        small = omega (arith, labels-long P.early P.holding.rep, P.given.small);
        readable = subst T (sym (ap (λ z. reads (length L) K z.first z.count) (head_is f hf) ∙ ap (λ z. reads z K (first_of (cluster s f).pixels) (area (cluster s f))) (labels-long P.early P.holding.rep)))
            (list-reads P.early P.holding.rep f);
      };
      sum =
          let A = total t ht in
          let C = total f hf in
          let z = P.given.small in
          record {
            r = omega (arith, A.r, A.count, C.r, C.count);
            g = omega (arith, A.g, A.count, C.g, C.count);
            b = omega (arith, A.b, A.count, C.b, C.count);
            a = omega (arith, A.a, A.count, C.a, C.count);
            count = omega (arith, A.count, C.count);
          };
    }

    pub rep-combined : {L' K' B' E' : List ℕ} → Combined f t L K B E L' K' B' E' → Rep (w * h) (combine_clusters f t s) t₀ L' K' B' E'
    rep-combined C = rep-is (C.labels ∙ ap (λ ps. relabel t ps L) (ap (λ z. walk (λ p. get_or K p 0) z.first z.count) (head_is f hf) ∙ list-walk P.early P.holding.rep f))
        (C.links ∙ ap (λ z. link_after K z (get_or E t 0) (head_at B f).first) (count-is t ht) ∙ ap (λ z. link_after K (area (cluster s t)) (get_or E t 0) z.first) (head_is f hf))
        (C.table (cluster s t) (cluster s f) (head_is t ht) (head_is f hf)) (C.ends ∙ ap (λ z. if eqb z 0 then E else set E t (get_or E f 0)) (count-is f hf))
        (rep-combine P.early P.holding.rep fits f t d hf ht (omega (arith, some_left, P.room)))
