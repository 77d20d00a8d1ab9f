-- The steps of stage 1 on the buffers: a pixel is placed, two clusters meet, a pixel is taken.
use Rattle.std.specs.Prelude.{if◌then◌else◌, Option, Some, None}
use mathlib.Core.Path.{◌≡◌, refl, sym, ap, ap₂, ◌∙◌, subst}
use mathlib.Core.Logic.{◌≢◌}
use mathlib.Core.Bool.{Bool, true, false, not, ◌&&◌, true≢false, and-false}
use mathlib.Core.List.{List, [], ◌∷◌, ◌++◌}
use mathlib.Core.Option.{some}
use Prim.Native.Nat.{ℕ, suc, ◌+◌, ◌-◌, ◌*◌, ◌/◌, ◌%◌, ◌≤◌, ◌<◌}
use native.Mathlib.Omega.{arith}
use borrow.Author.Tests.{le-leb, lt-leb}
use lib.Dec.{T, eqb, ltb, nltb→le}
use lib.ListN.{length, get_or, set, replicate, length-set, length-append}
use Rattle.rules.specs.Color.{Color, RunnerConfig, pixel, is_discard, keying_on}
use Rattle.rules.specs.Grid.{up, left, up_left}
use Rattle.rules.specs.State.{State, Cluster, new_cluster, cluster, area, pixel_rect, with_pixel, fresh, add_pixel, begin_cluster, combine_clusters}
use Rattle.rules.specs.Stage1.{same_at, label_at, is_key, lower_next, left_meets_up, place, combine_then_place, take_pixel, taken}
use Rattle.rules.specs.Run.{stage1}
use Rattle.rules.specs.Demand3.{Discarded}
use Rattle.rules.proofs.Facts.{eqb_yes}
use Rattle.rules.proofs.Basic.{combine-moved}
use Rattle.rules.proofs.Early.{left-earlier, up-earlier, label_at-next, like-lit, combine-early, combine-empty, lower-early}
use Rattle.rules.proofs.Whole.{early-at}
use Rattle.rules.specs.Layout.{slot_width, pixel_count_place}
use Rattle.rules.specs.Code.Early.{Early}
use Rattle.runner.specs.declared.stage1.Into.{Into}
use Rattle.runner.specs.declared.stage1.Into.TheVariants.{Zero, Up, Left, Fresh}
use Rattle.runner.specs.Code.Slots.{cleared_slot}
use Rattle.runner.specs.Code.Rep.{Rep}
use Rattle.runner.specs.Code.Ops.{CanAdd, Added, CanAppend, Combined}
use Rattle.runner.specs.Code.Stage1.{Holding, meets, goes_by, goes_into, Opened, slot_for, table_for, next_for, count_for, Placing, Meeting, Sided, Taking}
use Rattle.runner.proofs.RepStage1.{rep-fresh, rep-lower, labels-long}
use Rattle.runner.proofs.Spots.{spot_in}
use Rattle.runner.proofs.Stage1Laws.{rep-is, at-is, in_table, count_of, can-add, can-begin, rep-added, rep-begun, can-append, rep-combined}

-- whether a pixel goes nowhere, and where it goes if not
abbrev is_none : Option Into → Bool
is_none None = true
is_none (Some to) = false

abbrev or_zero : Option Into → Into
or_zero None = Zero
or_zero (Some to) = to

module _ {o : RunnerConfig} {w h : ℕ} {image : List ℕ} {shift i x y l u : ℕ} {s : State} {t₀ L K B E : List ℕ} {n m : ℕ} (P : Placing o w h image shift i x y l u s t₀ L K B E n m) where
  module _ {c : Color} (e : c ≡ pixel image i) where
    held-add : {L' K' B' E' : List ℕ} (k : ℕ) → k < s.next_index → Added k i x y c L K B E L' K' B' E' → Holding (w * h) (add_pixel i (pixel image i) (pixel_rect (i % w) (i / w)) k s) t₀ L' K' B' E' n m
    unfolding add_pixel
    held-add {L'} {K'} {B'} {E'} k z A = record {
      rep = subst (λ r. Rep (w * h) (add_pixel i (pixel image i) r k s) t₀ L' K' B' E') (at-is P) (rep-added P e k z A);
      free = P.holding.free;
      slots = P.holding.slots ∙ sym (length-set s.clusters k (with_pixel i (pixel image i) (pixel_rect (i % w) (i / w)) (cluster s k)));
    }

    held-begin : {L' K' B' E' : List ℕ} → Added n i x y c L K (cleared_slot B n) E L' K' B' E' → Holding (w * h) (begin_cluster i (pixel image i) (pixel_rect (i % w) (i / w)) s) t₀ L' K' B' E' (n + 1) (if ltb n m then m else n + 1)
    unfolding begin_cluster
    held-begin {L'} {K'} {B'} {E'} A = record {
      rep = subst (λ r. Rep (w * h) (begin_cluster i (pixel image i) r s) t₀ L' K' B' E') (at-is P) (rep-begun P e A);
      free = ap (λ k. k + 1) P.holding.free;
      slots = ap₂ (λ a b. if ltb a b then b else a + 1) P.holding.free P.holding.slots ∙ pick (ltb s.next_index (length s.clusters)) refl;
    }
      where
        z : Cluster
        z = with_pixel i (pixel image i) (pixel_rect (i % w) (i / w)) new_cluster

        pick : (b : Bool) → ltb s.next_index (length s.clusters) ≡ b → (if b then length s.clusters else s.next_index + 1) ≡ length (if b then set s.clusters s.next_index z else s.clusters ++ (z ∷ []))
        pick true q = sym (length-set s.clusters s.next_index z)
        pick false q =
            let r : length s.clusters ≤ s.next_index = nltb→le s.next_index (length s.clusters) (subst (λ b. T (not b)) (sym q) tt) in
            omega (arith, P.early.room, length-append s.clusters (z ∷ []))

  place_is : (a b c d : Bool) → is_key o image i ≡ a → is_discard o.keying_action ≡ b → same_at o image (some i) (up w i) && same_at o image (some i) (up_left w i) ≡ c
      → same_at o image (some i) (left w i) && same_at o image (some i) (up_left w i) ≡ d
      → (if a then (if b then s else add_pixel i (pixel image i) (pixel_rect (i % w) (i / w)) 0 s)
      else (if c then add_pixel i (pixel image i) (pixel_rect (i % w) (i / w)) u s
      else (if d then add_pixel i (pixel image i) (pixel_rect (i % w) (i / w)) l s else begin_cluster i (pixel image i) (pixel_rect (i % w) (i / w)) s)))
      ≡ place o w image i l u s
  unfolding place
  place_is a b c d e₁ e₂ e₃ e₄ = rw (e₁, e₂, e₃, e₄)

  -- a pixel that goes nowhere changes nothing
  pub gone : goes_into o w image i ≡ None → Holding (w * h) (place o w image i l u s) t₀ L K B E n m
  gone z = go (is_key o image i) (is_discard o.keying_action) refl refl (same_at o image (some i) (up_left w i)) (same_at o image (some i) (up w i)) (same_at o image (some i) (left w i)) (ap is_none z)
    where
      go : (a b : Bool) → is_key o image i ≡ a → is_discard o.keying_action ≡ b → (p q r : Bool) → is_none (goes_by a b p q r) ≡ true → Holding (w * h) (place o w image i l u s) t₀ L K B E n m
      go true true e₁ e₂ p q r z = subst (λ v. Holding (w * h) v t₀ L K B E n m) (place_is true true _ _ e₁ e₂ refl refl) P.holding
      go true false e₁ e₂ p q r z = absurd (true≢false (sym z))
      go false b e₁ e₂ p q r z = absurd (true≢false (sym z))

  module _ {c : Color} (e : c ≡ pixel image i) {B'' : List ℕ} {k n' m' : ℕ} {to : Into} where
    -- the slot can take the pixel
    pub can-take : Opened to l u n m B B'' k n' m' → CanAdd k i x y c L K B'' E
    can-take O = subst (λ j. CanAdd j i x y c L K B'' E) (sym O.slot) (subst (λ b. CanAdd (slot_for to l u n) i x y c L K b E) (sym O.table) (go to))
      where
        go : (to : Into) → CanAdd (slot_for to l u n) i x y c L K (table_for to n B) E
        go Zero = can-add P e 0 P.early.some
        go Up = can-add P e u P.to-up
        go Left = can-add P e l P.to-left
        go Fresh = can-begin P e

    -- and then holds it, as the steps say
    pub takes : {L' K' B' E' : List ℕ} → goes_into o w image i ≡ Some to → Opened to l u n m B B'' k n' m' → Added k i x y c L K B'' E L' K' B' E' → Holding (w * h) (place o w image i l u s) t₀ L' K' B' E' n' m'
    takes {L'} {K'} {B'} {E'} f O A =
        go (is_key o image i) (is_discard o.keying_action) (same_at o image (some i) (up_left w i)) (same_at o image (some i) (up w i)) (same_at o image (some i) (left w i)) refl refl refl refl refl (ap is_none f)
        (O.slot ∙ ap (λ v. slot_for v l u n) to-is) (O.table ∙ ap (λ v. table_for v n B) to-is) (O.free ∙ ap (λ v. next_for v n) to-is) (O.slots ∙ ap (λ v. count_for v n m) to-is)
      where
        to-is : to ≡ or_zero (goes_into o w image i)
        to-is = sym (ap or_zero f)

        held : {st : State} {a b : ℕ} → st ≡ place o w image i l u s → n' ≡ a → m' ≡ b → Holding (w * h) st t₀ L' K' B' E' a b → Holding (w * h) (place o w image i l u s) t₀ L' K' B' E' n' m'
        held {st} p q r H = record { rep = subst (λ v. Rep (w * h) v t₀ L' K' B' E') p H.rep; free = q ∙ H.free ∙ ap (λ v. v.next_index) p; slots = r ∙ H.slots ∙ ap (λ v. length v.clusters) p }

        added : {j : ℕ} {b : List ℕ} → k ≡ j → B'' ≡ b → Added j i x y c L K b E L' K' B' E'
        added {j} {b} p q = subst (λ v. Added v i x y c L K b E L' K' B' E') p (subst (λ v. Added k i x y c L K v E L' K' B' E') q A)

        go : (a b p q r : Bool) → is_key o image i ≡ a → is_discard o.keying_action ≡ b → same_at o image (some i) (up_left w i) ≡ p → same_at o image (some i) (up w i) ≡ q → same_at o image (some i) (left w i) ≡ r
            → is_none (goes_by a b p q r) ≡ false → k ≡ slot_for (or_zero (goes_by a b p q r)) l u n → B'' ≡ table_for (or_zero (goes_by a b p q r)) n B → n' ≡ next_for (or_zero (goes_by a b p q r)) n → m' ≡ count_for (or_zero (goes_by a b p q r)) n m
            → Holding (w * h) (place o w image i l u s) t₀ L' K' B' E' n' m'
        go true true p q r e₁ e₂ e₃ e₄ e₅ z s₁ s₂ s₃ s₄ = absurd (true≢false z)
        go true false p q r e₁ e₂ e₃ e₄ e₅ z s₁ s₂ s₃ s₄ = held (place_is true false _ _ e₁ e₂ refl refl) s₃ s₄ (held-add e 0 P.early.some (added s₁ s₂))
        go false b true true r e₁ e₂ e₃ e₄ e₅ z s₁ s₂ s₃ s₄ = held (place_is false b true _ e₁ e₂ (ap₂ ◌&&◌ e₄ e₃) refl) s₃ s₄ (held-add e u P.to-up (added s₁ s₂))
        go false b true false true e₁ e₂ e₃ e₄ e₅ z s₁ s₂ s₃ s₄ = held (place_is false b false true e₁ e₂ (ap₂ ◌&&◌ e₄ e₃) (ap₂ ◌&&◌ e₅ e₃)) s₃ s₄ (held-add e l P.to-left (added s₁ s₂))
        go false b true false false e₁ e₂ e₃ e₄ e₅ z s₁ s₂ s₃ s₄ = held (place_is false b false false e₁ e₂ (ap₂ ◌&&◌ e₄ e₃) (ap₂ ◌&&◌ e₅ e₃)) s₃ s₄ (held-begin e (added s₁ s₂))
        go false b false q r e₁ e₂ e₃ e₄ e₅ z s₁ s₂ s₃ s₄ = held (place_is false b false false e₁ e₂ (ap₂ ◌&&◌ e₄ e₃ ∙ and-false q) (ap₂ ◌&&◌ e₅ e₃ ∙ and-false r)) s₃ s₄ (held-begin e (added s₁ s₂))

-- ---- two clusters meet

module _ {o : RunnerConfig} {w h : ℕ} {image : List ℕ} {shift i x y l u : ℕ} {s : State} {t₀ L K B E : List ℕ} {n m : ℕ} (M : Meeting o w h image shift i x y l u s t₀ L K B E n m) where
  hl : l < s.next_index
  hl = M.placing.to-left

  hu : u < s.next_index
  hu = M.placing.to-up

  up-differs : u ≢ l
  up-differs e = M.differ (sym e)

  -- a merge leaves as many slots
  counted : (f t : ℕ) → f ≢ t → f < s.next_index → t < s.next_index → m ≡ length (combine_clusters f t s).clusters
  counted f t d hf ht = M.placing.holding.slots ∙ sym (combine-moved f t s d (in_table M.placing f hf) (in_table M.placing t ht)).table

  pub left-into-up : CanAppend l u L K B E
  left-into-up = can-append M.placing l u M.differ hl hu

  pub up-into-left : CanAppend u l L K B E
  up-into-left = can-append M.placing u l up-differs hu hl

  module _ {L' K' B' E' : List ℕ} where
    -- left went into up
    met-up : {n' m' : ℕ} → Combined l u L K B E L' K' B' E' → n' ≡ (if eqb (l + 1) n && eqb n m then n - 1 else n) → m' ≡ m
        → Placing o w h image shift i x y u u (lower_next l (combine_clusters l u s)) t₀ L' K' B' E' n' m'
    unfolding lower_next combine_clusters
    met-up C a b = record {
      given = M.placing.given;
      spot = M.placing.spot;
      early = lowered.0;
      holding = record {
        rep = rep-lower l (rep-combined M.placing l u M.differ hl hu C);
        free = a ∙ ap₂ (λ p q. if eqb (l + 1) p && eqb p q then p - 1 else p) M.placing.holding.free (counted l u M.differ hl hu);
        slots = b ∙ counted l u M.differ hl hu;
      };
      room = M.placing.room;
      to-left = lowered.1;
      to-up = lowered.1;
    }
      where
        lowered : Early image (w * h) (Discarded o image) (T (keying_on o)) i (lower_next l (combine_clusters l u s)) × (u < (lower_next l (combine_clusters l u s)).next_index)
        lowered =
            lower-early o w i l u (combine_clusters l u s) (combine-early i l u s M.placing.early M.differ hl hu M.up-keyed) M.differ hu
            (combine-empty i l u s M.placing.early M.differ hl hu M.up-keyed)

    -- up went into left
    met-left : Combined u l L K B E L' K' B' E' → Placing o w h image shift i x y l l (combine_clusters u l s) t₀ L' K' B' E' n m
    unfolding combine_clusters
    met-left C = record {
      given = M.placing.given;
      spot = M.placing.spot;
      early = combine-early i u l s M.placing.early up-differs hu hl M.left-keyed;
      holding = record { rep = rep-combined M.placing u l up-differs hu hl C; free = M.placing.holding.free; slots = counted u l up-differs hu hl };
      room = M.placing.room;
      to-left = hl;
      to-up = hl;
    }

    -- which of the two, by the counts that the code reads
    pub sided-up : {n' m' : ℕ} → get_or B (slot_width * l + pixel_count_place) 0 ≤ get_or B (slot_width * u + pixel_count_place) 0 → Combined l u L K B E L' K' B' E' → n' ≡ (if eqb (l + 1) n && eqb n m then n - 1 else n) → m' ≡ m
        → Sided o w h image shift i x y (combine_then_place o w image i l u s) t₀ L' K' B' E' u u n' m'
    unfolding combine_then_place
    sided-up z C a b = record {
      state = lower_next l (combine_clusters l u s);
      placing = met-up C a b;
      placed = rw (le-leb (area (cluster s l)) (area (cluster s u)) (omega (arith, count_of M.placing l hl, count_of M.placing u hu)));
    }

    pub sided-left : get_or B (slot_width * u + pixel_count_place) 0 < get_or B (slot_width * l + pixel_count_place) 0 → Combined u l L K B E L' K' B' E' → Sided o w h image shift i x y (combine_then_place o w image i l u s) t₀ L' K' B' E' l l n m
    unfolding combine_then_place
    sided-left z C = record {
      state = combine_clusters u l s;
      placing = met-left C;
      placed = rw (lt-leb (area (cluster s l)) (area (cluster s u)) (omega (arith, count_of M.placing l hl, count_of M.placing u hu)));
    }

-- ---- a pixel is taken

module _ (o : RunnerConfig) (w : ℕ) (image : List ℕ) where
  take-is : (i : ℕ) (s : State) (b : Bool) → meets o w image i (label_at s (left w i)) (label_at s (up w i)) ≡ b
      → (if b then combine_then_place o w image i (label_at s (left w i)) (label_at s (up w i)) s else place o w image i (label_at s (left w i)) (label_at s (up w i)) s) ≡ take_pixel o w image i s
  unfolding take_pixel left_meets_up
  take-is i s b e =
      ap (λ c. if c then combine_then_place o w image i (label_at s (left w i)) (label_at s (up w i)) s else place o w image i (label_at s (left w i)) (label_at s (up w i)) s) (sym e)

  next-is : (size i : ℕ) → take_pixel o w image i (taken o w image size i) ≡ taken o w image size (suc i)
  unfolding taken
  next-is size i = refl

-- the tests of step 1
tests : (a b c d : Bool) → a && b && c && d ≡ true → (a ≡ true) × (c ≡ true) × (d ≡ true)
tests true true true true e = (refl, refl, refl)
tests true true true false e = absurd (true≢false (sym e))
tests true true false d e = absurd (true≢false (sym e))
tests true false c d e = absurd (true≢false (sym e))
tests false b c d e = absurd (true≢false (sym e))

module _ {o : RunnerConfig} {w h : ℕ} {image : List ℕ} {shift i x y : ℕ} {t₀ L K B E : List ℕ} {n m : ℕ} (Q : Taking o w h image shift i x y t₀ L K B E n m) where
  early : Early image (w * h) (Discarded o image) (T (keying_on o)) i (taken o w image (w * h) i)
  early = early-at o w h image i (omega (arith, spot_in Q.spot))

  pub pixel-in : i < length L
  pixel-in = omega (arith, spot_in Q.spot, labels-long early Q.holding.rep)

  module _ {l u : ℕ} (to-left : l ≡ label_at (taken o w image (w * h) i) (left w i)) (to-up : u ≡ label_at (taken o w image (w * h) i) (up w i)) where
    take-placing : Placing o w h image shift i x y l u (taken o w image (w * h) i) t₀ L K B E n m
    take-placing = record {
      given = Q.given;
      spot = Q.spot;
      early = early;
      holding = Q.holding;
      room = Q.room;
      to-left = rw to-left (label_at-next early (left w i));
      to-up = rw to-up (label_at-next early (up w i));
    }

    pub take-meeting : meets o w image i l u ≡ true → Meeting o w h image shift i x y l u (taken o w image (w * h) i) t₀ L K B E n m
    take-meeting e =
        let f = tests (not (eqb l u)) (same_at o image (left w i) (up w i)) (same_at o image (some i) (left w i)) (same_at o image (some i) (up w i)) e in
        record {
          placing = take-placing;
          differ = λ z. true≢false (sym f.0 ∙ ap not (eqb_yes l u z));
          left-keyed = λ z. like-lit o early (left w i) (left-earlier w i Q.given.columns) f.1 (sym to-left ∙ z);
          up-keyed = λ z. like-lit o early (up w i) (up-earlier w i Q.given.columns) f.2 (sym to-up ∙ z);
        }

    -- the state after pixel i, by the condition
    after : (b : Bool) → meets o w image i l u ≡ b
        → (if b then combine_then_place o w image i l u (taken o w image (w * h) i) else place o w image i l u (taken o w image (w * h) i)) ≡ taken o w image (w * h) (suc i)
    after b e =
        let s = taken o w image (w * h) i in
        ap₂ (λ p q. if b then combine_then_place o w image i p q s else place o w image i p q s) to-left to-up
        ∙ take-is o w image i s b (sym (ap₂ (meets o w image i) to-left to-up) ∙ e) ∙ next-is o w image (w * h) i

    -- the sides where they do not meet, and where they were combined
    pub sided-apart : meets o w image i l u ≡ false → Sided o w h image shift i x y (taken o w image (w * h) (suc i)) t₀ L K B E l u n m
    sided-apart e = record { state = taken o w image (w * h) i; placing = take-placing; placed = after false e }

    pub sided-met : {L' K' B' E' : List ℕ} {l' u' n' m' : ℕ} → meets o w image i l u ≡ true
        → Sided o w h image shift i x y (combine_then_place o w image i l u (taken o w image (w * h) i)) t₀ L' K' B' E' l' u' n' m'
        → Sided o w h image shift i x y (taken o w image (w * h) (suc i)) t₀ L' K' B' E' l' u' n' m'
    sided-met e S = record { state = S.state; placing = S.placing; placed = S.placed ∙ after true e }

-- a pixel that is placed is taken
pub taken-so : {o : RunnerConfig} {w h : ℕ} {image : List ℕ} {shift i x y l u : ℕ} {z : State} {t₀ L K B E L' K' B' E' : List ℕ} {n m n' m' : ℕ} (S : Sided o w h image shift i x y z t₀ L K B E l u n m)
    → Holding (w * h) (place o w image i l u S.state) t₀ L' K' B' E' n' m' → Holding (w * h) z t₀ L' K' B' E' n' m'
taken-so {w = w} {h = h} {t₀ = t₀} {L' = L'} {K' = K'} {B' = B'} {E' = E'} {n' = n'} {m' = m'} S H = subst (λ v. Holding (w * h) v t₀ L' K' B' E' n' m') S.placed H

-- ---- all pixels

-- before the first
pub held-fresh : (o : RunnerConfig) (w : ℕ) (image : List ℕ) (size : ℕ) {L K B E : List ℕ} → L ≡ replicate size 0 → K ≡ replicate size 0 → length E ≡ size + 1
    → (t₀ : List ℕ) → B ≡ cleared_slot t₀ 0 → slot_width * (size + 1) ≤ length t₀ → Holding size (taken o w image size 0) t₀ L K B E 1 1
unfolding taken fresh
held-fresh o w image size {E = E} a b d t₀ e l = record { rep = rep-is a b e refl (rep-fresh size t₀ E d (omega arith)); free = refl; slots = refl }

-- after the last
pub held_all : (o : RunnerConfig) (w h : ℕ) (image : List ℕ) {t₀ L K B E : List ℕ} {n m i : ℕ} → i ≡ w * h → Holding (w * h) (taken o w image (w * h) i) t₀ L K B E n m
    → Holding (w * h) (stage1 o w h image) t₀ L K B E n m
unfolding stage1
held_all o w h image {t₀} {L} {K} {B} {E} {n} {m} e H = subst (λ k. Holding (w * h) (taken o w image (w * h) k) t₀ L K B E n m) e H

-- what tells which side goes into which, and what both have then
pub ruleset sides = (left-into-up, up-into-left, sided-up, sided-left)
