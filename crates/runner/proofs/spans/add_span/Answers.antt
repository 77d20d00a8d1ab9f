use mathlib.Core.Path.{◌≡◌, refl, sym, ap, ap₂, ◌∙◌}
use mathlib.Core.List.{List}
use Prim.Native.Nat.{ℕ, zero, suc, ◌+◌, ◌-◌, ◌*◌, ◌/◌, ◌≤◌, ◌<◌}
use native.Mathlib.Omega.{arith}
use lib.ListN.{length, get_or, set, take, drop}
use lib.Seq.{get_or-take, get_or-drop, length-take-le}
use Rattle.std.proofs.Common.{length-drop}
use Rattle.rules.specs.Color.{sum_of_one, ◌⊕◌, pixel}
use Rattle.rules.specs.State.{Cluster, with_cluster}
use Rattle.rules.specs.Code.Spans.{set_from, sum_from, span_rect, span_of}
use Rattle.rules.proofs.Spans.{first-up_from, length-up_from}
use Rattle.rules.specs.Code.Bounds.{sum_bound}
use Rattle.color.specs.Colors.{sum_of}
use Rattle.color.specs.declared.ColorSum as declared
use Rattle.runner.specs.declared.slot.Head.{Head}
use Rattle.runner.specs.Types.{rect_of}
use Rattle.runner.specs.Code.Slots.{Adds, head_at, head_of, saved_head}
use Rattle.runner.specs.Code.Rep.{link_after}
use Rattle.runner.specs.Code.Spans.{linked_from, CanAddSpan, AddedSpan}
use Rattle.runner.proofs.Slots.{head_is}
use Rattle.runner.proofs.Labels.{part-filled}
use Rattle.runner.proofs.spans.add_span.Goals as goal

-- pixels that are the same sum up to the same
same-sum : (xs image : List ℕ) (i n : ℕ) → ((p : ℕ) → p < 4 * n → get_or xs p 0 ≡ get_or image (4 * i + p) 0) → sum_from xs 0 n ≡ sum_from image i n
unfolding sum_from pixel
same-sum xs image i zero f = refl
same-sum xs image i (suc n) f = ap₂ (λ s c. s ⊕ sum_of_one c) (same-sum xs image i n (λ p l. f p (omega arith))) same
  where
    byte : (p : ℕ) (q : ℕ) → p < 4 * suc n → 4 * i + p ≡ q → get_or xs p 0 ≡ get_or image q 0
    byte p q l e = f p l ∙ ap (λ j. get_or image j 0) e

    same : pixel xs (0 + n) ≡ pixel image (i + n)
    same = rw (byte (4 * (0 + n)) (4 * (i + n)) (omega arith) (omega arith), byte (4 * (0 + n) + 1) (4 * (i + n) + 1) (omega arith) (omega arith), byte (4 * (0 + n) + 2) (4 * (i + n) + 2) (omega arith) (omega arith), byte (4 * (0 + n) + 3) (4 * (i + n) + 3) (omega arith) (omega arith)) refl

-- the bytes of a span
module _ (image : List ℕ) (i n : ℕ) (l : 4 * (i + n) ≤ length image) where
  abbrev part : List ℕ
  part = take (4 * (i + n) - 4 * i) (drop (4 * i) image)

  part-length : length part ≡ 4 * n
  part-length = omega (arith, length-take-le (4 * (i + n) - 4 * i) (drop (4 * i) image) (omega (arith, length-drop (4 * i) image)))

  part-sum : sum_from part 0 (length part / 4) ≡ sum_from image i n
  part-sum =
      let e : length part / 4 ≡ n = omega (arith, part-length) in
      rw e (same-sum part image i n (λ p b. get_or-take (4 * (i + n) - 4 * i) (drop (4 * i) image) p 0 (omega arith) ∙ get_or-drop (4 * i) image p 0))

-- the span as a slot's head
span_head : (image : List ℕ) (i x y n : ℕ) (h : Head) → 0 < n → h.first ≡ i + 1 → h.count ≡ n → rect_of h.rect ≡ span_rect x y n → sum_of h.sum ≡ sum_from image i n → h ≡ head_of (span_of image i x y n)
unfolding span_of
span_head image i x y zero h l a b d e = absurd (omega arith)
span_head image i x y (suc n) h l a b d e = head_is (span_of image i x y (suc n)) (a ∙ sym (first-up_from i n)) (b ∙ sym (length-up_from i (suc n))) d e

-- with the head that is loaded
module _ {image : List ℕ} {k i x y n : ℕ} {L K B E : List ℕ} {s : Head} (loaded : s ≡ head_at B k) (p : CanAddSpan image k i x y n L K B E) where
  -- what is asked where it is added
  asks-sum : {z : declared.ColorSum} → sum_of z ≡ sum_from image i n → (s.count + n < sum_bound) × Adds (sum_of s.sum) (sum_of z)
  asks-sum e = rw (loaded, e) (omega (arith, p.room.count, p.small.0), p.sum)

  -- the span is added
  added : {K₁ K₂ B₂ L₂ : List ℕ} {r g : Head} → L₂ ≡ set_from L i n k → K₁ ≡ link_after K s.count (get_or E k 0) (i + 1) → K₂ ≡ linked_from K₁ i (n - 1)
      → g ≡ head_of (span_of image i x y n) → ((t f : Cluster) → s ≡ head_of t → g ≡ head_of f → r ≡ head_of (with_cluster f t)) → B₂ ≡ saved_head B k r
      → AddedSpan image k i x y n L K B E L₂ K₂ B₂ (set E k (i + n))
  added a b d e f g = record {
    labels = a;
    links = d ∙ ap (λ ks. linked_from ks i (n - 1)) (b ∙ ap (λ h. link_after K h.count (get_or E k 0) (i + 1)) loaded);
    table = λ t q. g ∙ ap (saved_head B k) (f t _ (loaded ∙ q) e);
    ends = refl;
  }

pub with_cluster-requires : goal.with_cluster-requires
with_cluster-requires c = asks-sum c.load_head-s.ensures c.requires (c.sum_colors.ensures ∙ part-sum _ _ _ c.requires.bytes)

pub returns-clause-added : goal.returns-clause-added
unfolding span_rect
returns-clause-added c = added c.load_head-s.ensures c.requires (part-filled _ _ _ _ c.args.n _ (omega arith) c.requires.pixels (c.fill.ensures.after (λ y e. e))) c.link_after.ensures c.chain_links.ensures
    (span_head _ _ _ _ _ _ c.requires.some refl refl refl (c.sum_colors.ensures ∙ part-sum _ _ _ c.requires.bytes)) c.with_cluster.ensures c.save_head.ensures
