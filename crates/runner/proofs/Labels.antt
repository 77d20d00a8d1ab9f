-- What relabelling a part of a list leaves to be done, and a stretch of labels that is filled.
use mathlib.Core.Path.{◌≡◌, sym, ap, ◌∙◌}
use mathlib.Core.List.{List, [], ◌∷◌, ◌++◌, append_assoc}
use Prim.Native.Nat.{ℕ, zero, suc, ◌+◌, ◌-◌, ◌≤◌, ◌<◌}
use native.Mathlib.Numerals.{add-one}
use native.Mathlib.Omega.{arith}
use lib.ListN.{length, get_or, set, take, drop, length-set, length-append}
use Rattle.std.proofs.Common.{length-drop, drop-cons}
use Rattle.std.proofs.Math.ListN.{replicate}
use Rattle.std.proofs.lemmas.Grind.{common_steps}
use Rattle.std.proofs.lemmas.List.{set_at, length-take-le, length-replicate, replicate_more}
use Rattle.image.specs.declared.PixelList.{PixelList}
use Rattle.rules.specs.State.{relabel}
use Rattle.rules.specs.Code.Spans.{set_from, Consecutive}
use Rattle.rules.proofs.Walks.{Step, step}
use Rattle.rules.proofs.Spans.{length-set_from}
use Rattle.rules.proofs.Relabels.{Stretch, stretch}
use Rattle.runner.specs.Code.Labelling.{CanRelabel, Relabels}

module _ {L K : List ℕ} {list : PixelList} (C : CanRelabel L K list) where
  -- the list has a next pixel
  pub next-step : 0 < list.count → Step (length L) K list.first list.count
  next-step l = step (length L) K list.first list.count l C.readable

  -- that pixel is relabelled
  pub relabels-one : (t : ℕ) → 0 < list.count → Relabels t L K list (set L (list.first - 1) t) (record { first = get_or K (list.first - 1) 0; count = list.count - 1 })
  relabels-one t l = record { width = length-set L (list.first - 1) t; readable = (next-step l).rest; same = sym (ap (λ ps. relabel t ps L) (next-step l).here) }

  -- n pixels after it are relabelled with it
  module _ (n : ℕ) (l : n < list.count) (c : Consecutive K list.first n) where
    run : Stretch (length L) K list.first list.count n
    run = stretch (length L) K list.first list.count n l C.readable c

    pub stretch-in : list.first - 1 + n < length L
    stretch-in = run.within

    pub relabels-stretch : (t : ℕ) → Relabels t L K list (set_from L (list.first - 1) (n + 1) t) (record { first = get_or K (list.first - 1 + n) 0; count = list.count - (n + 1) })
    relabels-stretch t = record { width = length-set_from L (list.first - 1) (n + 1) t; readable = rw add-one run.rest; same = rw add-one (sym (run.same t L)) }

-- ---- a stretch filled

-- a part of n equal entries is n entries set
filled : (ls : List ℕ) (i n v : ℕ) → i + n ≤ length ls → take i ls ++ (replicate n v ++ drop n (drop i ls)) ≡ set_from ls i n v
unfolding set_from
filled ls i zero v l = grind (arith, common_steps)
filled ls i (suc n) v l =
    let h : n < length (drop i ls) = omega (arith, length-drop i ls) in
    let long : length (take i ls ++ replicate n v) ≡ i + n = omega (arith, length-append (take i ls) (replicate n v), length-take-le i ls (omega arith), length-replicate n v) in
    sym (ap (λ z. set z (i + n) v) (sym (filled ls i n v (omega arith)) ∙ ap (λ z. take i ls ++ (replicate n v ++ z)) (drop-cons (drop i ls) n 0 h) ∙ sym (append_assoc (take i ls) (replicate n v) _))
    ∙ set_at _ _ _ v (i + n) long ∙ append_assoc (take i ls) (replicate n v) _
    ∙ ap (λ z. take i ls ++ z) (sym (append_assoc (replicate n v) (v ∷ []) _) ∙ ap (λ z. z ++ drop (suc n) (drop i ls)) (replicate_more n v ∙ ap (λ m. replicate m v) (add-one n))))

-- the part from i to e
pub part-filled : (ls ys : List ℕ) (i e n v : ℕ) → e - i ≡ n → i + n ≤ length ls → ys ≡ replicate (length (take (e - i) (drop i ls))) v
    → take i ls ++ (ys ++ drop (e - i) (drop i ls)) ≡ set_from ls i n v
part-filled ls ys i e n v d l f =
    let m : length (take (e - i) (drop i ls)) ≡ n = rw d (length-take-le n (drop i ls) (omega (arith, length-drop i ls, l))) in
    rw (f ∙ ap (λ z. replicate z v) m, d) (filled ls i n v l)
