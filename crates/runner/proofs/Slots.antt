-- When a head is that of a cluster, and numbers of a slot written at once. Assumes nothing.
use Rattle.std.proofs.Common.{◌≡◌, List, [], ◌∷◌, ℕ, suc, ◌+◌, ◌≤◌, ◌<◌, length, set, take, drop, ◌++◌, sym, ap, ◌∙◌, append_assoc, length-set, add-suc, arith}
use Rattle.std.proofs.Math.Seq.{take-suc-set}
use Rattle.std.proofs.lemmas.Grind.{common_steps}
use Rattle.std.proofs.lemmas.List.{drop-set-lt, drop-drop}
use Rattle.rules.specs.Color.{ColorSum, ◌⊕◌}
use Rattle.rules.specs.State.{Cluster}
use Rattle.rules.specs.Layout.{first_of}
use Rattle.rules.specs.Calls.{sum_call}
use Rattle.rules.proofs.Ranges.{totals-taken}
use Rattle.color.specs.Colors.{sum_of}
use Rattle.color.proofs.Laws.{sum-taken}
use Rattle.runner.specs.declared.slot.Head.{Head}
use Rattle.runner.specs.Types.{rect_of}
use Rattle.runner.specs.Code.Slots.{Adds, set_numbers, head_of}

-- a head is a cluster's by its four parts
pub head_is : {h : Head} (k : Cluster) → h.first ≡ first_of k.pixels → h.count ≡ length k.pixels → rect_of h.rect ≡ k.rect → sum_of h.sum ≡ k.sum → h ≡ head_of k
head_is k f n e s = λ i. record {
  first = f i;
  count = n i;
  rect = record { left = (e i).left; top = (e i).top; right = (e i).right; bottom = (e i).bottom };
  sum = record { r = (s i).r; g = (s i).g; b = (s i).b; a = (s i).a; counter = (s i).count };
}

-- sums whose totals fit are added, not refused
pub adds-taken : {x y : ColorSum} → Adds x y → sum_call x y ≡ x ⊕ y
adds-taken {x} {y} A = sum-taken x y (totals-taken x y A.r A.g A.b A.a A.count)

-- the first of the numbers
first : (t : List ℕ) (m v : ℕ) (vs : List ℕ) → m < length t → take (suc m) (set t m v) ++ (vs ++ drop (length vs) (drop (suc m) (set t m v))) ≡ take m t ++ (v ∷ (vs ++ drop (suc (length vs)) (drop m t)))
first t m v vs l =
    rw (take-suc-set t m v l, drop-set-lt (suc m) t m v (omega arith))
    (append_assoc (take m t) (v ∷ []) _ ∙ ap (λ z. take m t ++ (v ∷ (vs ++ z))) (drop-drop (length vs) (suc m) t ∙ ap (λ n. drop n t) (omega arith) ∙ sym (drop-drop (suc (length vs)) m t)))

-- numbers written one after another are written at once
pub at_once : (t : List ℕ) (b j : ℕ) (vs : List ℕ) → b + j + length vs ≤ length t → take (b + j) t ++ (vs ++ drop (length vs) (drop (b + j) t)) ≡ set_numbers t b j vs
at_once t b j [] l = grind (arith, common_steps)
at_once t b j (v ∷ vs) l = sym (first t (b + j) v vs (omega arith)) ∙ rw add-suc at (at_once (set t (b + j) v) b (suc j) vs (omega (arith, length-set t (b + j) v)))
