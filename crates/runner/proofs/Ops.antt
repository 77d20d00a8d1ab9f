-- The heads of the table while residues change. Assumes nothing.
use mathlib.Core.Path.{◌≡◌}
use mathlib.Core.List.{List}
use mathlib.Core.Logic.{inl, inr}
use Prim.Native.Nat.{ℕ, ◌+◌, ◌*◌, ◌<◌}
use native.Mathlib.Decide.{dec_lt}
use native.Mathlib.Omega.{arith}
use lib.Dec.{lit<}
use lib.ListN.{get_or}
use Rattle.rules.specs.Layout.{slot_width}
use Rattle.color.specs.declared.ColorSum.{ColorSum}
use Rattle.runner.specs.Code.Slots.{head_at, residue_numbers, saved_residue}
use Rattle.runner.specs.Code.Ops.{Open, CanAppend}
use Rattle.runner.proofs.Tables.{store_out, residue-length}

module _ (B : List ℕ) (t : ℕ) (r : ColorSum) where
  -- a saved residue leaves the first eleven numbers of every slot
  head-number : (k f : ℕ) → f < 11 → get_or (saved_residue B t r) (slot_width * k + f) 0 ≡ get_or B (slot_width * k + f) 0
  unfolding saved_residue
  head-number k f h = store_out B (slot_width * t) 11 (residue_numbers r) (slot_width * k + f) (elim (dec_lt t k) [ yes l ↦ inr (omega arith) | no l ↦ inl (omega arith) ])

  pub residue-head : (k : ℕ) → head_at (saved_residue B t r) k ≡ head_at B k
  unfolding head_at
  residue-head k = λ i. record {
    first = head-number k 0 (lit< tt) i;
    count = head-number k 1 (lit< tt) i;
    rect = record { left = head-number k 2 (lit< tt) i; top = head-number k 3 (lit< tt) i; right = head-number k 4 (lit< tt) i; bottom = head-number k 5 (lit< tt) i };
    sum = record { r = head-number k 6 (lit< tt) i; g = head-number k 7 (lit< tt) i; b = head-number k 8 (lit< tt) i; a = head-number k 9 (lit< tt) i; counter = head-number k 10 (lit< tt) i };
  }

  residue-open : {k : ℕ} {K E : List ℕ} → Open k K B E → Open k K (saved_residue B t r) E
  residue-open {k} o = record { slot = rw residue-length o.slot; end = o.end; count = rw (residue-head k) o.count; tail = rw (residue-head k) o.tail }

  -- and what can be appended
  pub residue-append : {f : ℕ} {L K E : List ℕ} → CanAppend f t L K B E → CanAppend f t L K (saved_residue B t r) E
  residue-append {f} p = record {
    from = residue-open p.from;
    to = residue-open p.to;
    list = rw (residue-head f) p.list;
    sum = rw (residue-head f, residue-head t) p.sum;
  }
