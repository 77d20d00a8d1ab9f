-- Laws of the quick checks: their lanes, and that entries which pass both answer 0.
use mathlib.Core.Path.{◌≡◌, refl}
use mathlib.Core.List.{List}
use Prim.Native.Nat.{ℕ, zero, suc, ◌+◌, ◌-◌, ◌≤◌, ◌<◌}
use native.Mathlib.Decide.{ℕ_discrete}
use native.Mathlib.Omega.{arith}
use borrow.Author.Tests.{lt-ltb, le-leb}
use lib.Dec.{T}
use lib.ListN.{length, get_or, set}
use Rattle.std.proofs.Common.{get_or-set_same, get_or-set_other}
use Rattle.std.specs.List.{All}
use Rattle.rules.specs.Color.{has_average}
use Rattle.rules.specs.Paint.{reads, slot_number, slot_residue, entry_answer, entries_answer}
use Rattle.rules.proofs.Facts.{is_true}
use Rattle.rules.specs.Layout.{first_pixel_place, pixel_count_place}
use Rattle.container.specs.Code.Quick.{NumbersPass, ListPasses, LanePasses, LanesPass}
use Rattle.container.specs.Code.Leads.{Leads}
use Rattle.image.specs.declared.PixelList.{PixelList}
use Rattle.container.specs.declared.quick.Lanes.{Lanes}
use Rattle.container.proofs.Leads.{leads-reads}

-- a lane with no pixel takes the entry before place n
pub lane-takes : (table outputs : List ℕ) (x y : PixelList) (first before n left : ℕ) → LanePasses table outputs x before (record { first = first; count = 0 }) n → 0 < n → left ≡ n - 1
    → ((size : ℕ) (links : List ℕ) → T (reads size links y.first y.count) → ListPasses size links table (get_or outputs (n - 1) 0)) → LanePasses table outputs x before y left
lane-takes table outputs x y first before n left h l e f = record {
  rest = λ size links r. h.rest size links tt;
  taken = λ size links r m p i b k. elim (ℕ_discrete i (n - 1)) [ yes z ↦ rw z (f size links r) | no d ↦ h.taken size links tt m p i (omega arith) k ];
}

-- and so it does where that has none either
pub lane-passes : (table outputs : List ℕ) (x : PixelList) (left : ℕ) → LanePasses table outputs x left x left
lane-passes table outputs x left = record { rest = λ size links r. r; taken = λ size links r m p. p }

-- a lane is filled
pub ruleset takes = (lane-takes, lane-passes)

-- lane i is filled
pub filled-turn : (size : ℕ) (links table outputs : List ℕ) (m i : ℕ) (x : Lanes) (y : PixelList) (left : ℕ) → length x.at ≡ 4 → length x.count ≡ 4 → i < 4
    → LanePasses table outputs (record { first = get_or x.at i 0; count = get_or x.count i 0 }) x.left y left
    → LanesPass size links table outputs m x → LanesPass size links table outputs m (record { at = set x.at i y.first; count = set x.count i y.count; left = left })
filled-turn size links table outputs m i x y left e f l h p = record {
  taken = λ r.
      let a : i < length x.at = omega arith in
      let b : i < length x.count = omega arith in
      let q = rw (get_or-set_same, get_or-set_same) at (r i l) in
      h.taken size links q m (p.taken (λ j k. elim (ℕ_discrete j i) [ yes z ↦ rw z (h.rest size links q) | no d ↦ rw (get_or-set_other, get_or-set_other) at (r j k) ]));
}

-- what is left of a list after n links is read with it
pub walked-reads : (size : ℕ) (links : List ℕ) (at count n to : ℕ) → n ≤ count → Leads size links at n to → T (reads size links to (count - n)) → T (reads size links at count)
walked-reads size links at count n to l e r = let s : n + (count - n) ≡ count = omega arith in rw s at (leads-reads size links n (count - n) at to e r)

-- a slot that passes both answers 0
entry_zero : (size n : ℕ) (links table : List ℕ) (k : ℕ) → NumbersPass size n table k → ListPasses size links table k → entry_answer size n links table k ≡ 0
unfolding entry_answer
entry_zero size n links table k p r =
    rw (
      lt-ltb k n p.0,
      is_true (has_average (slot_residue table k)) p.1,
      le-leb (slot_number table k pixel_count_place) size p.2,
      is_true (reads size links (slot_number table k first_pixel_place) (slot_number table k pixel_count_place)) r,
    )

quick_to : (size n : ℕ) (links table outputs : List ℕ) (m : ℕ) → ((i : ℕ) → i < m → NumbersPass size n table (get_or outputs i 0))
    → ((i : ℕ) → i < m → ListPasses size links table (get_or outputs i 0)) → entries_answer size n links table outputs m ≡ 0
unfolding entries_answer
quick_to size n links table outputs zero p r = refl
quick_to size n links table outputs (suc i) p r =
    rw (entry_zero size n links table _ (p i (omega arith)) (r i (omega arith))) (quick_to size n links table outputs i (λ j l. p j (omega arith)) (λ j l. r j (omega arith)))

-- entries that pass both answer 0
pub quick_zero : (size n : ℕ) (links table outputs : List ℕ) → All (NumbersPass size n table) outputs
    → ((i : ℕ) → i < length outputs → ListPasses size links table (get_or outputs i 0)) → entries_answer size n links table outputs (length outputs) ≡ 0
quick_zero size n links table outputs p r = quick_to size n links table outputs (length outputs) (λ i l. p i 0 l) r
