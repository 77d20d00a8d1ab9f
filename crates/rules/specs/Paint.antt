-- Painting over any buffers, also such that no run made (rules 3.4, 9.2): checks 8, 9 and 10 for each entry from last
-- to first, and the picture, painted only when all pass.
use Rattle.std.specs.Prelude.{Bool, true, false, not, ◌&&◌, ◌||◌, List, ℕ, zero, suc, ◌+◌, ◌*◌, leb, ltb, eqb, get_or}
use Rattle.std.specs.Prelude.{replicate, if◌then◌else◌}
use Rattle.rules.specs.Base.{each, times_back}
use Rattle.rules.specs.Color.{ColorSum, average, has_average}
use Rattle.rules.specs.Layout.{walk, slot_width, first_pixel_place, pixel_count_place, sum_place}
use Rattle.rules.specs.Layout.{residue_place}
use Rattle.rules.specs.Picture.{paint_pixel}

-- whether `count` more pixels can be listed along the links from v, a pixel number plus one (rule 9.3): no link is 0 or
-- above size
abbrev pub reads : ℕ → List ℕ → ℕ → ℕ → Bool
reads size links v zero = true
reads size links zero (suc count) = false
reads size links (suc p) (suc count) = ltb p size && reads size links (get_or links p 0) count

-- number f of slot k
unfoldable pub slot_number : List ℕ → ℕ → ℕ → ℕ
slot_number table k f = get_or table (slot_width * k + f) 0

-- the five numbers from number f of slot k on, as a sum
unfoldable pub five_from : ℕ → List ℕ → ℕ → ColorSum
unfolding slot_number
five_from f table k = record {
  r = slot_number table k f;
  g = slot_number table k (f + 1);
  b = slot_number table k (f + 2);
  a = slot_number table k (f + 3);
  count = slot_number table k (f + 4);
}

-- the sum of slot k
abbrev pub slot_sum : List ℕ → ℕ → ColorSum
slot_sum = five_from sum_place

-- the residue of slot k
abbrev pub slot_residue : List ℕ → ℕ → ColorSum
slot_residue = five_from residue_place

-- the pixels of slot k, along the links
unfoldable pub slot_pixels : List ℕ → List ℕ → ℕ → List ℕ
unfolding slot_number walk
slot_pixels links table k =
    walk (λ p. get_or links p 0) (slot_number table k first_pixel_place) (slot_number table k pixel_count_place)

-- The answer for an entry that names slot k: 8, 9, 10, or 0. size is w × h, n the number of slots.
unfoldable pub entry_answer : ℕ → ℕ → List ℕ → List ℕ → ℕ → ℕ
unfolding slot_number five_from has_average
entry_answer size n links table k =
    if not (ltb k n) then 8
    else (if not (has_average (slot_residue table k)) then 9
    else (if not (leb (slot_number table k pixel_count_place) size)
    || not (reads size links (slot_number table k first_pixel_place) (slot_number table k pixel_count_place)) then 10
    else 0))

-- entries m - 1, .. 0: the first answer that is not 0
unfoldable pub entries_answer : ℕ → ℕ → List ℕ → List ℕ → List ℕ → ℕ → ℕ
unfolding entry_answer
entries_answer size n links table outputs zero = 0
entries_answer size n links table outputs (suc i) =
    let answer = entry_answer size n links table (get_or outputs i 0) in
    if eqb answer 0 then entries_answer size n links table outputs i else answer

-- the cluster of slot k is painted with its residue average
unfoldable pub paint_slot : List ℕ → List ℕ → ℕ → List ℕ → List ℕ
unfolding slot_pixels five_from paint_pixel average
paint_slot links table k picture =
    each (slot_pixels links table k) (paint_pixel (average (slot_residue table k))) picture

-- zeros, then entries m - 1, .. 0
unfoldable pub paint_entries : ℕ → List ℕ → List ℕ → List ℕ → ℕ → List ℕ
unfolding paint_slot
paint_entries size links table outputs m =
    times_back m (λ i. paint_slot links table (get_or outputs i 0)) (replicate (4 * size) 0)

-- what painting answers, and the picture as it leaves it
pub record Painted : Type 0 where
  pub answer : ℕ
  pub picture : List ℕ

-- m entries; `given` is the picture before
unfoldable pub painting : ℕ → ℕ → ℕ → List ℕ → List ℕ → List ℕ → List ℕ → Painted
unfolding entries_answer paint_entries
painting size n m links table outputs given =
    let answer = entries_answer size n links table outputs m in
    record { answer = answer; picture = if eqb answer 0 then paint_entries size links table outputs m else given }
