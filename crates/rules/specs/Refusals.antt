-- The answer number of each public call (rules 3.1 to 3.4). 0 is acceptance. A call checks only what it takes, in the
-- table's order, and answers the number of the first check that fails.
use Rattle.std.specs.Prelude.{Bool, true, not, ◌||◌, List, [], ◌∷◌, ◌++◌, ℕ, ◌+◌, ◌*◌, leb, ltb, eqb, ℤ, pos, negsuc}
use Rattle.std.specs.Prelude.{if◌then◌else◌}
use Rattle.rules.specs.Color.{ColorSum, ◌⊕◌, RunnerConfig}
use Rattle.rules.specs.Layout.{slot_width}

-- the largest image, in pixels (check 3)
abbrev pub limit : ℕ
limit = 65000

-- a line of the table: its number, and whether the call fails it
pub data Check : Type 0 where
  refusal : ℕ → Bool → Check

-- the number of the first check that fails, 0 where none does
abbrev pub first_failed : List Check → ℕ
first_failed [] = 0
first_failed (refusal number bad ∷ later) = if bad then number else first_failed later

-- 1: the shift is outside 0 to 7
abbrev pub bad_shift : ℤ → Bool
bad_shift (pos n) = ltb 7 n
bad_shift (negsuc n) = true

-- 5, the buffers: what each must hold at least (rule 3.3)
abbrev pub table_length : ℕ → ℕ
table_length size = slot_width * (size + 1)

-- the outputs: two for each pixel
abbrev pub outputs_length : ℕ → ℕ
outputs_length size = 2 * size

-- the work buffer: eight for each pixel, and eight
abbrev pub work_length : ℕ → ℕ
work_length size = 8 * size + 8

-- 5, of a sheet of `size` pixels: a buffer that is too short; links, table and outputs are lengths
abbrev pub short_sheet : ℕ → ℕ → ℕ → ℕ → Bool
short_sheet size links table outputs =
    ltb links size || ltb table (table_length size) || ltb outputs (outputs_length size)

-- and a caller's counts
abbrev pub bad_counts : ℕ → ℕ → ℕ → Bool
bad_counts size n m = ltb (size + 1) n || ltb (outputs_length size) m

module _ (w h : ℕ) where
  -- 2 and 3: the size of the image
  abbrev pub size_checks : List Check
  size_checks = refusal 2 (eqb w 0 || eqb h 0) ∷ refusal 3 (ltb limit (w * h)) ∷ []

  -- 4 or 6: bytes that are not four for each pixel
  abbrev pub not_four_each : ℕ → Bool
  not_four_each bytes = not (eqb bytes (4 * (w * h)))

  -- the checks of `run`; image, labels, links, table, outputs and work are lengths
  abbrev pub run_checks : RunnerConfig → ℕ → ℕ → ℕ → ℕ → ℕ → ℕ → List Check
  run_checks o image labels links table outputs work =
      refusal 1 (bad_shift o.is_same_color_a) ∷ size_checks
      ++ (refusal 4 (not_four_each image)
      ∷ refusal 5 (ltb labels (w * h) || short_sheet (w * h) links table outputs || ltb work (work_length (w * h)))
      ∷ [])

  -- the number that `run` answers
  unfoldable pub run_answer : RunnerConfig → ℕ → ℕ → ℕ → ℕ → ℕ → ℕ → ℕ
  run_answer o image labels links table outputs work = first_failed (run_checks o image labels links table outputs work)

  -- run and painting in one call: 6 after 5
  unfoldable pub run_and_paint_answer : RunnerConfig → ℕ → ℕ → ℕ → ℕ → ℕ → ℕ → ℕ → ℕ
  run_and_paint_answer o image labels links table outputs work picture =
      first_failed (run_checks o image labels links table outputs work ++ (refusal 6 (not_four_each picture) ∷ []))

  -- painting, before its entries are checked
  unfoldable pub paint_answer : ℕ → ℕ → ℕ → ℕ → ℕ → ℕ → ℕ
  paint_answer links table outputs picture n m =
      first_failed (size_checks
      ++ (refusal 5 (short_sheet (w * h) links table outputs || bad_counts (w * h) n m)
      ∷ refusal 6 (not_four_each picture) ∷ []))

  -- a row of the picture, and the check call of the row
  unfoldable pub row_answer : ℕ → ℕ → ℕ
  row_answer picture y = first_failed (size_checks ++ (refusal 6 (not_four_each picture) ∷ refusal 11 (leb h y) ∷ []))

  -- the stored sheet; `large`: a number to be stored exceeds 65,535, `exact`: the length of the destination that is
  -- asked for
  unfoldable pub store_answer : ℕ → ℕ → ℕ → ℕ → ℕ → ℕ → ℕ → Bool → ℕ → ℕ
  store_answer labels links table outputs destination n m large exact =
      first_failed (size_checks
      ++ (refusal 5 (ltb labels (w * h) || short_sheet (w * h) links table outputs || bad_counts (w * h) n m)
      ∷ refusal 12 large ∷ refusal 13 (not (eqb destination exact)) ∷ []))

-- 7: adding y to the sum x, a pixel or another sum, would pass the largest number
abbrev pub largest_total : ℕ
largest_total = 4294967295

-- the number that adding y to x answers
unfoldable pub sum_answer : ColorSum → ColorSum → ℕ
unfolding ◌⊕◌
sum_answer x y =
    let z = x ⊕ y in
    first_failed (refusal 7 (ltb largest_total z.r || ltb largest_total z.g || ltb largest_total z.b
    || ltb largest_total z.a || ltb largest_total z.count) ∷ [])
