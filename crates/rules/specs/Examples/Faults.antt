-- Several faults at once: every pair of checks that one call can fail together, so that the order of all of them is
-- seen (rules 3.2, 3.4). Computed; by hand from the table.
use Rattle.std.specs.Prelude.{◌≡◌, refl, Bool, true, false, List, [], ◌∷◌, ◌++◌, map, ℕ, ◌+◌, ◌-◌, ◌*◌, ℤ, pos, length}
use Rattle.std.specs.Prelude.{replicate}
use Rattle.rules.specs.Refusals.{limit, run_answer, run_and_paint_answer, paint_answer, row_answer, store_answer}
use Rattle.rules.specs.Calls.{paint_call}
use Rattle.rules.specs.Examples.Edges.{shifted}

-- a width or height above the limit
abbrev above : ℕ
above = limit + 1

-- run, with so many image bytes too many and so many work numbers too few, else lent exactly what it asks for
abbrev run_with : ℤ → ℕ → ℕ → ℕ → ℕ → ℕ
run_with shift w h more fewer =
    let size = w * h in
    run_answer w h (shifted shift) (4 * size + more) size size (21 * (size + 1)) (2 * size) (8 * size + 8 - fewer)

pub run-pairs : run_with (pos 7) 3 2 0 0  -- none
    ∷ run_with (pos 8) 0 2 0 0 ∷ run_with (pos 8) above 1 0 0  -- 1 with 2, 3
    ∷ run_with (pos 8) 3 2 1 0 ∷ run_with (pos 8) 3 2 0 1  -- and with 4, 5
    ∷ run_with (pos 7) 0 2 1 0 ∷ run_with (pos 7) 3 0 1 0 ∷ run_with (pos 7) 0 2 0 1  -- 2 with 4, 4, 5
    ∷ run_with (pos 7) 1 above 1 0 ∷ run_with (pos 7) above 1 0 1  -- 3 with 4, 5
    ∷ run_with (pos 7) 3 2 1 1  -- 4 with 5
    ∷ []
    ≡ 0 ∷ 1 ∷ 1 ∷ 1 ∷ 1 ∷ 2 ∷ 2 ∷ 2 ∷ 3 ∷ 3 ∷ 4 ∷ []
unfolding run_answer
run-pairs = refl

-- run and painting in one call, with so many picture bytes too many besides
abbrev run_and_paint_with : ℤ → ℕ → ℕ → ℕ → ℕ → ℕ → ℕ
run_and_paint_with shift w h more fewer picture_more =
    let size = w * h in
    run_and_paint_answer w h (shifted shift) (4 * size + more) size size (21 * (size + 1)) (2 * size)
    (8 * size + 8 - fewer) (4 * size + picture_more)

pub run-and-paint-pairs : run_and_paint_with (pos 7) 3 2 0 0 0  -- none
    ∷ run_and_paint_with (pos 8) 3 2 0 0 1 ∷ run_and_paint_with (pos 7) 0 2 0 0 1  -- 6 with 1, 2
    ∷ run_and_paint_with (pos 7) 1 above 0 0 1 ∷ run_and_paint_with (pos 7) 3 2 1 0 1  -- 6 with 3, 4
    ∷ run_and_paint_with (pos 7) 3 2 0 1 1 ∷ run_and_paint_with (pos 7) 3 2 0 0 1  -- 6 with 5, none
    ∷ run_and_paint_with (pos 8) 0 2 0 0 0 ∷ run_and_paint_with (pos 8) above 1 0 0 0  -- 1 with 2, 3
    ∷ run_and_paint_with (pos 8) 3 2 1 0 0 ∷ run_and_paint_with (pos 8) 3 2 0 1 0  -- 1 with 4, 5
    ∷ run_and_paint_with (pos 7) 0 2 1 0 0 ∷ run_and_paint_with (pos 7) 0 2 0 1 0  -- 2 with 4, 5
    ∷ run_and_paint_with (pos 7) 1 above 1 0 0 ∷ run_and_paint_with (pos 7) above 1 0 1 0  -- 3 with 4, 5
    ∷ run_and_paint_with (pos 7) 3 2 1 1 0  -- 4 with 5
    ∷ []
    ≡ 0 ∷ 1 ∷ 2 ∷ 3 ∷ 4 ∷ 5 ∷ 6 ∷ 1 ∷ 1 ∷ 1 ∷ 1 ∷ 2 ∷ 2 ∷ 3 ∷ 3 ∷ 4 ∷ []
unfolding run_and_paint_answer
run-and-paint-pairs = refl

-- painting before its entries, with so many links too few, so many picture bytes too many, and these n and m
abbrev paint_with : ℕ → ℕ → ℕ → ℕ → ℕ → ℕ → ℕ
paint_with w h fewer more n m =
    let size = w * h in
    paint_answer w h (size - fewer) (21 * (size + 1)) (2 * size) (4 * size + more) n m

pub paint-pairs : paint_with 3 2 0 0 7 12 ∷ paint_with 3 2 0 0 8 12  -- none, 5
    ∷ paint_with 3 2 0 0 7 13 ∷ paint_with 3 2 0 1 7 12  -- 5, 6
    ∷ paint_with 0 2 0 0 2 0 ∷ paint_with 0 2 0 0 0 1 ∷ paint_with 3 0 0 1 0 0  -- 2 with 5, 5, 6
    ∷ paint_with above 1 1 0 0 0 ∷ paint_with 1 above 0 1 0 0  -- 3 with 5, 6
    ∷ paint_with 3 2 1 1 0 0 ∷ paint_with 3 2 0 1 8 0 ∷ paint_with 3 2 0 1 0 13  -- 5 with 6
    ∷ []
    ≡ 0 ∷ 5 ∷ 5 ∷ 6 ∷ 2 ∷ 2 ∷ 2 ∷ 3 ∷ 3 ∷ 5 ∷ 5 ∷ 5 ∷ []
unfolding paint_answer
paint-pairs = refl

-- a slot with this first pixel, pixel count, residue r and residue count
abbrev slot_of : ℕ → ℕ → ℕ → ℕ → List ℕ
slot_of first count r of = (first ∷ count ∷ []) ++ replicate 9 0 ++ (r ∷ 0 ∷ 0 ∷ 0 ∷ of ∷ []) ++ replicate 5 0

-- Seven slots of 3 × 2. Slot 0 passes: pixels 0, 5 and 1, and the link of the last is not read. Slots 1, 2, 3 fail
-- 9; 10; both. Of n = 4 slots, 4 fails 8; 5 fails 8 and 9; 6 fails 8 and 10.
abbrev slots : List ℕ
slots = slot_of 1 3 255 1 ++ slot_of 1 3 256 1 ++ slot_of 0 1 255 1 ++ slot_of 0 1 0 0
    ++ slot_of 1 3 255 1 ++ slot_of 1 3 0 0 ++ slot_of 0 1 255 1

-- painting with these entries into so many bytes
abbrev entries : ℕ → List ℕ → ℕ
entries bytes es =
    (paint_call 3 2 (6 ∷ 9 ∷ 0 ∷ 0 ∷ 0 ∷ 2 ∷ []) slots (es ++ replicate 12 0) (replicate bytes 7) 4 (length es)).answer

-- each alone; 8 before 9 and 10, 9 before 10
pub entry-pairs : map (λ k. entries 24 (k ∷ [])) (0 ∷ 1 ∷ 2 ∷ 3 ∷ 4 ∷ 5 ∷ 6 ∷ []) ≡ 0 ∷ 9 ∷ 10 ∷ 9 ∷ 8 ∷ 8 ∷ 8 ∷ []
unfolding paint_call
entry-pairs = refl

-- entries are checked from last to first, also behind and before one that passes
pub entry-orders : map (entries 24)
    ((1 ∷ 2 ∷ []) ∷ (2 ∷ 1 ∷ []) ∷ (1 ∷ 4 ∷ []) ∷ (4 ∷ 1 ∷ []) ∷ (2 ∷ 4 ∷ []) ∷ (4 ∷ 2 ∷ [])
    ∷ (0 ∷ 1 ∷ []) ∷ (2 ∷ 0 ∷ []) ∷ (4 ∷ 0 ∷ []) ∷ (0 ∷ 0 ∷ []) ∷ [])
    ≡ 10 ∷ 9 ∷ 8 ∷ 9 ∷ 8 ∷ 10 ∷ 9 ∷ 10 ∷ 8 ∷ 0 ∷ []
unfolding paint_call
entry-orders = refl

-- 6 with 8, 9, 10; 5, since there are more than 12 entries, with 8, 9, 10
pub entry-late : map (entries 25) ((4 ∷ []) ∷ (1 ∷ []) ∷ (2 ∷ []) ∷ [])
    ++ map (entries 24) (replicate 13 4 ∷ replicate 13 1 ∷ replicate 13 2 ∷ []) ≡ 6 ∷ 6 ∷ 6 ∷ 5 ∷ 5 ∷ 5 ∷ []
unfolding paint_call
entry-late = refl

-- 2 and 3 with 8, 9, 10: no column, and a width above the limit
abbrev sized : ℕ → ℕ → ℕ
sized w k = (paint_call w 1 [] slots (k ∷ []) [] 4 1).answer

pub entry-sizes : map (sized 0) (4 ∷ 1 ∷ 2 ∷ []) ++ map (sized above) (4 ∷ 1 ∷ 2 ∷ []) ≡ 2 ∷ 2 ∷ 2 ∷ 3 ∷ 3 ∷ 3 ∷ []
unfolding paint_call
entry-sizes = refl

-- 10: a list in a ring of two pixels, as long as the image and longer; a link above w × h, to be
-- followed and not; a first pixel above w × h
abbrev listed_from : List ℕ → ℕ → ℕ → ℕ
listed_from links first count =
    (paint_call 3 2 links (slot_of first count 9 1 ++ replicate 126 0) (replicate 12 0) (replicate 24 7) 1 1).answer

pub list-edges : listed_from (2 ∷ 1 ∷ 0 ∷ 0 ∷ 0 ∷ 0 ∷ []) 1 6 ∷ listed_from (2 ∷ 1 ∷ 0 ∷ 0 ∷ 0 ∷ 0 ∷ []) 1 7
    ∷ listed_from (6 ∷ 0 ∷ 0 ∷ 0 ∷ 0 ∷ 7 ∷ []) 1 2 ∷ listed_from (6 ∷ 0 ∷ 0 ∷ 0 ∷ 0 ∷ 7 ∷ []) 1 3
    ∷ listed_from (replicate 9 1) 7 1 ∷ []
    ≡ 0 ∷ 10 ∷ 0 ∷ 10 ∷ 10 ∷ []
unfolding paint_call
list-edges = refl

-- a row, with so many picture bytes too many
abbrev row_with : ℕ → ℕ → ℕ → ℕ → ℕ
row_with w h more y = row_answer w h (4 * (w * h) + more) y

pub row-pairs : row_with 3 2 0 1 ∷ row_with 3 2 0 2 ∷ row_with 3 2 0 3 ∷ row_with 3 2 1 1  -- none, 11, 11, 6
    ∷ row_with 0 2 1 1 ∷ row_with 3 0 0 0 ∷ row_with 0 2 0 2  -- 2 with 6, 11, 11
    ∷ row_with 1 above 1 0 ∷ row_with above 1 0 1 ∷ row_with 3 2 1 2  -- 3 with 6, 11; 6 with 11
    ∷ []
    ≡ 0 ∷ 11 ∷ 11 ∷ 6 ∷ 2 ∷ 2 ∷ 2 ∷ 3 ∷ 3 ∷ 6 ∷ []
unfolding row_answer
row-pairs = refl

-- storing, with so many labels too few, whether a number is too large, and so many bytes too many
abbrev store_with : ℕ → ℕ → ℕ → Bool → ℕ → ℕ
store_with w h fewer large more =
    let size = w * h in
    store_answer w h (size - fewer) size (21 * (size + 1)) (2 * size) (90 + more) 7 12 large 90

pub store-pairs : store_with 3 2 0 false 0 ∷ store_with 3 2 0 true 0 ∷ store_with 3 2 0 false 1  -- none, 12, 13
    ∷ store_with 3 2 1 true 0 ∷ store_with 3 2 1 false 1 ∷ store_with 3 2 0 true 1  -- 5 with 12, 13; 12 with 13
    ∷ store_with 0 2 0 false 0 ∷ store_with 3 0 0 true 0 ∷ store_with 0 2 0 false 1  -- 2 with 5; 5, 12; 5, 13
    ∷ store_with above 1 1 false 0 ∷ store_with 1 above 0 true 0 ∷ store_with above 1 0 false 1  -- 3 with 5, 12, 13
    ∷ []
    ≡ 0 ∷ 12 ∷ 13 ∷ 5 ∷ 5 ∷ 12 ∷ 2 ∷ 2 ∷ 2 ∷ 3 ∷ 3 ∷ 3 ∷ []
unfolding store_answer
store-pairs = refl
