-- The refusals at their edges (rules, sections 3 and 13): the cases that are worked by hand, and each further number
-- where it first appears and where it wins over a later one. Computed.
use Rattle.std.specs.Prelude.{◌≡◌, refl, true, false, List, [], ◌∷◌, ◌++◌, map, ℕ, ◌+◌, ◌*◌, ℤ, pos, negsuc, length}
use Rattle.std.specs.Prelude.{replicate}
use Rattle.rules.specs.Color.{ColorSum, hierarchical_max, RunnerConfig, rgba, Keep}
use Rattle.rules.specs.Paint.{Painted}
use Rattle.rules.specs.Refusals.{run_answer, run_and_paint_answer, row_answer, sum_answer, paint_answer, store_answer}
use Rattle.rules.specs.Calls.{Buffers, run_call, paint_call, store_call, row_call, sum_call, StoredSheet}

abbrev pub shifted : ℤ → RunnerConfig
shifted shift = record {
  is_same_color_a = shift;
  is_same_color_b = pos 1;
  hierarchical = hierarchical_max;
  good_min_area = 16;
  good_max_area = 65536;
  hollow_neighbours = 1;
  deepen_diff = pos 64;
  key_color = rgba 0 0 0 0;
  keying_action = Keep;
}

-- run, lent exactly what it asks for
abbrev exactly : ℤ → ℕ → ℕ → ℕ
exactly shift w h =
    let size = w * h in run_answer w h (shifted shift) (4 * size) size size (21 * (size + 1)) (2 * size) (8 * size + 8)

-- 65,000 × 1 passes, 65,001 × 1 gets 3; shift 7 passes, 8 and −1 get 1; shift 8 with width 0 gets 1
pub edges : exactly (pos 4) 65000 1 ∷ exactly (pos 4) 65001 1 ∷ exactly (pos 7) 1 1 ∷ exactly (pos 8) 1 1
    ∷ exactly (negsuc 0) 1 1 ∷ exactly (pos 8) 0 1 ∷ []
    ≡ 0 ∷ 3 ∷ 0 ∷ 1 ∷ 1 ∷ 1 ∷ []
unfolding run_answer
edges = refl

-- it is the product that counts: 250 × 260 passes, 255 × 255 gets 3
pub area-edges : exactly (pos 4) 250 260 ∷ exactly (pos 4) 255 255 ∷ [] ≡ 0 ∷ 3 ∷ []
unfolding run_answer
area-edges = refl

-- run, 2 × 1, lent so many image bytes, labels, links, table numbers, outputs and work numbers: exact and longer, one
-- wrong each, 4 before 5
abbrev run_lent : ℕ → ℕ → ℕ → ℕ → ℕ → ℕ → ℕ
run_lent = run_answer 2 1 (shifted (pos 4))

pub run-edges : run_lent 8 2 2 63 4 24 ∷ run_lent 8 3 3 64 5 25 ∷ run_lent 9 2 2 63 4 24 ∷ run_lent 7 1 2 63 4 24
    ∷ run_lent 8 1 2 63 4 24
    ∷ run_lent 8 2 1 63 4 24
    ∷ run_lent 8 2 2 62 4 24 ∷ run_lent 8 2 2 63 3 24 ∷ run_lent 8 2 2 63 4 23 ∷ []
    ≡ 0 ∷ 0 ∷ 4 ∷ 4 ∷ 5 ∷ 5 ∷ 5 ∷ 5 ∷ 5 ∷ []
unfolding run_answer
run-edges = refl

-- a refused run: its number, zero counts, and no buffer changes
abbrev lent_nines : Buffers
lent_nines = record
    { labels = 9 ∷ []; links = 9 ∷ []; table = replicate 42 9; outputs = 9 ∷ 9 ∷ []; work = replicate 16 9 }

pub run-refused : run_call (shifted (pos 8)) 1 1 (1 ∷ 2 ∷ 3 ∷ 4 ∷ []) lent_nines
    ≡ record { number = 1; n = 0; m = 0; buffers = lent_nines }
unfolding run_call
run-refused = refl

-- run and painting in one call, 1 × 1: 6 after 5
pub run-and-paint-edges : run_and_paint_answer 1 1 (shifted (pos 4)) 4 1 1 42 2 16 4
    ∷ run_and_paint_answer 1 1 (shifted (pos 4)) 4 1 1 42 2 16 5
    ∷ run_and_paint_answer 1 1 (shifted (pos 4)) 4 1 1 42 2 15 5 ∷ []
    ≡ 0 ∷ 6 ∷ 5 ∷ []
unfolding run_and_paint_answer
run-and-paint-edges = refl

-- Painting a picture of one pixel, n slots, these entries; of slot 1 the first pixel, the pixel count, residue r and
-- the residue count.
abbrev painted : ℕ → List ℕ → ℕ → ℕ → ℕ → ℕ → Painted
painted n entries first pixels r count =
    paint_call 1 1 (0 ∷ [])
    (replicate 21 0 ++ (first ∷ pixels ∷ []) ++ replicate 9 0 ++ (r ∷ 0 ∷ 0 ∷ 0 ∷ count ∷ []) ++ replicate 5 0)
    (entries ++ (0 ∷ 0 ∷ [])) (7 ∷ 7 ∷ 7 ∷ 7 ∷ []) n (length entries)

abbrev answer : ℕ → Painted
answer number = record { answer = number; picture = 7 ∷ 7 ∷ 7 ∷ 7 ∷ [] }

abbrev shows : ℕ → Painted
shows r = record { answer = 0; picture = r ∷ 0 ∷ 0 ∷ 0 ∷ [] }

pub paint-edges : painted 2 [] 1 1 9 1  -- no entry: zeros
    ∷ painted 2 (1 ∷ []) 1 1 255 1  -- all pass
    ∷ painted 2 (1 ∷ []) 0 0 255 1  -- no pixel to list
    ∷ painted 3 (1 ∷ []) 1 1 255 1  -- n above w × h + 1
    ∷ painted 2 (1 ∷ 1 ∷ 1 ∷ []) 1 1 255 1  -- m above 2 × w × h
    ∷ painted 2 (2 ∷ []) 1 1 255 1  -- an entry not below n
    ∷ painted 2 (1 ∷ []) 1 1 255 0  -- residue count 0
    ∷ painted 2 (1 ∷ []) 1 1 256 1  -- a channel above 255 × count
    ∷ painted 2 (1 ∷ []) 1 2 255 1  -- pixel count above w × h
    ∷ painted 2 (1 ∷ []) 0 1 255 1  -- the first link is 0
    ∷ painted 2 (1 ∷ []) 2 1 255 1  -- the first link is above w × h
    ∷ painted 2 (2 ∷ 1 ∷ []) 0 1 255 1  -- the last entry is checked first
    ∷ painted 2 (1 ∷ 2 ∷ []) 0 1 255 1
    ∷ painted 2 (1 ∷ []) 0 1 255 0  -- 9 before 10
    ∷ []
    ≡ shows 0 ∷ shows 255 ∷ shows 0 ∷ answer 5 ∷ answer 5 ∷ answer 8 ∷ answer 9 ∷ answer 9 ∷ answer 10 ∷ answer 10
    ∷ answer 10 ∷ answer 10 ∷ answer 8 ∷ answer 9 ∷ []
unfolding paint_call
paint-edges = refl

-- painting, 1 × 1, lent so many links, table numbers, outputs and picture bytes
pub paint-lengths : paint_answer 1 1 1 42 2 4 2 2 ∷ paint_answer 1 1 0 42 2 4 2 2 ∷ paint_answer 1 1 1 41 2 4 2 2
    ∷ paint_answer 1 1 1 42 1 4 2 2 ∷ paint_answer 1 1 1 42 2 5 2 2
    ∷ paint_answer 1 1 1 42 1 5 2 2 ∷ paint_answer 0 1 0 0 0 0 0 0 ∷ paint_answer 65001 1 0 0 0 0 0 0 ∷ []
    ≡ 0 ∷ 5 ∷ 5 ∷ 5 ∷ 6 ∷ 5 ∷ 2 ∷ 3 ∷ []
unfolding paint_answer
paint-lengths = refl

-- the rows of a picture of 1 × 2, and a row past them; 6 before 11
abbrev rows : List ℕ
rows = 1 ∷ 2 ∷ 3 ∷ 4 ∷ 5 ∷ 6 ∷ 7 ∷ 8 ∷ []

pub row-edges : row_call 1 2 rows 0 ∷ row_call 1 2 rows 1 ∷ row_call 1 2 rows 2 ∷ []
    ≡ (1 ∷ 2 ∷ 3 ∷ 4 ∷ []) ∷ (5 ∷ 6 ∷ 7 ∷ 8 ∷ []) ∷ [] ∷ []
unfolding row_call
row-edges = refl

pub row-answers : row_answer 1 2 8 1 ∷ row_answer 1 2 8 2 ∷ row_answer 1 2 7 2 ∷ row_answer 1 0 0 0
    ∷ row_answer 1 65001 0 0 ∷ [] ≡ 0 ∷ 11 ∷ 6 ∷ 2 ∷ 3 ∷ []
unfolding row_answer
row-answers = refl

-- the stored sheet of 1 × 1, with this label, one slot and one entry, into so many bytes
abbrev stored : ℕ → ℕ → StoredSheet
stored label bytes =
    store_call 1 1 (label ∷ []) (258 ∷ []) ((513 ∷ 1 ∷ []) ++ replicate 40 0) (770 ∷ 0 ∷ []) (replicate bytes 9) 1 1

pub store-edges : stored 65535 18 ∷ stored 65536 18 ∷ stored 65536 17 ∷ stored 65535 17 ∷ []
    ≡ record {
      answer = 0;
      destination = 1 ∷ 0 ∷ 1 ∷ 0 ∷ 1 ∷ 0 ∷ 1 ∷ 0 ∷ 255 ∷ 255 ∷ 2 ∷ 1 ∷ 1 ∷ 2 ∷ 1 ∷ 0 ∷ 2 ∷ 3
          ∷ [];
    }
    ∷ record { answer = 12; destination = replicate 18 9 }
    ∷ record { answer = 12; destination = replicate 17 9 }
    ∷ record { answer = 13; destination = replicate 17 9 }
    ∷ []
unfolding store_call
store-edges = refl

-- link, first pixel, pixel count and output of one sheet: each is a number to be stored
abbrev storing : ℕ → ℕ → ℕ → ℕ → ℕ
storing link first count entry =
    (store_call 1 1 (0 ∷ []) (link ∷ []) ((first ∷ count ∷ []) ++ replicate 40 0) (entry ∷ 0 ∷ []) (replicate 18 9) 1 1
    ).answer

pub store-large : storing 65535 65535 65535 65535 ∷ storing 65536 0 0 0 ∷ storing 0 65536 0 0 ∷ storing 0 0 65536 0
    ∷ storing 0 0 0 65536 ∷ [] ≡ 0 ∷ 12 ∷ 12 ∷ 12 ∷ 12 ∷ []
unfolding store_call
store-large = refl

-- storing, 1 × 1, lent so many labels, links, table numbers and outputs, with these n and m; 5 before 12
pub store-lengths : store_answer 1 1 1 1 42 2 20 2 2 false 20 ∷ store_answer 1 1 0 1 42 2 20 2 2 true 20
    ∷ store_answer 1 1 1 0 42 2 20 2 2 true 20
    ∷ store_answer 1 1 1 1 41 2 20 2 2 true 20 ∷ store_answer 1 1 1 1 42 1 20 2 2 true 20
    ∷ store_answer 1 1 1 1 42 2 20 3 2 true 20 ∷ store_answer 1 1 1 1 42 2 20 2 3 true 20
    ∷ store_answer 1 0 0 0 0 0 0 0 0 true 1 ∷ store_answer 65001 1 0 0 0 0 0 0 0 true 1 ∷ []
    ≡ 0 ∷ 5 ∷ 5 ∷ 5 ∷ 5 ∷ 5 ∷ 5 ∷ 2 ∷ 3 ∷ []
unfolding store_answer
store-lengths = refl

-- a sum at the largest total, and one that would pass it
abbrev red : ℕ → ColorSum
red r = record { r = r; g = 0; b = 0; a = 0; count = 1 }

pub sum-edges : sum_answer (red 4294967294) (red 1) ∷ sum_answer (red 4294967295) (red 1) ∷ [] ≡ 0 ∷ 7 ∷ []
unfolding sum_answer
sum-edges = refl

-- each of the five numbers is looked at
abbrev five : ℕ → List ColorSum
five x =
    record { r = x; g = 0; b = 0; a = 0; count = 0 } ∷ record { r = 0; g = x; b = 0; a = 0; count = 0 }
    ∷ record { r = 0; g = 0; b = x; a = 0; count = 0 }
    ∷ record { r = 0; g = 0; b = 0; a = x; count = 0 } ∷ record { r = 0; g = 0; b = 0; a = 0; count = x } ∷ []

abbrev ones : ColorSum
ones = record { r = 1; g = 1; b = 1; a = 1; count = 1 }

pub sum-numbers : map (sum_answer ones) (five 4294967294) ++ map (sum_answer ones) (five 4294967295)
    ≡ (0 ∷ 0 ∷ 0 ∷ 0 ∷ 0 ∷ []) ++ (7 ∷ 7 ∷ 7 ∷ 7 ∷ 7 ∷ [])
unfolding sum_answer
sum-numbers = refl

pub sum_left : sum_call (red 4294967295) (red 1) ≡ red 4294967295
unfolding sum_call
sum_left = refl
