-- The public calls on one image of 3 × 2, where w, h, n and m all differ: what each call answers and leaves. Computed;
-- the numbers of the run and the picture are the original's, the stored sheet is laid out by rule 11.1.
use Rattle.std.specs.Prelude.{◌≡◌, refl, ℕ, ◌-◌, replicate, take}
use mathlib.Core.List.{List, [], ◌∷◌, ◌++◌, map, flatten}
use Rattle.rules.specs.Color.{hierarchical_max, RunnerConfig, rgba, Discard}
use Rattle.rules.specs.Calls.{Buffers, Ran, run_call, run_and_paint_call, paint_call, store_call, row_call, sum_call}
use Rattle.rules.specs.Examples.Worked.{config, small, total}
use Rattle.rules.specs.Examples.Labelled.{grey, greys}
use Rattle.rules.specs.Paint.{Painted}

-- two columns beside one of key pixels, which are discarded
abbrev pub image : List ℕ
image = (200 ∷ 30 ∷ 60 ∷ 255 ∷ []) ++ (255 ∷ 0 ∷ 255 ∷ 255 ∷ []) ++ (10 ∷ 20 ∷ 30 ∷ 128 ∷ [])
    ++ (90 ∷ 80 ∷ 70 ∷ 250 ∷ []) ++ (255 ∷ 0 ∷ 255 ∷ 255 ∷ []) ++ (250 ∷ 240 ∷ 5 ∷ 64 ∷ [])

abbrev pub settings : RunnerConfig
settings = config hierarchical_max 0 64 (rgba 255 0 255 255) Discard

-- buffers of these lengths, each filled with another number
abbrev lent : ℕ → ℕ → ℕ → ℕ → ℕ → Buffers
lent labels links table outputs work = record {
  labels = replicate labels 9;
  links = replicate links 8;
  table = replicate table 7;
  outputs = replicate outputs 6;
  work = replicate work 5;
}

abbrev pub left_labels : List ℕ
left_labels = 3 ∷ 0 ∷ 4 ∷ 3 ∷ 0 ∷ 4 ∷ []

abbrev pub left_links : List ℕ
left_links = 0 ∷ 0 ∷ 0 ∷ 1 ∷ 0 ∷ 3 ∷ []

-- slots 0 to 4
abbrev pub left_table : List ℕ
left_table = replicate 21 0
    ++ ((1 ∷ 1 ∷ 0 ∷ 0 ∷ 1 ∷ 1 ∷ []) ++ (200 ∷ 30 ∷ 60 ∷ 255 ∷ 1 ∷ []) ++ (200 ∷ 30 ∷ 60 ∷ 255 ∷ 1 ∷ [])
    ++ (3 ∷ 0 ∷ 0 ∷ 0 ∷ 0 ∷ []))
    ++ ((3 ∷ 1 ∷ 2 ∷ 0 ∷ 3 ∷ 1 ∷ []) ++ (10 ∷ 20 ∷ 30 ∷ 128 ∷ 1 ∷ []) ++ (10 ∷ 20 ∷ 30 ∷ 128 ∷ 1 ∷ [])
    ++ (4 ∷ 0 ∷ 0 ∷ 0 ∷ 0 ∷ []))
    ++ ((4 ∷ 2 ∷ 0 ∷ 0 ∷ 1 ∷ 2 ∷ []) ++ (290 ∷ 110 ∷ 130 ∷ 505 ∷ 2 ∷ []) ++ (90 ∷ 80 ∷ 70 ∷ 250 ∷ 1 ∷ [])
    ++ (0 ∷ 1 ∷ 1 ∷ 2 ∷ 0 ∷ []))
    ++ ((6 ∷ 2 ∷ 2 ∷ 0 ∷ 3 ∷ 2 ∷ []) ++ (260 ∷ 260 ∷ 35 ∷ 192 ∷ 2 ∷ []) ++ (250 ∷ 240 ∷ 5 ∷ 64 ∷ 1 ∷ [])
    ++ (0 ∷ 1 ∷ 1 ∷ 3 ∷ 0 ∷ []))

abbrev left_outputs : List ℕ
left_outputs = 1 ∷ 2 ∷ 3 ∷ 4 ∷ []

abbrev left_picture : List ℕ
left_picture = (200 ∷ 30 ∷ 60 ∷ 255 ∷ 0 ∷ 0 ∷ 0 ∷ 0 ∷ 10 ∷ 20 ∷ 30 ∷ 128 ∷ [])
    ++ (90 ∷ 80 ∷ 70 ∷ 250 ∷ 0 ∷ 0 ∷ 0 ∷ 0 ∷ 250 ∷ 240 ∷ 5 ∷ 64 ∷ [])

-- what a run leaves that was lent one label, two links, a table number, two outputs and a work number more than it
-- asks for
abbrev left_buffers : Ran
left_buffers = record {
  number = 0;
  n = 5;
  m = 4;
  buffers = record {
    labels = left_labels ++ replicate 1 9;
    links = left_links ++ replicate 2 8;
    table = left_table ++ replicate 43 7;
    outputs = left_outputs ++ replicate 10 6;
    work = replicate 57 0;
  };
}

-- acceptance, n and m (rules 1.6, 3.1); what lies beyond is untouched, the work buffer is zero (rule 8.5)
pub run-left : run_call settings 3 2 image (lent 7 8 148 14 57) ≡ left_buffers
unfolding run_call
run-left = refl

-- n counts the slots, emptied ones included: next, the number that a new cluster would take, is 3 here (H2)
pub run-slots : (run_call (small hierarchical_max 64) 2 2 (greys (10 ∷ 10 ∷ 10 ∷ 10 ∷ [])) (lent 4 4 105 8 40)).n ≡ 4
unfolding run_call
run-slots = refl

-- just as long as asked for, and one of the five a number too short
abbrev short : List Buffers
short = lent 6 6 147 12 56 ∷ lent 5 6 147 12 56 ∷ lent 6 5 147 12 56 ∷ lent 6 6 146 12 56 ∷ lent 6 6 147 11 56
    ∷ lent 6 6 147 12 55 ∷ []

pub run_short : map (λ b. (run_call settings 3 2 image b).number) short ≡ 0 ∷ 5 ∷ 5 ∷ 5 ∷ 5 ∷ 5 ∷ []
unfolding run_call
run_short = refl

-- run and painting in one call: the same, and the picture
pub run-and-paint-left : run_and_paint_call settings 3 2 image (lent 7 8 148 14 57) (replicate 24 4)
    ≡ record { ran = left_buffers; picture = left_picture }
unfolding run_and_paint_call
run-and-paint-left = refl

pub run-and-paint-short : map (λ b. (run_and_paint_call settings 3 2 image b (replicate 24 4)).ran.number) short
    ≡ 0 ∷ 5 ∷ 5 ∷ 5 ∷ 5 ∷ 5 ∷ []
unfolding run_and_paint_call
run-and-paint-short = refl

-- 2 × 3, where pixels 0 and 2, one above the other, are of one cluster
pub run-and-paint-picture : (run_and_paint_call (small hierarchical_max 64) 2 3
    (greys (0 ∷ 100 ∷ 5 ∷ 250 ∷ 255 ∷ 120 ∷ [])) (lent 6 6 147 12 56) (replicate 24 4)).picture
    ≡ greys (2 ∷ 100 ∷ 2 ∷ 250 ∷ 255 ∷ 120 ∷ [])
unfolding run_and_paint_call
run-and-paint-picture = refl

-- refused by the picture alone: zero counts, and neither buffers nor picture change
pub run-and-paint-refused : run_and_paint_call settings 3 2 image (lent 6 6 147 12 56) (replicate 23 4)
    ≡ record { ran = record { number = 6; n = 0; m = 0; buffers = lent 6 6 147 12 56 }; picture = replicate 23 4 }
unfolding run_and_paint_call
run-and-paint-refused = refl

-- rule 9.1: painting what that run left
pub paint-left : paint_call 3 2 left_links (left_table ++ replicate 42 7) (left_outputs ++ replicate 8 6)
    (replicate 24 4) 5 4
    ≡ record { answer = 0; picture = left_picture }
unfolding paint_call
paint-left = refl

abbrev shows : List ℕ → Painted
shows picture = record { answer = 0; picture = picture }

-- 4 × 1 greys 0, 255, 100, 0, where all deepened into cluster 2. The pixel count says where a list stops (rule 8.2):
-- the list of 2 goes on behind that of 3. Four outputs; cluster 2 alone; two outputs. Those behind m do not count.
abbrev inner : List ℕ → ℕ → Painted
inner outputs m =
    paint_call 4 1 (3 ∷ 1 ∷ 4 ∷ 0 ∷ [])
    (replicate 21 0 ++ slot_of 1 1 0 ++ slot_of 2 4 255 ++ slot_of 3 1 100 ++ slot_of 4 1 0)
    outputs (replicate 16 7) 5 m
  where
    slot_of : ℕ → ℕ → ℕ → List ℕ
    slot_of first count x = (first ∷ count ∷ []) ++ replicate 9 0 ++ grey x ++ (1 ∷ []) ++ replicate 5 0

pub paint-inner : inner (1 ∷ 3 ∷ 4 ∷ 2 ∷ 1 ∷ 1 ∷ 1 ∷ 1 ∷ []) 4 ∷ inner (2 ∷ 1 ∷ 3 ∷ 4 ∷ 1 ∷ 1 ∷ 1 ∷ 1 ∷ []) 1
    ∷ inner (1 ∷ 3 ∷ 4 ∷ 2 ∷ 1 ∷ 1 ∷ 1 ∷ 1 ∷ []) 2 ∷ []
    ≡ shows (greys (0 ∷ 255 ∷ 100 ∷ 0 ∷ [])) ∷ shows (greys (255 ∷ 255 ∷ 255 ∷ 255 ∷ []))
    ∷ shows (grey 0 ++ replicate 4 0 ++ grey 100 ++ replicate 4 0) ∷ []
unfolding paint_call
paint-inner = refl

-- all the entries that there may be; links, table and outputs a number too short; n and m one too many; the picture
-- a byte too short
abbrev painted : ℕ → ℕ → ℕ → ℕ → ℕ → ℕ → ℕ
painted links table outputs bytes n m =
    (paint_call 3 2 (take links left_links) (left_table ++ replicate (table - 105) 7)
    (left_outputs ++ replicate (outputs - 4) 1) (replicate bytes 4) n m).answer

pub paint-short : painted 6 147 12 24 7 12 ∷ painted 5 147 12 24 5 4 ∷ painted 6 146 12 24 5 4 ∷ painted 6 147 11 24 5 4
    ∷ painted 6 147 12 24 8 4 ∷ painted 6 147 12 24 5 13 ∷ painted 6 147 12 23 5 4 ∷ []
    ≡ 0 ∷ 5 ∷ 5 ∷ 5 ∷ 5 ∷ 5 ∷ 6 ∷ []
unfolding paint_call
paint-short = refl

-- rule 10.1: both rows, a row past them, and a picture of a byte too few
pub rows_left : row_call 3 2 left_picture 0 ∷ row_call 3 2 left_picture 1 ∷ row_call 3 2 left_picture 2
    ∷ row_call 3 2 (replicate 23 4) 0 ∷ []
    ≡ (200 ∷ 30 ∷ 60 ∷ 255 ∷ 0 ∷ 0 ∷ 0 ∷ 0 ∷ 10 ∷ 20 ∷ 30 ∷ 128 ∷ [])
    ∷ (90 ∷ 80 ∷ 70 ∷ 250 ∷ 0 ∷ 0 ∷ 0 ∷ 0 ∷ 250 ∷ 240 ∷ 5 ∷ 64 ∷ []) ∷ [] ∷ [] ∷ []
unfolding row_call
rows_left = refl

-- rule 11.1: w, h, n, m; label and link of each pixel; first pixel and count of each slot; the outputs
pub store-left : store_call 3 2 left_labels left_links (left_table ++ replicate 42 7) (left_outputs ++ replicate 8 6)
    (replicate 60 4) 5 4
    ≡ record {
      answer = 0;
      destination = flatten (map (λ x. x ∷ 0 ∷ [])
          ((3 ∷ 2 ∷ 5 ∷ 4 ∷ [])
          ++ (3 ∷ 0 ∷ 0 ∷ 0 ∷ 4 ∷ 0 ∷ 3 ∷ 1 ∷ 0 ∷ 0 ∷ 4 ∷ 3 ∷ [])
          ++ (0 ∷ 0 ∷ 1 ∷ 1 ∷ 3 ∷ 1 ∷ 4 ∷ 2 ∷ 6 ∷ 2 ∷ [])
          ++ (1 ∷ 2 ∷ 3 ∷ 4 ∷ [])));
    }
unfolding store_call flatten
store-left = refl

-- labels, links, table and outputs a number too short; n and m one too many; the destination a byte too short
abbrev stored : ℕ → ℕ → ℕ → ℕ → ℕ → ℕ → ℕ → ℕ
stored labels links table outputs bytes n m =
    (store_call 3 2 (take labels left_labels) (take links left_links) (left_table ++ replicate (table - 105) 7)
    (left_outputs ++ replicate (outputs - 4) 1) (replicate bytes 4) n m).answer

pub store-short : stored 6 6 147 12 84 7 12 ∷ stored 5 6 147 12 60 5 4 ∷ stored 6 5 147 12 60 5 4
    ∷ stored 6 6 146 12 60 5 4 ∷ stored 6 6 147 11 60 5 4 ∷ stored 6 6 147 12 72 8 4
    ∷ stored 6 6 147 12 76 5 13 ∷ stored 6 6 147 12 59 5 4 ∷ []
    ≡ 0 ∷ 5 ∷ 5 ∷ 5 ∷ 5 ∷ 5 ∷ 5 ∷ 13 ∷ []
unfolding store_call
store-short = refl

-- `ColorSum::merge`: the sum that is left, and refused ones
pub sum-calls : sum_call (total 1 2 3 4 5) (total 60 70 80 90 100)
    ∷ sum_call (total 4294967295 0 0 0 9) (total 1 0 0 0 1)
    ∷ sum_call (total 1 0 0 0 1) (total 4294967295 0 0 0 9) ∷ []
    ≡ total 61 72 83 94 105 ∷ total 4294967295 0 0 0 9 ∷ total 1 0 0 0 1 ∷ []
unfolding sum_call
sum-calls = refl
