-- H3 (rules, section 13) as demand 3 reads it, from the buffers that the call leaves; and what the call leaves
-- untouched. Computed.
use Rattle.std.specs.Prelude.{◌≡◌, refl, [], ◌∷◌, ◌++◌, map, replicate, take, drop}
use Rattle.rules.specs.Color.{zero_sum, hierarchical_max}
use Rattle.rules.specs.Paint.{slot_pixels, five_from}
use Rattle.rules.specs.Calls.{as_buffers, Ran, run_call}
use Rattle.rules.specs.Demand3.{View, buffer_view}
use Rattle.rules.specs.Examples.Worked.{black, white, small, total}

-- lent more than it asks for, and nines
abbrev ran : Ran
ran = run_call (small hierarchical_max 64) 2 1 (black ++ white)
    (as_buffers (replicate 3 9) (replicate 3 9) (replicate 84 9) (replicate 5 9) (replicate 25 9))

-- each of the five buffers under its own name
pub five-buffers : as_buffers (1 ∷ []) (2 ∷ []) (3 ∷ []) (4 ∷ []) (5 ∷ [])
    ≡ record { labels = 1 ∷ []; links = 2 ∷ []; table = 3 ∷ []; outputs = 4 ∷ []; work = 5 ∷ [] }
five-buffers = refl

abbrev view : View
view = buffer_view ran.n ran.buffers.labels ran.buffers.links ran.buffers.table

pub H3-labels : map view.label (0 ∷ 1 ∷ []) ≡ 2 ∷ 2 ∷ []
unfolding run_call
H3-labels = refl

-- of clusters 1 and 2, and of slot 3, which the run did not write
pub H3-lists : map view.pixels (1 ∷ 2 ∷ 3 ∷ []) ≡ (0 ∷ []) ∷ (1 ∷ 0 ∷ []) ∷ [] ∷ []
unfolding run_call slot_pixels
H3-lists = refl

pub H3-sums : map view.sum (1 ∷ 2 ∷ 3 ∷ []) ≡ total 0 0 0 255 1 ∷ total 255 255 255 510 2 ∷ zero_sum ∷ []
unfolding run_call five_from
H3-sums = refl

pub H3-residues : map view.residue (1 ∷ 2 ∷ 3 ∷ []) ≡ total 0 0 0 255 1 ∷ total 255 255 255 255 1 ∷ zero_sum ∷ []
unfolding run_call five_from
H3-residues = refl

-- rule 8.5: after acceptance the work buffer is zero; a label, a link, a slot and three entries more than the
-- run has are untouched
pub H3-untouched : drop 2 ran.buffers.labels ∷ drop 2 ran.buffers.links ∷ drop 63 ran.buffers.table
    ∷ drop 2 ran.buffers.outputs ∷ ran.buffers.work ∷ []
    ≡ replicate 1 9 ∷ replicate 1 9 ∷ replicate 21 9 ∷ replicate 3 9 ∷ replicate 25 0 ∷ []
unfolding run_call
H3-untouched = refl

-- rules 8.2, 8.3: the links of both pixels, and the 21 numbers of slots 1 and 2 after those of slot
-- 0
pub H3-links : take 2 ran.buffers.links ≡ 0 ∷ 1 ∷ []
unfolding run_call
H3-links = refl

pub H3-table : take 63 ran.buffers.table
    ≡ replicate 21 0
    ++ (1 ∷ 1 ∷ 0 ∷ 0 ∷ 1 ∷ 1 ∷ []) ++ (0 ∷ 0 ∷ 0 ∷ 255 ∷ 1 ∷ []) ++ (0 ∷ 0 ∷ 0 ∷ 255 ∷ 1 ∷ [])
    ++ (2 ∷ 0 ∷ 0 ∷ 0 ∷ 0 ∷ [])
    ++ (2 ∷ 2 ∷ 0 ∷ 0 ∷ 2 ∷ 1 ∷ []) ++ (255 ∷ 255 ∷ 255 ∷ 510 ∷ 2 ∷ []) ++ (255 ∷ 255 ∷ 255 ∷ 255 ∷ 1 ∷ [])
    ++ (0 ∷ 1 ∷ 1 ∷ 2 ∷ 0 ∷ [])
unfolding run_call
H3-table = refl
