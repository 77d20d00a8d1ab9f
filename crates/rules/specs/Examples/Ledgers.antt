-- What demand 3 is said with, in small: the ledger, its counts and totals, the moments of a run, and what is compared
-- (rules, section 12). Computed; by hand, the merges from what the original answers.
use Rattle.std.specs.Prelude.{◌≡◌, refl, true, false, List, [], ◌∷◌, ◌++◌, map, ℕ, ltb, length}
use Rattle.rules.specs.Base.{up_to, keep, member}
use Rattle.rules.specs.Color.{ColorSum, zero_sum, sum_of_one, ◌⊕◌, pixel, hierarchical_max, Keep, Discard}
use Rattle.rules.specs.State.{Event, added, plain, deepened}
use Rattle.rules.specs.Run.{run}
use Rattle.rules.specs.Layout.{link, walk, first_of}
use Rattle.rules.specs.Paint.{slot_pixels, five_from}
use Rattle.rules.specs.Ledger.{Held, ledger}
use Rattle.rules.specs.Claim.{occurs, tally, count_of}
use Rattle.rules.specs.Moments.{moments, suffixes, logs, Newest, Oldest}
use Rattle.rules.specs.Demand3.{View, state_view, buffer_view, chain, last_ledger}
use Rattle.rules.specs.Examples.Worked.{black, white, magenta, config, defaults, small, total}
use Rattle.rules.specs.Examples.Labelled.{greys, key_magenta}
use Rattle.rules.specs.Examples.Called.{image, settings, left_labels, left_links, left_table}

-- the pixels below 6 that clusters 0 to 4 hold
abbrev holdings : Held → List (List ℕ)
holdings h = map (λ k. keep (h k) (up_to 6)) (up_to 5)

-- clusters 1, 2 and 3 hold pixels 0 and 4, 1, and 2 and 3
abbrev first_events : List Event
first_events = added 4 1 ∷ added 3 3 ∷ added 2 3 ∷ added 1 2 ∷ added 0 1 ∷ []

-- rule 12.2: a pixel added; a plain merge; a deepening merge; the log has the newest first
pub ledgers : map (λ log. holdings (ledger log))
    ([] ∷ first_events ∷ (plain 1 3 ∷ first_events) ∷ (deepened 1 3 ∷ first_events)
    ∷ (added 5 1 ∷ plain 1 3 ∷ first_events) ∷ (deepened 3 2 ∷ plain 2 3 ∷ first_events)
    ∷ (plain 3 2 ∷ deepened 2 3 ∷ first_events) ∷ [])
    ≡ ([] ∷ [] ∷ [] ∷ [] ∷ [] ∷ [])
    ∷ ([] ∷ (0 ∷ 4 ∷ []) ∷ (1 ∷ []) ∷ (2 ∷ 3 ∷ []) ∷ [] ∷ [])
    ∷ ([] ∷ [] ∷ (1 ∷ []) ∷ (0 ∷ 2 ∷ 3 ∷ 4 ∷ []) ∷ [] ∷ [])
    ∷ ([] ∷ (0 ∷ 4 ∷ []) ∷ (1 ∷ []) ∷ (0 ∷ 2 ∷ 3 ∷ 4 ∷ []) ∷ [] ∷ [])
    ∷ ([] ∷ (5 ∷ []) ∷ (1 ∷ []) ∷ (0 ∷ 2 ∷ 3 ∷ 4 ∷ []) ∷ [] ∷ [])
    ∷ ([] ∷ (0 ∷ 4 ∷ []) ∷ (1 ∷ 2 ∷ 3 ∷ []) ∷ (1 ∷ 2 ∷ 3 ∷ []) ∷ [] ∷ [])
    ∷ ([] ∷ (0 ∷ 4 ∷ []) ∷ (1 ∷ 2 ∷ 3 ∷ []) ∷ [] ∷ [] ∷ [])
    ∷ []
unfolding up_to
ledgers = refl

-- how often a pixel is named; how many are chosen, of those below 5
pub counts : map (λ p. occurs p (3 ∷ 1 ∷ 3 ∷ 5 ∷ 3 ∷ [])) (0 ∷ 1 ∷ 3 ∷ 4 ∷ 5 ∷ [])
    ++ map (λ n. count_of (ltb n) 5) (0 ∷ 2 ∷ 4 ∷ []) ++ map (λ n. count_of (λ p. ltb p n) 5) (0 ∷ 2 ∷ 9 ∷ [])
    ≡ (0 ∷ 1 ∷ 3 ∷ 0 ∷ 1 ∷ []) ++ (4 ∷ 2 ∷ 0 ∷ []) ++ (0 ∷ 2 ∷ 5 ∷ [])
unfolding count_of
counts = refl

-- the total of the chosen pixels: of none, of all three, of the first and the last, of those below 2
abbrev bytes : List ℕ
bytes = (1 ∷ 2 ∷ 3 ∷ 4 ∷ []) ++ (10 ∷ 20 ∷ 30 ∷ 40 ∷ []) ++ (100 ∷ 110 ∷ 120 ∷ 130 ∷ [])

pub tallies : tally bytes (λ p. false) 3 ∷ tally bytes (λ p. true) 3 ∷ tally bytes (λ p. member p (0 ∷ 2 ∷ [])) 3
    ∷ tally bytes (λ p. true) 2 ∷ []
    ≡ zero_sum ∷ total 111 132 153 174 3 ∷ total 101 112 123 134 2 ∷ total 11 22 33 44 2 ∷ []
unfolding tally ◌⊕◌ sum_of_one pixel
tallies = refl

-- what is left when the newest is taken off, and then the next
pub taken-off : suffixes (plain 2 1 ∷ deepened 3 1 ∷ []) first_events
    ≡ (plain 2 1 ∷ deepened 3 1 ∷ first_events) ∷ (deepened 3 1 ∷ first_events) ∷ first_events ∷ []
taken-off = refl

-- 3 × 2: cluster 1 merges into 4; 2 deepens into 4, and 3, 5 and 4 into 6, which is put out last
abbrev six : List ℕ
six = greys (0 ∷ 100 ∷ 250 ∷ 5 ∷ 255 ∷ 120 ∷ [])

abbrev later : List Event
later = deepened 4 6 ∷ deepened 5 6 ∷ deepened 3 6 ∷ deepened 2 4 ∷ plain 1 4 ∷ []

abbrev six_added : List Event
six_added = added 5 6 ∷ added 4 5 ∷ added 3 4 ∷ added 2 3 ∷ added 1 2 ∷ added 0 1 ∷ []

-- the moments: the end of stage 1 and the state after each later merge, the newest first; a visit that merges nothing
-- is none
pub moments-logged : logs (moments (small hierarchical_max 64) 3 2 six) ≡ suffixes later six_added
unfolding moments
moments-logged = refl

pub moments-labelled : map (λ s. s.labels) (moments (small hierarchical_max 64) 3 2 six)
    ≡ (6 ∷ 6 ∷ 6 ∷ 6 ∷ 6 ∷ 6 ∷ [])
    ∷ (4 ∷ 4 ∷ 6 ∷ 4 ∷ 6 ∷ 6 ∷ [])
    ∷ (4 ∷ 4 ∷ 6 ∷ 4 ∷ 5 ∷ 6 ∷ [])
    ∷ (4 ∷ 4 ∷ 3 ∷ 4 ∷ 5 ∷ 6 ∷ [])
    ∷ (4 ∷ 2 ∷ 3 ∷ 4 ∷ 5 ∷ 6 ∷ [])
    ∷ (1 ∷ 2 ∷ 3 ∷ 4 ∷ 5 ∷ 6 ∷ [])
    ∷ []
unfolding moments
moments-labelled = refl

-- 2 × 3, where the last merge is at area 3: five merges again
pub moments-counted : length (moments (small hierarchical_max 64) 2 3 (greys (0 ∷ 100 ∷ 5 ∷ 250 ∷ 255 ∷ 120 ∷ []))) ≡ 6
unfolding moments
moments-counted = refl

-- the first of them has its residues
pub first-moment : Oldest (λ s. map (λ c. c.residue.count) s.clusters ≡ 0 ∷ 1 ∷ 1 ∷ 1 ∷ 1 ∷ 1 ∷ 1 ∷ [])
    (moments (small hierarchical_max 64) 3 2 six)
unfolding moments
first-moment = refl

pub last-moment : Newest (λ s. map (λ c. c.residue.count) s.clusters ≡ 0 ∷ 1 ∷ 1 ∷ 1 ∷ 2 ∷ 1 ∷ 1 ∷ [])
    (moments (small hierarchical_max 64) 3 2 six)
unfolding moments
last-moment = refl

-- the areas listed at the end: those that were there and those that arose; and the next free number
pub run-listed : let s = run (small hierarchical_max 64) 3 2 six in s.next_index ∷ s.listed ≡ 7 ∷ 1 ∷ 2 ∷ 3 ∷ 6 ∷ []
unfolding run
run-listed = refl

-- what a run logs: H2 with its merge in stage 1; a key pixel kept, and one discarded
pub run-logs : (run defaults 2 2 (greys (10 ∷ 10 ∷ 10 ∷ 10 ∷ []))).log
    ∷ (run (config hierarchical_max 16 64 key_magenta Keep) 1 1 magenta).log
    ∷ (run (config hierarchical_max 16 64 key_magenta Discard) 1 1 magenta).log ∷ []
    ≡ (plain 1 2 ∷ added 3 2 ∷ plain 3 2 ∷ added 2 3 ∷ added 1 2 ∷ added 0 1 ∷ []) ∷ (added 0 0 ∷ []) ∷ [] ∷ []
unfolding run
run-logs = refl

-- the image of Called as demand 3 reads it, from the state and from the buffers: the number of slots, the labels, the
-- lists of clusters 0 to 5, of the state their chains too, their sums and residues. There is no cluster 5, though the
-- buffer goes on.
abbrev views : List View
views = state_view (run settings 3 2 image) ∷ buffer_view 5 left_labels left_links (left_table ++ up_to 21) ∷ []

abbrev lists : List (List ℕ)
lists = [] ∷ (0 ∷ []) ∷ (2 ∷ []) ∷ (3 ∷ 0 ∷ []) ∷ (5 ∷ 2 ∷ []) ∷ [] ∷ []

pub read-labels : map (λ v. v.slots ∷ map v.label (up_to 7)) views
    ≡ (5 ∷ left_labels ++ (0 ∷ [])) ∷ (5 ∷ left_labels ++ (0 ∷ [])) ∷ []
unfolding run up_to
read-labels = refl

pub read-lists : map (λ v. map v.pixels (up_to 6)) views ++ (map (chain (run settings 3 2 image)) (up_to 6) ∷ [])
    ≡ lists ∷ lists ∷ lists ∷ []
unfolding run up_to link walk first_of slot_pixels
read-lists = refl

abbrev sums : List ColorSum
sums = zero_sum ∷ total 200 30 60 255 1 ∷ total 10 20 30 128 1 ∷ total 290 110 130 505 2 ∷ total 260 260 35 192 2
    ∷ zero_sum ∷ []

abbrev residues : List ColorSum
residues = zero_sum ∷ total 200 30 60 255 1 ∷ total 10 20 30 128 1 ∷ total 90 80 70 250 1 ∷ total 250 240 5 64 1
    ∷ zero_sum ∷ []

pub read-sums : map (λ v. map v.sum (up_to 6)) views ++ map (λ v. map v.residue (up_to 6)) views
    ≡ sums ∷ sums ∷ residues ∷ residues ∷ []
unfolding run up_to five_from
read-sums = refl

-- and what each cluster of that run holds at its end: two pixels are discarded. H3, which has no pixel past its two
pub held-at-last : map (λ k. keep (last_ledger settings 3 2 image k) (up_to 6)) (up_to 6)
    ++ map (λ k. keep (last_ledger (small hierarchical_max 64) 2 1 (black ++ white) k) (up_to 4)) (up_to 3)
    ≡ ([] ∷ (0 ∷ []) ∷ (2 ∷ []) ∷ (0 ∷ 3 ∷ []) ∷ (2 ∷ 5 ∷ []) ∷ [] ∷ []) ++ ([] ∷ (0 ∷ []) ∷ (0 ∷ 1 ∷ []) ∷ [])
unfolding run up_to
held-at-last = refl
