-- The images worked by hand (rules, section 13), H1 to H10: one table of what is said of each, one claim, computed.
use Rattle.std.specs.Prelude.{◌≡◌, refl, List, [], ◌∷◌, ◌++◌, map, ℕ, ◌*◌, pos, length}
use Rattle.rules.specs.Color.{Color, ColorSum, rgba, hierarchical_max, RunnerConfig, KeyingAction, Keep, Discard}
use Rattle.rules.specs.State.{State, cluster}
use Rattle.rules.specs.Picture.{paint}
use Rattle.rules.specs.Layout.{links, slot}
use Rattle.rules.specs.Run.{run, stage1}

-- what is said of a run: n, the outputs, the labels after stage 1 and at the end, cluster k's list, sum,
-- residue and hole children, the picture; and what it says of the buffers: the links, and the 21 numbers of slot k
pub data Finding : Type 0 where
  slot_count : ℕ → Finding
  outputs : List ℕ → Finding
  stage1_labels : List ℕ → Finding
  labels : List ℕ → Finding
  list : ℕ → List ℕ → Finding
  sum : ℕ → ColorSum → Finding
  residue : ℕ → ColorSum → Finding
  hole_children : ℕ → List ℕ → Finding
  picture : List ℕ → Finding
  all_links : List ℕ → Finding
  whole_slot : ℕ → List ℕ → Finding

pub record Case : Type 0 where
  pub width : ℕ
  pub height : ℕ
  pub image : List ℕ
  pub settings : RunnerConfig
  pub facts : List Finding

-- the fact of the same kind that the rules give; s1 is the state after stage 1, s the final one
unfoldable pub computed : ℕ → State → State → Finding → Finding
unfolding paint links slot
computed size s1 s (slot_count n) = slot_count (length s.clusters)
computed size s1 s (outputs l) = outputs s.outputs
computed size s1 s (stage1_labels l) = stage1_labels s1.labels
computed size s1 s (labels l) = labels s.labels
computed size s1 s (list k l) = list k (cluster s k).pixels
computed size s1 s (sum k x) = sum k (cluster s k).sum
computed size s1 s (residue k x) = residue k (cluster s k).residue
computed size s1 s (hole_children k l) = hole_children k (cluster s k).holes
computed size s1 s (picture l) = picture (paint size s)
computed size s1 s (all_links l) = all_links (links s)
computed size s1 s (whole_slot k l) = whole_slot k (slot s k)

unfoldable pub worked : Case → List Finding
unfolding computed run
worked c =
    let s1 = stage1 c.settings c.width c.height c.image in
    let s = run c.settings c.width c.height c.image in
    map (computed (c.width * c.height) s1 s) c.facts

abbrev dark : List ℕ
dark = 10 ∷ 20 ∷ 30 ∷ 255 ∷ []

abbrev pub black : List ℕ
black = 0 ∷ 0 ∷ 0 ∷ 255 ∷ []

abbrev pub white : List ℕ
white = 255 ∷ 255 ∷ 255 ∷ 255 ∷ []

abbrev pub magenta : List ℕ
magenta = 255 ∷ 0 ∷ 255 ∷ 255 ∷ []

abbrev near_magenta : List ℕ
near_magenta = 254 ∷ 0 ∷ 255 ∷ 255 ∷ []

abbrev clear : List ℕ
clear = 0 ∷ 0 ∷ 0 ∷ 0 ∷ []

-- the defaults, but for `hierarchical`, `good_min_area`, `deepen_diff`, the key and what is done with it
abbrev pub config : ℕ → ℕ → ℕ → Color → KeyingAction → RunnerConfig
config hierarchical min diff key action = record {
  is_same_color_a = pos 4;
  is_same_color_b = pos 1;
  hierarchical = hierarchical;
  good_min_area = min;
  good_max_area = 65536;
  hollow_neighbours = 1;
  deepen_diff = pos diff;
  key_color = key;
  keying_action = action;
}

abbrev pub defaults : RunnerConfig
defaults = config hierarchical_max 16 64 (rgba 0 0 0 0) Keep

-- H3 to H6: the smallest area is 0
abbrev pub small : ℕ → ℕ → RunnerConfig
small hierarchical diff = config hierarchical 0 diff (rgba 0 0 0 0) Keep

-- H7 to H10: the key is K
abbrev keyed : KeyingAction → RunnerConfig
keyed action = config hierarchical_max 16 64 (rgba 255 0 255 255) action

abbrev pub total : ℕ → ℕ → ℕ → ℕ → ℕ → ColorSum
total r g b a count = record { r = r; g = g; b = b; a = a; count = count }

abbrev pub case : ℕ → ℕ → List ℕ → RunnerConfig → List Finding → Case
case w h image o facts = record { width = w; height = h; image = image; settings = o; facts = facts }

-- of H3, and with `deepen_diff` 764 too
abbrev facts_of_h3 : List Finding
facts_of_h3 =
    outputs (1 ∷ 2 ∷ []) ∷ list 2 (1 ∷ 0 ∷ []) ∷ sum 2 (total 255 255 255 510 2) ∷ residue 2 (total 255 255 255 255 1)
    ∷ hole_children 2 (1 ∷ []) ∷ picture (black ++ white) ∷ []

-- of H4 and H6
abbrev facts_of_h4 : List Finding
facts_of_h4 = outputs (2 ∷ []) ∷ picture (127 ∷ 127 ∷ 127 ∷ 255 ∷ 127 ∷ 127 ∷ 127 ∷ 255 ∷ []) ∷ []

abbrev dim : List ℕ
dim = 127 ∷ 0 ∷ 127 ∷ 255 ∷ []

abbrev mix : List ℕ
mix = 191 ∷ 0 ∷ 191 ∷ 255 ∷ []

abbrev pub worked_cases : List Case
worked_cases =
    case 1 1 dark defaults (slot_count 2 ∷ outputs (1 ∷ []) ∷ picture dark ∷ [])  -- H1
    ∷ case 2 2 (dark ++ dark ++ dark ++ dark) defaults
    (stage1_labels (1 ∷ 2 ∷ 2 ∷ 2 ∷ []) ∷ slot_count 4 ∷ outputs (2 ∷ []) ∷ list 2 (1 ∷ 2 ∷ 3 ∷ 0 ∷ []) ∷ [])  -- H2
    ∷ case 2 1 (black ++ white) (small hierarchical_max 64) facts_of_h3  -- H3
    ∷ case 2 1 (black ++ white) (small hierarchical_max 764) facts_of_h3  -- H3 with `deepen_diff` 764
    ∷ case 2 1 (black ++ white) (small hierarchical_max 765) facts_of_h4  -- H4
    ∷ case 2 1 (black ++ white) (small 0 64) (outputs (1 ∷ 2 ∷ []) ∷ [])  -- H5
    ∷ case 2 1 (black ++ white) (small 1 64) facts_of_h4  -- H6
    ∷ case 1 1 magenta (keyed Keep) (slot_count 1 ∷ outputs (0 ∷ []) ∷ picture magenta ∷ [])  -- H7
    ∷ case 1 1 magenta (keyed Discard) (outputs [] ∷ picture clear ∷ [])  -- H8
    ∷ case 2 2 (magenta ++ magenta ++ black ++ near_magenta) (keyed Discard)
    (stage1_labels (0 ∷ 0 ∷ 1 ∷ 0 ∷ []) ∷ labels (0 ∷ 0 ∷ 1 ∷ 1 ∷ []) ∷ outputs (1 ∷ [])
    ∷ picture (clear ++ clear ++ dim ++ dim) ∷ [])  -- H9
    ∷ case 2 2 (magenta ++ magenta ++ black ++ near_magenta) (keyed Keep)
    (list 1 (2 ∷ 0 ∷ 1 ∷ 3 ∷ []) ∷ outputs (1 ∷ []) ∷ picture (mix ++ mix ++ mix ++ mix) ∷ [])  -- H10
    ∷ []

pub H1-to-H10 : map worked worked_cases ≡ map (λ c. c.facts) worked_cases
unfolding worked
H1-to-H10 = refl
