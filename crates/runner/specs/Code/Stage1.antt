-- Stage 1 over the buffers: what its functions are given and what they hold.
use Rattle.std.specs.Prelude.{◌≡◌, ◌≢◌, Bool, true, false, not, ◌&&◌, List, ℕ, ◌+◌, ◌*◌, ◌≤◌, ◌<◌, T, ltb, eqb}
use Rattle.std.specs.Prelude.{length, replicate, if◌then◌else◌, Option, Some, None}
use Rattle.std.proofs.Math.Option.{some}
use Rattle.rules.specs.Color.{RunnerConfig, pixel, keying_on, is_discard}
use Rattle.rules.specs.Grid.{up, left, up_left}
use Rattle.rules.specs.State.{State}
use Rattle.rules.specs.Stage1.{color_at, same_at, is_key, place, taken}
use Rattle.rules.specs.Demand3.{Discarded}
use Rattle.rules.specs.Code.Early.{Early}
use Rattle.rules.specs.Layout.{slot_width}
use Rattle.color.specs.declared.Color.{Color}
use Rattle.color.specs.Colors.{color_of, option_of}
use Rattle.runner.specs.declared.stage1.Into.{Into}
use Rattle.runner.specs.declared.stage1.Into.TheVariants.{Zero, Up, Left, Fresh}
use Rattle.runner.specs.Code.Slots.{cleared_slot}
use Rattle.runner.specs.Code.Rep.{Rep}
use Rattle.runner.specs.Code.Given.{Given, Spot}

-- what is seen from pixel i of an image of w columns: its own colour c, and the pixels l to the left, u above, and v to
-- the left of that one
pub record SeenAt (w : ℕ) (image : List ℕ) (i : ℕ) (c : Color) (l u v : Option Color) : Type 0 where
  pub own : color_of c ≡ pixel image i
  pub to-left : option_of l ≡ color_at image (left w i)
  pub to-up : option_of u ≡ color_at image (up w i)
  pub to-up-left : option_of v ≡ color_at image (up_left w i)

-- the buffers hold state s, whose next free number and slot count the code has beside them
pub record Holding (size : ℕ) (s : State) (t₀ L K B E : List ℕ) (next count : ℕ) : Type 0 where
  pub rep : Rep size s t₀ L K B E
  pub free : next ≡ s.next_index
  pub slots : count ≡ length s.clusters

-- step 1, the condition, with l and u for the labels of left and up
abbrev pub meets : RunnerConfig → ℕ → List ℕ → ℕ → ℕ → ℕ → Bool
meets o w image i l u = not (eqb l u) && same_at o image (left w i) (up w i) && same_at o image (some i) (left w i)
    && same_at o image (some i) (up w i)

-- which cluster a pixel joins, by whether it is like the pixels up and left, up, and left
abbrev pub into_of : Bool → Bool → Bool → Into
into_of true true l = Up
into_of true false true = Left
into_of true false false = Fresh
into_of false u l = Fresh

-- the same of pixel i
abbrev pub joined : RunnerConfig → ℕ → List ℕ → ℕ → Into
joined o w image i = into_of (same_at o image (some i) (up_left w i)) (same_at o image (some i) (up w i))
    (same_at o image (some i) (left w i))

-- where pixel i goes, by whether it is a key pixel, key pixels are discarded, and the three tests
abbrev pub goes_by : Bool → Bool → Bool → Bool → Bool → Option Into
goes_by true true a u l = None
goes_by true false a u l = Some Zero
goes_by false d a u l = Some (into_of a u l)

-- the same of pixel i
abbrev pub goes_into : RunnerConfig → ℕ → List ℕ → ℕ → Option Into
goes_into o w image i = goes_by (is_key o image i) (is_discard o.keying_action) (same_at o image (some i) (up_left w i))
    (same_at o image (some i) (up w i)) (same_at o image (some i) (left w i))

-- the slot that it goes to, with l and u for the labels of left and up and n for next
abbrev pub slot_for : Into → ℕ → ℕ → ℕ → ℕ
slot_for Zero l u n = 0
slot_for Up l u n = u
slot_for Left l u n = l
slot_for Fresh l u n = n

-- the table, next and count then: a fresh slot is cleared
abbrev pub table_for : Into → ℕ → List ℕ → List ℕ
table_for Zero n B = B
table_for Up n B = B
table_for Left n B = B
table_for Fresh n B = cleared_slot B n

-- the next free number then
abbrev pub next_for : Into → ℕ → ℕ
next_for Zero n = n
next_for Up n = n
next_for Left n = n
next_for Fresh n = n + 1

-- the number of slots then
abbrev pub count_for : Into → ℕ → ℕ → ℕ
count_for Zero n m = m
count_for Up n m = m
count_for Left n m = m
count_for Fresh n m = if ltb n m then m else n + 1

-- slot, table, next free number and slots as these say
pub record Opened (to : Into) (l u n m : ℕ) (B B' : List ℕ) (k n' m' : ℕ) : Type 0 where
  pub slot : k ≡ slot_for to l u n
  pub table : B' ≡ table_for to n B
  pub free : n' ≡ next_for to n
  pub slots : m' ≡ count_for to n m

-- pixel i is to be placed, with l and u for the labels of left and up
pub record Placing (o : RunnerConfig) (w h : ℕ) (image : List ℕ) (shift i x y l u : ℕ) (s : State) (t₀ L K B E : List ℕ)
    (next count : ℕ) : Type 0 where
  pub given : Given o w h image shift
  pub spot : Spot w h i x y
  pub early : Early image (w * h) (Discarded o image) (T (keying_on o)) i s
  pub holding : Holding (w * h) s t₀ L K B E next count
  pub room : slot_width * (w * h + 1) ≤ length t₀
  pub to-left : l < s.next_index
  pub to-up : u < s.next_index

-- and the clusters l and u meet in it
pub record Meeting (o : RunnerConfig) (w h : ℕ) (image : List ℕ) (shift i x y l u : ℕ) (s : State) (t₀ L K B E : List ℕ)
    (next count : ℕ) : Type 0 where
  pub placing : Placing o w h image shift i x y l u s t₀ L K B E next count
  pub differ : l ≢ u
  pub left-keyed : l ≡ 0 → T (keying_on o)
  pub up-keyed : u ≡ 0 → T (keying_on o)

-- pixel i is to be placed, with l and u for both labels, which gives the state `after`
pub record Sided (o : RunnerConfig) (w h : ℕ) (image : List ℕ) (shift i x y : ℕ) (after : State) (t₀ L K B E : List ℕ)
    (l u next count : ℕ) : Type 0 where
  pub state : State
  pub placing : Placing o w h image shift i x y l u state t₀ L K B E next count
  pub placed : place o w image i l u state ≡ after

-- i pixels are taken, and pixel i is next
pub record Taking (o : RunnerConfig) (w h : ℕ) (image : List ℕ) (shift i x y : ℕ) (t₀ L K B E : List ℕ)
    (next count : ℕ) : Type 0 where
  pub given : Given o w h image shift
  pub spot : Spot w h i x y
  pub holding : Holding (w * h) (taken o w image (w * h) i) t₀ L K B E next count
  pub room : slot_width * (w * h + 1) ≤ length t₀

-- what stage 1 begins with
pub record Blank (size : ℕ) (L K B E : List ℕ) : Type 0 where
  pub labels : L ≡ replicate size 0
  pub links : K ≡ replicate size 0
  pub table : slot_width * (size + 1) ≤ length B
  pub ends : length E ≡ size + 1
