-- What each public call answers and leaves in the buffers that it is lent, for every input: a refused call changes
-- nothing (rules 3.1 and 3.5, and sections 8 to 11).
use Rattle.std.specs.Prelude.{List, ◌++◌, ℕ, ◌*◌, length, take, drop, replicate, if◌then◌else◌}
use Rattle.std.proofs.Math.Dec.{eqb}
use Rattle.rules.specs.Color.{ColorSum, ◌⊕◌, RunnerConfig}
use Rattle.rules.specs.State.{State}
use Rattle.rules.specs.Run.{run}
use Rattle.rules.specs.Layout.{links, table}
use Rattle.rules.specs.Picture.{paint}
use Rattle.rules.specs.Paint.{Painted, painting}
use Rattle.rules.specs.Refusals.{run_answer, run_and_paint_answer, paint_answer, row_answer, store_answer, sum_answer}
use Rattle.rules.specs.Stored.{stored_numbers, is_large, stored_bytes}

-- the buffers that a run is lent
pub record Buffers : Type 0 where
  pub labels : List ℕ
  pub links : List ℕ
  pub table : List ℕ
  pub outputs : List ℕ
  pub work : List ℕ

-- what a run answers, and the buffers as it leaves them
pub record Ran : Type 0 where
  pub number : ℕ
  pub n : ℕ
  pub m : ℕ
  pub buffers : Buffers

-- `new` written over the beginning of `old`
abbrev pub over : List ℕ → List ℕ → List ℕ
over new old = new ++ drop (length new) old

-- a state in the buffers (rules 8.1 to 8.5): what lies beyond w × h, slot n and entry m is untouched, and the work
-- buffer is zero
unfoldable pub leaves : State → Buffers → Buffers
unfolding links table
leaves s b = record {
  labels = over s.labels b.labels;
  links = over (links s) b.links;
  table = over (table s) b.table;
  outputs = over s.outputs b.outputs;
  work = replicate (length b.work) 0;
}

-- the five buffers as one
abbrev pub as_buffers : List ℕ → List ℕ → List ℕ → List ℕ → List ℕ → Buffers
as_buffers labels links table outputs work = record {
  labels = labels;
  links = links;
  table = table;
  outputs = outputs;
  work = work;
}

-- a number, n and m are answered, and the buffers left
abbrev pub answered : ℕ → ℕ → ℕ → Buffers → Ran
answered number n m b = record { number = number; n = n; m = m; buffers = b }

-- a refused run (rule 3.1): zero counts, and no buffer changes
abbrev pub refused : ℕ → Buffers → Ran
refused number b = answered number 0 0 b

module _ (o : RunnerConfig) (w h : ℕ) (image : List ℕ) where
  -- what an accepted run answers and leaves (rules 1.6, 3.5)
  unfoldable pub accepted : Buffers → Ran
  unfolding leaves run
  accepted b =
      let s = run o w h image in
      answered 0 (length s.clusters) (length s.outputs) (leaves s b)

  -- the number that `run` answers when it is lent b
  unfoldable pub run_number : Buffers → ℕ
  unfolding run_answer
  run_number b =
      run_answer w h o (length image) (length b.labels) (length b.links) (length b.table)
      (length b.outputs) (length b.work)

  -- a run: accepted, or refused with its number
  unfoldable pub run_call : Buffers → Ran
  unfolding run_number accepted
  run_call b = if eqb (run_number b) 0 then accepted b else refused (run_number b) b

-- the painting call (rule 9.2)
unfoldable pub paint_call : ℕ → ℕ → List ℕ → List ℕ → List ℕ → List ℕ → ℕ → ℕ → Painted
unfolding paint_answer painting
paint_call w h links table outputs picture n m =
    let number = paint_answer w h (length links) (length table) (length outputs) (length picture) n m in
    if eqb number 0
    then painting (w * h) n m links table outputs picture
    else record { answer = number; picture = picture }

-- what a run with painting answers and leaves
pub record RanAndPainted : Type 0 where
  pub ran : Ran
  pub picture : List ℕ

-- a run with its picture
abbrev pub with_picture : Ran → List ℕ → RanAndPainted
with_picture ran picture = record { ran = ran; picture = picture }

module _ (o : RunnerConfig) (w h : ℕ) (image : List ℕ) where
  -- the number that a run with painting answers
  unfoldable pub run_and_paint_number : Buffers → List ℕ → ℕ
  unfolding run_and_paint_answer
  run_and_paint_number b picture =
      run_and_paint_answer w h o (length image) (length b.labels) (length b.links) (length b.table)
      (length b.outputs) (length b.work) (length picture)

  -- a run and then its picture: both or nothing (rule 3.5)
  unfoldable pub run_and_paint_call : Buffers → List ℕ → RanAndPainted
  unfolding run_and_paint_number accepted paint run
  run_and_paint_call b picture =
      if eqb (run_and_paint_number b picture) 0
      then with_picture (accepted o w h image b) (paint (w * h) (run o w h image))
      else with_picture (refused (run_and_paint_number b picture) b) picture

-- the part of the picture that a row call hands back (rule 10.1); a refused call hands back the first zero bytes
unfoldable pub row_call : ℕ → ℕ → List ℕ → ℕ → List ℕ
unfolding row_answer
row_call w h picture y =
    if eqb (row_answer w h (length picture) y) 0 then take (4 * w) (drop (4 * w * y) picture) else take 0 picture

-- what storing answers and leaves in its destination (rules 11.1, 11.2)
pub record StoredSheet : Type 0 where
  pub answer : ℕ
  pub destination : List ℕ

-- the numbers are stored only where no check fails
unfoldable pub store_call : ℕ → ℕ → List ℕ → List ℕ → List ℕ → List ℕ → List ℕ → ℕ → ℕ → StoredSheet
unfolding stored_numbers is_large stored_bytes store_answer
store_call w h labels links table outputs destination n m =
    let numbers = stored_numbers w h labels links table outputs n m in
    let number = store_answer w h (length labels) (length links) (length table) (length outputs) (length destination) n
    m (is_large numbers) (2 * length numbers) in
    record { answer = number; destination = if eqb number 0 then stored_bytes numbers else destination }

-- `ColorSum::add` and `merge`: the sum that is left (rule 4.5)
unfoldable pub sum_call : ColorSum → ColorSum → ColorSum
unfolding sum_answer ◌⊕◌
sum_call x y = if eqb (sum_answer x y) 0 then x ⊕ y else x
