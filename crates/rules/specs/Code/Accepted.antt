-- What an accepted run has passed: the facts that its checks ask for.
use Rattle.std.specs.Prelude.{◌≡◌, false, ℕ, ◌*◌, ◌≤◌, ◌<◌}
use Rattle.rules.specs.Color.{RunnerConfig}
use Rattle.rules.specs.Refusals.{limit, bad_shift, table_length, outputs_length, work_length}

-- checks 2 and 3
pub record GoodSize (w h : ℕ) : Type 0 where
  pub wide : 0 < w
  pub high : 0 < h
  pub some : 0 < w * h
  pub small : w * h ≤ limit

-- all checks of a run; image, labels, links, table, outputs and work are lengths
pub record Accepted (o : RunnerConfig) (w h image labels links table outputs work : ℕ) : Type 0 where
  pub shift : bad_shift o.is_same_color_a ≡ false
  pub size : GoodSize w h
  pub bytes : image ≡ 4 * (w * h)
  pub labels-fit : w * h ≤ labels
  pub links-fit : w * h ≤ links
  pub table_fits : table_length (w * h) ≤ table
  pub outputs-fit : outputs_length (w * h) ≤ outputs
  pub work-fits : work_length (w * h) ≤ work
