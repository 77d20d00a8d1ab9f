-- A list is relabelled part by part: L labels, K links.
use Rattle.std.specs.Prelude.{◌≡◌, List, ℕ, ◌≤◌, ◌<◌, length}
use Rattle.image.specs.declared.PixelList.{PixelList}
use Rattle.rules.specs.State.{relabel}
use Rattle.rules.specs.Code.Bounds.{count_bound}
use Rattle.runner.specs.Code.Pixels.{pixels, Readable}

-- the list can be walked over labels
pub record CanRelabel (L K : List ℕ) (list : PixelList) : Type 0 where
  pub links : length L ≤ length K
  pub small : length L < count_bound
  pub readable : Readable (length L) K list

-- relabelling what is left of L' gives what relabelling the list of L does
pub record Relabels (t : ℕ) (L K : List ℕ) (list : PixelList) (L' : List ℕ) (left : PixelList) : Type 0 where
  pub width : length L' ≡ length L
  pub readable : Readable (length L) K left
  pub same : relabel t (pixels K left) L' ≡ relabel t (pixels K list) L
