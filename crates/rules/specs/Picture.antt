-- The picture of a state: zeros, then the outputs from last to first with the residue average (`to_color_image` of
-- container.rs; rule 9.1).
use Rattle.std.specs.Prelude.{List, [], ◌∷◌, ℕ, ◌*◌, replicate}
use Rattle.std.proofs.lemmas.List.Edits.{sets}
use Rattle.rules.specs.Base.{each, each_back}
use Rattle.rules.specs.Color.{Color, average}
use Rattle.rules.specs.State.{State, cluster}

-- four bytes for pixel p
unfoldable pub paint_pixel : Color → ℕ → List ℕ → List ℕ
paint_pixel c p picture = sets picture (4 * p) (c.r ∷ c.g ∷ c.b ∷ c.a ∷ [])

-- every pixel of cluster k in its residue average
unfoldable pub paint_cluster : State → ℕ → List ℕ → List ℕ
unfolding paint_pixel average
paint_cluster s k picture = each (cluster s k).pixels (paint_pixel (average (cluster s k).residue)) picture

-- zeros, then the outputs from last to first
unfoldable pub paint : ℕ → State → List ℕ
unfolding paint_cluster
paint size s = each_back s.outputs (paint_cluster s) (replicate (4 * size) 0)
