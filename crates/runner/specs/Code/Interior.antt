-- The boundary test of a cluster, as the code makes it.
use Rattle.std.specs.Prelude.{Bool, not, ◌&&◌, List, ℕ, eqb, get_or}
use Rattle.rules.specs.Color.{RunnerConfig, is_discard}
use Rattle.rules.specs.Grid.{sides}
use Rattle.rules.specs.Stage1.{is_key}
use Rattle.rules.specs.Stage2.{all_in}
use Rattle.rules.specs.Code.Order.{any_of}

-- pixel q is in the list of cluster k, read off its label: it carries label k and is not discarded
abbrev pub in_list : RunnerConfig → List ℕ → List ℕ → ℕ → ℕ → Bool
in_list o image labels k q = eqb (get_or labels q 0) k && not (is_key o image q && is_discard o.keying_action)

-- some of these pixels has its four neighbours in the list of cluster k
unfoldable pub some_inside : RunnerConfig → List ℕ → List ℕ → ℕ → ℕ → ℕ → List ℕ → Bool
some_inside o image labels w h k ps = any_of (λ p. all_in (in_list o image labels k) (sides w h p)) ps
