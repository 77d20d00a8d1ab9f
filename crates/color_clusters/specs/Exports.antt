-- The settings as the exported calls take them, one by one.
use Rattle.std.specs.Prelude.{ℕ, ℤ}
use Rattle.rules.specs.Color.{RunnerConfig, rgba}
use Rattle.runner.specs.Types.{action_at}

-- the settings, put together
abbrev pub settings : ℤ → ℤ → ℕ → ℕ → ℕ → ℕ → ℤ → ℕ → ℕ → ℕ → ℕ → ℕ → RunnerConfig
settings is_same_color_a is_same_color_b hierarchical good_min_area good_max_area hollow_neighbours deepen_diff r g b a
    action = record {
      is_same_color_a = is_same_color_a;
      is_same_color_b = is_same_color_b;
      hierarchical = hierarchical;
      good_min_area = good_min_area;
      good_max_area = good_max_area;
      hollow_neighbours = hollow_neighbours;
      deepen_diff = deepen_diff;
      key_color = rgba r g b a;
      keying_action = action_at action;
    }
