-- What a visit makes of the labels that it reads.
use Rattle.std.specs.Prelude.{ℕ}
use Rattle.color.specs.Colors.{color_of}
use Rattle.runner.specs.declared.cluster.Visit.{Visit}
use Rattle.runner.specs.Code.Neighbours.{around, diff_from, Scan, noted, noted_four}

-- label l is noted
abbrev pub noted_by : Visit → ℕ → Scan → Scan
noted_by v l = noted (diff_from v.table.now (color_of v.mine)) v.own v.number l

-- the four labels around pixel p are, in turn
abbrev pub looked_by : Visit → ℕ → Scan → Scan
looked_by v p =
    noted_four (diff_from v.table.now (color_of v.mine)) v.own v.number
    (around v.labels.now v.input.now.w v.input.now.h p)
