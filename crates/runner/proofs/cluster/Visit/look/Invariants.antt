use Rattle.std.proofs.Common.{◌≡◌, take}
use Rattle.rules.specs.Base.{each}
use Rattle.runner.specs.Code.Neighbours.{Scan}
use Rattle.runner.specs.Code.Visits.{noted_by}
use Rattle.runner.proofs.cluster.Visit.look.Given as goal

-- the labels before this one are noted
abbrev pub invariant-loop-label : goal.invariant-loop-label
invariant-loop-label l = ◌≡◌ {A = Scan} (record { marks = l.marks; nearest = l.near })
    (each (take l.label-index l.label-items) (noted_by l.self) (record { marks = l.initial.marks; nearest = l.initial.near }))
