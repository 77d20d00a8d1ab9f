use Rattle.std.proofs.Common.{◌≡◌, sym, ap, List, ℕ, length, arith}
use Rattle.rules.specs.Grid.{sides}
use Rattle.rules.proofs.Labels.{sides-fit}
use Rattle.runner.specs.Code.Neighbours.{around, noted_four}
use Rattle.runner.proofs.Nearest.{notable, some-noted, all-noted}
use Rattle.runner.proofs.cluster.Visit.look.Goals as goal

-- the labels at the four places
four : (labels : List ℕ) (w h p : ℕ) {ls : List ℕ} → ls ≡ around labels w h p → length ls ≡ 4
unfolding sides
four labels w h p e = ap length e

pub returns-then-is_inside : goal.returns-then-is_inside
returns-then-is_inside c = sym (c.is_inside.ensures c.if-is_inside.true _)

pub note-near-requires : goal.note-near-requires
note-near-requires c =
    let f = c.four_labels-label-items in
    let l = c.loop-label in
    let v = c.args.self in
    let n = some-noted _ _ _ f.result l.label-index _ _ (omega (arith, four _ _ _ _ f.ensures)) l.invariant in
    record {
      notable = rw (l.auto.marks, f.ensures) (notable _ _ _ _ (λ q i n. record { mark = c.requires.marked q i n; averaged = v.averaged q i n }) (sides _ _ _) (sides-fit v.input.now.w v.input.now.h c.args.p c.requires.pixel) l.label-index);
      count_bound = omega (arith, n, c.requires.count_bound);
    }

pub returns : goal.returns
unfolding sides noted_four
returns c = let f = c.four_labels-label-items in rw f.ensures at (all-noted _ _ _ f.result c.loop-label.label-index _ _ (omega (arith, ap length f.ensures)) c.loop-label.invariant)
