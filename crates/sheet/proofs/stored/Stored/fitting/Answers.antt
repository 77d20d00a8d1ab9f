use Rattle.std.proofs.Common.{rules, ◌≡◌, ◌∙◌, ap, arith, ℕ, ◌*◌, ◌∷◌, [], take, length}
use Rattle.rules.specs.Stored.{stored_numbers}
use Rattle.sheet.specs.Code.Stored.{CanStore, parts}
use Rattle.sheet.proofs.Accepted.{can-store}
use Rattle.refusal.proofs.Laws.{refused_number}
use Rattle.sheet.proofs.Slots.{cut}
use Rattle.sheet.proofs.stored.Stored.fitting.Goals as goal

pub returns-clause-sheet : goal.returns-clause-sheet
unfolding stored_numbers
returns-clause-sheet c = let s = c.args.clusters in
    let p : ℕ = c.in_ok-pixels.field-0 in
    let labels = c.args.labels.now in
    let sizes = s.size.w ∷ s.size.h ∷ s.counts.n ∷ s.counts.m ∷ [] in
    let e : p ≡ s.size.w * s.size.h = search rules in
    let can : CanStore s (length labels) = search (rules, can-store, refused_number) in
    ap (λ r. parts sizes (take p labels) (take p s.links.now) (take s.counts.n r) (take s.counts.m s.outputs.now)) c.as_chunks.ensures.front
    ∙ rw (← e) (cut sizes labels s.links.now s.table.now (take s.counts.m s.outputs.now) p s.counts.n (omega (arith, e, can.labels-fit)) (omega (arith, e, can.links-fit)) can.table_fits)
