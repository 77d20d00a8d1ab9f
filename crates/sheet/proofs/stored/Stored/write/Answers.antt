use mathlib.Core.Path.{◌≡◌}
use Rattle.std.proofs.Common.{rules}
use mathlib.Core.List.{[]}
use lib.ListN.{length, get_or}
use Rattle.sheet.specs.Code.Stored.{slot_pairs}
use Rattle.sheet.specs.Code.Pairs.{pairs}
use Rattle.sheet.proofs.Bytes.{Small, stored-small, stored-parts, pair-small}
use Rattle.sheet.proofs.stored.Stored.write.Goals as goal
use Rattle.sheet.proofs.stored.Stored.write.Goals.{Start}

-- no part is large
small : (c : Start) → (let s = c.args.self in Small s.sizes (pairs (λ p. get_or s.labels.now p 0) (λ p. get_or s.links.now p 0) (length s.labels.now)) (slot_pairs s.slots.now) s.outputs.now)
small c = stored-small _ _ _ _ c.requires.small

pub put_pairs-requires-clause-small : goal.put_pairs-requires-clause-small
put_pairs-requires-clause-small c = let s = c.args.self in
    λ p l. (search rules, λ x q. let e : x ≡ (get_or s.labels.now p 0, get_or s.links.now p 0) = search rules in rw e (pair-small (λ p. get_or s.labels.now p 0) (λ p. get_or s.links.now p 0) _ (small (goal.at.put_pairs-requires-clause-small c).Start).pixels p l))

pub put_pairs-requires-2-clause-small : goal.put_pairs-requires-2-clause-small
put_pairs-requires-2-clause-small c = let s = c.args.self in
    λ k l. (
      search rules,
      λ x q. let e : x ≡ (get_or (get_or s.slots.now k []) 0 0, get_or (get_or s.slots.now k []) 1 0) = search rules in
          rw e (pair-small (λ k. get_or (get_or s.slots.now k []) 0 0) (λ k. get_or (get_or s.slots.now k []) 1 0) _ (small (goal.at.put_pairs-requires-2-clause-small c).Start).slots k l),
    )

pub returns : goal.returns
returns c = let s = c.args.self in
    let e = c.put_pairs.ensures (λ p. get_or s.labels.now p 0) (λ p. get_or s.links.now p 0) (λ p x l q. search rules) in
    let f = c.put_pairs-2.ensures (λ k. get_or (get_or s.slots.now k []) 0 0) (λ k. get_or (get_or s.slots.now k []) 1 0) (λ k x l q. search rules) in
    cc (c.put_all.ensures, e, f, c.put_all-2.ensures, stored-parts s.sizes _ _ s.outputs.now)
