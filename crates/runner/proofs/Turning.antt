-- The turns of stage 2 in the buffers: one turn, the start and the end.
use mathlib.Core.Path.{◌≡◌, sym, ap, ◌∙◌, subst}
use Rattle.std.proofs.Common.{Some, None}
use mathlib.Core.List.{List}
use Prim.Native.Nat.{ℕ, ◌+◌, ◌*◌, ◌≤◌, ◌<◌}
use native.Mathlib.Numerals.{add-one}
use native.Mathlib.Omega.{arith}
use lib.ListN.{length}
use Rattle.rules.specs.Color.{RunnerConfig}
use Rattle.rules.specs.Run.{stage1, stage2}
use Rattle.rules.specs.Code.Order.{Queue, queue, largest, rekey, turns}
use Rattle.rules.proofs.Whole.{early}
use Rattle.rules.proofs.Order.{turns-few, turns-end}
use Rattle.rules.proofs.Turns.{turn-ready, turns-table}
use Rattle.runner.specs.declared.queue.Entry.{Entry}
use Rattle.runner.specs.declared.stage2.Turns.{Turns}
use Rattle.runner.specs.Code.Given.{Given}
use Rattle.runner.specs.Code.Queue.{KeySet, NextPending}
use Rattle.runner.specs.Code.Stage2.{Carried, queue_at, visit_at, Between, Chosen, Visiting, Visited, Staged}
use Rattle.runner.proofs.Queues.{first_some, first-none}
use Rattle.runner.proofs.Carried.{carried-queue}
use Rattle.runner.proofs.Moment.{At, at, image-of}

module _ {o : RunnerConfig} {w h : ℕ} {image : List ℕ} {shift : ℕ} (G : Given o w h image shift) {t₀ L K B E H Q M S : List ℕ} {n : ℕ} {t : Turns} (I : Between o w h image t₀ L K B E H Q M S n t) where
  -- ---- which slot is next

  pub slots-are : n ≡ length (stage1 o w h image).clusters
  slots-are = I.carried.slots ∙ turns-table o w h image t.turns

  pub some-slots : 0 < n
  some-slots = omega (arith, slots-are, (early o w h image).room, (early o w h image).some)

  -- one is pending
  pub chooses : (e : Entry) → NextPending Q n (Some e) → Chosen o w h image t.turns e.slot e.key
  chooses e N =
      let x = first_some Q n (queue_at o w h image t.turns).keys I.carried.keyed e N.0 N.1 in
      record { picked = x.0; count = sym x.1 ∙ (turn-ready o w h image t.turns e.slot x.0).picked.key }

  -- none is: stage 2 is over
  pub ends : NextPending Q n None → Staged (w * h) (stage2 o w h (stage1 o w h image)) t₀ L K B E H Q M S n t.m
  ends N = subst (λ u. Staged (w * h) u t₀ L K B E H Q M S n t.m) over (record {
    labelled = I.carried.rep.labelled;
    linked = I.carried.rep.linked;
    tabled = I.carried.rep.tabled;
    slots = I.carried.slots;
    entries = I.carried.entries;
    long = I.carried.staged-long;
    staged = I.carried.staged;
  })
    where
      over : (queue_at o w h image t.turns).now ≡ stage2 o w h (stage1 o w h image)
      over = turns-end o w h image t.turns (first-none Q n (queue_at o w h image t.turns).keys I.carried.keyed N)

  -- one turn
  module _ {k a : ℕ} (C : Chosen o w h image t.turns k a) where
    abbrev q : Queue
    q = queue_at o w h image t.turns

    moment : At o w h image (queue_at o w h image t.turns) k
    moment = at o w h image (image-of G) t.turns k C.picked

    pub turns-left : t.turns < 2 * (w * h)
    turns-left = turns-few o w h image t.turns k C.picked

    pub inside : k < n
    inside = omega (arith, I.carried.slots, moment.ready.picked.slot)

    few : n ≤ w * h + 1
    few = omega (arith, I.carried.slots, moment.ranged.slots)

    -- slot k is taken off the queue
    pub taken-off : {Q' : List ℕ} {n' : ℕ} → n' ≡ n → length Q' ≡ length Q → KeySet Q Q' n k 4294967295 → Visiting o w h image t₀ L K B E H Q' M S n' t k a t.turns
    taken-off {Q'} s e N = rw s (record {
      table_fits = I.table_fits;
      chosen = C;
      carried = carried-queue I.carried Q' e k 0 inside few (omega arith) N;
      top = I.top;
    })

    next : queue_at o w h image (t.turns + 1) ≡ queue (visit_at o w h image t.turns k) (rekey k (queue_at o w h image t.turns).now (visit_at o w h image t.turns k) (queue_at o w h image t.turns).keys)
    unfolding turns
    next = ap (queue_at o w h image) (add-one t.turns) ∙ moment.ready.turns-to

    -- and visited
    pub turned : {L' K' B' E' H' Q' M' S' : List ℕ} {n' : ℕ} {r : Turns} → Visited o w h image t₀ L' K' B' E' H' Q' M' S' n' t r k
        → Between o w h image t₀ L' K' B' E' H' Q' M' S' n' (record { m = r.m; turns = r.turns + 1; largest = r.largest })
    turned {L'} {K'} {B'} {E'} {H'} {Q'} {M'} {S'} {n'} {r} D = record {
      table_fits = I.table_fits;
      carried = subst (λ i. Carried (w * h) (queue_at o w h image (i + 1)).now (queue_at o w h image (i + 1)).keys t₀ L' K' B' E' H' Q' M' S' n' r.m (i + 1)) (sym D.same)
          (subst (λ x. Carried (w * h) x.now x.keys t₀ L' K' B' E' H' Q' M' S' n' r.m (t.turns + 1)) (sym next) D.carried);
      top = D.top ∙ sym (ap (λ x. largest x.now.clusters) next) ∙ ap (λ i. largest (queue_at o w h image (i + 1)).now.clusters) (sym D.same);
    }
