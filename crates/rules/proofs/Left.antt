-- Demand 3 of what run and painting leave in the buffers.
use Rattle.std.specs.Prelude.{if◌then◌else◌}
use mathlib.Core.Path.{◌≡◌, refl, sym, ap, ◌∙◌, subst}
use mathlib.Core.Bool.{Bool, true, false}
use mathlib.Core.List.{List}
use Prim.Native.Nat.{ℕ, ◌*◌, ◌≤◌, ◌<◌}
use native.Mathlib.Omega.{arith}
use borrow.Author.Tests.{eqb-true, ltb-false, ltb-true}
use lib.Dec.{ltb, eqb}
use lib.ListN.{length, get_or, drop, get_or-append, get_or-eq_default}
use Rattle.rules.specs.Color.{RunnerConfig}
use Rattle.rules.specs.State.{State, Cluster, new_cluster, cluster, label}
use Rattle.rules.specs.Run.{run}
use Rattle.rules.specs.Picture.{paint}
use Rattle.rules.specs.Paint.{slot_sum, slot_residue, slot_pixels}
use Rattle.rules.specs.Code.InBuffers.{InBuffers}
use Rattle.rules.specs.Calls.{Buffers, Ran, RanAndPainted, leaves, accepted, refused, run_number, run_call, paint_call, run_and_paint_number, run_and_paint_call}
use Rattle.rules.specs.Ledger.{Held, ledger}
use Rattle.rules.specs.Demand3.{View, state_view, buffer_view, AgreesIn, Agrees, Demand3Left}
use Rattle.rules.proofs.Moments.{run-returned, run-width}
use Rattle.rules.proofs.Pictures.{run-pictured}
use Rattle.rules.proofs.Layouts.{leaves-in-buffers}
use Rattle.rules.proofs.Paint.{slot-sum, slot-residue, slot-pixels}
use Rattle.rules.proofs.Calls.{run-then-paint}
use Rattle.rules.proofs.Demand3.{demand3}

-- what is said of a view holds of another that shows the same
pub agrees-same : {o : RunnerConfig} {w h : ℕ} {image : List ℕ} {held : Held} {u v : View} → AgreesIn o w h image held u
    → v.slots ≡ u.slots → ((p : ℕ) → p < w * h → v.label p ≡ u.label p) → ((k : ℕ) → v.pixels k ≡ u.pixels k)
    → ((k : ℕ) → v.sum k ≡ u.sum k) → ((k : ℕ) → v.residue k ≡ u.residue k) → AgreesIn o w h image held v
agrees-same A slots labels pixels sums residues = record {
  placed = λ k p t. rw slots (A.placed k p t);
  counts = λ k. rw (sums k) (A.counts k);
  whole = A.whole;
  distinct = A.distinct;
  labelled = λ p l d. rw (labels p l) (A.labelled p l d);
  discarded = A.discarded;
  lists = λ k p. rw (pixels k) (A.lists k p);
  sums = λ k. sums k ∙ A.sums k;
  residues = λ k z. rw (residues k) (A.residues k z);
  shade = A.shade;
}

-- a state that agrees with a ledger, and buffers that it lies in
module _ {o : RunnerConfig} {w h : ℕ} {image : List ℕ} {held : Held} {n m : ℕ} {ls tb os : List ℕ} (s : State) (A : Agrees o w h image held s) (L : InBuffers (w * h) s n m ls tb os) where
  -- what is read of slot k; beyond the slots there is no cluster
  slot_same : {B : Type 0} (f : Cluster → B) (k : ℕ) (x : B) → (k < n → x ≡ f (cluster s k)) → (if ltb k n then x else f new_cluster) ≡ f (cluster s k)
  slot_same f k x same = go (ltb k n) refl
    where
      go : (b : Bool) → ltb k n ≡ b → (if b then x else f new_cluster) ≡ f (cluster s k)
      go true z = same (ltb-true k n z)
      go false z = sym (ap f (get_or-eq_default s.clusters new_cluster (omega (arith, L.slots, ltb-false k n z))))

  pub residue-same : (labels : List ℕ) (k : ℕ) → (buffer_view n labels ls tb).residue k ≡ (state_view s).residue k
  residue-same labels k = slot_same (λ c. c.residue) k (slot_residue tb k) (slot-residue s A L k)

  pub in-buffers-agrees : (labels : List ℕ) → ((p : ℕ) → p < w * h → get_or labels p 0 ≡ label s p) → AgreesIn o w h image held (buffer_view n labels ls tb)
  in-buffers-agrees labels same =
      agrees-same A.view L.slots same (λ k. slot_same (λ c. c.pixels) k (slot_pixels ls tb k) (λ l. (slot-pixels s A L k l).1))
      (λ k. slot_same (λ c. c.sum) k (slot_sum tb k) (slot-sum s A L k)) (residue-same labels)

-- what an accepted run leaves in the buffers b
module _ (o : RunnerConfig) (w h : ℕ) (image : List ℕ) (b : Buffers) where
  pub left-agrees : AgreesIn o w h image (ledger (run o w h image).log)
      (buffer_view (length (run o w h image).clusters) (leaves (run o w h image) b).labels (leaves (run o w h image) b).links (leaves (run o w h image) b).table)
  unfolding leaves
  left-agrees =
      let s = run o w h image in
      in-buffers-agrees s (run-returned o w h image) (leaves-in-buffers (w * h) s (run-width o w h image) b) (leaves s b).labels
      (λ p l. get_or-append s.labels (drop (length s.labels) b.labels) 0 p (omega (arith, run-width o w h image)))

  pub demand3-left : Demand3Left o w h image (length (run o w h image).clusters)
      (leaves (run o w h image) b).labels (leaves (run o w h image) b).links (leaves (run o w h image) b).table (paint (w * h) (run o w h image))
  demand3-left = record {
    moments = demand3 o w h image;
    left = left-agrees;
    pictured = λ off p l.
        let s = run o w h image in
        let x = run-pictured o w h image off p l in
        let e = residue-same s (run-returned o w h image) (leaves-in-buffers (w * h) s (run-width o w h image) b) (leaves s b).labels x.0 in
        (x.0, x.1, rw e x.2, rw e x.3);
  }

-- a call answers 0 only where its checks do
zero-passed : {A : Type 0} (answer : A → ℕ) (number : ℕ) (accepted refused : A) → answer refused ≡ number → answer (if eqb number 0 then accepted else refused) ≡ 0 → number ≡ 0
zero-passed answer number accepted refused same = go (eqb number 0) refl
  where
    go : (b : Bool) → eqb number 0 ≡ b → answer (if b then accepted else refused) ≡ 0 → number ≡ 0
    go true z e = eqb-true number 0 z
    go false z e = sym same ∙ e

-- run and painting in one call
call-left : (o : RunnerConfig) (w h : ℕ) (image : List ℕ) (b : Buffers) (given : List ℕ) → let r = run_and_paint_call o w h image b given in
    r.ran.number ≡ 0 → Demand3Left o w h image r.ran.n r.ran.buffers.labels r.ran.buffers.links r.ran.buffers.table r.picture
unfolding run_and_paint_call accepted
call-left o w h image b given e = rw (zero-passed (λ (r : RanAndPainted). r.ran.number) (run_and_paint_number o w h image b given) _ _ refl e) (demand3-left o w h image b)

-- the promise of such a call, from what it answers and leaves
pub run-and-paint-left : (o : RunnerConfig) (w h : ℕ) (image : List ℕ) (b : Buffers) (given : List ℕ) (r : RanAndPainted) → r ≡ run_and_paint_call o w h image b given
    → (r ≡ run_and_paint_call o w h image b given)
    × (r.ran.number ≡ 0 → Demand3Left o w h image r.ran.n r.ran.buffers.labels r.ran.buffers.links r.ran.buffers.table r.picture)
run-and-paint-left o w h image b given r e = (
  e,
  subst (λ x. x.ran.number ≡ 0 → Demand3Left o w h image x.ran.n x.ran.buffers.labels x.ran.buffers.links x.ran.buffers.table x.picture) (sym e) (call-left o w h image b given),
)

-- run, then painting, with nobody writing in between
pub run-then-paint-left : (o : RunnerConfig) (w h : ℕ) (image : List ℕ) → ((i : ℕ) → get_or image i 0 ≤ 255) → (b : Buffers) → let r = run_call o w h image b in
    r.number ≡ 0 → (given : List ℕ) → length given ≡ 4 * (w * h)
    → let p = paint_call w h r.buffers.links r.buffers.table r.buffers.outputs given r.n r.m in
    (p.answer ≡ 0) × Demand3Left o w h image r.n r.buffers.labels r.buffers.links r.buffers.table p.picture
unfolding run_call accepted
run-then-paint-left o w h image bytes b e given l =
    let z = zero-passed (λ (r : Ran). r.number) (run_number o w h image b) _ _ refl e in
    rw (z, run-then-paint o w h image bytes b z given l) (refl, demand3-left o w h image b)
