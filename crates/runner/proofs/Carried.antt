-- What is carried through stage 2 when one of its lists changes. Assumes nothing.
use mathlib.Core.Path.{◌≡◌, refl, sym, ap, ◌∙◌}
use mathlib.Core.List.{List, [], ◌∷◌, ◌++◌}
use Prim.Native.Nat.{ℕ, ◌+◌, ◌≤◌, ◌<◌}
use native.Mathlib.Decide.{ℕ_discrete}
use native.Mathlib.Omega.{arith}
use lib.ListN.{length, get_or, set, length-set, length-append, get_or-append}
use lib.Seq.{get_or-set_same, get_or-set_other, get_or-append-add}
use Rattle.rules.specs.State.{State, put_out}
use Rattle.runner.specs.Code.Rep.{Rep, HoleEnds}
use Rattle.runner.specs.Code.Queue.{KeySet, queue_key}
use Rattle.runner.specs.Code.Stage2.{Carried}
use Rattle.runner.proofs.Queues.{keyed-set}
use Rattle.runner.proofs.RepStage2.{rep-put, holes-same}

module _ {size : ℕ} {s : State} {keys t₀ L K B E H Q M S : List ℕ} {n m marks : ℕ} (C : Carried size s keys t₀ L K B E H Q M S n m marks) where
  -- cluster k is put out
  pub carried-put : (k : ℕ) → m < length S → Carried size (put_out k s) keys t₀ L K B E H Q M (set S m k) n (m + 1) marks
  unfolding put_out
  carried-put k l = record {
    queue-long = C.queue-long;
    marks-long = C.marks-long;
    staged-long = length-set S m k ∙ C.staged-long;
    rep = rep-put k C.rep;
    hole-ends = holes-same (λ j. refl) C.hole-ends;
    slots = C.slots;
    tree = C.tree;
    keyed = C.keyed;
    marked = C.marked;
    entries = omega (arith, length-append s.outputs (k ∷ []), C.entries);
    staged = λ i h. at i h (ℕ_discrete i m);
  }
    where
      at : (i : ℕ) → i < m + 1 → Dec (i ≡ m) → get_or (set S m k) i 0 ≡ get_or (s.outputs ++ (k ∷ [])) i 0
      at i h (yes e) =
          let z : length s.outputs + 0 ≡ i = omega (arith, C.entries) in
          ap (λ j. get_or (set S m k) j 0) e ∙ get_or-set_same S m k 0 l
          ∙ sym (get_or-append-add s.outputs (k ∷ []) 0 0) ∙ ap (λ j. get_or (s.outputs ++ (k ∷ [])) j 0) z
      at i h (no d) =
          get_or-set_other S m i k 0 d ∙ C.staged i (omega arith)
          ∙ sym (get_or-append s.outputs (k ∷ []) 0 i (omega (arith, C.entries)))

  -- the key of slot k becomes v; of a slot that is no longer pending v is 0
  pub carried-queue : (Q' : List ℕ) → length Q' ≡ length Q → (k v : ℕ) → k < n → n ≤ size + 1 → v < 4294967295 → KeySet Q Q' n k (queue_key v) → Carried size s (set keys k v) t₀ L K B E H Q' M S n m marks
  carried-queue Q' e k v inside few small N = record {
    queue-long = e ∙ C.queue-long;
    marks-long = C.marks-long;
    staged-long = C.staged-long;
    rep = C.rep;
    hole-ends = C.hole-ends;
    slots = C.slots;
    tree = N.tree;
    keyed = keyed-set Q Q' n keys C.keyed k v inside (omega (arith, C.queue-long)) small N.keys;
    marked = C.marked;
    entries = C.entries;
    staged = C.staged;
  }

  -- a merge: labels, links, table and all ends hold another state, of as many slots and the same outputs
  pub carried-lists : {u : State} {L' K' B' E' H' : List ℕ} → Rep size u t₀ L' K' B' E' → HoleEnds size u H' → length u.clusters ≡ length s.clusters → u.outputs ≡ s.outputs → Carried size u keys t₀ L' K' B' E' H' Q M S n m marks
  carried-lists R X slots outputs = record {
    queue-long = C.queue-long;
    marks-long = C.marks-long;
    staged-long = C.staged-long;
    rep = R;
    hole-ends = X;
    slots = C.slots ∙ sym slots;
    tree = C.tree;
    keyed = C.keyed;
    marked = C.marked;
    entries = C.entries ∙ sym (ap length outputs);
    staged = λ i h. C.staged i h ∙ sym (ap (λ l. get_or l i 0) outputs);
  }

  -- other marks, none above v
  pub carried-marks : (M' : List ℕ) → length M' ≡ length M → (v : ℕ) → ((j : ℕ) → get_or M' j 0 ≤ v) → Carried size s keys t₀ L K B E H Q M' S n m v
  carried-marks M' e v low = record {
    queue-long = C.queue-long;
    marks-long = e ∙ C.marks-long;
    staged-long = C.staged-long;
    rep = C.rep;
    hole-ends = C.hole-ends;
    slots = C.slots;
    tree = C.tree;
    keyed = C.keyed;
    marked = low;
    entries = C.entries;
    staged = C.staged;
  }

  -- the same marks
  pub carried_later : (v : ℕ) → marks ≤ v → Carried size s keys t₀ L K B E H Q M S n m v
  carried_later v l = record {
    queue-long = C.queue-long;
    marks-long = C.marks-long;
    staged-long = C.staged-long;
    rep = C.rep;
    hole-ends = C.hole-ends;
    slots = C.slots;
    tree = C.tree;
    keyed = C.keyed;
    marked = λ j. omega (arith, C.marked j);
    entries = C.entries;
    staged = C.staged;
  }
