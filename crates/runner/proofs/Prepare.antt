-- The loop that prepares the slots for stage 2.
use Rattle.std.specs.Prelude.{if◌then◌else◌}
use mathlib.Core.Path.{◌≡◌, sym, ap, ◌∙◌, subst}
use mathlib.Core.List.{List}
use Prim.Native.Nat.{ℕ, ◌+◌, ◌*◌, ◌≤◌, ◌<◌, max}
use native.Mathlib.Decide.{ℕ_discrete}
use native.Mathlib.Numerals.{add-one}
use native.Mathlib.Omega.{arith}
use borrow.Author.Tests.{le-ltb}
use lib.Dec.{lit<}
use lib.ListN.{length, get_or, drop, length-set, drop_of_length-le}
use lib.Seq.{drop-cons, get_or-set_same, get_or-set_other}
use Rattle.rules.specs.State.{State, Cluster, new_cluster, cluster, area}
use Rattle.rules.specs.Layout.{sum_numbers, slot, slot_width}
use Rattle.rules.specs.Stage2.{prepare_stage2}
use Rattle.rules.specs.Code.Order.{largest}
use Rattle.runner.specs.Code.Slots.{head_at}
use Rattle.runner.specs.Code.Rep.{Table, slots_of}
use Rattle.runner.specs.Code.Queue.{queue_key}
use Rattle.runner.specs.Code.Stage2.{PreparedSlot, Prepared}
use Rattle.runner.proofs.RepStage2.{preparing, prepare-end, prepare-head-sum, prepare-step}

-- table B holds the n slots of s, which t₀ has room for
pub record Held (n : ℕ) (B : List ℕ) (s : State) (t₀ : List ℕ) : Type 0 where
  pub slots : n ≡ length s.clusters
  pub room : slot_width * n ≤ length t₀
  pub table : Table n (slots_of s) t₀ B

-- The slots below k are prepared, and r is their largest pixel count: with what the slots from k on have it gives the largest of all.
pub record Preparing (n : ℕ) (B₀ Q₀ B Q : List ℕ) (k r : ℕ) : Type 0 where
  pub inside : k ≤ n
  pub wide : n ≤ length Q
  pub long : length B ≡ length B₀
  pub same : length Q ≡ length Q₀
  pub state : (s : State) (t₀ : List ℕ) → Held n B₀ s t₀ → Table n (preparing s k) t₀ B
  pub keys : (s : State) (t₀ : List ℕ) → Held n B₀ s t₀ → (j : ℕ) → j < k → get_or Q j 0 ≡ queue_key (area (cluster s j))
  pub rest : (j : ℕ) → k ≤ j → get_or Q j 0 ≡ get_or Q₀ j 0
  pub most : (s : State) (t₀ : List ℕ) → Held n B₀ s t₀ → max r (largest (drop k s.clusters)) ≡ largest s.clusters

-- the pixel count of slot k, which is read before its residue is set
prepare-count : (s : State) {n : ℕ} {t₀ B : List ℕ} (k : ℕ) → Table n (preparing s k) t₀ B → k < n → (head_at B k).count ≡ area (cluster s k)
unfolding head_at slot sum_numbers
prepare-count s k U l =
    U.slots k 1 l (lit< tt) ∙ ap (λ c. if c then slots_of (prepare_stage2 s) k 1 else slots_of s k 1) (le-ltb k k (omega arith))

-- the largest from slot k on is that of slot k and those after it
largest-from : (cs : List Cluster) (k : ℕ) → k < length cs → largest (drop k cs) ≡ max (area (get_or cs k new_cluster)) (largest (drop (k + 1) cs))
unfolding largest
largest-from cs k l = rw add-one (ap largest (drop-cons cs k new_cluster l))

largest-end : (cs : List Cluster) (k : ℕ) → length cs ≤ k → largest (drop k cs) ≡ 0
unfolding largest
largest-end cs k l = ap largest (drop_of_length-le cs l)

pub prepare-next : {n : ℕ} {B₀ Q₀ B Q B' Q' : List ℕ} {k r r' : ℕ} → Preparing n B₀ Q₀ B Q k r → k < n → length B' ≡ length B → PreparedSlot k B Q B' Q' r'
    → Preparing n B₀ Q₀ B' Q' (k + 1) (max r r')
prepare-next {n} {B₀} {Q₀} {B} {Q} {B'} {Q'} {k} {r} {r'} I l same' P = record {
  inside = omega arith;
  wide = omega (arith, I.wide, long');
  long = same' ∙ I.long;
  same = long' ∙ I.same;
  state = λ s t₀ H. subst (λ t. Table n (preparing s (k + 1)) t₀ t) (sym P.table)
      (rw add-one (prepare-step s k (I.state s t₀ H) l H.room (head_at B k).sum (prepare-head-sum s k (I.state s t₀ H) l)));
  keys = λ s t₀ H j m. key s t₀ H j m (ℕ_discrete j k);
  rest = λ j m. ap (λ q. get_or q j 0) P.queue ∙ get_or-set_other Q k j (queue_key (head_at B k).count) 0 (λ z. omega arith) ∙ I.rest j (omega arith);
  most = λ s t₀ H. omega (
    arith,
    P.count,
    I.most s t₀ H,
    prepare-count s k (I.state s t₀ H) l,
    largest-from s.clusters k (omega (arith, H.slots)),
  );
}
  where
    long' : length Q' ≡ length Q
    long' = ap length P.queue ∙ simp length-set

    key : (s : State) (t₀ : List ℕ) → Held n B₀ s t₀ → (j : ℕ) → j < k + 1 → Dec (j ≡ k) → get_or Q' j 0 ≡ queue_key (area (cluster s j))
    key s t₀ H j m (yes z) = subst (λ i. get_or Q' i 0 ≡ queue_key (area (cluster s i))) (sym z)
        (ap (λ q. get_or q k 0) P.queue ∙ get_or-set_same Q k (queue_key (head_at B k).count) 0 (omega (arith, I.wide)) ∙ ap queue_key (prepare-count s k (I.state s t₀ H) l))
    key s t₀ H j m (no z) =
        ap (λ q. get_or q j 0) P.queue ∙ get_or-set_other Q k j (queue_key (head_at B k).count) 0 z ∙ I.keys s t₀ H j (omega arith)

pub prepare_done : {n : ℕ} {B₀ Q₀ B Q : List ℕ} {k r : ℕ} → Preparing n B₀ Q₀ B Q k r → n ≤ k → Prepared n B₀ Q₀ B Q r
prepare_done {n} {B₀} {Q₀} {B} {Q} {k} {r} I l = record {
  state = λ s t₀ e f U. prepare-end s (subst (λ i. Table n (preparing s i) t₀ B) all (I.state s t₀ (held s t₀ e f U)));
  keys = λ s t₀ e f U j m. I.keys s t₀ (held s t₀ e f U) j (omega (arith, all));
  rest = λ j m. I.rest j (omega (arith, all));
  largest = λ s t₀ e f U. omega (arith, I.most s t₀ (held s t₀ e f U), largest-end s.clusters k (omega arith));
}
  where
    all : k ≡ n
    all = omega (arith, I.inside)

    held : (s : State) (t₀ : List ℕ) → n ≡ length s.clusters → slot_width * n ≤ length t₀ → Table n (slots_of s) t₀ B₀ → Held n B₀ s t₀
    held s t₀ e f U = record { slots = e; room = f; table = U }
