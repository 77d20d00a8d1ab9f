-- Stage 2 is repeated picking of the least pending slot.
use Rattle.std.specs.Prelude.{if◌then◌else◌}
use mathlib.Core.Path.{◌≡◌, refl, sym, ap, ◌∙◌, subst}
use mathlib.Core.Logic.{◌≢◌, ◌⊎◌, inl, inr, by_cases}
use mathlib.Core.Bool.{Bool, true, false, not, ◌&&◌}
use mathlib.Core.List.{List, ◌∷◌}
use mathlib.Core.Option.{Option, some, none as off}
use Prim.Native.Nat.{ℕ, zero, suc, ◌+◌, ◌*◌, ◌≤◌, ◌<◌}
use native.Mathlib.Decide.{ℕ_discrete, dec_lt}
use native.Mathlib.Omega.{arith}
use borrow.Author.Tests.{eqb-false, eqb-true, ltb-false, ltb-true}
use lib.Dec.{T, eqb, ltb, lt→ltb}
use lib.ListN.{length, get_or, set, length-set, length-append, length-map, get_or-map, get_or-eq_default}
use lib.Seq.{get_or-set_same, get_or-set_other}
use Rattle.rules.specs.Base.{times}
use Rattle.rules.specs.Color.{RunnerConfig, keying_on}
use Rattle.rules.specs.State.{State, Event, new_cluster, cluster, area, emptied, merged_to, with_residue, put_out, merge_cluster_into, deepen_cluster_into, plain, deepened}
use Rattle.rules.specs.Stage2.{neighbours, by_neighbours, visit, pass, passes, prepare_stage2}
use Rattle.rules.specs.Run.{stage1, stage2}
use Rattle.rules.specs.Claim.{count_of}
use Rattle.rules.specs.Code.Order.{better, next_pending, target, rekey, Queue, queue, start, visited, turn_of, turn, turns, drained}
use Rattle.rules.specs.Demand3.{Discarded}
use Rattle.rules.specs.Code.Early.{standing, Early}
use Rattle.rules.proofs.Facts.{eqb_no, count_of-le, count_of-lt}
use Rattle.rules.proofs.Basic.{Moved, three}
use Rattle.rules.proofs.Visits.{Going, later, visit-cases, isolated-cases, visit-going, times-keep, k≢t, t-slot, target-stands, merge-changes, merge-from, deepen-changes, deepen-from, next-area}
use Rattle.rules.proofs.Early.{prepare_stage2-going}
use Rattle.rules.proofs.Whole.{early, stage2-passes}
use Rattle.rules.proofs.Outputs.{area-pos, area-le}
use Rattle.rules.proofs.Bounds.{Bounded, rooted, waiting, root-out, wait-out, later-waits, here, not-then, next-waits, merge-fewer, deepen-fewer, stood}

-- ---- the pick

-- of the slots below m, i is pending with the least key, and of several the first
abbrev pub LeastOf : List ℕ → ℕ → ℕ → Type 0
LeastOf keys m i = (i < m) × (get_or keys i 0 ≢ 0) × ((j : ℕ) → j < m → get_or keys j 0 ≢ 0 → (get_or keys i 0 < get_or keys j 0) ⊎ ((get_or keys i 0 ≡ get_or keys j 0) × (i ≤ j)))

abbrev pub Best : List ℕ → ℕ → Option ℕ → Type 0
Best keys m off = (j : ℕ) → j < m → get_or keys j 0 ≡ 0
Best keys m (some i) = LeastOf keys m i

better-best : (keys : List ℕ) (m : ℕ) (b : Option ℕ) → Best keys m b → Best keys (suc m) (better keys m b)
unfolding better
better-best keys m off x = go (eqb (get_or keys m 0) 0) refl
  where
    all : get_or keys m 0 ≡ 0 → (j : ℕ) → j < suc m → Dec (j ≡ m) → get_or keys j 0 ≡ 0
    all e j l (yes z) = ap (λ y. get_or keys y 0) z ∙ e
    all e j l (no z) = x j (omega arith)

    first : (j : ℕ) → j < suc m → get_or keys j 0 ≢ 0 → Dec (j ≡ m) → (get_or keys m 0 < get_or keys j 0) ⊎ ((get_or keys m 0 ≡ get_or keys j 0) × (m ≤ j))
    first j l n (yes z) = inr (ap (λ y. get_or keys y 0) (sym z), omega arith)
    first j l n (no z) = absurd (n (x j (omega arith)))

    go : (c : Bool) → eqb (get_or keys m 0) 0 ≡ c → Best keys (suc m) (if c then off else some m)
    go true e = λ j l. all (eqb-true (get_or keys m 0) 0 e) j l (ℕ_discrete j m)
    go false e = (omega arith, eqb-false (get_or keys m 0) 0 e, λ j l n. first j l n (ℕ_discrete j m))
better-best keys m (some i) x = go (eqb (get_or keys m 0) 0) refl (ltb (get_or keys m 0) (get_or keys i 0)) refl
  where
    old : (get_or keys m 0 ≢ 0 → get_or keys i 0 ≤ get_or keys m 0) → (j : ℕ) → j < suc m → get_or keys j 0 ≢ 0 → Dec (j ≡ m) → (get_or keys i 0 < get_or keys j 0) ⊎ ((get_or keys i 0 ≡ get_or keys j 0) × (i ≤ j))
    old f j l n (no z) = x.2 j (omega arith) n
    old f j l n (yes z) = elim (dec_lt (get_or keys i 0) (get_or keys j 0)) [ yes q ↦ inl q | no q ↦ inr (omega (arith, s, f (λ y. n (s ∙ y))), omega (arith, x.0)) ]
      where
        s : get_or keys j 0 ≡ get_or keys m 0
        s = ap (λ y. get_or keys y 0) z

    new : get_or keys m 0 < get_or keys i 0 → (j : ℕ) → j < suc m → get_or keys j 0 ≢ 0 → Dec (j ≡ m) → (get_or keys m 0 < get_or keys j 0) ⊎ ((get_or keys m 0 ≡ get_or keys j 0) × (m ≤ j))
    new l j b n (yes z) = inr (ap (λ y. get_or keys y 0) (sym z), omega arith)
    new l j b n (no z) = elim (x.2 j (omega arith) n) [ inl q ↦ inl (omega arith) | inr q ↦ inl (omega arith) ]

    go : (c : Bool) → eqb (get_or keys m 0) 0 ≡ c → (d : Bool) → ltb (get_or keys m 0) (get_or keys i 0) ≡ d → Best keys (suc m) (if not c && d then some m else some i)
    go true e d q = (omega (arith, x.0), x.1, λ j l n. old (λ y. absurd (y (eqb-true (get_or keys m 0) 0 e))) j l n (ℕ_discrete j m))
    go false e true q = (omega arith, eqb-false (get_or keys m 0) 0 e, λ j l n. new (ltb-true (get_or keys m 0) (get_or keys i 0) q) j l n (ℕ_discrete j m))
    go false e false q = (omega (arith, x.0), x.1, λ j l n. old (λ y. ltb-false (get_or keys m 0) (get_or keys i 0) q) j l n (ℕ_discrete j m))

-- what is picked is the least
pub pick-best : (keys : List ℕ) → Best keys (length keys) (next_pending keys)
unfolding next_pending
pick-best keys = times-keep (λ m b. Best keys m b) (better keys) (λ m b x. better-best keys m b x) off (λ j l. absurd (omega arith)) (length keys)

-- the least is picked
pub pick-least : (keys : List ℕ) (k : ℕ) → LeastOf keys (length keys) k → next_pending keys ≡ some k
pick-least keys k x = go (next_pending keys) (pick-best keys)
  where
    one : (i : ℕ) → LeastOf keys (length keys) i → (get_or keys i 0 < get_or keys k 0) ⊎ ((get_or keys i 0 ≡ get_or keys k 0) × (i ≤ k)) → (get_or keys k 0 < get_or keys i 0) ⊎ ((get_or keys k 0 ≡ get_or keys i 0) × (k ≤ i)) → i ≡ k
    one i y (inl a) (inl b) = absurd (omega arith)
    one i y (inl a) (inr b) = absurd (omega arith)
    one i y (inr a) (inl b) = absurd (omega arith)
    one i y (inr a) (inr b) = omega arith

    go : (b : Option ℕ) → Best keys (length keys) b → b ≡ some k
    go off y = absurd (x.1 (y k x.0))
    go (some i) y = ap some (one i y (y.2 k x.0 x.1) (x.2 i y.0 y.1))

pub pick-none : (keys : List ℕ) → ((j : ℕ) → get_or keys j 0 ≡ 0) → next_pending keys ≡ off
pick-none keys z = go (next_pending keys) (pick-best keys)
  where
    go : (b : Option ℕ) → Best keys (length keys) b → b ≡ off
    go off y = refl
    go (some i) y = absurd (y.1 (z i))

-- ---- the keys before slot k is visited at area a

-- a slot of x pixels and number j: its turn is to come, or is over
abbrev pub Due : ℕ → ℕ → ℕ → ℕ → Type 0
Due a k x j = (a < x) ⊎ ((x ≡ a) × (k ≤ j))

abbrev pub Done : ℕ → ℕ → ℕ → ℕ → Type 0
Done a k x j = (x < a) ⊎ ((x ≡ a) × (j < k))

-- and its key is v
abbrev pub KeyIs : ℕ → ℕ → ℕ → ℕ → ℕ → Type 0
KeyIs a k x j v = (Due a k x j × (v ≡ x)) ⊎ (Done a k x j × (v ≡ 0))

pub record Queued (a k : ℕ) (s : State) (keys : List ℕ) : Type 0 where
  pub keyed : (j : ℕ) → KeyIs a k (area (cluster s j)) j (get_or keys j 0)
  pub wide : length keys ≡ length s.clusters

key-later : (a k x j v : ℕ) → (j ≡ k → x ≢ a) → KeyIs a k x j v → KeyIs a (suc k) x j v
key-later a k x j v n (inl (inl l, e)) = inl (inl l, e)
key-later a k x j v n (inl (inr l, e)) = elim (ℕ_discrete j k) [ yes z ↦ absurd (n z l.0) | no z ↦ inl (inr (l.0, omega arith), e) ]
key-later a k x j v n (inr (inl l, e)) = inr (inl l, e)
key-later a k x j v n (inr (inr l, e)) = inr (inr (l.0, omega arith), e)

skip-queued : (a k : ℕ) (s : State) (keys : List ℕ) → area (cluster s k) ≢ a → Queued a k s keys → Queued a (suc k) s keys
skip-queued a k s keys n Q = record { keyed = λ j. key-later a k (area (cluster s j)) j (get_or keys j 0) (λ e z. n (ap (λ m. area (cluster s m)) (sym e) ∙ z)) (Q.keyed j); wide = Q.wide }

-- a slot with pixels has a key where its turn is to come, and is in the table
module _ (a k : ℕ) (s : State) (keys : List ℕ) (Q : Queued a k s keys) (pos : 0 < a) where
  pub within : (j : ℕ) → 0 < area (cluster s j) → j < length keys
  within j p = by_cases (dec_lt j (length keys))
      (λ l. l)
      (λ l. absurd (omega (arith, ap area (get_or-eq_default s.clusters new_cluster {n = j} (omega (arith, Q.wide))))))

  module _ (e : area (cluster s k) ≡ a) where
    pub key_here : get_or keys k 0 ≡ a
    key_here = go (Q.keyed k)
      where
        go : KeyIs a k (area (cluster s k)) k (get_or keys k 0) → get_or keys k 0 ≡ a
        go (inl x) = x.1 ∙ e
        go (inr (inl x, y)) = absurd (omega arith)
        go (inr (inr x, y)) = absurd (omega (arith, x.1))

    pub picked-here : next_pending keys ≡ some k
    picked-here = pick-least keys k (within k (omega arith), λ z. omega (arith, key_here), λ j l n. go j n (Q.keyed j))
      where
        go : (j : ℕ) → get_or keys j 0 ≢ 0 → KeyIs a k (area (cluster s j)) j (get_or keys j 0) → (get_or keys k 0 < get_or keys j 0) ⊎ ((get_or keys k 0 ≡ get_or keys j 0) × (k ≤ j))
        go j n (inl (inl x, y)) = inl (omega (arith, key_here))
        go j n (inl (inr x, y)) = inr (omega (arith, key_here, x.0), x.1)
        go j n (inr x) = absurd (n x.1)

-- ---- a visit

pub rekey-still : (k : ℕ) (s u : State) (keys : List ℕ) → u.log ≡ s.log → rekey k s u keys ≡ set keys k 0
unfolding rekey
rekey-still k s u keys e = go (ltb (length s.log) (length u.log)) refl
  where
    go : (b : Bool) → ltb (length s.log) (length u.log) ≡ b → (if b then set (set keys k 0) (target u.log) (area (cluster u (target u.log))) else set keys k 0) ≡ set keys k 0
    go true z = absurd (let l : length s.log < length u.log = ltb-true (length s.log) (length u.log) z in omega (arith, ap length e))
    go false z = refl

pub rekey-moved : (k : ℕ) (s u : State) (keys : List ℕ) (x : Event) → u.log ≡ x ∷ s.log → rekey k s u keys ≡ set (set keys k 0) (target u.log) (area (cluster u (target u.log)))
unfolding rekey
rekey-moved k s u keys x e = go (ltb (length s.log) (length u.log)) refl
  where
    go : (b : Bool) → ltb (length s.log) (length u.log) ≡ b
        → (if b then set (set keys k 0) (target u.log) (area (cluster u (target u.log))) else set keys k 0) ≡ set (set keys k 0) (target u.log) (area (cluster u (target u.log)))
    go true z = refl
    go false z = absurd (subst T z (lt→ltb (length s.log) (length u.log) (omega (arith, ap length e))))

module _ {image : List ℕ} {size : ℕ} (a k : ℕ) (s : State) (keys : List ℕ) (G : Going image size a k s) (Q : Queued a k s keys) (pos : 0 < a) (e : area (cluster s k) ≡ a) where
  fits : k < length keys
  fits = within a k s keys Q pos k (omega arith)

  -- no merge: only k's key goes
  still-queued : (u : State) → u.clusters ≡ s.clusters → u.log ≡ s.log → Queued a (suc k) u (rekey k s u keys)
  still-queued u c l = subst (Queued a (suc k) u) (sym (rekey-still k s u keys l)) (record { keyed = λ j. go j (ℕ_discrete j k); wide = length-set keys k 0 ∙ Q.wide ∙ ap length (sym c) })
    where
      go : (j : ℕ) → Dec (j ≡ k) → KeyIs a (suc k) (area (cluster u j)) j (get_or (set keys k 0) j 0)
      go j (yes z) = subst (λ m. KeyIs a (suc k) (area (cluster u m)) m (get_or (set keys k 0) m 0)) (sym z)
          (inr (inr (ap (λ d. area (get_or d k new_cluster)) c ∙ e, omega arith), get_or-set_same keys k 0 0 fits))
      go j (no z) = subst (λ v. KeyIs a (suc k) (area (cluster u j)) j v) (sym (get_or-set_other keys k j 0 0 z))
          (subst (λ d. KeyIs a (suc k) (area (get_or d j new_cluster)) j (get_or keys j 0)) (sym c) (key-later a k (area (cluster s j)) j (get_or keys j 0) (λ y. absurd (z y)) (Q.keyed j)))

  -- a merge into t: t is pending again
  moved-queued : (t : ℕ) (u : State) (x : Event) → k ≢ t → t < length s.clusters → 0 < area (cluster s t) → Moved k t s u → u.log ≡ x ∷ s.log → target u.log ≡ t
      → Done a (suc k) (area (cluster u k)) k → Queued a (suc k) u (rekey k s u keys)
  moved-queued t u x d tl tp M l at done =
      subst (Queued a (suc k) u) (sym (rekey-moved k s u keys x l ∙ ap (λ m. set (set keys k 0) m (area (cluster u m))) at))
      (record { keyed = three k t (λ j. KeyIs a (suc k) (area (cluster u j)) j (get_or (set (set keys k 0) t (area (cluster u t))) j 0)) from to others; wide = length-set (set keys k 0) t (area (cluster u t)) ∙ length-set keys k 0 ∙ Q.wide ∙ sym M.table })
    where
      from : KeyIs a (suc k) (area (cluster u k)) k (get_or (set (set keys k 0) t (area (cluster u t))) k 0)
      from = inr (done, get_or-set_other (set keys k 0) t k (area (cluster u t)) 0 d ∙ get_or-set_same keys k 0 0 fits)

      to : KeyIs a (suc k) (area (cluster u t)) t (get_or (set (set keys k 0) t (area (cluster u t))) t 0)
      to = inl (
        inl (omega (arith, ap length M.t-pixels, length-append (cluster s t).pixels (cluster s k).pixels, e, tp)),
        get_or-set_same (set keys k 0) t (area (cluster u t)) 0 (omega (arith, length-set keys k 0, Q.wide)),
      )

      others : (j : ℕ) → j ≢ k → j ≢ t → KeyIs a (suc k) (area (cluster u j)) j (get_or (set (set keys k 0) t (area (cluster u t))) j 0)
      others j m n = subst (λ v. KeyIs a (suc k) (area (cluster u j)) j v) (sym (get_or-set_other (set keys k 0) t j (area (cluster u t)) 0 n ∙ get_or-set_other keys k j 0 0 m))
          (subst (λ c. KeyIs a (suc k) (area c) j (get_or keys j 0)) (sym (M.other j m n)) (key-later a k (area (cluster s j)) j (get_or keys j 0) (λ y. absurd (m y)) (Q.keyed j)))

  pub visit-queued : (o : RunnerConfig) (w h : ℕ) → Queued a (suc k) (visit o w h a k s) (rekey k s (visit o w h a k s) keys)
  unfolding put_out merge_cluster_into deepen_cluster_into emptied merged_to
  visit-queued o w h =
      visit-cases o w h a k s (λ u. Queued a (suc k) u (rekey k s u keys))
      (λ x. still-queued s refl refl) (λ z l. still-queued (put_out k s) refl refl)
      (λ z l n. isolated-cases o w h a k s (λ u. Queued a (suc k) u (rekey k s u keys)) (still-queued (put_out k s) refl refl) (still-queued s refl refl))
      (λ z l t N. let y = target-stands a k s G pos e t N in
      moved-queued t (merge_cluster_into k t s) (plain k t) (k≢t a k s G pos e t N) (t-slot a k s G pos e t N) (area-pos G.sound.basic t y.0 y.1)
      (merge-changes a k s G pos e t N) refl refl (inl (omega (arith, ap area (merge-from a k s G pos e t N)))))
      (λ z l t N b. let y = target-stands a k s G pos e t N in
      moved-queued t (deepen_cluster_into b k t s) (deepened k t) (k≢t a k s G pos e t N) (t-slot a k s G pos e t N) (area-pos G.sound.basic t y.0 y.1)
      (deepen-changes a k s G pos e t N b) refl refl (inr (ap area (deepen-from a k s G pos e t N b) ∙ e, omega arith)))

  -- the turn is that visit
  pub turn-visits : (o : RunnerConfig) (w h : ℕ) → turn o w h (queue s keys) ≡ queue (visit o w h a k s) (rekey k s (visit o w h a k s) keys)
  unfolding turn turn_of visited
  turn-visits o w h = ap (λ p. turn_of o w h p (queue s keys)) (picked-here a k s keys Q pos e) ∙ ap (λ b. queue (visit o w h b k s) (rekey k s (visit o w h b k s) keys)) (key_here a k s keys Q pos e)

-- ---- the passes, turn by turn

-- a visit leaves the table as long as it was, and where it is the slot's turn, turns left + roots falls
module _ {image : List ℕ} {size : ℕ} (n a k : ℕ) (s : State) (G : Going image size a k s) (pos : 0 < a) (e : area (cluster s k) ≡ a) (fits : k < n) (table : length s.clusters ≡ n) where
  B : Bounded (length s.outputs + count_of (waiting a k s) n + count_of (rooted s) n) n a k s
  B = record { total = omega arith; table = table }

  abbrev Falls : State → Type 0
  Falls u = (count_of (waiting a (suc k) u) n + count_of (rooted u) n < count_of (waiting a k s) n + count_of (rooted s) n) × (length u.clusters ≡ n)

  still-falls : Falls s
  still-falls = (omega (arith, count_of-lt (waiting a (suc k) s) (waiting a k s) (later-waits a k s) n k fits (here a k s G B pos e fits) (not-then a k s G B pos e fits)), table)

  put-falls : Falls (put_out k s)
  unfolding put_out waiting rooted
  put-falls = still-falls

  visit-falls : (o : RunnerConfig) (w h : ℕ) → Falls (visit o w h a k s)
  visit-falls o w h =
      visit-cases o w h a k s Falls (λ x. still-falls) (λ z l. put-falls) (λ z l y. isolated-cases o w h a k s Falls put-falls still-falls)
      (λ z l t N. let f = merge-fewer a k s G B pos e fits t N in (omega (arith, f.0, f.1), (merge-changes a k s G pos e t N).table ∙ table))
      (λ z l t N b. let f = deepen-fewer a k s G B pos e fits t N b in (omega (arith, f.0, f.1), (deepen-changes a k s G pos e t N b).table ∙ table))

module _ (image : List ℕ) (size : ℕ) (o : RunnerConfig) (w h : ℕ) (q : Queue) (cap n : ℕ) where
  -- `count` turns lead to the state before slot k is visited at area a
  record Reached (a k : ℕ) (s : State) : Type 0 where
    going : Going image size a k s
    count : ℕ
    keys : List ℕ
    there : turns o w h count q ≡ queue s keys
    queued : Queued a k s keys
    total : count + count_of (waiting a k s) n + count_of (rooted s) n ≤ cap
    table : length s.clusters ≡ n

  visit-reached : (a k : ℕ) (s : State) → 0 < a → k < n → Reached a k s → Reached a (suc k) (visit o w h a k s)
  unfolding turns visit
  visit-reached a k s pos fits R = go (ℕ_discrete (area (cluster s k)) a)
    where
      go : Dec (area (cluster s k) ≡ a) → Reached a (suc k) (visit o w h a k s)
      go (yes e) = record {
        going = visit-going o w h a k s R.going pos;
        count = suc R.count;
        keys = rekey k s (visit o w h a k s) R.keys;
        there = ap (turn o w h) R.there ∙ turn-visits a k s R.keys R.going R.queued pos e o w h;
        queued = visit-queued a k s R.keys R.going R.queued pos e o w h;
        total = omega (arith, R.total, (visit-falls n a k s R.going pos e fits R.table o w h).0);
        table = (visit-falls n a k s R.going pos e fits R.table o w h).1;
      }
      go (no d) =
          subst (λ b. Reached a (suc k) (if b then (if ltb o.hierarchical a then put_out k s else by_neighbours o w h a k (neighbours w h s k) s) else s)) (sym (eqb_no (area (cluster s k)) a d))
          (record {
            going = later R.going;
            count = R.count;
            keys = R.keys;
            there = R.there;
            queued = skip-queued a k s R.keys d R.queued;
            total = omega (arith, R.total, count_of-le (waiting a (suc k) s) (waiting a k s) (later-waits a k s) n);
            table = R.table;
          })

  slots-reached : (a : ℕ) (s : State) → Reached (suc a) 0 s → (m : ℕ) → m ≤ n → Reached (suc a) m (times m (visit o w h (suc a)) s)
  slots-reached a s R zero l = R
  slots-reached a s R (suc m) l = visit-reached (suc a) m (times m (visit o w h (suc a)) s) (omega arith) l (slots-reached a s R m (omega arith))

  pass-reached : (a : ℕ) (s : State) → Reached (suc a) 0 s → Reached (suc (suc a)) 0 (pass o w h (suc a) s)
  unfolding pass
  pass-reached a s R = record {
    going = next-area E.going;
    count = E.count;
    keys = E.keys;
    there = E.there;
    queued = record { keyed = λ j. on j (area (cluster u j)) (get_or E.keys j 0) (small j) (E.queued.keyed j); wide = E.queued.wide };
    total = omega (arith, E.total, count_of-le (waiting (suc (suc a)) 0 u) (waiting (suc a) N u) (next-waits a N u) n);
    table = E.table;
  }
    where
      N : ℕ
      N = length s.clusters

      u : State
      u = times N (visit o w h (suc a)) s

      E : Reached (suc a) N u
      E = slots-reached a s R N (omega (arith, R.table))

      small : (j : ℕ) → 0 < area (cluster u j) → j < N
      small j p = omega (arith, within (suc a) N u E.keys E.queued (omega arith) j p, E.queued.wide, E.table, R.table)

      on : (j x v : ℕ) → (0 < x → j < N) → KeyIs (suc a) N x j v → KeyIs (suc (suc a)) 0 x j v
      on j x v f (inl (inl l, y)) = elim (ℕ_discrete x (suc (suc a))) [ yes z ↦ inl (inr (z, omega arith), y) | no z ↦ inl (inl (omega arith), y) ]
      on j x v f (inl (inr l, y)) = absurd (omega (arith, f (omega (arith, l.0)), l.1))
      on j x v f (inr (z, y)) = inr (inl (elim z [ inl l ↦ omega arith | inr l ↦ omega arith ]), y)

  passes-reached : (s : State) → Reached 1 0 s → (m : ℕ) → Reached (suc m) 0 (passes o w h m s)
  unfolding passes
  passes-reached s R = times-keep (λ a u. Reached (suc a) 0 u) (λ a. pass o w h (suc a)) pass-reached s R

-- after the last pass no slot is pending
none-pending : {image : List ℕ} {size : ℕ} (s : State) (keys : List ℕ) → Going image size (suc size) 0 s → Queued (suc size) 0 s keys → (j : ℕ) → get_or keys j 0 ≡ 0
none-pending {image} {size} s keys G Q j = go (Q.keyed j)
  where
    go : KeyIs (suc size) 0 (area (cluster s j)) j (get_or keys j 0) → get_or keys j 0 ≡ 0
    go (inl (inl x, y)) = absurd (omega (arith, area-le G.sound.basic j))
    go (inl (inr x, y)) = absurd (omega (arith, area-le G.sound.basic j, x.0))
    go (inr x) = x.1

-- a queue with nothing pending stays
pub turn-idle : (o : RunnerConfig) (w h : ℕ) (q : Queue) → next_pending q.keys ≡ off → turn o w h q ≡ q
unfolding turn turn_of
turn-idle o w h q e = ap (λ p. turn_of o w h p q) e

pub turns-idle : (o : RunnerConfig) (w h : ℕ) (q : Queue) (m : ℕ) → next_pending (turns o w h m q).keys ≡ off → (n : ℕ) → m ≤ n → turns o w h n q ≡ turns o w h m q
unfolding turns
turns-idle o w h q m e zero l = ap (λ x. turns o w h x q) (let z : 0 ≡ m = omega arith in z)
turns-idle o w h q m e (suc n) l = by_cases (ℕ_discrete (suc n) m)
    (λ z. ap (λ x. turns o w h x q) z)
    (λ z. ap (turn o w h) (turns-idle o w h q m e n (omega arith)) ∙ turn-idle o w h (turns o w h m q) e)

module _ (o : RunnerConfig) (w h : ℕ) (image : List ℕ) where
  start-queued : Queued 1 0 (prepare_stage2 (stage1 o w h image)) (start (prepare_stage2 (stage1 o w h image))).keys
  unfolding start
  start-queued = record { keyed = λ j. subst (λ v. KeyIs 1 0 (area (cluster (prepare_stage2 (stage1 o w h image)) j)) j v) (sym (get_or-map area (prepare_stage2 (stage1 o w h image)).clusters j new_cluster)) (go j (area (cluster (prepare_stage2 (stage1 o w h image)) j))); wide = length-map (prepare_stage2 (stage1 o w h image)).clusters area }
    where
      go : (j x : ℕ) → KeyIs 1 0 x j x
      go j zero = inr (inl (omega arith), refl)
      go j (suc zero) = inl (inr (refl, omega arith), refl)
      go j (suc (suc x)) = inl (inl (omega arith), refl)

  reached : Reached image (w * h) o w h (start (prepare_stage2 (stage1 o w h image))) (2 * (w * h)) (length (stage1 o w h image).clusters) (suc (w * h)) 0 (stage2 o w h (stage1 o w h image))
  unfolding turns start prepare_stage2 with_residue
  reached = subst (Reached image (w * h) o w h (start (prepare_stage2 (stage1 o w h image))) (2 * (w * h)) (length (stage1 o w h image).clusters) (suc (w * h)) 0) (sym (stage2-passes o w h image)) (passes-reached image (w * h) o w h (start s) (2 * (w * h)) n s (record {
    going = prepare_stage2-going (w * h) (stage1 o w h image) E;
    count = 0;
    keys = (start s).keys;
    there = refl;
    queued = start-queued;
    total = omega (
      arith,
      count_of-le (rooted s) (standing (stage1 o w h image)) (λ j x. stood (stage1 o w h image) j (root-out s j x)) n,
      count_of-le (waiting 1 0 s) (standing (stage1 o w h image)) (λ j x. stood (stage1 o w h image) j (wait-out 1 0 s j x).0) n,
      E.few n (omega arith),
    );
    table = length-map (stage1 o w h image).clusters (λ c. with_residue c.sum c);
  }) (w * h))
    where
      s : State
      s = prepare_stage2 (stage1 o w h image)

      n : ℕ
      n = length (stage1 o w h image).clusters

      E : Early image (w * h) (Discarded o image) (T (keying_on o)) (w * h) (stage1 o w h image)
      E = early o w h image

  idle-at : next_pending (turns o w h reached.count (start (prepare_stage2 (stage1 o w h image)))).keys ≡ off
  idle-at = ap (λ q. next_pending q.keys) reached.there ∙ pick-none reached.keys (none-pending (stage2 o w h (stage1 o w h image)) reached.keys reached.going reached.queued)

  -- stage 2 is repeated picking
  pub drained-stage2 : drained o w h (prepare_stage2 (stage1 o w h image)) ≡ stage2 o w h (stage1 o w h image)
  unfolding drained
  drained-stage2 = ap (λ q. q.now) (turns-idle o w h (start (prepare_stage2 (stage1 o w h image))) reached.count idle-at (2 * (w * h)) (omega (arith, reached.total)) ∙ reached.there)

  -- whenever no slot is pending, stage 2 is over
  pub turns-end : (m : ℕ) → next_pending (turns o w h m (start (prepare_stage2 (stage1 o w h image)))).keys ≡ off → (turns o w h m (start (prepare_stage2 (stage1 o w h image)))).now ≡ stage2 o w h (stage1 o w h image)
  turns-end m e = by_cases (dec_lt m reached.count)
      (λ l. ap (λ q. q.now) (sym (turns-idle o w h (start (prepare_stage2 (stage1 o w h image))) m e reached.count (omega arith)) ∙ reached.there))
      (λ l. ap (λ q. q.now) (turns-idle o w h (start (prepare_stage2 (stage1 o w h image))) reached.count idle-at m (omega arith) ∙ reached.there))

  -- and that is so after at most 2 × w × h turns
  pub turns-few : (m k : ℕ) → next_pending (turns o w h m (start (prepare_stage2 (stage1 o w h image)))).keys ≡ some k → m < 2 * (w * h)
  turns-few m k e = by_cases (dec_lt m reached.count)
      (λ l. omega (arith, reached.total))
      (λ l. let idle = ap (λ q. next_pending q.keys) (turns-idle o w h (start (prepare_stage2 (stage1 o w h image))) reached.count idle-at m (omega arith)) ∙ idle-at in
      let z : ◌≡◌ {A = ℕ} 0 1 = cc (idle, e) in absurd (omega arith))

-- ---- what holds before every turn

-- between two turns: the place reached
pub record Turning (image : List ℕ) (size : ℕ) (q : Queue) : Type 0 where
  pub a : ℕ
  pub k : ℕ
  pub pos : 0 < a
  pub going : Going image size a k q.now
  pub queued : Queued a k q.now q.keys

-- slot k is picked: it is visited at its own pixel count
pub record Picked (image : List ℕ) (size : ℕ) (q : Queue) (k : ℕ) : Type 0 where
  pub some : 0 < area (cluster q.now k)
  pub key : get_or q.keys k 0 ≡ area (cluster q.now k)
  pub slot : k < length q.now.clusters
  pub going : Going image size (area (cluster q.now k)) k q.now
  pub queued : Queued (area (cluster q.now k)) k q.now q.keys

done_on : (a k b m x j : ℕ) → Due a k b m → Done a k x j → Done b m x j
done_on a k b m x j (inl d) (inl e) = inl (omega arith)
done_on a k b m x j (inl d) (inr e) = inl (omega arith)
done_on a k b m x j (inr d) (inl e) = inl (omega arith)
done_on a k b m x j (inr d) (inr e) = inr (omega arith, omega arith)

module _ {image : List ℕ} {size : ℕ} where
  pub turning-picked : (q : Queue) → Turning image size q → (k : ℕ) → next_pending q.keys ≡ some k → Picked image size q k
  turning-picked q R k e = go (R.queued.keyed k)
    where
      L : LeastOf q.keys (length q.keys) k
      L = subst (Best q.keys (length q.keys)) e (pick-best q.keys)

      x : ℕ
      x = area (cluster q.now k)

      due : Due R.a R.k x k → get_or q.keys k 0 ≡ x → Picked image size q k
      due d y = record {
        some = above d;
        key = y;
        slot = omega (arith, L.0, R.queued.wide);
        going = record { sound = R.going.sound; past = λ j z. done_on R.a R.k x k (area (cluster q.now j)) j d (R.going.past j z) };
        queued = record { keyed = λ j. on j (R.queued.keyed j); wide = R.queued.wide };
      }
        where
          above : {y : ℕ} → Due R.a R.k y k → 0 < y
          above (inl l) = omega (arith, R.pos)
          above (inr l) = omega (arith, R.pos, l.0)

          above' : {y j : ℕ} → Due R.a R.k y j → 0 < y
          above' (inl l) = omega (arith, R.pos)
          above' (inr l) = omega (arith, R.pos, l.0)

          least : (j : ℕ) → get_or q.keys j 0 ≡ area (cluster q.now j) → (get_or q.keys k 0 < get_or q.keys j 0) ⊎ ((get_or q.keys k 0 ≡ get_or q.keys j 0) × (k ≤ j)) → Due x k (area (cluster q.now j)) j
          least j v (inl l) = inl (omega (arith, v, y))
          least j v (inr l) = inr (omega (arith, v, y, l.0), l.1)

          on : (j : ℕ) → KeyIs R.a R.k (area (cluster q.now j)) j (get_or q.keys j 0) → KeyIs x k (area (cluster q.now j)) j (get_or q.keys j 0)
          on j (inl z) = inl (least j z.1 (L.2 j (within R.a R.k q.now q.keys R.queued R.pos j (above' z.0)) (λ n. omega (arith, above' z.0, z.1))), z.1)
          on j (inr z) = inr (done_on R.a R.k x k (area (cluster q.now j)) j d z.0, z.1)

      go : KeyIs R.a R.k (area (cluster q.now k)) k (get_or q.keys k 0) → Picked image size q k
      go (inl z) = due z.0 z.1
      go (inr z) = absurd (L.1 z.1)

  module _ (o : RunnerConfig) (w h : ℕ) where
    -- what every visit keeps, every turn keeps
    pub turn-keep {ℓ} : (P : State → Type ℓ) → ((a k : ℕ) (s : State) → Going image size a k s → 0 < a → area (cluster s k) ≡ a → P s → P (visit o w h a k s))
        → (q : Queue) → Turning image size q × P q.now → Turning image size (turn o w h q) × P (turn o w h q).now
    unfolding turn turn_of visited
    turn-keep P step q R = go (next_pending q.keys) refl
      where
        go : (b : Option ℕ) → next_pending q.keys ≡ b → Turning image size (turn_of o w h b q) × P (turn_of o w h b q).now
        go off e = R
        go (some k) e =
            let X = turning-picked q R.0 k e in
            let x = area (cluster q.now k) in
            subst (λ v. Turning image size (queue (visit o w h v k q.now) (rekey k q.now (visit o w h v k q.now) q.keys)) × P (visit o w h v k q.now)) (sym X.key) (
              record { a = x; k = suc k; pos = X.some; going = visit-going o w h x k q.now X.going X.some; queued = visit-queued x k q.now q.keys X.going X.queued X.some refl o w h },
              step x k q.now X.going X.some refl R.1,
            )

    pub turns-keep {ℓ} : (P : State → Type ℓ) → ((a k : ℕ) (s : State) → Going image size a k s → 0 < a → area (cluster s k) ≡ a → P s → P (visit o w h a k s))
        → (q : Queue) → Turning image size q × P q.now → (m : ℕ) → Turning image size (turns o w h m q) × P (turns o w h m q).now
    unfolding turns
    turns-keep P step q R m = times-keep (λ i v. Turning image size v × P v.now) (λ i. turn o w h) (λ i v H. turn-keep P step v H) q R m

-- the queue that stage 2 starts with
pub start-turning : (o : RunnerConfig) (w h : ℕ) (image : List ℕ) → Turning image (w * h) (start (prepare_stage2 (stage1 o w h image)))
unfolding start
start-turning o w h image = record { a = 1; k = 0; pos = omega arith; going = prepare_stage2-going (w * h) (stage1 o w h image) (early o w h image); queued = start-queued o w h image }
