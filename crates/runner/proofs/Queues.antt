-- The queue's first slot is the rules' pick.
use mathlib.Core.Path.{◌≡◌, refl, sym, ap, ◌∙◌, subst}
use mathlib.Core.Logic.{◌≢◌, ◌⊎◌, inl, inr}
use mathlib.Core.List.{List}
use mathlib.Core.Option.{some, none as off}
use Prim.Native.Nat.{ℕ, zero, suc, ◌≤◌, ◌<◌}
use native.Mathlib.Decide.{ℕ_discrete, dec_lt}
use native.Mathlib.Omega.{arith}
use lib.ListN.{length, get_or, set, length-set, get_or-eq_default}
use lib.Seq.{get_or-set_same, get_or-set_other}
use Rattle.rules.specs.Code.Order.{next_pending}
use Rattle.rules.proofs.Order.{pick-least, pick-none}
use Rattle.runner.specs.declared.queue.Entry.{Entry}
use Rattle.runner.specs.Code.Queue.{First, queue_key, Keyed}

-- ---- stored keys

-- a key above 0 is kept as it is; of 0 `queue_key` computes
pub stored_some : (v : ℕ) → 0 < v → queue_key v ≡ v
stored_some zero p = absurd (omega arith)
stored_some (suc v) p = refl

stored-pos : (v : ℕ) → queue_key v ≢ 4294967295 → 0 < v
stored-pos zero d = absurd (d refl)
stored-pos (suc v) d = omega arith

stored-zero : (v : ℕ) → v < 4294967295 → 4294967295 ≤ queue_key v → v ≡ 0
stored-zero zero l e = refl
stored-zero (suc v) l e = absurd (omega arith)

-- ---- the pick

module _ (queue : List ℕ) (n : ℕ) (keys : List ℕ) (K : Keyed queue n keys) where
  -- a first slot that is pending is the pick, with the rules' key
  pub first_some : (r : Entry) (F : First queue n r) → r.key ≢ 4294967295 → (next_pending keys ≡ some r.slot) × (get_or keys r.slot 0 ≡ r.key)
  first_some r F d = (pick-least keys r.slot (omega (arith, F.in-range, K.wide), (λ z. omega (arith, z, pos)), λ j l m. least j (omega (arith, K.wide)) m), same)
    where
      at : r.key ≡ queue_key (get_or keys r.slot 0)
      at = F.own ∙ K.keyed r.slot F.in-range

      pos : 0 < get_or keys r.slot 0
      pos = stored-pos (get_or keys r.slot 0) (λ z. d (at ∙ z))

      same : get_or keys r.slot 0 ≡ r.key
      same = sym (at ∙ stored_some (get_or keys r.slot 0) pos)

      least : (j : ℕ) → j < n → get_or keys j 0 ≢ 0 → (get_or keys r.slot 0 < get_or keys j 0) ⊎ ((get_or keys r.slot 0 ≡ get_or keys j 0) × (r.slot ≤ j))
      least j l m = elim (F.least j l) [ inl x ↦ inl (omega (arith, own, same)) | inr x ↦ inr (same ∙ x.0 ∙ own, x.1) ]
        where
          own : get_or queue j 0 ≡ get_or keys j 0
          own = K.keyed j l ∙ stored_some (get_or keys j 0) (elim (dec_lt 0 (get_or keys j 0)) [ yes p ↦ p | no p ↦ absurd (m (omega arith)) ])

  -- where every key is NONE no slot is pending
  pub first-none : ((j : ℕ) → j < n → 4294967295 ≤ get_or queue j 0) → next_pending keys ≡ off
  first-none none = pick-none keys (λ j. elim (dec_lt j n) [
    | yes l ↦ stored-zero (get_or keys j 0) (K.below j l) (omega (arith, K.keyed j l, none j l))
    | no l ↦ get_or-eq_default keys 0 {n = j} (omega (arith, K.wide))
  ])

-- ---- the keys of the queue and of the rules change together

module _ (queue exit : List ℕ) (n : ℕ) (keys : List ℕ) (K : Keyed queue n keys) where
  -- one key changed; of a slot that is no longer pending v is 0
  pub keyed-set : (k v : ℕ) → k < n → n ≤ length queue → v < 4294967295 → ((x : ℕ) → x < n → get_or exit x 0 ≡ get_or (set queue k (queue_key v)) x 0) → Keyed exit n (set keys k v)
  keyed-set k v b long small h = record {
    wide = simp length-set K.wide;
    below = λ j l. below j l (ℕ_discrete j k);
    keyed = λ j l. h j l ∙ keyed j l (ℕ_discrete j k);
  }
    where
      new : get_or (set keys k v) k 0 ≡ v
      new = get_or-set_same keys k v 0 (omega (arith, K.wide))

      below : (j : ℕ) → j < n → Dec (j ≡ k) → get_or (set keys k v) j 0 < 4294967295
      below j l (yes e) = subst (λ y. get_or (set keys k v) y 0 < 4294967295) (sym e) (omega (arith, new))
      below j l (no d) = omega (arith, get_or-set_other keys k j v 0 d, K.below j l)

      keyed : (j : ℕ) → j < n → Dec (j ≡ k) → get_or (set queue k (queue_key v)) j 0 ≡ queue_key (get_or (set keys k v) j 0)
      keyed j l (yes e) = subst (λ y. get_or (set queue k (queue_key v)) y 0 ≡ queue_key (get_or (set keys k v) y 0)) (sym e) (get_or-set_same queue k (queue_key v) 0 (omega arith) ∙ ap queue_key (sym new))
      keyed j l (no d) = get_or-set_other queue k j (queue_key v) 0 d ∙ K.keyed j l ∙ ap queue_key (sym (get_or-set_other keys k j v 0 d))
