-- How a table holds slots when numbers are stored into it, and what is read of a state that it holds. Assumes nothing.
use Rattle.std.specs.Prelude.{if◌then◌else◌}
use mathlib.Core.Bool.{Bool, true, false, ◌&&◌}
use mathlib.Core.Path.{◌≡◌, refl, sym, ◌∙◌, subst}
use mathlib.Core.List.{List, [], ◌∷◌}
use mathlib.Core.Logic.{◌≢◌, ◌⊎◌, inl, inr, by_cases}
use Prim.Native.Nat.{ℕ, suc, ◌+◌, ◌-◌, ◌*◌, ◌/◌, ◌%◌, ◌≤◌, ◌<◌}
use native.Mathlib.Decide.{ℕ_discrete, dec_lt}
use native.Mathlib.Omega.{arith}
use borrow.Author.Tests.{eq-eqb, ne_eqb, le-leb, lt-leb, lt-ltb, le-ltb}
use lib.Dec.{ltb, leb, eqb, lit<, lit≤}
use lib.ListN.{length, get_or, set, drop, replicate, length-set, length-append, length-drop, get_or-append}
use lib.Seq.{get_or-set_same, get_or-set_other, get_or-drop, get_or-append-add, ext_get_or}
use Rattle.rules.specs.State.{State, cluster}
use Rattle.rules.specs.Layout.{first_of, sum_numbers, slot, table, slot_width, first_pixel_place, pixel_count_place, depth_place, num_holes_place}
use Rattle.rules.specs.Calls.{over}
use Rattle.rules.proofs.Layouts.{table_at, table-length}
use Rattle.color.specs.Colors.{sum_of}
use Rattle.color.specs.declared.ColorSum.{ColorSum}
use Rattle.runner.specs.declared.slot.Head.{Head}
use Rattle.runner.specs.Code.Slots.{sum_at, set_numbers, head_at, head_numbers, saved_head, residue_at, residue_numbers, saved_residue, cleared_slot, head_of}
use Rattle.runner.specs.Code.Rep.{Table, written, slots_of}

-- stores keep the length
pub store_length : (t : List ℕ) (base j : ℕ) (vs : List ℕ) → length (set_numbers t base j vs) ≡ length t
store_length t base j [] = refl
store_length t base j (v ∷ vs) = store_length (set t (base + j) v) base (suc j) vs ∙ length-set t (base + j) v

-- the length after a save
pub residue-length : (t : List ℕ) (k : ℕ) (s : ColorSum) → length (saved_residue t k s) ≡ length t
unfolding saved_residue
residue-length t k s = store_length t (slot_width * k) 11 (residue_numbers s)

pub cleared-length : (t : List ℕ) (k : ℕ) → length (cleared_slot t k) ≡ length t
unfolding cleared_slot
cleared-length t k = store_length t (slot_width * k) 0 (replicate slot_width 0)

-- outside of what is stored
pub store_out : (t : List ℕ) (base j : ℕ) (vs : List ℕ) (i : ℕ) → (i < base + j) ⊎ (base + (j + length vs) ≤ i) → get_or (set_numbers t base j vs) i 0 ≡ get_or t i 0
store_out t base j [] i o = refl
store_out t base j (v ∷ vs) i (inl h) = store_out (set t (base + j) v) base (suc j) vs i (inl (omega arith)) ∙ get_or-set_other t (base + j) i v 0 (omega arith)
store_out t base j (v ∷ vs) i (inr h) = store_out (set t (base + j) v) base (suc j) vs i (inr (omega arith)) ∙ get_or-set_other t (base + j) i v 0 (omega arith)

-- what is stored
pub store_in : (t : List ℕ) (base j : ℕ) (vs : List ℕ) (f : ℕ) → j ≤ f → f < j + length vs → base + (j + length vs) ≤ length t → get_or (set_numbers t base j vs) (base + f) 0 ≡ get_or vs (f - j) 0
store_in t base j [] f l u h = absurd (omega arith)
store_in t base j (v ∷ vs) f l u h = by_cases (ℕ_discrete f j)
    (λ z. let d : f - j ≡ 0 = omega arith in rw d (store_out (set t (base + j) v) base (suc j) vs (base + f) (inl (omega arith)) ∙ (rw z (get_or-set_same t (base + j) v 0 (omega arith)))))
    (λ z. let d : f - j ≡ suc (f - suc j) = omega arith in rw d (store_in (set t (base + j) v) base (suc j) vs f (omega arith) (omega arith) (simp length-set (omega arith))))

-- the numbers written
pub written_in : (σ : ℕ → ℕ → ℕ) (k j : ℕ) (vs : List ℕ) (f : ℕ) → j ≤ f → f < j + length vs → written σ k j vs k f ≡ get_or vs (f - j) 0
unfolding written
written_in σ k j vs f l u = rw (eq-eqb k k refl, le-leb j f l, lt-ltb f (j + length vs) u) refl

-- the numbers of another slot, and those before and after in this slot
pub written_out : (σ : ℕ → ℕ → ℕ) (k j : ℕ) (vs : List ℕ) (i f : ℕ) → (i ≢ k) ⊎ ((f < j) ⊎ (j + length vs ≤ f)) → written σ k j vs i f ≡ σ i f
unfolding written
written_out σ k j vs i f (inl h) = rw (ne_eqb i k h) refl
written_out σ k j vs i f (inr (inl h)) = rw (lt-leb j f h) (still (eqb i k))
  where
    still : (b : Bool) → (if b && false && ltb f (j + length vs) then get_or vs (f - j) 0 else σ i f) ≡ σ i f
    still true = refl
    still false = refl
written_out σ k j vs i f (inr (inr h)) = rw (le-ltb f (j + length vs) h) (still (eqb i k) (leb j f))
  where
    still : (a b : Bool) → (if a && b && false then get_or vs (f - j) 0 else σ i f) ≡ σ i f
    still true true = refl
    still true false = refl
    still false b = refl

-- number f of slot i after numbers are stored into slot k
stored : (σ : ℕ → ℕ → ℕ) (t : List ℕ) (k j : ℕ) (vs : List ℕ) (i f : ℕ) → j + length vs ≤ slot_width → slot_width * k + slot_width ≤ length t → f < slot_width → ((i ≢ k) ⊎ ((f < j) ⊎ (j + length vs ≤ f)) → get_or t (slot_width * i + f) 0 ≡ σ i f) → get_or (set_numbers t (slot_width * k) j vs) (slot_width * i + f) 0 ≡ written σ k j vs i f
stored σ t k j vs i f r l hf old = at (dec_lt i k) (dec_lt k i) (dec_lt f j) (dec_lt f (j + length vs))
  where
    out : (i ≢ k) ⊎ ((f < j) ⊎ (j + length vs ≤ f)) → (slot_width * i + f < slot_width * k + j) ⊎ (slot_width * k + (j + length vs) ≤ slot_width * i + f) → get_or (set_numbers t (slot_width * k) j vs) (slot_width * i + f) 0 ≡ written σ k j vs i f
    out w o = store_out t (slot_width * k) j vs (slot_width * i + f) o ∙ old w ∙ sym (written_out σ k j vs i f w)

    at : Dec (i < k) → Dec (k < i) → Dec (f < j) → Dec (f < j + length vs) → get_or (set_numbers t (slot_width * k) j vs) (slot_width * i + f) 0 ≡ written σ k j vs i f
    at (yes a) b c d = out (inl (omega arith)) (inl (omega arith))
    at (no a) (yes b) c d = out (inl (omega arith)) (inr (omega arith))
    at (no a) (no b) (yes c) d = out (inr (inl c)) (inl (omega arith))
    at (no a) (no b) (no c) (no d) = out (inr (inr (omega arith))) (inr (omega arith))
    at (no a) (no b) (no c) (yes d) =
        let e : i ≡ k = omega arith in
        rw e (store_in t (slot_width * k) j vs f (omega arith) d (omega arith) ∙ sym (written_in σ k j vs f (omega arith) d))

module _ {n : ℕ} {σ : ℕ → ℕ → ℕ} {t₀ t : List ℕ} (T : Table n σ t₀ t) where
  -- the table after numbers are stored into one of its slots
  pub table-store : (k j : ℕ) (vs : List ℕ) → k < n → j + length vs ≤ slot_width → slot_width * n ≤ length t₀ → Table n (written σ k j vs) t₀ (set_numbers t (slot_width * k) j vs)
  table-store k j vs h r l = record {
    long = store_length t (slot_width * k) j vs ∙ T.long;
    slots = λ i f hi hf. stored σ t k j vs i f r (omega (arith, T.long)) hf (λ _. T.slots i f hi hf);
    beyond = λ i b. store_out t (slot_width * k) j vs i (inr (omega arith)) ∙ T.beyond i b;
  }

  -- one number
  pub table-set : (k j v : ℕ) → k < n → j < slot_width → slot_width * n ≤ length t₀ → Table n (written σ k j (v ∷ [])) t₀ (set t (slot_width * k + j) v)
  table-set k j v h r l = table-store k j (v ∷ []) h (omega arith) l

  -- one more slot
  pub table-grow : (vs : List ℕ) → length vs ≡ slot_width → slot_width * (n + 1) ≤ length t₀ → Table (suc n) (written σ n 0 vs) t₀ (set_numbers t (slot_width * n) 0 vs)
  table-grow vs e l = record {
    long = store_length t (slot_width * n) 0 vs ∙ T.long;
    slots = λ i f hi hf. stored σ t n 0 vs i f (omega arith) (omega (arith, T.long)) hf (old i f hi hf);
    beyond = λ i b. store_out t (slot_width * n) 0 vs i (inr (omega arith)) ∙ T.beyond i (omega arith);
  }
    where
      old : (i f : ℕ) → i < suc n → f < slot_width → (i ≢ n) ⊎ ((f < 0) ⊎ (0 + length vs ≤ f)) → get_or t (slot_width * i + f) 0 ≡ σ i f
      old i f hi hf (inl h) = T.slots i f (omega (arith, h)) hf
      old i f hi hf (inr (inl h)) = absurd (omega arith)
      old i f hi hf (inr (inr h)) = absurd (omega arith)

  -- a head, a residue, a cleared slot and a new one, as the code saves them
  pub table-head : (k : ℕ) (s : Head) → k < n → slot_width * n ≤ length t₀ → Table n (written σ k 0 (head_numbers s)) t₀ (saved_head t k s)
  unfolding saved_head
  table-head k s h l = table-store k 0 (head_numbers s) h (lit≤ tt) l

  pub table-residue : (k : ℕ) (s : ColorSum) → k < n → slot_width * n ≤ length t₀ → Table n (written σ k 11 (residue_numbers s)) t₀ (saved_residue t k s)
  unfolding saved_residue
  table-residue k s h l = table-store k 11 (residue_numbers s) h (lit≤ tt) l

  pub table-clear : (k : ℕ) → k < n → slot_width * n ≤ length t₀ → Table n (written σ k 0 (replicate slot_width 0)) t₀ (cleared_slot t k)
  unfolding cleared_slot
  table-clear k h l = table-store k 0 (replicate slot_width 0) h (lit≤ tt) l

  pub table-new : slot_width * (n + 1) ≤ length t₀ → Table (suc n) (written σ n 0 (replicate slot_width 0)) t₀ (cleared_slot t n)
  unfolding cleared_slot
  table-new l = table-grow (replicate slot_width 0) refl l

  -- the same numbers told otherwise
  pub table_same : {σ' : ℕ → ℕ → ℕ} → ((k f : ℕ) → k < n → f < slot_width → σ k f ≡ σ' k f) → Table n σ' t₀ t
  table_same e = record { long = T.long; slots = λ k f a b. T.slots k f a b ∙ e k f a b; beyond = T.beyond }

-- what is read of a state that the table holds
module _ (s : State) {n : ℕ} {t₀ t : List ℕ} (T : Table n (slots_of s) t₀ t) (k : ℕ) (h : k < n) where
  -- one of the 21 numbers
  number : (f : ℕ) → f < slot_width → get_or t (slot_width * k + f) 0 ≡ slots_of s k f
  number f b = T.slots k f h b

  pub head-at : head_at t k ≡ head_of (cluster s k)
  unfolding head_at slot sum_numbers
  head-at = λ i. record {
    first = number 0 (lit< tt) i;
    count = number 1 (lit< tt) i;
    rect = record { left = number 2 (lit< tt) i; top = number 3 (lit< tt) i; right = number 4 (lit< tt) i; bottom = number 5 (lit< tt) i };
    sum = record { r = number 6 (lit< tt) i; g = number 7 (lit< tt) i; b = number 8 (lit< tt) i; a = number 9 (lit< tt) i; counter = number 10 (lit< tt) i };
  }

  pub sum-at : sum_at t k ≡ (cluster s k).sum
  unfolding slot sum_numbers
  sum-at = λ i. record { r = number 6 (lit< tt) i; g = number 7 (lit< tt) i; b = number 8 (lit< tt) i; a = number 9 (lit< tt) i; count = number 10 (lit< tt) i }

  pub residue-at : sum_of (residue_at t k) ≡ (cluster s k).residue
  unfolding residue_at slot sum_numbers
  residue-at = λ i. record { r = number 11 (lit< tt) i; g = number 12 (lit< tt) i; b = number 13 (lit< tt) i; a = number 14 (lit< tt) i; count = number 15 (lit< tt) i }

  pub first-at : get_or t (slot_width * k + first_pixel_place) 0 ≡ first_of (cluster s k).pixels
  unfolding slot sum_numbers
  first-at = number 0 (lit< tt)

  pub count_at : get_or t (slot_width * k + pixel_count_place) 0 ≡ length (cluster s k).pixels
  unfolding slot sum_numbers
  count_at = number 1 (lit< tt)

  pub depth-at : get_or t (slot_width * k + depth_place) 0 ≡ (cluster s k).depth
  unfolding slot sum_numbers
  depth-at = number 17 (lit< tt)

  pub holes-at : get_or t (slot_width * k + num_holes_place) 0 ≡ length (cluster s k).holes
  unfolding slot sum_numbers
  holes-at = number 18 (lit< tt)

-- a table of all slots of a state is the state's table written over what was there
pub table-over : (s : State) {t₀ t : List ℕ} → Table (length s.clusters) (slots_of s) t₀ t → slot_width * length s.clusters ≤ length t₀ → t ≡ over (table s) t₀
table-over s {t₀} {t} T l =
    ext_get_or 0 t (over (table s) t₀) (T.long ∙ whole) (λ i b. at i (dec_lt i (slot_width * length s.clusters)))
  where
    whole : length t₀ ≡ length (over (table s) t₀)
    whole = simp (length-append, length-drop) (omega (arith, table-length s))

    at : (i : ℕ) → Dec (i < slot_width * length s.clusters) → get_or t i 0 ≡ get_or (over (table s) t₀) i 0
    at i (yes h) =
        let e : i ≡ slot_width * (i / slot_width) + i % slot_width = omega arith in
        let a : get_or t (slot_width * (i / slot_width) + i % slot_width) 0 ≡ get_or (table s) (slot_width * (i / slot_width) + i % slot_width) 0 =
        T.slots (i / slot_width) (i % slot_width) (omega arith) (omega arith) ∙ sym (table_at s (i / slot_width) (i % slot_width) (omega arith) (omega arith)) in
        subst (λ (x : ℕ). get_or t x 0 ≡ get_or (table s) x 0) (sym e) a ∙ sym (get_or-append (table s) (drop (length (table s)) t₀) 0 i (omega (arith, table-length s)))
    at i (no h) =
        let e : length (table s) + (i - length (table s)) ≡ i = omega (arith, table-length s) in
        T.beyond i (omega arith)
        ∙ subst (λ (x : ℕ). get_or t₀ x 0 ≡ get_or (over (table s) t₀) x 0) e
        (sym (get_or-append-add (table s) (drop (length (table s)) t₀) (i - length (table s)) 0 ∙ get_or-drop (length (table s)) t₀ (i - length (table s)) 0))
