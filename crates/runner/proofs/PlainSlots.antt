-- The table of clusters without hole children, as in stage 1: a slot is a function of its cluster alone.
use Rattle.std.specs.Prelude.{if◌then◌else◌}
use mathlib.Core.Path.{◌≡◌, refl, sym, ap, ◌∙◌, subst}
use mathlib.Core.Logic.{◌≢◌, inl, inr, by_cases}
use mathlib.Core.Bool.{Bool, true, false, not}
use mathlib.Core.List.{List, [], ◌∷◌, ◌++◌}
use Prim.Native.Nat.{ℕ, ◌+◌, ◌-◌, ◌*◌, ◌≤◌, ◌<◌}
use native.Mathlib.Decide.{ℕ_discrete, dec_lt}
use native.Mathlib.Omega.{arith}
use lib.Dec.{T, ltb, ltb→lt, nltb→le}
use lib.ListN.{length, get_or, set, replicate, length-set, length-append, get_or-append, get_or-eq_default}
use lib.Seq.{get_or-set_same, get_or-set_other, get_or-append_seam, get_or-append-add, set-set, set-append_seam}
use Rattle.rules.specs.State.{State, Cluster, new_cluster, cluster}
use Rattle.rules.specs.Layout.{after, first_of, sum_numbers, slot, slot_width}
use Rattle.runner.specs.Code.Slots.{head_numbers, head_of, saved_head, cleared_slot}
use Rattle.runner.specs.Code.Rep.{Table, written, slots_of}
use Rattle.runner.proofs.Tables.{written_in, written_out, table-head, table-clear, table-new, table_same}

-- numbers 11 to 20
unfoldable pub rest_of : Cluster → List ℕ
unfolding sum_numbers
rest_of c = sum_numbers c.residue ++ (c.merged_into ∷ c.depth ∷ 0 ∷ 0 ∷ 0 ∷ [])

-- number f
unfoldable pub number_of : Cluster → ℕ → ℕ
unfolding rest_of
number_of c f = get_or (head_numbers (head_of c) ++ rest_of c) f 0

abbrev plain_of : List Cluster → ℕ → ℕ → ℕ
plain_of cs k f = number_of (get_or cs k new_cluster) f

-- the table t holds the slots of the clusters cs, and beyond them what t₀ had
pub record Plain (t₀ : List ℕ) (cs : List Cluster) (t : List ℕ) : Type 0 where
  pub tabled : Table (length cs) (λ k. number_of (get_or cs k new_cluster)) t₀ t

-- numbers of the head, and the others
head-number : (c : Cluster) (f : ℕ) → f < 11 → get_or (head_numbers (head_of c)) f 0 ≡ number_of c f
unfolding number_of
head-number c f l = sym (get_or-append (head_numbers (head_of c)) (rest_of c) 0 f l)

rest-number : (c d : Cluster) (f : ℕ) → 11 ≤ f → rest_of c ≡ rest_of d → number_of c f ≡ number_of d f
unfolding number_of
rest-number c d f l e =
    subst (λ x. number_of c x ≡ number_of d x) q
    (get_or-append-add (head_numbers (head_of c)) (rest_of c) (f - 11) 0 ∙ ap (λ r. get_or r (f - 11) 0) e ∙ sym (get_or-append-add (head_numbers (head_of d)) (rest_of d) (f - 11) 0))
  where
    q : 11 + (f - 11) ≡ f
    q = omega arith

new-number : (f : ℕ) → get_or (replicate slot_width 0) f 0 ≡ number_of new_cluster f
unfolding number_of rest_of sum_numbers first_of
new-number f = refl

-- numbers written from number 0 on
written-first : (σ : ℕ → ℕ → ℕ) (k : ℕ) (vs : List ℕ) (i f : ℕ) → i ≡ k → f < length vs → written σ k 0 vs i f ≡ get_or vs f 0
written-first σ k vs i f q l = ap (λ m. written σ k 0 vs m f) q ∙ written_in σ k 0 vs f (omega arith) (omega arith) ∙ ap (λ m. get_or vs m 0) (omega arith)

-- ---- of a state

module _ (s : State) (none : (k : ℕ) → (cluster s k).holes ≡ []) where
  plain-number : (k f : ℕ) → slots_of s k f ≡ plain_of s.clusters k f
  unfolding slot number_of rest_of sum_numbers first_of after
  plain-number k f = ap (λ hs. rest hs (cluster s (cluster s k).merged_into).holes) (none k) ∙ ap (rest []) (none (cluster s k).merged_into)
    where
      rest : List ℕ → List ℕ → ℕ
      rest hs outer =
          get_or (head_numbers (head_of (cluster s k)) ++ sum_numbers (cluster s k).residue ++ ((cluster s k).merged_into ∷ (cluster s k).depth ∷ length hs ∷ first_of hs ∷ after k outer ∷ [])) f 0

  pub plain-of : {t₀ t : List ℕ} → Table (length s.clusters) (slots_of s) t₀ t → Plain t₀ s.clusters t
  plain-of H = record { tabled = table_same H (λ k f a b. plain-number k f) }

  pub of_plain : {t₀ t : List ℕ} → Plain t₀ s.clusters t → Table (length s.clusters) (slots_of s) t₀ t
  of_plain H = table_same H.tabled (λ k f a b. sym (plain-number k f))

-- ---- what is stored

module _ {t₀ : List ℕ} {cs : List Cluster} {t : List ℕ} (H : Plain t₀ cs t) where
  -- the head of slot k is saved
  pub plain-head : (k : ℕ) (c : Cluster) → k < length cs → slot_width * length cs ≤ length t₀ → rest_of c ≡ rest_of (get_or cs k new_cluster) → Plain t₀ (set cs k c) (saved_head t k (head_of c))
  plain-head k c l room e = record {
    tabled = subst (λ n. Table n (plain_of (set cs k c)) t₀ (saved_head t k (head_of c))) (sym (length-set cs k c))
        (table_same (table-head H.tabled k (head_of c) l room) (λ i f a b. at i f (ℕ_discrete i k) (dec_lt f 11)));
  }
    where
      here : (i : ℕ) → i ≡ k → get_or (set cs k c) i new_cluster ≡ c
      here i q = ap (λ m. get_or (set cs k c) m new_cluster) q ∙ get_or-set_same cs k c new_cluster l

      at : (i f : ℕ) → Dec (i ≡ k) → Dec (f < 11) → written (plain_of cs) k 0 (head_numbers (head_of c)) i f ≡ plain_of (set cs k c) i f
      at i f (no d) z = written_out (plain_of cs) k 0 (head_numbers (head_of c)) i f (inl d) ∙ ap (λ x. number_of x f) (sym (get_or-set_other cs k i c new_cluster d))
      at i f (yes q) (yes z) =
          written-first (plain_of cs) k (head_numbers (head_of c)) i f q z ∙ head-number c f z ∙ ap (λ x. number_of x f) (sym (here i q))
      at i f (yes q) (no z) =
          written_out (plain_of cs) k 0 (head_numbers (head_of c)) i f (inr (inr (omega arith))) ∙ ap (λ m. plain_of cs m f) q
          ∙ rest-number (get_or cs k new_cluster) c f (omega arith) (sym e) ∙ ap (λ x. number_of x f) (sym (here i q))

  zeros-at : (cs' : List Cluster) (k : ℕ) → get_or cs' k new_cluster ≡ new_cluster → ((j : ℕ) → j ≢ k → get_or cs' j new_cluster ≡ get_or cs j new_cluster)
      → (i f : ℕ) → f < slot_width → Dec (i ≡ k) → written (plain_of cs) k 0 (replicate slot_width 0) i f ≡ plain_of cs' i f
  zeros-at cs' k here other i f l (yes q) =
      written-first (plain_of cs) k (replicate slot_width 0) i f q l ∙ new-number f ∙ ap (λ x. number_of x f) (sym (ap (λ m. get_or cs' m new_cluster) q ∙ here))
  zeros-at cs' k here other i f l (no d) = written_out (plain_of cs) k 0 (replicate slot_width 0) i f (inl d) ∙ ap (λ x. number_of x f) (sym (other i d))

  -- slot k is cleared
  pub plain-clear : (k : ℕ) → k < length cs → slot_width * length cs ≤ length t₀ → Plain t₀ (set cs k new_cluster) (cleared_slot t k)
  plain-clear k l room = record {
    tabled = subst (λ n. Table n (plain_of (set cs k new_cluster)) t₀ (cleared_slot t k)) (sym (length-set cs k new_cluster))
        (table_same (table-clear H.tabled k l room)
        (λ i f a b. zeros-at (set cs k new_cluster) k (get_or-set_same cs k new_cluster new_cluster l) (λ j d. get_or-set_other cs k j new_cluster new_cluster d) i f b (ℕ_discrete i k)));
  }

  -- a slot more
  pub plain-new : slot_width * (length cs + 1) ≤ length t₀ → Plain t₀ (cs ++ (new_cluster ∷ [])) (cleared_slot t (length cs))
  plain-new room = record {
    tabled = subst (λ n. Table n (plain_of (cs ++ (new_cluster ∷ []))) t₀ (cleared_slot t (length cs))) (omega (arith, longer))
        (table_same (table-new H.tabled room)
        (λ i f a b. zeros-at (cs ++ (new_cluster ∷ [])) (length cs) (get_or-append_seam cs new_cluster [] new_cluster) (λ j d. by_cases (dec_lt j (length cs))
        (λ l. get_or-append cs (new_cluster ∷ []) new_cluster j l)
        (λ l. get_or-eq_default (cs ++ (new_cluster ∷ [])) new_cluster (omega (arith, longer)) ∙ sym (get_or-eq_default cs new_cluster (omega arith)))) i f b (ℕ_discrete i (length cs))));
  }
    where
      longer : length (cs ++ (new_cluster ∷ [])) ≡ length cs + 1
      longer = length-append cs (new_cluster ∷ [])

-- slot k, of the table or the next after it, begins a cluster
pub plain-begin : {t₀ : List ℕ} {cs : List Cluster} {t : List ℕ} → Plain t₀ cs t → (k : ℕ) (c : Cluster) → k ≤ length cs → slot_width * (length cs + 1) ≤ length t₀ → rest_of c ≡ rest_of new_cluster
    → Plain t₀ (if ltb k (length cs) then set cs k c else cs ++ (c ∷ [])) (saved_head (cleared_slot t k) k (head_of c))
plain-begin {t₀} {cs} {t} H k c l room e = pick (ltb k (length cs)) refl
  where
    Goal : List Cluster → Type 0
    Goal cs' = Plain t₀ cs' (saved_head (cleared_slot t k) k (head_of c))

    pick : (b : Bool) → ltb k (length cs) ≡ b → Goal (if b then set cs k c else cs ++ (c ∷ []))
    pick true q =
        let z : k < length cs = ltb→lt k (length cs) (subst T (sym q) tt) in
        subst Goal (set-set cs k new_cluster c)
        (plain-head (plain-clear H k z (omega arith)) k c (omega (arith, length-set cs k new_cluster)) (omega (arith, length-set cs k new_cluster)) (e ∙ ap rest_of (sym (get_or-set_same cs k new_cluster new_cluster z))))
    pick false q =
        let z : length cs ≤ k = nltb→le k (length cs) (subst (λ b. T (not b)) (sym q) tt) in
        let y : length cs ≡ k = omega arith in
        subst Goal (ap (λ m. set (cs ++ (new_cluster ∷ [])) m c) (sym y) ∙ set-append_seam cs new_cluster [] c)
        (plain-head (subst (λ m. Plain t₀ (cs ++ (new_cluster ∷ [])) (cleared_slot t m)) y (plain-new H room)) k c
        (omega (arith, length-append cs (new_cluster ∷ []))) (omega (arith, length-append cs (new_cluster ∷ [])))
        (e ∙ ap rest_of (sym (ap (λ m. get_or (cs ++ (new_cluster ∷ [])) m new_cluster) (sym y) ∙ get_or-append_seam cs new_cluster [] new_cluster))))
