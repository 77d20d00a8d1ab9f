-- Slots as lists of 21 numbers: what stores into a slot make of its list.
use mathlib.Core.Path.{◌≡◌, refl, sym, ap, ◌∙◌, subst}
use mathlib.Core.Logic.{◌≢◌, inl, inr}
use mathlib.Core.List.{List, [], ◌∷◌}
use Prim.Native.Nat.{ℕ, ◌+◌, ◌-◌, ◌≤◌, ◌<◌}
use native.Mathlib.Decide.{dec_lt}
use native.Mathlib.Omega.{arith}
use lib.ListN.{length, get_or}
use Rattle.rules.specs.State.{State, Cluster, cluster}
use Rattle.rules.specs.Layout.{after, first_of, sum_numbers, slot, slot_width}
use Rattle.runner.specs.Code.Slots.{set_numbers}
use Rattle.runner.specs.Code.Rep.{Table, written, slots_of}
use Rattle.runner.proofs.Tables.{store_length, store_in, store_out, written_in, written_out, table_same}

-- slot i has the numbers l
pub record Row (σ : ℕ → ℕ → ℕ) (i : ℕ) (l : List ℕ) : Type 0 where
  pub wide : length l ≡ slot_width
  pub at : (f : ℕ) → f < slot_width → σ i f ≡ get_or l f 0

pub row_in : {σ : ℕ → ℕ → ℕ} {k : ℕ} {l : List ℕ} (j : ℕ) (vs : List ℕ) → j + length vs ≤ slot_width → Row σ k l → Row (written σ k j vs) k (set_numbers l 0 j vs)
row_in {σ} {k} {l} j vs r R = record { wide = store_length l 0 j vs ∙ R.wide; at = λ f b. at f b (dec_lt f j) (dec_lt f (j + length vs)) }
  where
    at : (f : ℕ) → f < slot_width → Dec (f < j) → Dec (f < j + length vs) → written σ k j vs k f ≡ get_or (set_numbers l 0 j vs) f 0
    at f b (yes x) y = written_out σ k j vs k f (inr (inl x)) ∙ R.at f b ∙ sym (store_out l 0 j vs f (inl (omega arith)))
    at f b (no x) (yes y) =
        let z : 0 + f ≡ f = omega arith in
        written_in σ k j vs f (omega arith) y ∙ sym (subst (λ i. get_or (set_numbers l 0 j vs) i 0 ≡ get_or vs (f - j) 0) z (store_in l 0 j vs f (omega arith) y (omega (arith, R.wide))))
    at f b (no x) (no y) = written_out σ k j vs k f (inr (inr (omega arith))) ∙ R.at f b ∙ sym (store_out l 0 j vs f (inr (omega arith)))

pub row_out : {σ : ℕ → ℕ → ℕ} {i : ℕ} {l : List ℕ} (k j : ℕ) (vs : List ℕ) → i ≢ k → Row σ i l → Row (written σ k j vs) i l
row_out {σ} {i} k j vs n R = record { wide = R.wide; at = λ f b. written_out σ k j vs i f (inl n) ∙ R.at f b }

-- the numbers of a cluster with x hole children, the first at y and the next of its own parent at z
abbrev pub numbers : Cluster → ℕ → ℕ → ℕ → List ℕ
numbers c x y z =
    first_of c.pixels ∷ length c.pixels ∷ c.rect.left ∷ c.rect.top ∷ c.rect.right ∷ c.rect.bottom
    ∷ c.sum.r ∷ c.sum.g ∷ c.sum.b ∷ c.sum.a ∷ c.sum.count
    ∷ c.residue.r ∷ c.residue.g ∷ c.residue.b ∷ c.residue.a ∷ c.residue.count
    ∷ c.merged_into ∷ c.depth ∷ x ∷ y ∷ z ∷ []

-- the next hole child after k
abbrev pub next_hole : State → ℕ → ℕ
next_hole s k = after k (cluster s (cluster s k).merged_into).holes

pub slot_is : (s : State) (k : ℕ) (c : Cluster) (z : ℕ) → cluster s k ≡ c → next_hole s k ≡ z → slot s k ≡ numbers c (length c.holes) (first_of c.holes) z
unfolding slot sum_numbers
slot_is s k c z e y = ap (λ v. numbers (cluster s k) (length (cluster s k).holes) (first_of (cluster s k).holes) v) y ∙ ap (λ d. numbers d (length d.holes) (first_of d.holes) z) e

-- the row of slot k of s
abbrev pub row : State → ℕ → List ℕ
row s k = numbers (cluster s k) (length (cluster s k).holes) (first_of (cluster s k).holes) (next_hole s k)

pub slot_row : (s : State) (k : ℕ) → Row (slots_of s) k (row s k)
unfolding slot sum_numbers
slot_row s k = record { wide = refl; at = λ f b. refl }

-- σ has slot k as s has it
abbrev pub Fills : (ℕ → ℕ → ℕ) → State → ℕ → Type 0
Fills σ s k = (l : List ℕ) × Row σ k l × (l ≡ slot s k)

pub table-fills : {n : ℕ} {σ : ℕ → ℕ → ℕ} {t₀ t : List ℕ} (s : State) → Table n σ t₀ t → ((k : ℕ) → k < n → Fills σ s k) → Table n (slots_of s) t₀ t
table-fills s U F = table_same U (λ k f l b. let r = F k l in r.1.at f b ∙ ap (λ x. get_or x f 0) r.2)
