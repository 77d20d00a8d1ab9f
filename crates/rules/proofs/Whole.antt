-- What a sound state has of demand 3; stage 1 and stage 2 of every run; merges change nothing in which pixels are held.
use Rattle.std.specs.Prelude.{if◌then◌else◌}
use mathlib.Core.Path.{◌≡◌, refl, sym, subst}
use mathlib.Core.Logic.{◌↔◌, ◌≢◌, ◌⊎◌, inl, inr}
use mathlib.Core.Bool.{Bool, true, false}
use mathlib.Core.List.{List}
use Prim.Native.Nat.{ℕ, zero, suc, ◌*◌, ◌≤◌, ◌<◌}
use native.Mathlib.Decide.{ℕ_discrete}
use native.Mathlib.Omega.{arith}
use borrow.Author.Tests.{eqb-true}
use lib.Dec.{T, eqb}
use Rattle.rules.specs.Color.{RunnerConfig, is_discard, keying_on, equal_color, pixel}
use Rattle.rules.specs.State.{State, cluster, label, put_out, merge_cluster_into, deepen_cluster_into, plain}
use Rattle.rules.specs.Stage1.{is_key, taken}
use Rattle.rules.specs.Stage2.{output_all, passes, prepare_stage2}
use Rattle.rules.specs.Run.{stage1, stage2}
use Rattle.rules.specs.Ledger.{Held, enter, ledger}
use Rattle.rules.specs.Demand3.{Discarded}
use Rattle.rules.specs.Claim.{bit, occurs, tally, count_of, Stands, Holds, InResidue}
use Rattle.rules.specs.Code.Early.{Early}
use Rattle.rules.proofs.Facts.{count_of-lt, count_of-some, T-both, both_true, is_true}
use Rattle.rules.proofs.Forest.{Inside, residue-in, residue-out}
use Rattle.rules.proofs.Sound.{Sound}
use Rattle.rules.proofs.Visits.{Going, passes-going}
use Rattle.rules.proofs.Basic.{plain_down, plain-to, plain-up, deepened-down, deepened-up}
use Rattle.rules.proofs.Early.{taken-early, fresh-early, prepare_stage2-going}
use Rattle.rules.proofs.Outputs.{area-le}
use Rattle.rules.proofs.Sorted.{output_all-passes}

-- what a sound state has of demand 3
pub record Kept (image : List ℕ) (size : ℕ) (h : Held) (s : State) : Type 0 where
  -- no patch is torn: of two standing clusters that share a pixel, one holds the other
  pub whole : (j k p : ℕ) → T (h j p) → T (h k p) → Holds h j k ⊎ Holds h k j
  -- and no two hold the same
  pub distinct : (j k : ℕ) → j ≢ k → Stands h j → Holds h j k → Holds h k j → ⊥
  -- a pixel is labelled with the largest standing cluster that holds it
  pub labelled : (k p : ℕ) → T (h k p) → T (h (label s p) p)
  pub largest : (k p : ℕ) → T (h k p) → k ≢ label s p → count_of (h k) size < count_of (h (label s p)) size
  -- a list names each pixel held once, and no other
  pub lists : (k p : ℕ) → occurs p (cluster s k).pixels ≡ bit (h k p)
  -- a sum totals the pixels held
  pub sums : (k : ℕ) → (cluster s k).sum ≡ tally image (h k) size
  -- a residue totals those that no standing cluster strictly inside holds
  pub residues : (k : ℕ) → Stands h k → (f : ℕ → Bool) × ((p : ℕ) → T (f p) ↔ InResidue h size k p) × ((cluster s k).residue ≡ tally image f size)

module _ {image : List ℕ} {size : ℕ} {h O : Held} {s : State} (S : Sound image size h O s) where
  pub fewer : (j k : ℕ) → Inside (λ k p. T (h k p)) j k → count_of (h j) size < count_of (h k) size
  fewer j k i = count_of-lt (h j) (h k) i.0 size i.1.0 (omega (arith, S.basic.width, S.basic.places k i.1.0 i.1.1)) i.1.1 i.1.2

  holds-inside : (j k : ℕ) → Holds h k j → count_of (h j) size < count_of (h k) size → Inside (λ k p. T (h k p)) j k
  holds-inside j k a l = (a, count_of-some (h j) (h k) size l)

  -- what a cluster owns is its residue
  pub rests : (k p : ℕ) → T (O k p) ↔ InResidue h size k p
  rests k p = (
    λ x. ((residue-out S.forest k p x).0, λ j a l y. (residue-out S.forest k p x).1 j (holds-inside j k a l) y),
    λ r. residue-in S.forest k p r.0 (λ j i x. r.1 j i.0 (fewer j k i) x),
  )

  pub agrees : Kept image size h s
  agrees = record {
    whole = λ j k p a b. elim (ℕ_discrete j k) [ yes e ↦ inl (λ q x. subst (λ m. T (h m q)) (sym e) x) | no d ↦ elim (S.forest.nested j k p a b d) [ inl i ↦ inr i.0 | inr i ↦ inl i.0 ] ];
    distinct = λ j k n z a b. elim (S.forest.nested j k z.0 z.1 (b z.0 z.1) n) [ inl i ↦ i.1.2 (a i.1.0 i.1.1) | inr i ↦ i.1.2 (b i.1.0 i.1.1) ];
    labelled = S.forest.top-held;
    largest = λ k p a n. fewer k (label s p) (S.forest.under_top k p a n);
    lists = S.basic.lists;
    sums = S.basic.sums;
    residues = λ k z. (O k, rests k, S.residues k z);
  }

-- after n pixels of stage 1
pub early-at : (o : RunnerConfig) (w h : ℕ) (image : List ℕ) (n : ℕ) → n ≤ w * h → Early image (w * h) (Discarded o image) (T (keying_on o)) n (taken o w image (w * h) n)
unfolding is_key
early-at o w h image n le = taken-early o w gone keyed wide only fresh-early n le
  where
    gone : (p : ℕ) → is_key o image p ≡ true → is_discard o.keying_action ≡ true → Discarded o image p
    gone p a b = rw (a, b) tt

    keyed : (p : ℕ) → is_key o image p ≡ true → T (keying_on o)
    keyed p e = (T-both (keying_on o) (equal_color (pixel image p) o.key_color) (subst T (sym e) tt)).0

    only : (p : ℕ) → Discarded o image p → (is_key o image p ≡ true) × (is_discard o.keying_action ≡ true)
    only p x = both_true (is_key o image p) (is_discard o.keying_action) (is_true _ x)

    wide : (p : ℕ) → p < w * h → 0 < w
    wide p l = pos w l
      where
        pos : (n : ℕ) → p < n * h → 0 < n
        pos zero x = omega arith
        pos (suc n) x = omega arith

pub early : (o : RunnerConfig) (w h : ℕ) (image : List ℕ) → Early image (w * h) (Discarded o image) (T (keying_on o)) (w * h) (stage1 o w h image)
unfolding stage1
early o w h image = early-at o w h image (w * h) (omega arith)

-- stage 2 is the passes, with `hierarchical` 0 too
pub stage2-passes : (o : RunnerConfig) (w h : ℕ) (image : List ℕ) → stage2 o w h (stage1 o w h image) ≡ passes o w h (w * h) (prepare_stage2 (stage1 o w h image))
unfolding stage2
stage2-passes o w h image = pick (eqb o.hierarchical 0) refl
  where
    s : State
    s = prepare_stage2 (stage1 o w h image)

    pick : (b : Bool) → eqb o.hierarchical 0 ≡ b → (if b then output_all s else passes o w h (w * h) s) ≡ passes o w h (w * h) s
    pick true e = output_all-passes o w h (eqb-true o.hierarchical 0 e) s (w * h) (area-le (prepare_stage2-going (w * h) (stage1 o w h image) (early o w h image)).sound.basic)
    pick false e = refl

pub going : (o : RunnerConfig) (w h : ℕ) (image : List ℕ) → Going image (w * h) (suc (w * h)) 0 (stage2 o w h (stage1 o w h image))
going o w h image = rw (stage2-passes o w h image) (passes-going o w h (prepare_stage2 (stage1 o w h image)) (prepare_stage2-going (w * h) (stage1 o w h image) (early o w h image)) (w * h))

-- A merge changes nothing in which pixels are held by some cluster
abbrev pub Some : Held → ℕ → Type 0
Some h p = (k : ℕ) × T (h k p)

abbrev pub AsBefore : Held → State → Type 0
AsBefore h s = (p : ℕ) → (Some h p → Some (ledger s.log) p) × (Some (ledger s.log) p → Some h p)

pub merge-some : (h : Held) (f t : ℕ) (s : State) → f ≢ t → AsBefore h s → AsBefore h (merge_cluster_into f t s)
unfolding merge_cluster_into
merge-some h f t s n A p = (λ x. go ((A p).0 x) (ℕ_discrete ((A p).0 x).0 f), λ x. back x.0 (plain_down g f t n x.0 p x.1).1)
  where
    g : Held
    g = ledger s.log

    go : (y : Some (ledger s.log) p) → Dec (y.0 ≡ f) → Some (enter (plain f t) (ledger s.log)) p
    go y (yes e) = (t, plain-to (ledger s.log) f t n p (subst (λ m. T (ledger s.log m p)) e y.1))
    go y (no d) = (y.0, plain-up (ledger s.log) f t n y.0 p d y.1)

    back : (k : ℕ) → ((k ≡ t) × T (g f p)) ⊎ T (g k p) → Some h p
    back k (inl y) = (A p).1 (f, y.1)
    back k (inr y) = (A p).1 (k, y)

pub deepen-some : (h : Held) (hollow : Bool) (f t : ℕ) (s : State) → AsBefore h s → AsBefore h (deepen_cluster_into hollow f t s)
unfolding deepen_cluster_into
deepen-some h hollow f t s A p = (λ x. let y = (A p).0 x in (y.0, deepened-up (ledger s.log) f t y.0 p y.1), λ x. back x.0 (deepened-down (ledger s.log) f t x.0 p x.1))
  where
    back : (k : ℕ) → ((k ≡ t) × T (ledger s.log f p)) ⊎ T (ledger s.log k p) → Some h p
    back k (inl y) = (A p).1 (f, y.1)
    back k (inr y) = (A p).1 (k, y)

pub put_some : (h : Held) (k : ℕ) (s : State) → AsBefore h s → AsBefore h (put_out k s)
unfolding put_out
put_some h k s A = A
