-- One more entry of the outputs.
use Rattle.std.specs.Prelude.{if◌then◌else◌}
use mathlib.Core.Path.{◌≡◌, refl, sym, ap, ◌∙◌, subst}
use mathlib.Core.Bool.{Bool, true, false}
use mathlib.Core.List.{List, [], ◌∷◌, ◌++◌, append_assoc, append-nil}
use Prim.Native.Nat.{ℕ, suc, ◌+◌, ◌*◌, ◌≤◌, ◌<◌}
use native.Mathlib.Numerals.{add-one}
use native.Mathlib.Omega.{arith}
use lib.Dec.{ltb}
use lib.ListN.{length, get_or, set, take, drop, length-append}
use lib.Seq.{take-suc, drop-cons, set-append_seam, length-take-le}
use Rattle.rules.specs.Base.{keep}
use Rattle.rules.specs.Calls.{over}
use Rattle.rules.proofs.Sorted.{keep_append}
use Rattle.rules.proofs.Facts.{keep-le}
use Rattle.rules.specs.Layout.{slot_width, sum_count_place}
use Rattle.runner.specs.Code.Outputs.{counted, Kept}

pub counted-few : (table entries : List ℕ) → length (counted table entries) ≤ length entries
unfolding counted
counted-few table entries = keep-le (λ k. ltb 0 (get_or table (slot_width * k + sum_count_place) 0)) entries

-- written over one entry further
over-more : (new old : List ℕ) (x : ℕ) → length new < length old → set (over new old) (length new) x ≡ over (new ++ (x ∷ [])) old
over-more new old x l =
    ap (λ z. set (new ++ z) (length new) x) (drop-cons old (length new) 0 l) ∙ set-append_seam new (get_or old (length new) 0) (drop (suc (length new)) old) x
    ∙ sym (append_assoc new (x ∷ []) (drop (length (new ++ (x ∷ []))) old) ∙ ap (λ n. new ++ (x ∷ drop n old)) (length-append new (x ∷ []) ∙ add-one (length new)))

-- the invariant of the loop: these entries are done
pub record Done (table outputs₀ entries outputs : List ℕ) (kept : ℕ) : Type 0 where
  pub written : outputs ≡ over (counted table entries) outputs₀
  pub number : kept ≡ length (counted table entries)

pub done_none : (table outputs : List ℕ) → Done table outputs [] outputs 0
unfolding counted
done_none table outputs = record { written = refl; number = refl }

done-entry : {table outputs₀ entries outputs outputs' : List ℕ} {k kept r : ℕ} → kept < length outputs₀ → Done table outputs₀ entries outputs kept → Kept table k kept outputs outputs' r
    → Done table outputs₀ (entries ++ (k ∷ [])) outputs' r
unfolding counted
done-entry {table} {outputs₀} {entries} {outputs} {outputs'} {k} {kept} {r} b D K = record {
  written = K.written ∙ W (f k) ∙ ap (λ l. over l outputs₀) (sym (keep_append f entries (k ∷ [])));
  number = K.number ∙ N (f k) ∙ ap length (sym (keep_append f entries (k ∷ [])));
}
  where
    f : ℕ → Bool
    f j = ltb 0 (get_or table (slot_width * j + sum_count_place) 0)

    here : outputs ≡ over (keep (λ j. ltb 0 (get_or table (slot_width * j + sum_count_place) 0)) entries) outputs₀
    here = D.written

    count : kept ≡ length (keep (λ j. ltb 0 (get_or table (slot_width * j + sum_count_place) 0)) entries)
    count = D.number

    W : (c : Bool) → (if c then set outputs kept k else outputs) ≡ over (keep f entries ++ (if c then k ∷ [] else [])) outputs₀
    W true = rw (here, count) (over-more (keep f entries) outputs₀ k (omega (arith, count)))
    W false = here ∙ ap (λ l. over l outputs₀) (sym (append-nil (keep f entries)))

    N : (c : Bool) → (if c then kept + 1 else kept) ≡ length (keep f entries ++ (if c then k ∷ [] else []))
    N true = omega (arith, count, length-append (keep f entries) (k ∷ []))
    N false = count ∙ ap length (sym (append-nil (keep f entries)))

pub done_more : {table outputs₀ outputs outputs' : List ℕ} {kept r : ℕ} (staged : List ℕ) (i : ℕ) → i < length staged → kept < length outputs₀ → Done table outputs₀ (take i staged) outputs kept
    → Kept table (get_or staged i 0) kept outputs outputs' r → Done table outputs₀ (take (i + 1) staged) outputs' r
done_more {table} {outputs₀} {outputs} {outputs'} {kept} {r} staged i l b D K =
    subst (λ ts. Done table outputs₀ ts outputs' r) (sym (ap (λ n. take n staged) (add-one i) ∙ take-suc staged i 0 l)) (done-entry b D K)

-- no more are kept than are done
pub done-few : {table outputs₀ outputs : List ℕ} {kept : ℕ} (staged : List ℕ) (i : ℕ) → i ≤ length staged → Done table outputs₀ (take i staged) outputs kept → kept ≤ i
done-few {table} {outputs₀} {outputs} {kept} staged i l D = omega (arith, D.number, counted-few table (take i staged), length-take-le i staged l)
