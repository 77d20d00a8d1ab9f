-- The entries that painting goes through from last to first, and what an entry that passes has shown.
use Rattle.std.specs.Prelude.{if◌then◌else◌}
use mathlib.Core.Path.{◌≡◌, refl, sym, ap, ◌∙◌, subst}
use mathlib.Core.Bool.{Bool, true, false, not}
use mathlib.Core.List.{List, [], ◌∷◌, ◌++◌}
use Prim.Native.Nat.{ℕ, zero, suc, ◌-◌, ◌/◌, ◌≤◌, ◌<◌}
use native.Mathlib.Decide.{ℕ_discrete}
use native.Mathlib.Nat.{not-suc-le-zero}
use native.Mathlib.Omega.{arith}
use borrow.Author.Tests.{eqb-true, eqb-false}
use lib.Dec.{T, eqb, ltb, leb, ltb→lt}
use lib.ListN.{length, get_or, get_or-append, length-append, take}
use lib.Seq.{take-suc, take-length, get_or-append_seam}
use Rattle.std.proofs.lemmas.List.Elements.{All-take}
use Rattle.std.proofs.lemmas.Grind.{get_or_default_zero}
use Rattle.rules.specs.Base.{times_back, each_back}
use Rattle.rules.specs.Color.{has_average}
use Rattle.rules.specs.Paint.{reads, slot_number, slot_residue, entry_answer, entries_answer}
use Rattle.rules.proofs.Accepted.{passed, neither}
use Rattle.refusal.specs.Refusal.{number_of}
use Rattle.refusal.specs.declared.Refusal.{Refusal}
use Rattle.refusal.proofs.Laws.{refused_number}
use Rattle.image.specs.declared.PixelList.{PixelList}
use Rattle.container.specs.declared.checked.Sheet.{Sheet}
use Rattle.container.specs.Code.Checked as of_sheet
use Rattle.container.specs.Code.Checked.{Passed, EntriesPass}
use Rattle.container.specs.Code.Leads.{Leads}
use Rattle.container.specs.Code.Stretch.{FirstHalf}
use Rattle.rules.specs.Layout.{first_pixel_place, pixel_count_place}

-- the last entry first
pub each_back-last {ℓ} : {S : Type ℓ} (xs : List ℕ) (k : ℕ) (f : ℕ → S → S) (s : S) → each_back (xs ++ k ∷ []) f s ≡ each_back xs f (f k s)
each_back-last [] k f s = refl
each_back-last (x ∷ xs) k f s = ap (f x) (each_back-last xs k f s)

-- entries are gone through by number as they are one after another
pub back-each {ℓ} : {S : Type ℓ} (m : ℕ) (xs : List ℕ) (f : ℕ → S → S) (s : S) → m ≤ length xs → times_back m (λ i. f (get_or xs i 0)) s ≡ each_back (take m xs) f s
back-each zero xs f s l = refl
back-each (suc i) xs f s l = back-each i xs f (f (get_or xs i 0) s) (omega arith) ∙ sym (each_back-last (take i xs) (get_or xs i 0) f s) ∙ ap (λ ys. each_back ys f s) (sym (take-suc xs i 0 (omega arith)))

-- painting reads no entry beyond the first m
pub times-cut {ℓ} : {S : Type ℓ} (f : ℕ → S → S) (m : ℕ) (xs ys : List ℕ) → ((i : ℕ) → i < m → get_or xs i 0 ≡ get_or ys i 0) → (s : S)
    → times_back m (λ i. f (get_or xs i 0)) s ≡ times_back m (λ i. f (get_or ys i 0)) s
times-cut f zero xs ys h s = refl
times-cut f (suc i) xs ys h s = rw (h i (omega arith)) (times-cut f i xs ys (λ j l. h j (omega arith)) (f (get_or ys i 0) s))

-- one turn of a loop from last to first
pub back-turn {ℓ} : {S : Type ℓ} (xs : List ℕ) (f : ℕ → S → S) (s : S) → 0 < length xs → each_back xs f s ≡ each_back (take (length xs - 1) xs) f (f (get_or xs (length xs - 1) 0) s)
back-turn xs f s l =
    let m = length xs - 1 in
    let e : suc m ≡ length xs = omega arith in
    let split : xs ≡ take m xs ++ get_or xs m 0 ∷ [] = sym (take-length xs) ∙ ap (λ i. take i xs) (sym e) ∙ take-suc xs m 0 (omega arith) in
    ap (λ ys. each_back ys f s) split ∙ each_back-last (take m xs) (get_or xs m 0) f s

module _ (size n : ℕ) (links table : List ℕ) where
  -- and so do the checks
  pub entries-cut : (m : ℕ) (xs ys : List ℕ) → ((i : ℕ) → i < m → get_or xs i 0 ≡ get_or ys i 0) → entries_answer size n links table xs m ≡ entries_answer size n links table ys m
  unfolding entries_answer
  entries-cut zero xs ys h = refl
  entries-cut (suc i) xs ys h = rw (h i (omega arith), entries-cut i xs ys (λ j l. h j (omega arith)))

  pub entries_none : (entries : List ℕ) → length entries ≡ 0 → entries_answer size n links table entries (length entries) ≡ 0
  unfolding entries_answer
  entries_none entries e = rw e

  -- the last entry's answer, if it is not 0, else that of the entries before
  entries_last : (before : List ℕ) (k : ℕ)
      → entries_answer size n links table (before ++ k ∷ []) (length (before ++ k ∷ []))
      ≡ (let answer = entry_answer size n links table k in if eqb answer 0 then entries_answer size n links table before (length before) else answer)
  unfolding entries_answer
  entries_last before k = rw (long, get_or-append_seam before k [] 0) (ap (λ rest. if eqb (entry_answer size n links table k) 0 then rest else entry_answer size n links table k) same)
    where
      long : length (before ++ k ∷ []) ≡ suc (length before)
      long = omega (arith, length-append before (k ∷ []))

      same : entries_answer size n links table (before ++ k ∷ []) (length before) ≡ entries_answer size n links table before (length before)
      same = entries-cut (length before) (before ++ k ∷ []) before (λ i l. get_or-append before (k ∷ []) 0 i l)

  pub entries-refused : (entries before : List ℕ) (k : ℕ) (r : Refusal) → entries ≡ before ++ k ∷ [] → number_of r ≡ entry_answer size n links table k
      → number_of r ≡ entries_answer size n links table entries (length entries)
  entries-refused entries before k r l e = rw (l, entries_last before k, ← e, refused_number r)

  pub entries-go_on : (entries before : List ℕ) (k : ℕ) → entries ≡ before ++ k ∷ [] → 0 ≡ entry_answer size n links table k
      → entries_answer size n links table entries (length entries) ≡ entries_answer size n links table before (length before)
  entries-go_on entries before k l e = rw (l, entries_last before k, ← e)

  -- where all pass, each passes
  entries-pass : (entries : List ℕ) (m : ℕ) → entries_answer size n links table entries m ≡ 0 → (i : ℕ) → i < m → entry_answer size n links table (get_or entries i 0) ≡ 0
  unfolding entries_answer
  entries-pass entries zero e i l = absurd (not-suc-le-zero l)
  entries-pass entries (suc j) e i l = go (eqb (at j) 0) refl e (entries-pass entries j) (ℕ_discrete i j)
    where
      at : ℕ → ℕ
      at k = entry_answer size n links table (get_or entries k 0)

      go : (b : Bool) → eqb (at j) 0 ≡ b → (if b then entries_answer size n links table entries j else at j) ≡ 0 → (entries_answer size n links table entries j ≡ 0 → (i : ℕ) → i < j → at i ≡ 0) → Dec (i ≡ j) → at i ≡ 0
      go true x y f (yes q) = rw q (eqb-true _ 0 x)
      go true x y f (no d) = f y i (omega arith)
      go false x y f q = absurd (eqb-false _ 0 x y)

entry-passed : (s : Sheet) (k : ℕ) → entry_answer s.size s.n s.links.now s.table.now k ≡ 0 → Passed s k
unfolding entry_answer
entry-passed s k e =
    let table = s.table.now in
    let a = passed 7 (not (ltb k s.n)) _ e in
    let b = passed 8 (not (has_average (slot_residue table k))) _ a.1 in
    let listed = reads s.size s.links.now (slot_number table k first_pixel_place) (slot_number table k pixel_count_place) in
    let d = neither (not (leb (slot_number table k pixel_count_place) s.size)) (not listed) (passed 9 _ 0 b.1).0 in
    record { slot = ltb→lt k s.n (holds (ltb k s.n) a.0); average = holds (has_average (slot_residue table k)) b.0; listed = holds listed d.1 }
  where
    holds : (b : Bool) → not b ≡ false → T b
    holds true x = tt
    holds false x = subst T x tt

-- checking goes from last to first
pub ruleset checks = (entries_none, entries-refused, entries-go_on)

-- where the checks answer 0, each entry of the sheet passes
pub sheet-pass : (s : Sheet) → of_sheet.entries_answer s ≡ 0 → EntriesPass s s.outputs.now
sheet-pass s e k d l = rw (get_or_default_zero s.outputs.now k d l) (entry-passed s _ (entries-pass s.size s.n s.links.now s.table.now s.outputs.now (length s.outputs.now) e k l))

-- and so do those before an entry
pub before-pass : (s : Sheet) (entries : List ℕ) (n : ℕ) → EntriesPass s entries → EntriesPass s (take n entries)
before-pass s entries n h = All-take (Passed s) n entries h

-- each of the first of them too
pub first-pass : (s : Sheet) (n : ℕ) → of_sheet.entries_answer s ≡ 0 → EntriesPass s (take n s.outputs.now)
first-pass s n e = before-pass s s.outputs.now n (sheet-pass s e)

-- mid is the middle of the list of the last entry, if there is one
pub record Middle (size : ℕ) (links table entries : List ℕ) (mid : ℕ) : Type 0 where
  pub leads : 0 < length entries → (let k = get_or entries (length entries - 1) 0 in Leads size links (slot_number table k first_pixel_place) (slot_number table k pixel_count_place / 2) mid)

-- its first half leads there
pub half-leads : (size : ℕ) (links table entries : List ℕ) (half : PixelList) (mid : ℕ) → FirstHalf table entries half → Leads size links half.first half.count mid → Middle size links table entries mid
half-leads size links table entries half mid f e = record { leads = λ l. rw (f.first l, f.count l) at e }

-- painting goes from last to first
pub ruleset paints = (sheet-pass, before-pass, back-turn, half-leads)
