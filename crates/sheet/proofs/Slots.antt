-- Pixels and slots with large numbers, and the parts that a sheet is cut in. Assumes nothing.
use Rattle.std.proofs.Common.{[], ◌∷◌, ◌≡◌, ℕ, zero, suc, ◌≤◌, ◌*◌, ◌/◌, ◌++◌, ◌<◌, Bool, false, ◌||◌, List, length, get_or, drop, take, ltb, arith, ◌∙◌, ap, refl, sym, add-one}
use Rattle.std.proofs.lemmas.List.Sums.{fold_more}
use Rattle.std.proofs.lemmas.Slice.Zip.{length-zip, get_or-zip}
use Rattle.std.proofs.lemmas.List.{get_or-take, take_all}
use lib.ListN.{length-take}
use Rattle.sheet.specs.Code.Pairs.{pairs}
use mathlib.Core.List.{flatten}
use mathlib.Core.Bool.{or-false, or_assoc}
use Rattle.std.specs.List.{fold, zip, list_any}
use Rattle.std.specs.Simd.{first_chunks}
use Rattle.sheet.specs.Code.Stored.{parts, pixel_pairs, slot_pairs}
use Rattle.rules.specs.Base.{up_to}
use Rattle.rules.specs.Layout.{slot_width}
use Rattle.rules.specs.Paint.{slot_number}
use Rattle.rules.specs.Stored.{is_large, pixel_numbers, slot_numbers}
use Rattle.image.proofs.Slots.{in_slot}
use Rattle.sheet.proofs.Bytes.{pairs-large, large-two, stored-small, stored-length, stored-parts, pair-small, pairs-same}

length-first_chunks : (n k : ℕ) (xs : List ℕ) → length (first_chunks n k xs) ≡ k
length-first_chunks n zero xs = refl
length-first_chunks n (suc k) xs = omega (arith, length-first_chunks n k (drop n xs))

-- cut, the parts have the same numbers
pub cut : (sizes labels links table outputs : List ℕ) (p n : ℕ) → p ≤ length labels → p ≤ length links → slot_width * n ≤ length table
    → parts sizes (take p labels) (take p links) (take n (first_chunks slot_width (length table / slot_width) table)) outputs ≡ sizes ++ pixel_numbers labels links p ++ slot_numbers table n ++ outputs
unfolding pixel_numbers slot_numbers
cut sizes labels links table outputs p n a b c =
    let lp : length (take p labels) ≡ p = omega (arith, a, length-take p labels) in
    let ln : length (take n slots) ≡ n = omega (arith, c, length-take n slots, length-first_chunks slot_width all table) in
    rw (
      lp,
      ln,
      pairs-same (λ i. get_or (take p labels) i 0) (λ i. get_or (take p links) i 0) (λ i. get_or labels i 0) (λ i. get_or links i 0) p (λ i l. (get_or-take p labels i 0 l, get_or-take p links i 0 l)),
      pairs-same (λ k. get_or (get_or (take n slots) k []) 0 0) (λ k. get_or (get_or (take n slots) k []) 1 0) (λ k. slot_number table k 0) (λ k. slot_number table k 1) n
          (λ k l. (in_part k 0 l (omega arith), in_part k 1 l (omega arith))),
    ) refl
  where
    all : ℕ
    all = length table / slot_width

    slots : List (List ℕ)
    slots = first_chunks slot_width all table

    in_part : (k place : ℕ) → k < n → place < slot_width → get_or (get_or (take n slots) k []) place 0 ≡ slot_number table k place
    in_part k place l m = ap (λ r. get_or r place 0) (get_or-take n slots k [] l) ∙ in_slot table all k place [] (omega (arith, c, l)) m

module _ {A : Type 0} (p q : A → ℕ) where
  -- whether p or q of an item takes more than two bytes, in one step of a fold
  abbrev pub or_large : Bool → A → Bool
  or_large large x = large || ltb 65535 (p x) || ltb 65535 (q x)

  -- of the first n items
  fold-first : (xs : List A) (d : A) (n : ℕ) → n ≤ length xs → fold or_large false (take n xs) ≡ is_large (pairs (λ k. p (get_or xs k d)) (λ k. q (get_or xs k d)) n)
  unfolding is_large flatten up_to
  fold-first xs d zero l = refl
  fold-first xs d (suc n) l =
      let f : ℕ → ℕ = λ k. p (get_or xs k d) in
      let g : ℕ → ℕ = λ k. q (get_or xs k d) in
      rw (← add-one n) (fold_more or_large false xs n d (omega (arith, l)))
      ∙ ap (λ b. b || ltb 65535 (f n) || ltb 65535 (g n)) (fold-first xs d n (omega (arith, l)))
      ∙ or_assoc (is_large (pairs f g n)) (ltb 65535 (f n)) (ltb 65535 (g n))
      ∙ ap (λ b. is_large (pairs f g n) || b) (sym (large-two f g n))
      ∙ sym (pairs-large f g n)

  -- of all
  pub fold-pairs : (xs : List A) (d : A) → fold or_large false xs ≡ is_large (pairs (λ k. p (get_or xs k d)) (λ k. q (get_or xs k d)) (length xs))
  fold-pairs xs d = ap (fold or_large false) (sym (take_all (length xs) xs (omega arith))) ∙ fold-first xs d (length xs) (omega arith)

  -- as a search finds it
  fold-any : (b : Bool) (xs : List A) → fold or_large b xs ≡ b || list_any (λ x. ltb 65535 (p x) || ltb 65535 (q x)) xs
  fold-any b [] = sym (or-false b)
  fold-any b (x ∷ xs) = fold-any (or_large b x) xs ∙ ap (λ c. c || list_any (λ x. ltb 65535 (p x) || ltb 65535 (q x)) xs) (or_assoc b (ltb 65535 (p x)) (ltb 65535 (q x))) ∙ or_assoc b (ltb 65535 (p x) || ltb 65535 (q x)) _

-- of two lists, zipped
pub fold-zip : (xs ys : List ℕ) → length ys ≡ length xs → fold (or_large (λ (x : ℕ × ℕ). x.0) (λ x. x.1)) false (zip xs ys) ≡ is_large (pixel_pairs xs ys)
fold-zip xs ys e = fold-pairs (λ x. x.0) (λ x. x.1) (zip xs ys) (0, 0) ∙ ap is_large (rw long (pairs-same _ _ _ _ (length xs) same))
  where
    long : length (zip xs ys) ≡ length xs
    long = omega (arith, length-zip xs ys, e)

    same : (i : ℕ) → i < length xs → ((get_or (zip xs ys) i (0, 0)).0 ≡ get_or xs i 0) × ((get_or (zip xs ys) i (0, 0)).1 ≡ get_or ys i 0)
    same i l = rw (get_or-zip xs ys i (0, 0) l (omega (arith, e, l))) (refl, refl)

-- whether the first pixel or the count of a slot takes more than two bytes
abbrev pub has_large : List ℕ → Bool
has_large slot = ltb 65535 (get_or slot 0 0) || ltb 65535 (get_or slot 1 0)

-- that of one of the first n slots
any-first : (slots : List (List ℕ)) (n : ℕ) → n ≤ length slots → list_any has_large (take n slots) ≡ is_large (pairs (λ k. get_or (get_or slots k []) 0 0) (λ k. get_or (get_or slots k []) 1 0) n)
any-first slots n l = sym (fold-any (λ slot. get_or slot 0 0) (λ slot. get_or slot 1 0) false (take n slots)) ∙ fold-first (λ slot. get_or slot 0 0) (λ slot. get_or slot 1 0) slots [] n l

-- of one of all
pub any-slot : (slots : List (List ℕ)) → list_any has_large slots ≡ is_large (slot_pairs slots)
any-slot slots = ap (list_any has_large) (sym (take_all (length slots) slots (omega arith))) ∙ any-first slots (length slots) (omega arith)

-- what `write` cites
pub ruleset write_laws = (stored-small, stored-length, stored-parts, pair-small)
