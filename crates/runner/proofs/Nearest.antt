-- A scan with marks finds the neighbours of the rules: each label once, their number, and the least by difference and number. Assumes nothing.
use Rattle.std.specs.Prelude.{if◌then◌else◌}
use mathlib.Core.Path.{◌≡◌, refl, sym, ap, ap₂, ◌∙◌, subst}
use mathlib.Core.Logic.{◌≢◌, ◌⊎◌, inl, inr}
use mathlib.Core.Bool.{Bool, true, false, ◌&&◌, ◌||◌, or-true}
use mathlib.Core.List.{List, [], ◌∷◌, map}
use mathlib.Core.Option.{Option, some}
use mathlib.Core.Option.{none as off}
use Prim.Native.Nat.{ℕ, zero, suc, ◌+◌, ◌-◌, ◌*◌, ◌%◌, ◌≤◌, ◌<◌}
use native.Mathlib.Decide.{ℕ_discrete}
use native.Mathlib.Omega.{arith}
use lib.Dec.{T, eqb, leb, ltb, eqb_refl}
use lib.ListN.{length, get_or, set, take, length-set}
use lib.Seq.{get_or-set_same, get_or-set_other, length-take-le}
use borrow.Author.Tests.{ltb-true, ltb-false, eqb-true, eqb-false, ne_eqb}
use Rattle.std.proofs.lemmas.List.{take_all}
use Rattle.rules.specs.Base.{each, member, insert_once, least}
use Rattle.rules.specs.Color.{color_diff, average}
use Rattle.rules.specs.Grid.{up, down, left, right, sides}
use Rattle.rules.specs.State.{State, cluster, label}
use Rattle.rules.specs.Stage2.{labels_at, labels_around, neighbours, rank}
use Rattle.rules.proofs.Facts.{is_true, eqb_yes}
use Rattle.rules.proofs.Visits.{All}
use Rattle.rules.proofs.Outputs.{In}
use Rattle.rules.proofs.Listed.{insert-new, insert-old}
use Rattle.rules.proofs.Largest.{insert-from}
use Rattle.rules.proofs.Interior.{in-member, member-in}
use Rattle.rules.proofs.Connected.{AllSome}
use Rattle.rules.proofs.Neighbours.{Rising, least-is, least-unique, all_in, insert-rising}
use Rattle.runner.specs.declared.cluster.Nearest.{Nearest}
use Rattle.runner.specs.Code.Slots.{sum_at}
use Rattle.runner.specs.Code.Neighbours.{place_label, diff_at, nearest_of, closer, with_neighbour, Scan, noted, noted_four, Notable, list_at}

-- ---- a number put into a rising list

-- one that is there already changes nothing
insert-there : (a : ℕ) (xs : List ℕ) → Rising xs → T (member a xs) → insert_once a xs ≡ xs
insert-there a [] r m = absurd m
insert-there a (x ∷ xs) r m = pick (ltb a x) refl (eqb a x) refl m (insert-there a xs r.1)
  where
    pick : (b : Bool) → ltb a x ≡ b → (c : Bool) → eqb a x ≡ c → T (c || member a xs) → (T (member a xs) → insert_once a xs ≡ xs)
        → (if b then a ∷ x ∷ xs else (if c then x ∷ xs else x ∷ insert_once a xs)) ≡ x ∷ xs
    pick true e true d t q = absurd (omega (arith, ltb-true a x e, eqb-true a x d))
    pick true e false d t q = absurd (omega (arith, ltb-true a x e, all_in (λ y. x < y) xs r.0 a (member-in a xs t)))
    pick false e true d t q = refl
    pick false e false d t q = ap (λ ys. x ∷ ys) (q t)

insert-longer : (a : ℕ) (xs : List ℕ) → member a xs ≡ false → length (insert_once a xs) ≡ length xs + 1
insert-longer a [] m = refl
insert-longer a (x ∷ xs) m = pick (ltb a x) (eqb a x) m (insert-longer a xs)
  where
    pick : (b c : Bool) → (c || member a xs) ≡ false → (member a xs ≡ false → length (insert_once a xs) ≡ length xs + 1)
        → length (if b then a ∷ x ∷ xs else (if c then x ∷ xs else x ∷ insert_once a xs)) ≡ length (x ∷ xs) + 1
    pick true c z q = omega arith
    pick false true z q = absurd (subst T z tt)
    pick false false z q = omega (arith, q z)

insert-other : (j a : ℕ) (xs : List ℕ) → j ≢ a → member j (insert_once a xs) ≡ member j xs
insert-other j a [] n = rw (ne_eqb j a n)
insert-other j a (x ∷ xs) n = pick (ltb a x) (eqb a x) (insert-other j a xs n)
  where
    pick : (b c : Bool) → member j (insert_once a xs) ≡ member j xs → member j (if b then a ∷ x ∷ xs else (if c then x ∷ xs else x ∷ insert_once a xs)) ≡ member j (x ∷ xs)
    pick true c q = rw (ne_eqb j a n)
    pick false true q = refl
    pick false false q = ap (λ b. eqb j x || b) q

-- ---- the nearest

-- t is nearer than j, or as near and not the larger number
abbrev Before : (ℕ → ℕ) → ℕ → ℕ → Type 0
Before key t j = (key t < key j) ⊎ ((key t ≡ key j) × (t ≤ j))

before_same : (key : ℕ → ℕ) (t j : ℕ) → j ≡ t → Before key t j
before_same key t j e = inr (ap key (sym e), omega arith)

before-trans : (key : ℕ → ℕ) (a b c : ℕ) → Before key a b → Before key b c → Before key a c
before-trans key a b c (inl x) (inl y) = inl (omega arith)
before-trans key a b c (inl x) (inr y) = inl (omega (arith, y.0))
before-trans key a b c (inr x) (inl y) = inl (omega (arith, x.0))
before-trans key a b c (inr x) (inr y) = inr (x.0 ∙ y.0, omega (arith, x.1, y.1))

nearest-is : (key : ℕ → ℕ) (t : ℕ) (xs : List ℕ) → Rising xs → In t xs → ((j : ℕ) → In j xs → Before key t j) → nearest_of key xs ≡ record { count = length xs; target = t; diff = key t }
nearest-is key t [] r i f = absurd i
nearest-is key t (x ∷ xs) r i f =
    let q = least-is key x xs r in
    ap (λ u. record { count = length (x ∷ xs); target = u; diff = key u }) (least-unique key (least key x xs) t (q.1 t i) (f (least key x xs) q.0))

closer-yes : (n l d t e : ℕ) → closer (record { count = suc n; target = t; diff = e }) l d ≡ true → (d < e) ⊎ ((d ≡ e) × (l ≤ t))
closer-yes n l d t e = pick (eqb (suc n) 0) refl (ltb d e) refl (eqb d e) refl (ltb l t) refl
  where
    pick : (a : Bool) → eqb (suc n) 0 ≡ a → (b : Bool) → ltb d e ≡ b → (c : Bool) → eqb d e ≡ c → (f : Bool) → ltb l t ≡ f → (a || b || (c && f)) ≡ true → (d < e) ⊎ ((d ≡ e) × (l ≤ t))
    pick true p b q c r f s z = absurd (omega (arith, eqb-true (suc n) 0 p))
    pick false p true q c r f s z = inl (ltb-true d e q)
    pick false p false q true r true s z = inr (eqb-true d e r, omega (arith, ltb-true l t s))
    pick false p false q true r false s z = absurd (subst T (sym z) tt)
    pick false p false q false r f s z = absurd (subst T (sym z) tt)

closer-no : (n l d t e : ℕ) → closer (record { count = suc n; target = t; diff = e }) l d ≡ false → (e < d) ⊎ ((e ≡ d) × (t ≤ l))
closer-no n l d t e = pick (eqb (suc n) 0) (ltb d e) refl (eqb d e) refl (ltb l t) refl
  where
    pick : (a b : Bool) → ltb d e ≡ b → (c : Bool) → eqb d e ≡ c → (f : Bool) → ltb l t ≡ f → (a || b || (c && f)) ≡ false → (e < d) ⊎ ((e ≡ d) × (t ≤ l))
    pick true b q c r f s z = absurd (subst T z tt)
    pick false true q c r f s z = absurd (subst T z tt)
    pick false false q true r true s z = absurd (subst T z tt)
    pick false false q true r false s z = inr (sym (eqb-true d e r), ltb-false l t s)
    pick false false q false r f s z = inl (omega (arith, ltb-false d e q, eqb-false d e r))

-- one more neighbour
nearest-added : (key : ℕ → ℕ) (l : ℕ) (xs : List ℕ) → Rising xs → member l xs ≡ false → nearest_of key (insert_once l xs) ≡ with_neighbour (nearest_of key xs) l (key l)
unfolding with_neighbour
nearest-added key l [] r m = refl
nearest-added key l (x ∷ xs) r m = pick (closer (nearest_of key (x ∷ xs)) l (key l)) refl
  where
    t : ℕ
    t = least key x xs

    is : (u : ℕ) → In u (insert_once l (x ∷ xs)) → Before key u l → Before key u t → nearest_of key (insert_once l (x ∷ xs)) ≡ record { count = length (x ∷ xs) + 1; target = u; diff = key u }
    is u i b c =
        nearest-is key u (insert_once l (x ∷ xs)) (insert-rising l (x ∷ xs) r) i (λ j k. side j (insert-from j l (x ∷ xs) k))
        ∙ ap (λ n. record { count = n; target = u; diff = key u }) (insert-longer l (x ∷ xs) m)
      where
        side : (j : ℕ) → (j ≡ l) ⊎ In j (x ∷ xs) → Before key u j
        side j (inl e) = subst (Before key u) (sym e) b
        side j (inr k) = before-trans key u t j c ((least-is key x xs r).1 j k)

    pick : (b : Bool) → closer (nearest_of key (x ∷ xs)) l (key l) ≡ b
        → nearest_of key (insert_once l (x ∷ xs)) ≡ (if b then record { count = length (x ∷ xs) + 1; target = l; diff = key l } else record { count = length (x ∷ xs) + 1; target = t; diff = key t })
    pick true e = is l (insert-new l (x ∷ xs)) (before_same key l l refl) (closer-yes (length xs) l (key l) t (key t) e)
    pick false e = is t (insert-old t l (x ∷ xs) (least-is key x xs r).0) (closer-no (length xs) l (key l) t (key t) e) (before_same key t t refl)

-- keys that agree on the entries find the same
least-same : (f g : ℕ → ℕ) (x : ℕ) (xs : List ℕ) → f x ≡ g x → All (λ y. f y ≡ g y) xs → (least f x xs ≡ least g x xs) × (f (least f x xs) ≡ g (least g x xs))
least-same f g x [] e a = (refl, e)
least-same f g x (y ∷ ys) e a = rw (e, a.0) (pick (ltb (g y) (g x)) (least-same f g x ys e a.1) (least-same f g y ys a.0 a.1))
  where
    pick : (b : Bool) → (least f x ys ≡ least g x ys) × (f (least f x ys) ≡ g (least g x ys)) → (least f y ys ≡ least g y ys) × (f (least f y ys) ≡ g (least g y ys))
        → ((if b then least f y ys else least f x ys) ≡ (if b then least g y ys else least g x ys)) × (f (if b then least f y ys else least f x ys) ≡ g (if b then least g y ys else least g x ys))
    pick true p q = q
    pick false p q = p

pub nearest-same : (f g : ℕ → ℕ) (xs : List ℕ) → All (λ x. f x ≡ g x) xs → nearest_of f xs ≡ nearest_of g xs
nearest-same f g [] a = refl
nearest-same f g (x ∷ xs) a = let q = least-same f g x xs a.0 a.1 in ap₂ (λ t d. record { count = length (x ∷ xs); target = t; diff = d }) q.0 q.1

in_all : (P : ℕ → Type 0) (xs : List ℕ) → ((x : ℕ) → In x xs → P x) → All P xs
in_all P [] f = tt
in_all P (x ∷ xs) f = (f x (inl refl), in_all P xs (λ y i. f y (inr i)))

-- where the buffers hold the labels, the list of cluster k and the sums of a state, what a scan finds are the neighbours of the rules
pub neighbours-nearest : (w h : ℕ) (s : State) (k : ℕ) (labels links table : List ℕ) → labels ≡ s.labels → list_at links table k ≡ (cluster s k).pixels
    → label s (get_or (cluster s k).pixels 0 0) ≡ k → sum_at table k ≡ (cluster s k).sum → ((l : ℕ) → In l (neighbours w h s k) → sum_at table l ≡ (cluster s l).sum)
    → nearest_of (diff_at table k) (labels_around w h labels k (list_at links table k) []) ≡ nearest_of (rank s k) (neighbours w h s k)
unfolding neighbours rank
neighbours-nearest w h s k labels links table a b c d e =
    rw (a, b, c) (nearest-same (diff_at table k) (rank s k) (labels_around w h s.labels k (cluster s k).pixels [])
    (in_all (λ l. diff_at table k l ≡ rank s k l) (labels_around w h s.labels k (cluster s k).pixels []) (λ l i. ap₂ (λ x y. color_diff (average x) (average y)) d (e l (rw c i)))))

-- ---- a label noted

-- the labels at places of the image
pub notable : (labels table : List ℕ) (size marks : ℕ) → ((q : ℕ) → q < size → get_or labels q 0 ≢ 0 → Notable table marks (get_or labels q 0))
    → (is : List (Option ℕ)) → AllSome (λ q. q < size) is → (i : ℕ) → get_or (map (place_label labels) is) i 0 ≢ 0 → Notable table marks (get_or (map (place_label labels) is) i 0)
notable labels table size marks f [] a i n = absurd (n refl)
notable labels table size marks f (off ∷ is) a zero n = absurd (n refl)
notable labels table size marks f (some q ∷ is) a zero n = f q a.0 n
notable labels table size marks f (off ∷ is) a (suc i) n = notable labels table size marks f is a.1 i n
notable labels table size marks f (some q ∷ is) a (suc i) n = notable labels table size marks f is a.1 i n

-- the labels found so far, with l
abbrev pub found-with : ℕ → ℕ → List ℕ → List ℕ
found-with own l found = if eqb l 0 || eqb l own then found else insert_once l found

-- the labels found so far are those marked in this visit, and what is known of them is what the rules say
pub record Holds (key : ℕ → ℕ) (visit : ℕ) (s : Scan) (found : List ℕ) : Type 0 where
  pub rising : Rising found
  pub marked : (j : ℕ) → eqb (get_or s.marks j 0) visit ≡ member j found
  pub low : (j : ℕ) → get_or s.marks j 0 ≤ visit
  pub right : s.nearest ≡ nearest_of key found

module _ (key : ℕ → ℕ) (own visit : ℕ) where
  pub noted-length : (l : ℕ) (s : Scan) → length (noted key own visit l s).marks ≡ length s.marks
  unfolding noted
  noted-length l s = pick (eqb l 0 || eqb l own) (eqb (get_or s.marks l 0) visit)
    where
      pick : (a b : Bool)
          → length (if a then s else (if b then s else record { marks = set s.marks l visit; nearest = with_neighbour s.nearest l (key l) })).marks ≡ length s.marks
      pick true b = refl
      pick false true = refl
      pick false false = length-set s.marks l visit

  pub noted-count : (l : ℕ) (s : Scan) → (noted key own visit l s).nearest.count ≤ s.nearest.count + 1
  unfolding noted with_neighbour
  noted-count l s = pick (eqb l 0 || eqb l own) (eqb (get_or s.marks l 0) visit) (closer s.nearest l (key l))
    where
      more : Bool → Nearest
      more c = if c then record { count = s.nearest.count + 1; target = l; diff = key l } else record { count = s.nearest.count + 1; target = s.nearest.target; diff = s.nearest.diff }

      pick : (a b c : Bool) → (if a then s else (if b then s else record { marks = set s.marks l visit; nearest = more c })).nearest.count ≤ s.nearest.count + 1
      pick true b c = omega arith
      pick false true c = omega arith
      pick false false true = omega arith
      pick false false false = omega arith

  pub noted-holds : (l : ℕ) (s : Scan) (found : List ℕ) → (l ≢ 0 → l < length s.marks) → Holds key visit s found → Holds key visit (noted key own visit l s) (found-with own l found)
  unfolding noted
  noted-holds l s found fits H = pick (eqb l 0) refl (eqb l own) (eqb (get_or s.marks l 0) visit) refl
    where
      new : Scan
      new = record { marks = set s.marks l visit; nearest = with_neighbour s.nearest l (key l) }

      fresh : l < length s.marks → member l found ≡ false → Holds key visit new (insert_once l found)
      fresh inside m = record {
        rising = insert-rising l found H.rising;
        marked = λ j. mark j (ℕ_discrete j l);
        low = λ j. under j (ℕ_discrete j l);
        right = ap (λ f. with_neighbour f l (key l)) H.right ∙ sym (nearest-added key l found H.rising m);
      }
        where
          mark : (j : ℕ) → Dec (j ≡ l) → eqb (get_or (set s.marks l visit) j 0) visit ≡ member j (insert_once l found)
          mark j (yes e) = rw (e, get_or-set_same s.marks l visit 0 inside) (is_true (eqb visit visit) (eqb_refl visit) ∙ sym (is_true (member l (insert_once l found)) (in-member l (insert_once l found) (insert-new l found))))
          mark j (no n) = rw (get_or-set_other s.marks l j visit 0 n, insert-other j l found n) (H.marked j)

          under : (j : ℕ) → Dec (j ≡ l) → get_or (set s.marks l visit) j 0 ≤ visit
          under j (yes e) = rw (e, get_or-set_same s.marks l visit 0 inside) (omega arith)
          under j (no n) = rw (get_or-set_other s.marks l j visit 0 n) (H.low j)

      pick : (a : Bool) → eqb l 0 ≡ a → (b c : Bool) → eqb (get_or s.marks l 0) visit ≡ c → Holds key visit (if a || b then s else (if c then s else new)) (if a || b then found else insert_once l found)
      pick true e b c d = H
      pick false e true c d = H
      pick false e false true d = rw (insert-there l found H.rising (subst T (sym (sym (H.marked l) ∙ d)) tt)) H
      pick false e false false d = fresh (fits (eqb-false l 0 e)) (sym (H.marked l) ∙ d)

  -- a place of the cluster's own label, or off the image, adds nothing
  noted-own : (labels : List ℕ) (b : Bool) (j : ℕ) → get_or labels j 0 ≡ own → (s : Scan) → noted key own visit (place_label labels (if b then some j else off)) s ≡ s
  unfolding noted
  noted-own labels true j e s = rw (e, eqb_yes own own refl, or-true (eqb own 0))
  noted-own labels false j e s = refl

  -- nor do the four places around a pixel
  pub inside-none : (labels : List ℕ) (w h p : ℕ) → get_or labels (p - w) 0 ≡ own → get_or labels (p - 1) 0 ≡ own → get_or labels (p + 1) 0 ≡ own → get_or labels (p + w) 0 ≡ own → (s : Scan)
      → noted_four key own visit (map (place_label labels) (sides w h p)) s ≡ s
  unfolding noted_four sides up down left right
  inside-none labels w h p a b c d s =
      rw (noted-own labels (leb w p) (p - w) a s, noted-own labels (ltb (p + w) (w * h)) (p + w) d s, noted-own labels (ltb 0 (p % w)) (p - 1) b s, noted-own labels (ltb (p % w + 1) w) (p + 1) c s)

  pub each-length : (ls : List ℕ) (s : Scan) → length (each ls (noted key own visit) s).marks ≡ length s.marks
  each-length [] s = refl
  each-length (l ∷ ls) s = each-length ls (noted key own visit l s) ∙ noted-length l s

  pub each-count : (ls : List ℕ) (s : Scan) → (each ls (noted key own visit) s).nearest.count ≤ s.nearest.count + length ls
  each-count [] s = omega arith
  each-count (l ∷ ls) s = omega (arith, each-count ls (noted key own visit l s), noted-count l s)

  -- t is the scan s after the first i of some labels: at most i neighbours more
  pub some-noted : (ls : List ℕ) (i : ℕ) (s t : Scan) → i ≤ length ls → t ≡ each (take i ls) (noted key own visit) s → t.nearest.count ≤ s.nearest.count + i
  some-noted ls i s t l e = rw e (omega (arith, each-count (take i ls) s, length-take-le i ls l))

  -- all
  pub all-noted : (ls : List ℕ) (i : ℕ) (s t : Scan) → length ls ≤ i → t ≡ each (take i ls) (noted key own visit) s → t ≡ each ls (noted key own visit) s
  all-noted ls i s t l e = e ∙ ap (λ xs. each xs (noted key own visit) s) (take_all i ls l)

  -- the labels at places of the image, in turn
  pub each_holds : (labels : List ℕ) (size marks : ℕ) → ((q : ℕ) → q < size → get_or labels q 0 ≢ 0 → get_or labels q 0 < marks)
      → (is : List (Option ℕ)) → AllSome (λ q. q < size) is → (s : Scan) (found : List ℕ) → length s.marks ≡ marks → Holds key visit s found
      → Holds key visit (each (map (place_label labels) is) (noted key own visit) s) (labels_at labels own is found)
  unfolding labels_at
  each_holds labels size marks f [] a s found e H = H
  each_holds labels size marks f (off ∷ is) a s found e H =
      each_holds labels size marks f is a.1 (noted key own visit 0 s) found (noted-length 0 s ∙ e) (noted-holds 0 s found (λ n. absurd (n refl)) H)
  each_holds labels size marks f (some i ∷ is) a s found e H =
      let l = get_or labels i 0 in
      each_holds labels size marks f is a.1 (noted key own visit l s) (found-with own l found) (noted-length l s ∙ e) (noted-holds l s found (λ n. rw e (f i a.0 n)) H)
