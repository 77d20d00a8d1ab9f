-- What the rules are written with: counted loops, tests on numbers and lists.
use Rattle.std.specs.Prelude.{Bool, true, false, ◌&&◌, ◌||◌, List, [], ◌∷◌, ◌++◌, ℕ, zero, suc, ◌+◌, ◌-◌, leb, ltb, eqb}
use Rattle.std.specs.Prelude.{if◌then◌else◌}

-- the steps f 0, f 1, .. f (n - 1), in that order, from s
abbrev pub times {ℓ} : {S : Type ℓ} → ℕ → (ℕ → S → S) → S → S
times zero f s = s
times (suc n) f s = f n (times n f s)

-- the steps f (n - 1), .. f 1, f 0, in that order, from s
abbrev pub times_back {ℓ} : {S : Type ℓ} → ℕ → (ℕ → S → S) → S → S
times_back zero f s = s
times_back (suc n) f s = times_back n f (f n s)

-- a step for each entry of a list, from the left
abbrev pub each {ℓ} : {S : Type ℓ} → List ℕ → (ℕ → S → S) → S → S
each [] f s = s
each (x ∷ xs) f s = each xs f (f x s)

-- a step for each entry of a list, from the right
abbrev pub each_back {ℓ} : {S : Type ℓ} → List ℕ → (ℕ → S → S) → S → S
each_back [] f s = s
each_back (x ∷ xs) f s = f x (each_back xs f s)

-- 0, 1, .. n - 1
unfoldable pub up_to : ℕ → List ℕ
up_to zero = []
up_to (suc n) = up_to n ++ (n ∷ [])

-- whether a is an entry
abbrev pub member : ℕ → List ℕ → Bool
member a [] = false
member a (x ∷ xs) = eqb a x || member a xs

-- the entries of which f holds
abbrev pub keep : (ℕ → Bool) → List ℕ → List ℕ
keep f [] = []
keep f (x ∷ xs) = if f x then x ∷ keep f xs else keep f xs

-- no entry is larger than a
abbrev pub none_above : ℕ → List ℕ → Bool
none_above a [] = true
none_above a (x ∷ xs) = leb x a && none_above a xs

-- a number put into a rising list, once
abbrev pub insert_once : ℕ → List ℕ → List ℕ
insert_once a [] = a ∷ []
insert_once a (x ∷ xs) = if ltb a x then a ∷ x ∷ xs else (if eqb a x then x ∷ xs else x ∷ insert_once a xs)

-- an entry put before the first one whose key is not smaller
abbrev pub insert_by : (ℕ → ℕ) → ℕ → List ℕ → List ℕ
insert_by key a [] = a ∷ []
insert_by key a (x ∷ xs) = if leb (key a) (key x) then a ∷ x ∷ xs else x ∷ insert_by key a xs

-- sorted by key; entries of one key stay in their order
unfoldable pub sort_by : (ℕ → ℕ) → List ℕ → List ℕ
sort_by key [] = []
sort_by key (x ∷ xs) = insert_by key x (sort_by key xs)

-- the entry of x ∷ xs with the smallest key, the first of several
abbrev pub least : (ℕ → ℕ) → ℕ → List ℕ → ℕ
least key x [] = x
least key x (y ∷ ys) = if ltb (key y) (key x) then least key y ys else least key x ys

-- the distance of two numbers
abbrev pub apart : ℕ → ℕ → ℕ
apart a b = (a - b) + (b - a)
