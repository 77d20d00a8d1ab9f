-- How lists lie one after another, and that the layout of a state holds it.
use mathlib.Core.Path.{◌≡◌, refl, sym, ap, ◌∙◌, subst}
use mathlib.Core.Logic.{by_cases}
use mathlib.Core.List.{List, [], ◌∷◌, ◌++◌, map, append_assoc, append-nil, flatten}
use Prim.Native.Nat.{ℕ, zero, suc, ◌+◌, ◌*◌, ◌≤◌, ◌<◌}
use native.Mathlib.Decide.{ℕ_discrete}
use native.Mathlib.Nat.{mul-suc, mul-le-mul_left}
use native.Mathlib.Omega.{arith}
use lib.ListN.{length, get_or, drop, length-append, length-map, get_or-append, get_or-map}
use lib.Seq.{get_or-append-add, get_or-append_seam}
use Rattle.rules.specs.Base.{up_to}
use Rattle.rules.specs.State.{State}
use Rattle.rules.specs.Layout.{slot_width, link, links, sum_numbers, slot, table}
use Rattle.rules.specs.Code.InBuffers.{InBuffers}
use Rattle.rules.specs.Calls.{Buffers, leaves}

flatten-append : (g : ℕ → List ℕ) (xs : List ℕ) (n : ℕ) → flatten (map g (xs ++ (n ∷ []))) ≡ flatten (map g xs) ++ g n
unfolding flatten
flatten-append g [] n = append-nil (g n)
flatten-append g (x ∷ xs) n = ap (λ l. g x ++ l) (flatten-append g xs n) ∙ sym (append_assoc (g x) (flatten (map g xs)) (g n))

pub flatten-snoc : (g : ℕ → List ℕ) (n : ℕ) → flatten (map g (up_to (suc n))) ≡ flatten (map g (up_to n)) ++ g n
unfolding up_to
flatten-snoc g n = flatten-append g (up_to n) n

pub up_to-length : (n : ℕ) → length (up_to n) ≡ n
unfolding up_to
up_to-length zero = refl
up_to-length (suc n) = length-append (up_to n) (n ∷ []) ∙ omega (arith, up_to-length n)

pub up_to-at : (n p : ℕ) → p < n → get_or (up_to n) p 0 ≡ p
unfolding up_to
up_to-at zero p l = absurd (omega arith)
up_to-at (suc n) p l = by_cases (ℕ_discrete p n)
    (λ z. subst (λ x. get_or (up_to n ++ (n ∷ [])) x 0 ≡ x) (sym z) (subst (λ x. get_or (up_to n ++ (n ∷ [])) x 0 ≡ n) (up_to-length n) (get_or-append_seam (up_to n) n [] 0)))
    (λ z. get_or-append (up_to n) (n ∷ []) 0 p (omega (arith, up_to-length n)) ∙ up_to-at n p (omega arith))

-- one number each
get_d_any : (xs : List ℕ) (i d e : ℕ) → i < length xs → get_or xs i d ≡ get_or xs i e
get_d_any [] i d e l = absurd (omega arith)
get_d_any (x ∷ xs) zero d e l = refl
get_d_any (x ∷ xs) (suc i) d e l = get_d_any xs i d e (omega arith)

single : (f : ℕ → ℕ) (n p : ℕ) → p < n → get_or (map f (up_to n)) p 0 ≡ f p
single f n p l = get_d_any (map f (up_to n)) p 0 (f 0) (omega (arith, length-map (up_to n) f, up_to-length n)) ∙ get_or-map f (up_to n) p 0 ∙ ap f (up_to-at n p l)

-- where n entries are written one after another, each k long
pub spread : (g : ℕ → List ℕ) (k : ℕ) → ((i : ℕ) → length (g i) ≡ k) → (n : ℕ) → length (flatten (map g (up_to n))) ≡ k * n
unfolding flatten up_to
spread g k e zero = omega arith
spread g k e (suc n) = ap length (flatten-snoc g n) ∙ length-append (flatten (map g (up_to n))) (g n) ∙ omega (arith, spread g k e n, e n, mul-suc k n)

pub spread_at : (g : ℕ → List ℕ) (k : ℕ) → ((i : ℕ) → length (g i) ≡ k) → (n i f : ℕ) → i < n → f < k → get_or (flatten (map g (up_to n))) (k * i + f) 0 ≡ get_or (g i) f 0
unfolding up_to
spread_at g k e zero i f l b = absurd (omega arith)
spread_at g k e (suc n) i f l b = ap (λ xs. get_or xs (k * i + f) 0) (flatten-snoc g n) ∙ go (ℕ_discrete i n) (spread_at g k e n i f)
  where
    go : Dec (i ≡ n) → (i < n → f < k → get_or (flatten (map g (up_to n))) (k * i + f) 0 ≡ get_or (g i) f 0) → get_or (flatten (map g (up_to n)) ++ g n) (k * i + f) 0 ≡ get_or (g i) f 0
    go (yes z) ih =
        subst (λ j. get_or (flatten (map g (up_to n)) ++ g n) (k * j + f) 0 ≡ get_or (g j) f 0) (sym z)
        (subst (λ x. get_or (flatten (map g (up_to n)) ++ g n) (x + f) 0 ≡ get_or (g n) f 0) (spread g k e n) (get_or-append-add (flatten (map g (up_to n))) (g n) f 0))
    go (no z) ih =
        let m : k * suc i ≤ k * n = mul-le-mul_left k (omega arith) in
        get_or-append (flatten (map g (up_to n))) (g n) 0 (k * i + f) (omega (arith, spread g k e n, mul-suc k i)) ∙ ih (omega arith) b

pub links-length : (s : State) → length (links s) ≡ length s.labels
unfolding links
links-length s = length-map (up_to (length s.labels)) (link s) ∙ up_to-length (length s.labels)

pub links-at : (s : State) (p : ℕ) → p < length s.labels → get_or (links s) p 0 ≡ link s p
unfolding links
links-at s p l = single (link s) (length s.labels) p l

pub table-length : (s : State) → length (table s) ≡ slot_width * length s.clusters
unfolding table slot sum_numbers
table-length s = spread (slot s) slot_width (λ j. refl) (length s.clusters)

pub table_at : (s : State) (k f : ℕ) → k < length s.clusters → f < slot_width → get_or (table s) (slot_width * k + f) 0 ≡ get_or (slot s k) f 0
unfolding table slot sum_numbers
table_at s k f l b = spread_at (slot s) slot_width (λ j. refl) (length s.clusters) k f l b

-- a state lies in buffers that its lists are written over
module _ (size : ℕ) (s : State) (e : length s.labels ≡ size) where
  pub leaves-in-buffers : (b : Buffers) → InBuffers size s (length s.clusters) (length s.outputs) (leaves s b).links (leaves s b).table (leaves s b).outputs
  unfolding leaves
  leaves-in-buffers b = record {
    slots = refl;
    entries = refl;
    linked = λ p l. get_or-append (links s) (drop (length (links s)) b.links) 0 p (omega (arith, e, links-length s)) ∙ links-at s p (omega (arith, e));
    numbers = λ k f l z.
        let m : slot_width * (k + 1) ≤ slot_width * length s.clusters = mul-le-mul_left slot_width (omega arith) in
        get_or-append (table s) (drop (length (table s)) b.table) 0 (slot_width * k + f) (omega (arith, table-length s)) ∙ table_at s k f l z;
    put = λ i l. get_or-append s.outputs (drop (length s.outputs) b.outputs) 0 i l;
  }
