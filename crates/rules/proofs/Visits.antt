-- Stage 2 keeps what holds: each visit, each pass, all of them.
use Rattle.std.specs.Prelude.{if◌then◌else◌}
use mathlib.Core.Path.{◌≡◌, refl, sym, ap, ◌∙◌, subst}
use mathlib.Core.Logic.{◌≢◌, ◌⊎◌, inl, inr, by_cases}
use mathlib.Core.Bool.{Bool, true, false, ◌||◌}
use mathlib.Core.List.{List, [], ◌∷◌}
use mathlib.Core.Option.{Option, some, none as off}
use Prim.Native.Nat.{ℕ, zero, suc, ◌≤◌, ◌<◌}
use native.Mathlib.Decide.{ℕ_discrete}
use native.Mathlib.Omega.{arith}
use borrow.Author.Tests.{eqb-false, eqb-true, ltb-false, ltb-true}
use lib.Dec.{T, eqb, ltb, leb}
use lib.ListN.{length, get_or}
use Rattle.rules.specs.Base.{none_above, times, insert_once, least}
use Rattle.rules.specs.Color.{RunnerConfig, ◌⊕◌, discards}
use Rattle.rules.specs.Grid.{sides}
use Rattle.rules.specs.State.{State, cluster, label, area, emptied, with_cluster, with_residue, merged_to, deeper, put_out, merge_cluster_into, deepen_cluster_into}
use Rattle.rules.specs.Stage2.{labels_at, labels_around, neighbours, rank, deepens, isolated, merge_into_nearest, by_neighbours, visit, pass, passes}
use Rattle.rules.specs.Ledger.{Held, ledger}
use Rattle.rules.specs.Claim.{bit, occurs, Stands}
use Rattle.rules.specs.Code.Early.{owned}
use Rattle.rules.proofs.Facts.{eqb_yes, bit-T, eqb_no}
use Rattle.rules.proofs.Basic.{Moved, three, merge-f, merge-t, merge-moved, deepen-f, deepen-t, deepen-moved}
use Rattle.rules.proofs.Sound.{Sound, plain-sound, deepened-sound}

-- what each of n steps keeps, n steps keep
pub times-keep {ℓ κ} : {S : Type ℓ} (I : ℕ → S → Type κ) (f : ℕ → S → S) → ((i : ℕ) (s : S) → I i s → I (suc i) (f i s)) → (s : S) → I 0 s → (n : ℕ) → I n (times n f s)
times-keep I f step s z zero = z
times-keep I f step s z (suc n) = step n (times n f s) (times-keep I f step s z n)

-- ---- every entry of a list

abbrev pub All : (ℕ → Type 0) → List ℕ → Type 0
All P [] = Unit {0}
All P (x ∷ xs) = P x × All P xs

pub insert_all : (P : ℕ → Type 0) (a : ℕ) (xs : List ℕ) → P a → All P xs → All P (insert_once a xs)
insert_all P a [] p q = (p, tt)
insert_all P a (x ∷ xs) p q = pick (ltb a x) (eqb a x) (insert_all P a xs p q.1)
  where
    pick : (b c : Bool) → All P (insert_once a xs) → All P (if b then a ∷ x ∷ xs else (if c then x ∷ xs else x ∷ insert_once a xs))
    pick true c r = (p, q)
    pick false true r = q
    pick false false r = (q.0, r)

pub least-all : (P : ℕ → Type 0) (key : ℕ → ℕ) (x : ℕ) (xs : List ℕ) → P x → All P xs → P (least key x xs)
least-all P key x [] p q = p
least-all P key x (y ∷ ys) p q = pick (ltb (key y) (key x)) (least-all P key y ys q.0 q.1) (least-all P key x ys p q.1)
  where
    pick : (b : Bool) → P (least key y ys) → P (least key x ys) → P (if b then least key y ys else least key x ys)
    pick true u v = u
    pick false u v = v

-- ---- neighbours

-- t is the label of a pixel, and neither 0 nor own
abbrev pub Near : State → ℕ → ℕ → Type 0
Near s own t = (t ≢ 0) × (t ≢ own) × ((i : ℕ) × (label s i ≡ t))

module _ (o : RunnerConfig) (w h : ℕ) where
  labels_at-near : (s : State) (own : ℕ) (is : List (Option ℕ)) (found : List ℕ) → All (Near s own) found → All (Near s own) (labels_at s.labels own is found)
  unfolding labels_at
  labels_at-near s own [] found a = a
  labels_at-near s own (off ∷ is) found a = labels_at-near s own is found a
  labels_at-near s own (some i ∷ is) found a =
      labels_at-near s own is (if eqb (label s i) 0 || eqb (label s i) own then found else insert_once (label s i) found)
      (pick (eqb (label s i) 0) refl (eqb (label s i) own) refl)
    where
      pick : (b : Bool) → eqb (label s i) 0 ≡ b → (c : Bool) → eqb (label s i) own ≡ c → All (Near s own) (if b || c then found else insert_once (label s i) found)
      pick true e c d = a
      pick false e true d = a
      pick false e false d = insert_all (Near s own) (label s i) found (eqb-false (label s i) 0 e, eqb-false (label s i) own d, (i, refl)) a

  around4-near : (s : State) (own : ℕ) (ps found : List ℕ) → All (Near s own) found → All (Near s own) (labels_around w h s.labels own ps found)
  unfolding labels_around
  around4-near s own [] found a = a
  around4-near s own (p ∷ ps) found a = around4-near s own ps (labels_at s.labels own (sides w h p) found) (labels_at-near s own (sides w h p) found a)

  pub neighbours-near : (s : State) (k : ℕ) → All (Near s (label s (get_or (cluster s k).pixels 0 0))) (neighbours w h s k)
  unfolding neighbours
  neighbours-near s k = around4-near s (label s (get_or (cluster s k).pixels 0 0)) (cluster s k).pixels [] tt

-- what a visit can do, with why it deepened: nothing; put out (area above hierarchical); what a cluster with no neighbour does; merge, plainly or deepening
pub visit-cases-why {ℓ} : (o : RunnerConfig) (w h a k : ℕ) (s : State) (P : State → Type ℓ)
    → (area (cluster s k) ≢ a → P s)
    → (area (cluster s k) ≡ a → o.hierarchical < a → P (put_out k s))
    → (area (cluster s k) ≡ a → a ≤ o.hierarchical → neighbours w h s k ≡ [] → P (isolated o a k s))
    → (area (cluster s k) ≡ a → a ≤ o.hierarchical → (t : ℕ) → Near s (label s (get_or (cluster s k).pixels 0 0)) t → P (merge_cluster_into k t s))
    → (area (cluster s k) ≡ a → a ≤ o.hierarchical → (t : ℕ) → Near s (label s (get_or (cluster s k).pixels 0 0)) t → (hollow : Bool) → deepens o w h s k t ≡ true → P (deepen_cluster_into hollow k t s))
    → P (visit o w h a k s)
unfolding visit by_neighbours merge_into_nearest
visit-cases-why o w h a k s P idle out lone plainly deeply = pick (eqb (area (cluster s k)) a) refl (ltb o.hierarchical a) refl
  where
    own : ℕ
    own = label s (get_or (cluster s k).pixels 0 0)

    goes : area (cluster s k) ≡ a → a ≤ o.hierarchical → (t : ℕ) → Near s own t → (hollow b : Bool) → deepens o w h s k t ≡ b → P (if b then deepen_cluster_into hollow k t s else merge_cluster_into k t s)
    goes e l t N hollow true z = deeply e l t N hollow z
    goes e l t N hollow false z = plainly e l t N

    some_of : area (cluster s k) ≡ a → a ≤ o.hierarchical → (ns : List ℕ) → neighbours w h s k ≡ ns → All (Near s own) ns → P (by_neighbours o w h a k ns s)
    some_of e l [] z N = lone e l z
    some_of e l (x ∷ xs) z N =
        goes e l (least (rank s k) x xs) (least-all (Near s own) (rank s k) x xs N.0 N.1) (leb (length (x ∷ xs)) o.hollow_neighbours) (deepens o w h s k (least (rank s k) x xs)) refl

    pick : (b : Bool) → eqb (area (cluster s k)) a ≡ b → (c : Bool) → ltb o.hierarchical a ≡ c → P (if b then (if c then put_out k s else by_neighbours o w h a k (neighbours w h s k) s) else s)
    pick true e true z = out (eqb-true (area (cluster s k)) a e) (ltb-true o.hierarchical a z)
    pick true e false z = some_of (eqb-true (area (cluster s k)) a e) (ltb-false o.hierarchical a z) (neighbours w h s k) refl (neighbours-near o w h s k)
    pick false e c z = idle (eqb-false (area (cluster s k)) a e)

-- what a visit can do: nothing; put out (area above hierarchical); what a cluster with no neighbour does; merge, plainly or deepening
pub visit-cases {ℓ} : (o : RunnerConfig) (w h a k : ℕ) (s : State) (P : State → Type ℓ)
    → (area (cluster s k) ≢ a → P s)
    → (area (cluster s k) ≡ a → o.hierarchical < a → P (put_out k s))
    → (area (cluster s k) ≡ a → a ≤ o.hierarchical → neighbours w h s k ≡ [] → P (isolated o a k s))
    → (area (cluster s k) ≡ a → a ≤ o.hierarchical → (t : ℕ) → Near s (label s (get_or (cluster s k).pixels 0 0)) t → P (merge_cluster_into k t s))
    → (area (cluster s k) ≡ a → a ≤ o.hierarchical → (t : ℕ) → Near s (label s (get_or (cluster s k).pixels 0 0)) t → (hollow : Bool) → P (deepen_cluster_into hollow k t s))
    → P (visit o w h a k s)
visit-cases o w h a k s P idle out lone plainly deeply = visit-cases-why o w h a k s P idle out lone plainly (λ e l t N b z. deeply e l t N b)

-- and what a cluster with no neighbour does: put out, or nothing
pub isolated-cases {ℓ} : (o : RunnerConfig) (w h a k : ℕ) (s : State) (P : State → Type ℓ) → P (put_out k s) → P s → P (isolated o a k s)
unfolding isolated
isolated-cases o w h a k s P x y = elim (none_above a s.listed || discards o) as (λ b. P (if b then put_out k s else s)) [ true ↦ x | false ↦ y ]

occurs-first : (xs : List ℕ) → 0 < length xs → occurs (get_or xs 0 0) xs ≢ 0
occurs-first [] z e = absurd (omega arith)
occurs-first (x ∷ xs) z e = let y : bit (eqb x x) ≡ 1 = ap bit (eqb_yes x x refl) in omega arith

-- ---- the state between visits: before slot k is visited at area a

pub record Going (image : List ℕ) (size : ℕ) (a k : ℕ) (s : State) : Type 0 where
  pub sound : Sound image size (ledger s.log) (owned s.log) s
  -- a cluster inside another was visited before
  pub past : (j : ℕ) → (cluster s j).merged_into ≢ 0 → (area (cluster s j) < a) ⊎ ((area (cluster s j) ≡ a) × (j < k))

module _ {image : List ℕ} {size : ℕ} where
  pub later : {a k : ℕ} {s : State} → Going image size a k s → Going image size a (suc k) s
  later {a} {k} {s} G = record { sound = G.sound; past = λ j x. elim (G.past j x) [ inl x ↦ inl x | inr x ↦ inr (x.0, omega arith) ] }

  put-sound : {h O : Held} {s : State} (k : ℕ) → Sound image size h O s → Sound image size h O (put_out k s)
  unfolding put_out
  put-sound k S = record {
    basic = record { lists = S.basic.lists; sums = S.basic.sums; shown = S.basic.shown; places = S.basic.places; slots = S.basic.slots; width = S.basic.width };
    residues = S.residues;
    owns = S.owns;
    forest = S.forest;
    tops = S.tops;
    labels-top = S.labels-top;
  }

  pub put_going : {a k : ℕ} {s : State} (j : ℕ) → Going image size a k s → Going image size a k (put_out j s)
  unfolding put_out
  put_going j G = record { sound = put-sound j G.sound; past = G.past }

  module _ (a k : ℕ) (s : State) (G : Going image size a k s) (pos : 0 < a) (e : area (cluster s k) ≡ a) where
    abbrev pub first : ℕ
    first = get_or (cluster s k).pixels 0 0

    pub stands : T (ledger s.log k first)
    stands = bit-T (ledger s.log k first) (λ z. occurs-first (cluster s k).pixels (omega arith) (G.sound.basic.lists k first ∙ z))

    pub root : (cluster s k).merged_into ≡ 0
    root = elim (ℕ_discrete (cluster s k).merged_into 0) [ yes z ↦ z | no z ↦ absurd (elim (G.past k z) [ inl x ↦ omega arith | inr x ↦ omega arith ]) ]

    pub mine : label s first ≡ k
    mine = G.sound.tops k first stands root

    module _ (t : ℕ) (N : Near s (label s first) t) where
      pub target-stands : Stands (ledger s.log) t
      target-stands = (N.2.0, subst (λ m. T (ledger s.log m N.2.0)) N.2.1 (G.sound.basic.shown N.2.0 (λ z. N.0 (sym N.2.1 ∙ z))))

      pub target-root : (cluster s t).merged_into ≡ 0
      unfolding target-stands
      target-root = subst (λ m. (cluster s m).merged_into ≡ 0) N.2.1 (G.sound.labels-top t target-stands.0 target-stands.1)

      pub k≢t : k ≢ t
      k≢t z = N.1 (sym z ∙ sym mine)

      pub k-slot : k < length s.clusters
      k-slot = G.sound.basic.slots k first stands

      pub t-slot : t < length s.clusters
      t-slot = G.sound.basic.slots t target-stands.0 target-stands.1

      -- what a plain merge changes, and what becomes of k and t
      pub merge-changes : Moved k t s (merge_cluster_into k t s)
      merge-changes = merge-moved k t s k≢t k-slot t-slot

      pub merge-from : cluster (merge_cluster_into k t s) k ≡ emptied (cluster s k)
      merge-from = merge-f k t s k≢t k-slot t-slot

      pub merge-to : cluster (merge_cluster_into k t s) t ≡ with_residue ((cluster s t).residue ⊕ (cluster s k).residue) (with_cluster (cluster s k) (cluster s t))
      merge-to = merge-t k t s k≢t k-slot t-slot

      -- and a deepening one
      pub deepen-changes : (hollow : Bool) → Moved k t s (deepen_cluster_into hollow k t s)
      deepen-changes = deepen-moved k t s k≢t k-slot t-slot

      pub deepen-from : (hollow : Bool) → cluster (deepen_cluster_into hollow k t s) k ≡ merged_to t (cluster s k)
      deepen-from = deepen-f k t s k≢t k-slot t-slot

      pub deepen-to : (hollow : Bool) → cluster (deepen_cluster_into hollow k t s) t ≡ deeper hollow k (with_cluster (cluster s k) (cluster s t))
      deepen-to = deepen-t k t s k≢t k-slot t-slot

      kept : {s' : State} → Moved k t s s' → ((cluster s' k).merged_into ≢ 0 → (area (cluster s' k) < a) ⊎ ((area (cluster s' k) ≡ a) × (k < suc k)))
          → (j : ℕ) → (cluster s' j).merged_into ≢ 0 → (area (cluster s' j) < a) ⊎ ((area (cluster s' j) ≡ a) × (j < suc k))
      kept {s'} M x =
          three k t (λ j. (cluster s' j).merged_into ≢ 0 → (area (cluster s' j) < a) ⊎ ((area (cluster s' j) ≡ a) × (j < suc k)))
          x (λ z. absurd (z (M.t-merged ∙ target-root)))
          (λ j u v. subst (λ c. c.merged_into ≢ 0 → (area c < a) ⊎ ((area c ≡ a) × (j < suc k))) (sym (M.other j u v)) ((later G).past j))

      pub merge-going : Going image size a (suc k) (merge_cluster_into k t s)
      unfolding merge_cluster_into emptied
      merge-going = record {
        sound = plain-sound G.sound k t k≢t root target-root (first, stands) target-stands;
        past = kept merge-changes (λ z. absurd (z (ap (λ c. c.merged_into) merge-from ∙ root)));
      }

      pub deepen-going : (hollow : Bool) → Going image size a (suc k) (deepen_cluster_into hollow k t s)
      unfolding deepen_cluster_into merged_to
      deepen-going hollow = record {
        sound = deepened-sound G.sound k t k≢t root target-root (first, stands) target-stands hollow N.0;
        past = kept (deepen-changes hollow) (λ z. inr (ap area (deepen-from hollow) ∙ e, omega arith));
      }

  pub visit-going : (o : RunnerConfig) (w h a k : ℕ) (s : State) → Going image size a k s → 0 < a → Going image size a (suc k) (visit o w h a k s)
  visit-going o w h a k s G pos =
      visit-cases o w h a k s (Going image size a (suc k)) (λ x. later G) (λ e l. put_going k (later G))
      (λ e l z. isolated-cases o w h a k s (Going image size a (suc k)) (put_going k (later G)) (later G))
      (λ e l t N. merge-going a k s G pos e t N) (λ e l t N b. deepen-going a k s G pos e t N b)

  -- after the last slot at area a comes the first at the next area
  pub next-area : {a n : ℕ} {s : State} → Going image size a n s → Going image size (suc a) 0 s
  next-area G = record { sound = G.sound; past = λ j x. inl (elim (G.past j x) [ inl y ↦ omega arith | inr y ↦ omega arith ]) }

  pub pass-going : (o : RunnerConfig) (w h a : ℕ) (s : State) → Going image size (suc a) 0 s → Going image size (suc (suc a)) 0 (pass o w h (suc a) s)
  unfolding pass
  pass-going o w h a s G =
      next-area (times-keep (λ k u. Going image size (suc a) k u) (visit o w h (suc a)) (λ k u H. visit-going o w h (suc a) k u H (omega arith)) s G (length s.clusters))

  module _ (o : RunnerConfig) (w h : ℕ) (P : State → Type 0) (step : (a k : ℕ) (s : State) → Going image size a k s → 0 < a → area (cluster s k) ≡ a → P s → P (visit o w h a k s)) where
    -- what every visit keeps holds after each slot of a pass
    pub slots-keep : (a : ℕ) → 0 < a → (s : State) → Going image size a 0 s × P s → (n : ℕ) → Going image size a n (times n (visit o w h a) s) × P (times n (visit o w h a) s)
    unfolding visit
    slots-keep a pos = times-keep (λ k u. Going image size a k u × P u) (visit o w h a) (λ k u R. (
      visit-going o w h a k u R.0 pos,
      by_cases (ℕ_discrete (area (cluster u k)) a)
          (λ e. step a k u R.0 pos e R.1)
          (λ d. rw (eqb_no (area (cluster u k)) a d) R.1),
    ))

    -- and after each pass
    pub passes-keep : (s : State) → Going image size 1 0 s × P s → (m : ℕ) → Going image size (suc m) 0 (passes o w h m s) × P (passes o w h m s)
    unfolding passes pass
    passes-keep = times-keep (λ a u. Going image size (suc a) 0 u × P u) (λ a. pass o w h (suc a))
        (λ a u R. let r = slots-keep (suc a) (omega arith) u R (length u.clusters) in (next-area r.0, r.1))

  pub passes-going : (o : RunnerConfig) (w h : ℕ) (s : State) → Going image size 1 0 s → (n : ℕ) → Going image size (suc n) 0 (passes o w h n s)
  unfolding passes
  passes-going o w h s G = times-keep (λ a u. Going image size (suc a) 0 u) (λ a. pass o w h (suc a)) (pass-going o w h) s G
