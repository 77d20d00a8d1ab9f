-- The boundary of a visited cluster is smaller than its area exactly when some pixel of its list has all four neighbours in it: the hole list does
-- not matter. This holds where the least area is at least 1, since each hole child then passed the same test.
use Rattle.std.specs.Prelude.{if◌then◌else◌}
use mathlib.Core.Path.{◌≡◌, refl, sym, ap, ◌∙◌, subst}
use mathlib.Core.Logic.{◌≢◌, ◌⊎◌, inl, inr}
use mathlib.Core.Bool.{Bool, true, false, not, ◌&&◌, ◌||◌, true≢false}
use mathlib.Core.List.{List, [], ◌∷◌, ◌++◌}
use mathlib.Core.Option.{Option, some, none as off}
use Prim.Native.Nat.{ℕ, suc, ◌+◌, ◌*◌, ◌≤◌, ◌<◌}
use native.Mathlib.Omega.{arith}
use borrow.Author.Tests.{eqb-false, ltb-true}
use lib.Dec.{T, eqb, eqb→eq, ltb, lt→ltb, ltb→lt}
use lib.ListN.{length, get_or}
use Rattle.rules.specs.Base.{member, keep}
use Rattle.rules.specs.Color.{RunnerConfig, hierarchical_max, exceeds}
use Rattle.rules.specs.Grid.{sides}
use Rattle.rules.specs.State.{State, cluster, label, area, emptied, with_cluster, merged_to, deeper, with_residue, put_out, merge_cluster_into, deepen_cluster_into, plain, deepened}
use Rattle.rules.specs.Stage2.{prepare_stage2, hole_pixels, all_in, boundary, cluster_diff, patch_good, deepens, visit}
use Rattle.rules.specs.Run.{stage1}
use Rattle.rules.specs.Code.Order.{any_of, interior, start, turns}
use Rattle.rules.specs.Ledger.{Held, enter, ledger}
use Rattle.rules.specs.Claim.{bit, occurs, Stands, Holds}
use Rattle.rules.specs.Code.Early.{Basic}
use Rattle.rules.proofs.Facts.{is_true, T-or, T-or-l, T-or-r, eqb_yes, eqb_no, keep-le, same_bool, T-both, both_true, T_and}
use Rattle.rules.proofs.Basic.{Moved, three, plain_f, plain-o, plain-up, deepened-o, deepened-up, deepened-to}
use Rattle.rules.proofs.Visits.{Going, Near, visit-cases-why, isolated-cases, stands, root, k≢t, target-root, target-stands, merge-changes, deepen-changes, merge-to, deepen-from, deepen-to}
use Rattle.rules.proofs.Early.{settled}
use Rattle.rules.proofs.Slots.{stage1-slots}
use Rattle.rules.proofs.Outputs.{In, in-snoc}
use Rattle.rules.proofs.Order.{Turning, turns-keep, start-turning}

-- ---- members

pub member-occurs : (q : ℕ) (xs : List ℕ) (b : Bool) → occurs q xs ≡ bit b → member q xs ≡ b
member-occurs q [] true e = absurd (omega arith)
member-occurs q [] false e = refl
member-occurs q (x ∷ xs) b e = go (eqb q x) refl b e (member-occurs q xs)
  where
    all : (m : ℕ) (c : Bool) → 1 + m ≡ bit c → true ≡ c
    all m true z = refl
    all m false z = absurd (omega arith)

    go : (c : Bool) → eqb q x ≡ c → (b : Bool) → bit c + occurs q xs ≡ bit b → ((b : Bool) → occurs q xs ≡ bit b → member q xs ≡ b) → c || member q xs ≡ b
    go true z b y ih = all (occurs q xs) b y
    go false z b y ih = ih b (omega arith)

-- the list of a cluster has what the ledger has
pub member-held : {image : List ℕ} {size : ℕ} {h : Held} {s : State} → Basic image size h s → (k q : ℕ) → member q (cluster s k).pixels ≡ h k q
member-held {h = h} {s = s} B k q = member-occurs q (cluster s k).pixels (h k q) (B.lists k q)

pub in-member : (q : ℕ) (xs : List ℕ) → In q xs → T (member q xs)
in-member q [] i = i
in-member q (x ∷ xs) (inl e) = subst (λ b. T (b || member q xs)) (sym (eqb_yes q x e)) tt
in-member q (x ∷ xs) (inr i) = T-or-r (eqb q x) (member q xs) (in-member q xs i)

pub member-in : (q : ℕ) (xs : List ℕ) → T (member q xs) → In q xs
member-in q [] t = t
member-in q (x ∷ xs) t = elim (T-or (eqb q x) (member q xs) t) [ inl y ↦ inl (eqb→eq q x y) | inr y ↦ inr (member-in q xs y) ]

member-append : (q : ℕ) (xs ys : List ℕ) → T (member q (xs ++ ys)) → T (member q xs) ⊎ T (member q ys)
member-append q [] ys t = inr t
member-append q (x ∷ xs) ys t = elim (T-or (eqb q x) (member q (xs ++ ys)) t) [
  | inl y ↦ inl (T-or-l (eqb q x) (member q xs) y)
  | inr y ↦ elim (member-append q xs ys y) [ inl z ↦ inl (T-or-r (eqb q x) (member q xs) z) | inr z ↦ inr z ]
]

any_some : (f : ℕ → Bool) (xs : List ℕ) → T (any_of f xs) → (p : ℕ) × In p xs × T (f p)
any_some f [] t = absurd t
any_some f (x ∷ xs) t = elim (T-or (f x) (any_of f xs) t) [ inl y ↦ (x, inl refl, y) | inr y ↦ let r = any_some f xs y in (r.0, inr r.1, r.2) ]

some-any : (f : ℕ → Bool) (xs : List ℕ) (p : ℕ) → In p xs → T (f p) → T (any_of f xs)
some-any f [] p i t = i
some-any f (x ∷ xs) p (inl e) t = T-or-l (f x) (any_of f xs) (subst (λ m. T (f m)) e t)
some-any f (x ∷ xs) p (inr i) t = T-or-r (f x) (any_of f xs) (some-any f xs p i t)

-- ---- what keep leaves out

keep-short : (f : ℕ → Bool) (xs : List ℕ) → length (keep f xs) < length xs → (p : ℕ) × In p xs × (f p ≡ false)
keep-short f [] l = absurd (omega arith)
keep-short f (x ∷ xs) l = go (f x) refl l (keep-short f xs)
  where
    go : (b : Bool) → f x ≡ b → length (if b then x ∷ keep f xs else keep f xs) < suc (length xs) → (length (keep f xs) < length xs → (p : ℕ) × In p xs × (f p ≡ false)) → (p : ℕ) × In p (x ∷ xs) × (f p ≡ false)
    go true e m ih = let r = ih (omega arith) in (r.0, inr r.1, r.2)
    go false e m ih = (x, inl refl, e)

keep-drops : (f : ℕ → Bool) (xs : List ℕ) (p : ℕ) → In p xs → f p ≡ false → length (keep f xs) < length xs
keep-drops f [] p i e = absurd i
keep-drops f (x ∷ xs) p i e = go (f x) refl i (keep-drops f xs p)
  where
    go : (b : Bool) → f x ≡ b → (p ≡ x) ⊎ In p xs → (In p xs → f p ≡ false → length (keep f xs) < length xs) → length (if b then x ∷ keep f xs else keep f xs) < suc (length xs)
    go true z (inl y) ih = absurd (true≢false (sym z ∙ sym (ap f y) ∙ e))
    go true z (inr y) ih = omega (arith, ih y e)
    go false z y ih = omega (arith, keep-le f xs)

module _ (o : RunnerConfig) (w h : ℕ) where
  all_in-mono : (f g : ℕ → Bool) → ((q : ℕ) → T (f q) → T (g q)) → (is : List (Option ℕ)) → T (all_in f is) → T (all_in g is)
  unfolding all_in
  all_in-mono f g m [] t = tt
  all_in-mono f g m (off ∷ is) t = t
  all_in-mono f g m (some i ∷ is) t = let v = T-both (f i) (all_in f is) t in T_and (g i) (all_in g is) (m i v.0) (all_in-mono f g m is v.1)

  -- all in a, not all in a and outside b: one is in both
  all_in-diff : (a b : ℕ → Bool) (is : List (Option ℕ)) → T (all_in a is) → all_in (λ q. a q && not (b q)) is ≡ false → (q : ℕ) × T (a q) × T (b q)
  unfolding all_in
  all_in-diff a b [] t e = absurd (true≢false e)
  all_in-diff a b (off ∷ is) t e = absurd t
  all_in-diff a b (some i ∷ is) t e = go (a i) (b i) (λ x. x) (λ x. x) t e (all_in-diff a b is)
    where
      go : (u v : Bool) → (T u → T (a i)) → (T v → T (b i)) → T (u && all_in a is) → (u && not v) && all_in (λ q. a q && not (b q)) is ≡ false
          → (T (all_in a is) → all_in (λ q. a q && not (b q)) is ≡ false → (q : ℕ) × T (a q) × T (b q)) → (q : ℕ) × T (a q) × T (b q)
      go true true x y t e ih = (i, x tt, y tt)
      go true false x y t e ih = ih t e
      go false v x y t e ih = absurd t

  hole-in : (s : State) (ks : List ℕ) (q : ℕ) → T (member q (hole_pixels s ks)) → (c : ℕ) × In c ks × T (member q (cluster s c).pixels)
  unfolding hole_pixels
  hole-in s [] q t = absurd t
  hole-in s (k ∷ ks) q t = elim (member-append q (cluster s k).pixels (hole_pixels s ks) t) [
    | inl y ↦ (k, inl refl, y)
    | inr y ↦ let r = hole-in s ks q y in (r.0, inr r.1, r.2)
  ]

  -- a pixel that c holds with its four neighbours
  abbrev pub Core : (ℕ → Bool) → Type 0
  Core g = (p : ℕ) × T (g p) × T (all_in g (sides w h p))

  -- what a hole child c of k is: inside another, held by k, with such a pixel
  pub record Child (g : Held) (s : State) (k c : ℕ) : Type 0 where
    pub inner : (cluster s c).merged_into ≢ 0
    pub held : Holds g k c
    pub core : Core (g c)

  pub record Hollowed (s : State) : Type 0 where
    pub child : (k c : ℕ) → Stands (ledger s.log) k → In c (cluster s k).holes → Child (ledger s.log) s k c

  module _ {image : List ℕ} {size : ℕ} (s : State) (B : Basic image size (ledger s.log) s) (H : Hollowed s) (k : ℕ) where
    counted : ℕ → Bool
    counted p = not (member p (hole_pixels s (cluster s k).holes))
        && not (all_in (λ q. member q (cluster s k).pixels && not (member q (hole_pixels s (cluster s k).holes))) (sides w h p))

    core-from : boundary w h s k < area (cluster s k) → Core (ledger s.log k)
    unfolding boundary counted
    core-from l = let r = keep-short counted (cluster s k).pixels l in
        go r.0 r.1 (member r.0 (hole_pixels s (cluster s k).holes)) refl
        (all_in (λ q. member q (cluster s k).pixels && not (member q (hole_pixels s (cluster s k).holes))) (sides w h r.0)) refl r.2
      where
        go : (p : ℕ) → In p (cluster s k).pixels → (b : Bool) → member p (hole_pixels s (cluster s k).holes) ≡ b
            → (c : Bool) → all_in (λ q. member q (cluster s k).pixels && not (member q (hole_pixels s (cluster s k).holes))) (sides w h p) ≡ c → not b && not c ≡ false → Core (ledger s.log k)
        go p i true e c z y =
            let r = hole-in s (cluster s k).holes p (subst T (sym e) tt) in
            let C = H.child k r.0 (p, subst T (member-held B k p) (in-member p (cluster s k).pixels i)) r.1 in
            (C.core.0, C.held C.core.0 C.core.1, all_in-mono (ledger s.log r.0) (ledger s.log k) C.held (sides w h C.core.0) C.core.2)
        go p i false e true z y = (
          p,
          subst T (member-held B k p) (in-member p (cluster s k).pixels i),
          all_in-mono (λ q. member q (cluster s k).pixels && not (member q (hole_pixels s (cluster s k).holes))) (ledger s.log k)
              (λ q t. subst T (member-held B k q) (T-both (member q (cluster s k).pixels) (not (member q (hole_pixels s (cluster s k).holes))) t).0) (sides w h p) (subst T (sym z) tt),
        )
        go p i false e false z y = absurd (true≢false y)

    core-to : Core (ledger s.log k) → boundary w h s k < area (cluster s k)
    unfolding boundary counted
    core-to r = go (member r.0 (hole_pixels s (cluster s k).holes)) refl (all_in (λ q. member q (cluster s k).pixels && not (member q (hole_pixels s (cluster s k).holes))) (sides w h r.0)) refl
      where
        listed : (q : ℕ) → T (ledger s.log k q) → T (member q (cluster s k).pixels)
        listed q t = subst T (sym (member-held B k q)) t

        left : (p : ℕ) → member p (hole_pixels s (cluster s k).holes) ≡ true → counted p ≡ false
        left p e = ap (λ b. not b && not (all_in (λ q. member q (cluster s k).pixels && not (member q (hole_pixels s (cluster s k).holes))) (sides w h p))) e

        go : (b : Bool) → member r.0 (hole_pixels s (cluster s k).holes) ≡ b
            → (c : Bool) → all_in (λ q. member q (cluster s k).pixels && not (member q (hole_pixels s (cluster s k).holes))) (sides w h r.0) ≡ c → boundary w h s k < area (cluster s k)
        go true e c z = keep-drops counted (cluster s k).pixels r.0 (member-in r.0 (cluster s k).pixels (listed r.0 r.1)) (left r.0 e)
        go false e true z = keep-drops counted (cluster s k).pixels r.0 (member-in r.0 (cluster s k).pixels (listed r.0 r.1)) (rw (e, z) refl)
        go false e false z =
            let y = all_in-diff (λ q. member q (cluster s k).pixels) (λ q. member q (hole_pixels s (cluster s k).holes)) (sides w h r.0)
            (all_in-mono (ledger s.log k) (λ q. member q (cluster s k).pixels) listed (sides w h r.0) r.2) z in
            keep-drops counted (cluster s k).pixels y.0 (member-in y.0 (cluster s k).pixels y.1) (left y.0 (is_true (member y.0 (hole_pixels s (cluster s k).holes)) y.2))

    -- the interior law
    pub boundary-interior : ltb (boundary w h s k) (area (cluster s k)) ≡ interior w h s k
    unfolding interior
    boundary-interior = same_bool (ltb (boundary w h s k) (area (cluster s k))) (any_of (λ p. all_in (λ q. member q (cluster s k).pixels) (sides w h p)) (cluster s k).pixels) to from
      where
        to : T (ltb (boundary w h s k) (area (cluster s k))) → T (any_of (λ p. all_in (λ q. member q (cluster s k).pixels) (sides w h p)) (cluster s k).pixels)
        to t =
            let r = core-from (ltb→lt (boundary w h s k) (area (cluster s k)) t) in
            some-any (λ p. all_in (λ q. member q (cluster s k).pixels) (sides w h p)) (cluster s k).pixels r.0 (member-in r.0 (cluster s k).pixels (subst T (sym (member-held B k r.0)) r.1))
            (all_in-mono (ledger s.log k) (λ q. member q (cluster s k).pixels) (λ q x. subst T (sym (member-held B k q)) x) (sides w h r.0) r.2)

        from : T (any_of (λ p. all_in (λ q. member q (cluster s k).pixels) (sides w h p)) (cluster s k).pixels) → T (ltb (boundary w h s k) (area (cluster s k)))
        from t =
            let r = any_some (λ p. all_in (λ q. member q (cluster s k).pixels) (sides w h p)) (cluster s k).pixels t in
            lt→ltb (boundary w h s k) (area (cluster s k)) (core-to (
              r.0,
              subst T (member-held B k r.0) (in-member r.0 (cluster s k).pixels r.1),
              all_in-mono (λ q. member q (cluster s k).pixels) (ledger s.log k) (λ q x. subst T (member-held B k q) x) (sides w h r.0) r.2,
            ))

    -- some pixel, said with the ledger
    pub boundary-core : ltb (boundary w h s k) (area (cluster s k)) ≡ true → Core (ledger s.log k)
    boundary-core e = core-from (ltb-true (boundary w h s k) (area (cluster s k)) e)

  -- why it deepened
  deepens-boundary : (s : State) (k t : ℕ) → 1 ≤ o.good_min_area → deepens o w h s k t ≡ true → ltb (boundary w h s k) (area (cluster s k)) ≡ true
  unfolding deepens patch_good
  deepens-boundary s k t m e =
      let all = eqb o.hierarchical hierarchical_max in
      let f = ltb o.good_min_area (area (cluster s k)) && ltb (area (cluster s k)) o.good_max_area in
      let d = eqb o.good_min_area 0 || ltb (boundary w h s k) (area (cluster s k)) in
      rw (eqb_no o.good_min_area 0 (λ z. omega arith)) at
      (both_true f d (both_true all (f && d) (both_true (all && (f && d)) (exceeds (cluster_diff s k t) o.deepen_diff) e).0).1).1

  put-hollowed : (k : ℕ) (s : State) → Hollowed s → Hollowed (put_out k s)
  unfolding put_out
  put-hollowed k s H = record { child = λ j c z i. let C = H.child j c z i in record { inner = C.inner; held = C.held; core = C.core } }

  -- a child stays one where neither it nor what it holds changes
  child-kept : (g g' : Held) (s u : State) (j c : ℕ) → cluster u c ≡ cluster s c → g' c ≡ g c → ((q : ℕ) → T (g j q) → T (g' j q)) → Child g s j c → Child g' u j c
  child-kept g g' s u j c e f up C = record {
    inner = λ z. C.inner (ap (λ x. x.merged_into) (sym e) ∙ z);
    held = λ q t. up q (C.held q (subst (λ x. T (x q)) f t));
    core = subst Core (sym f) C.core;
  }

  module _ {image : List ℕ} {size : ℕ} (a k : ℕ) (s : State) (G : Going image size a k s) (H : Hollowed s) (pos : 0 < a) (e : area (cluster s k) ≡ a) (t : ℕ) (N : Near s (label s (get_or (cluster s k).pixels 0 0)) t) where
    d : k ≢ t
    d = k≢t a k s G pos e t N

    not-k : (j c : ℕ) → Child (ledger s.log) s j c → c ≢ k
    not-k j c C z = C.inner (ap (λ m. (cluster s m).merged_into) z ∙ root a k s G pos e)

    not_t : (j c : ℕ) → Child (ledger s.log) s j c → c ≢ t
    not_t j c C z = C.inner (ap (λ m. (cluster s m).merged_into) z ∙ target-root a k s G pos e t N)

    merge-hollowed : Hollowed (merge_cluster_into k t s)
    unfolding merge_cluster_into with_residue with_cluster emptied
    merge-hollowed = record {
      child = three k t (λ j. (c : ℕ) → Stands g' j → In c (cluster u j).holes → Child g' u j c)
          (λ c z i. absurd (subst (λ x. T (x z.0)) (plain_f (ledger s.log) k t d) z.1))
          (λ c z i. let C = H.child t c (target-stands a k s G pos e t N) (subst (λ x. In c x.holes) (merge-to a k s G pos e t N) i) in on t (λ x. d (sym x)) c C)
          (λ j m n c z i. let C = H.child j c (z.0, subst (λ x. T (x z.0)) (plain-o (ledger s.log) k t j m n) z.1) (subst (λ x. In c x.holes) (M.other j m n) i) in on j m c C);
    }
      where
        u : State
        u = merge_cluster_into k t s

        g' : Held
        g' = enter (plain k t) (ledger s.log)

        M : Moved k t s (merge_cluster_into k t s)
        M = merge-changes a k s G pos e t N

        on : (j : ℕ) → j ≢ k → (c : ℕ) → Child (ledger s.log) s j c → Child g' u j c
        on j m c C = child-kept (ledger s.log) g' s u j c (M.other c (not-k j c C) (not_t j c C)) (plain-o (ledger s.log) k t c (not-k j c C) (not_t j c C)) (λ q. plain-up (ledger s.log) k t d j q m) C

    deepen-hollowed : (b : Bool) → Core (ledger s.log k) → Hollowed (deepen_cluster_into b k t s)
    unfolding deepen_cluster_into merged_to with_cluster deeper
    deepen-hollowed b r = record {
      child = three k t (λ j. (c : ℕ) → Stands g' j → In c (cluster u j).holes → Child g' u j c)
          (λ c z i. on k c (H.child k c (get_or (cluster s k).pixels 0 0, stands a k s G pos e) (subst (λ x. In c x.holes) (deepen-from a k s G pos e t N b) i)))
          (λ c z i. to c b refl (subst (λ x. In c x.holes) (deepen-to a k s G pos e t N b) i))
          (λ j m n c z i. on j c (H.child j c (z.0, subst (λ x. T (x z.0)) (deepened-o (ledger s.log) k t j n) z.1) (subst (λ x. In c x.holes) (M.other j m n) i)));
    }
      where
        u : State
        u = deepen_cluster_into b k t s

        g' : Held
        g' = enter (deepened k t) (ledger s.log)

        M : Moved k t s (deepen_cluster_into b k t s)
        M = deepen-changes a k s G pos e t N b

        on : (j c : ℕ) → Child (ledger s.log) s j c → Child g' u j c
        on j c C = child-kept (ledger s.log) g' s u j c (M.other c (not-k j c C) (not_t j c C)) (deepened-o (ledger s.log) k t c (not_t j c C)) (λ q. deepened-up (ledger s.log) k t j q) C

        new : Child g' u t k
        new = record {
          inner = λ z. N.0 (sym (ap (λ x. x.merged_into) (deepen-from a k s G pos e t N b)) ∙ z);
          held = λ q x. deepened-to (ledger s.log) k t q (subst (λ y. T (y q)) (deepened-o (ledger s.log) k t k d) x);
          core = subst Core (sym (deepened-o (ledger s.log) k t k d)) r;
        }

        old : (c : ℕ) → In c (cluster s t).holes → Child g' u t c
        old c i = on t c (H.child t c (target-stands a k s G pos e t N) i)

        to : (c : ℕ) (y : Bool) → b ≡ y → In c (if y then (cluster s t).holes ++ (k ∷ []) else (cluster s t).holes) → Child g' u t c
        to c true x i = elim (in-snoc c k (cluster s t).holes i) [ inl i ↦ old c i | inr x ↦ subst (Child g' u t) (sym x) new ]
        to c false x i = old c i

  -- every visit keeps it
  pub visit-hollowed : {image : List ℕ} {size : ℕ} → 1 ≤ o.good_min_area → (a k : ℕ) (s : State) → Going image size a k s → 0 < a → area (cluster s k) ≡ a → Hollowed s → Hollowed (visit o w h a k s)
  visit-hollowed m a k s G pos e H =
      visit-cases-why o w h a k s Hollowed (λ x. H) (λ z l. put-hollowed k s H) (λ z l n. isolated-cases o w h a k s Hollowed (put-hollowed k s H) H)
      (λ z l t N. merge-hollowed a k s G H pos e t N)
      (λ z l t N b y. deepen-hollowed a k s G H pos e t N b (boundary-core s G.sound.basic H k (deepens-boundary s k t m y)))

-- ---- over the run

pub prepare_stage2-hollowed : (o : RunnerConfig) (w h : ℕ) (image : List ℕ) → Hollowed o w h (prepare_stage2 (stage1 o w h image))
unfolding with_residue
prepare_stage2-hollowed o w h image = record { child = λ k c z i. absurd (subst (In c) (ap (λ x. x.holes) (settled (stage1 o w h image) k) ∙ (stage1-slots o w h image k).holes) i) }

-- before every turn
pub turns-hollowed : (o : RunnerConfig) (w h : ℕ) (image : List ℕ) → 1 ≤ o.good_min_area → (m : ℕ) → Turning image (w * h) (turns o w h m (start (prepare_stage2 (stage1 o w h image)))) × Hollowed o w h (turns o w h m (start (prepare_stage2 (stage1 o w h image)))).now
unfolding start
turns-hollowed o w h image l m = turns-keep o w h (Hollowed o w h) (visit-hollowed o w h l) (start (prepare_stage2 (stage1 o w h image))) (start-turning o w h image, prepare_stage2-hollowed o w h image) m

-- so the visit may ask for an interior in the boundary's place, whatever the least area is
pub deepens-interior : {image : List ℕ} {size : ℕ} (o : RunnerConfig) (w h : ℕ) (s : State) → Basic image size (ledger s.log) s → (1 ≤ o.good_min_area → Hollowed o w h s) → (k t : ℕ)
    → deepens o w h s k t ≡ eqb o.hierarchical hierarchical_max
    && (ltb o.good_min_area (area (cluster s k)) && ltb (area (cluster s k)) o.good_max_area && (eqb o.good_min_area 0 || interior w h s k))
    && exceeds (cluster_diff s k t) o.deepen_diff
unfolding deepens patch_good
deepens-interior o w h s B H k t =
    ap (λ b. eqb o.hierarchical hierarchical_max && (ltb o.good_min_area (area (cluster s k)) && ltb (area (cluster s k)) o.good_max_area && b) && exceeds (cluster_diff s k t) o.deepen_diff)
    (pick (eqb o.good_min_area 0) refl)
  where
    pick : (b : Bool) → eqb o.good_min_area 0 ≡ b → b || ltb (boundary w h s k) (area (cluster s k)) ≡ b || interior w h s k
    pick true e = refl
    pick false e = boundary-interior o w h s B (H (let n : o.good_min_area ≢ 0 = eqb-false o.good_min_area 0 e in omega arith)) k
