-- What a merge does to the links: the last pixel of `to` is linked to the first of `from`, and nothing else changes.
use Rattle.std.specs.Prelude.{if◌then◌else◌}
use mathlib.Core.Path.{◌≡◌, refl, sym, ap, ◌∙◌}
use mathlib.Core.Logic.{◌≢◌, by_cases}
use mathlib.Core.Bool.{Bool, true, false}
use mathlib.Core.List.{List, [], ◌∷◌, ◌++◌}
use Prim.Native.Nat.{ℕ, suc, ◌+◌, ◌≤◌}
use native.Mathlib.Decide.{ℕ_discrete}
use native.Mathlib.Omega.{arith}
use lib.Dec.{T, eqb}
use lib.ListN.{length}
use Rattle.rules.specs.State.{State, cluster, label}
use Rattle.rules.specs.Layout.{after, first_of, link}
use Rattle.rules.specs.Ledger.{Held}
use Rattle.rules.specs.Claim.{bit, occurs}
use Rattle.rules.specs.Code.Early.{Basic}
use Rattle.rules.proofs.Facts.{eqb_yes, eqb_no, occurs-append, length-relabel}
use Rattle.rules.proofs.Basic.{Moved, lab-from, lab-other, held-some, held_none, once-held, some-held}

unfoldable pub last : List ℕ → ℕ
last [] = 0
last (x ∷ []) = x
last (x ∷ y ∷ r) = last (y ∷ r)

differ : (p x : ℕ) (r : ℕ) → bit (eqb p x) + r ≡ 0 → p ≢ x
differ p x r e q = let b : bit (eqb p x) ≡ 1 = ap bit (eqb_yes p x q) in omega arith

pub after_none : (p : ℕ) (xs : List ℕ) → occurs p xs ≡ 0 → after p xs ≡ 0
unfolding after
after_none p [] e = refl
after_none p (x ∷ []) e = refl
after_none p (x ∷ y ∷ r) e = rw (eqb_no p x (differ p x (occurs p (y ∷ r)) e)) (after_none p (y ∷ r) (omega arith))

pub after-skip : (p : ℕ) (xs ys : List ℕ) → occurs p xs ≡ 0 → after p (xs ++ ys) ≡ after p ys
unfolding after
after-skip p [] ys e = refl
after-skip p (x ∷ []) [] e = refl
after-skip p (x ∷ []) (y ∷ ys) e = rw (eqb_no p x (differ p x 0 e)) refl
after-skip p (x ∷ z ∷ r) ys e = rw (eqb_no p x (differ p x (occurs p (z ∷ r)) e)) (after-skip p (z ∷ r) ys (omega arith))

pub last-in : (x : ℕ) (r : List ℕ) → occurs (last (x ∷ r)) (x ∷ r) ≢ 0
unfolding last
last-in x [] e = differ x x 0 e refl
last-in x (y ∷ r) e = last-in y r (omega arith)

-- at the last entry the second list begins
pub after_last : (xs ys : List ℕ) → occurs (last xs) xs ≡ 1 → after (last xs) (xs ++ ys) ≡ first_of ys
unfolding after last first_of
after_last [] ys e = absurd (omega arith)
after_last (x ∷ []) [] e = refl
after_last (x ∷ []) (y ∷ ys) e = rw (eqb_yes x x refl) refl
after_last (x ∷ z ∷ r) ys e = rw (eqb_no (last (z ∷ r)) x neq) (after_last (z ∷ r) ys (let b : bit (eqb (last (z ∷ r)) x) ≡ 0 = ap bit (eqb_no (last (z ∷ r)) x neq) in omega arith))
  where
    neq : last (z ∷ r) ≢ x
    neq q = let b : bit (eqb (last (z ∷ r)) x) ≡ 1 = ap bit (eqb_yes (last (z ∷ r)) x q) in last-in z r (omega arith)

-- before it nothing changes
pub after-before : (p : ℕ) (xs ys : List ℕ) → occurs p xs ≢ 0 → p ≢ last xs → after p (xs ++ ys) ≡ after p xs
unfolding after last
after-before p [] ys n d = absurd (n refl)
after-before p (x ∷ []) ys n d = absurd (n (let b : bit (eqb p x) ≡ 0 = ap bit (eqb_no p x d) in omega arith))
after-before p (x ∷ z ∷ r) ys n d = pick (eqb p x) refl (after-before p (z ∷ r) ys)
  where
    pick : (b : Bool) → eqb p x ≡ b → (occurs p (z ∷ r) ≢ 0 → p ≢ last (z ∷ r) → after p (z ∷ r ++ ys) ≡ after p (z ∷ r))
        → (if b then suc z else after p (z ∷ r ++ ys)) ≡ (if b then suc z else after p (z ∷ r))
    pick true e ih = refl
    pick false e ih = ih (λ q. n (omega (arith, ap bit e))) d

-- ---- a list that gets a tail

-- From s to s' the list of t gets the tail xs.
pub record Tailed (t : ℕ) (xs : List ℕ) (s s' : State) : Type 0 where
  pub wide : length s'.labels ≡ length s.labels
  pub grown : (cluster s' t).pixels ≡ (cluster s t).pixels ++ xs
  pub once : (p : ℕ) → occurs p (cluster s t).pixels ≤ 1
  pub own : (p : ℕ) → occurs p (cluster s t).pixels ≢ 0 → label s p ≡ t
  pub apart : (p : ℕ) → occurs p xs ≢ 0 → occurs p (cluster s t).pixels ≡ 0
  -- a pixel of xs is labelled t, and its link stays
  pub moved : (p : ℕ) → occurs p xs ≢ 0 → label s' p ≡ t
  pub along : (p : ℕ) → occurs p xs ≢ 0 → link s p ≡ after p xs
  pub stays : (p : ℕ) → occurs p xs ≡ 0 → label s' p ≡ label s p

module _ {t : ℕ} {xs : List ℕ} {s s' : State} (M : Tailed t xs s s') where
  at-t : (p : ℕ) → label s' p ≡ t → link s' p ≡ after p ((cluster s t).pixels ++ xs)
  unfolding link
  at-t p e = ap (λ m. after p (cluster s' m).pixels) e ∙ ap (after p) M.grown

  pub was-t : (p : ℕ) → label s p ≡ t → link s p ≡ after p (cluster s t).pixels
  unfolding link
  was-t p e = ap (λ m. after p (cluster s m).pixels) e

  stays-t : (p : ℕ) → occurs p (cluster s t).pixels ≢ 0 → label s' p ≡ t
  stays-t p d = by_cases (ℕ_discrete (occurs p xs) 0) (λ e. M.stays p e ∙ M.own p d) (λ e. M.moved p e)

  -- the last pixel of t
  pub tail-joint : occurs (last (cluster s t).pixels) (cluster s t).pixels ≢ 0 → link s' (last (cluster s t).pixels) ≡ first_of xs
  tail-joint d = at-t (last (cluster s t).pixels) (stays-t (last (cluster s t).pixels) d) ∙ after_last (cluster s t).pixels xs (omega (arith, M.once (last (cluster s t).pixels)))

  -- any other, if those of other labels keep their links
  pub tail-keeps : (p : ℕ) → (occurs p (cluster s t).pixels ≢ 0 → p ≢ last (cluster s t).pixels) → (occurs p xs ≡ 0 → label s p ≢ t → link s' p ≡ link s p) → link s' p ≡ link s p
  tail-keeps p d other = pick (ℕ_discrete (occurs p xs) 0) (ℕ_discrete (occurs p (cluster s t).pixels) 0) (ℕ_discrete (label s p) t)
    where
      pick : Dec (occurs p xs ≡ 0) → Dec (occurs p (cluster s t).pixels ≡ 0) → Dec (label s p ≡ t) → link s' p ≡ link s p
      pick (no x) y z = at-t p (M.moved p x) ∙ after-skip p (cluster s t).pixels xs (M.apart p x) ∙ sym (M.along p x)
      pick (yes x) (no y) z = at-t p (stays-t p y) ∙ after-before p (cluster s t).pixels xs y (d y) ∙ sym (was-t p (M.own p y))
      pick (yes x) (yes y) (yes z) =
          at-t p (M.stays p x ∙ z) ∙ after_none p ((cluster s t).pixels ++ xs) (occurs-append p (cluster s t).pixels xs ∙ omega arith)
          ∙ sym (was-t p z ∙ after_none p (cluster s t).pixels y)
      pick (yes x) (yes y) (no z) = other x z

-- ---- a merge

module _ {image : List ℕ} {size : ℕ} {h : Held} {s s' : State} (B : Basic image size h s) (f t : ℕ) (n : f ≢ t) (M : Moved f t s s')
    (f-tops : (p : ℕ) → T (h f p) → label s p ≡ f) (t-tops : (p : ℕ) → T (h t p) → label s p ≡ t) where
  -- the list of t gets that of f
  pub moved-tailed : Tailed t (cluster s f).pixels s s'
  unfolding link
  moved-tailed = record {
    wide = ap length M.labels ∙ length-relabel t (cluster s f).pixels s.labels;
    grown = M.t-pixels;
    once = once-held B t;
    own = λ p d. t-tops p (some-held B t p d);
    apart = λ p d. held_none B t p (λ x. n (sym (f-tops p (some-held B f p d)) ∙ t-tops p x));
    moved = λ p d. lab-from B f t M p (some-held B f p d);
    along = λ p d. ap (λ m. after p (cluster s m).pixels) (f-tops p (some-held B f p d));
    stays = λ p e. lab-other B f t M p (λ x. omega (arith, held-some B f p x));
  }

  -- a pixel of another label keeps its link
  pub moved_other : (p : ℕ) → (occurs p (cluster s f).pixels ≡ 0 → occurs p (cluster s' f).pixels ≡ 0) → occurs p (cluster s f).pixels ≡ 0 → label s p ≢ t → link s' p ≡ link s p
  unfolding link
  moved_other p less e d = ap (λ m. after p (cluster s' m).pixels) (moved-tailed.stays p e) ∙ by_cases (ℕ_discrete (label s p) f)
      (λ z. ap (λ m. after p (cluster s' m).pixels) z ∙ after_none p (cluster s' f).pixels (less e) ∙ sym (ap (λ m. after p (cluster s m).pixels) z ∙ after_none p (cluster s f).pixels e))
      (λ z. ap (λ c. after p c.pixels) (M.other (label s p) z d))

  -- the link of the last pixel of t
  pub link-joint : T (h t (last (cluster s t).pixels)) → link s' (last (cluster s t).pixels) ≡ first_of (cluster s f).pixels
  link-joint x = tail-joint moved-tailed (λ z. omega (arith, held-some B t (last (cluster s t).pixels) x))

  -- any other
  pub link-other : (p : ℕ) → p ≢ last (cluster s t).pixels → (occurs p (cluster s f).pixels ≡ 0 → occurs p (cluster s' f).pixels ≡ 0) → link s' p ≡ link s p
  link-other p d less = tail-keeps moved-tailed p (λ z. d) (moved_other p less)
