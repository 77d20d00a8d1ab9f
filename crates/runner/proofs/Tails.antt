-- What the links become when the list of a cluster gets a tail: by a pixel that is added to it, or by a merge.
use Rattle.std.specs.Prelude.{if◌then◌else◌}
use mathlib.Core.Path.{◌≡◌, refl, sym, ap, ◌∙◌, subst}
use mathlib.Core.Logic.{◌≢◌, by_cases}
use mathlib.Core.Bool.{true, false}
use mathlib.Core.List.{List, [], ◌∷◌, ◌++◌, append-nil}
use Prim.Native.Nat.{ℕ, zero, suc, ◌-◌, ◌<◌}
use native.Mathlib.Decide.{ℕ_discrete}
use native.Mathlib.Omega.{arith}
use borrow.Author.Tests.{ne_eqb}
use lib.Dec.{eqb}
use lib.ListN.{length, get_or, set, length-set}
use lib.Seq.{get_or-set_same, get_or-set_other, ext_get_or}
use Rattle.rules.specs.State.{State, cluster, label, area}
use Rattle.rules.specs.Layout.{after, first_of, link, links}
use Rattle.rules.specs.Claim.{occurs}
use Rattle.rules.proofs.Links.{last, last-in, after_last, Tailed, was-t, tail-joint, tail-keeps}
use Rattle.rules.proofs.Layouts.{links-length, links-at}
use Rattle.runner.specs.Code.Rep.{last_of, link_after}

pub last_of-last : (xs : List ℕ) → 0 < length xs → last_of xs ≡ suc (last xs)
unfolding last_of last
last_of-last [] z = absurd (omega arith)
last_of-last (x ∷ []) z = refl
last_of-last (x ∷ y ∷ ys) z = last_of-last (y ∷ ys) (omega arith)

pub last_of-append : (xs ys : List ℕ) → 0 < length ys → last_of (xs ++ ys) ≡ last_of ys
unfolding last_of
last_of-append [] ys z = refl
last_of-append (x ∷ []) [] z = absurd (omega arith)
last_of-append (x ∷ []) (y ∷ ys) z = refl
last_of-append (x ∷ w ∷ xs) ys z = last_of-append (w ∷ xs) ys z

pub link_after-empty : (ls : List ℕ) (tail first : ℕ) → link_after ls 0 tail first ≡ ls
unfolding link_after
link_after-empty ls tail first = refl

-- nothing to go on with
pub link_after-none : (ls : List ℕ) (n tail : ℕ) → link_after ls n tail 0 ≡ ls
unfolding link_after
link_after-none ls n tail = elim (eqb n 0) as (λ a. (if a then ls else ls) ≡ ls) [ true ↦ refl | false ↦ refl ]

-- a list that is not empty goes on
pub link_after-joins : (ls : List ℕ) (n tail first : ℕ) → 0 < n → 0 < first → link_after ls n tail first ≡ set ls (tail - 1) first
unfolding link_after
link_after-joins ls n tail first a b = rw (ne_eqb n 0 (λ e. omega (arith, e)), ne_eqb first 0 (λ e. omega (arith, e)))

-- the tail is read only where there is one
pub link_after-tail : (ls : List ℕ) (n a b first : ℕ) → (0 < n → a ≡ b) → link_after ls n a first ≡ link_after ls n b first
unfolding link_after
link_after-tail ls zero a b first e = refl
link_after-tail ls (suc n) a b first e = ap (λ x. link_after ls (suc n) x first) (e (omega arith))

-- the list of t gets the tail xs, and pixels of other labels keep their links
module _ {t : ℕ} {xs : List ℕ} {s s' : State} (M : Tailed t xs s s') (other : (p : ℕ) → occurs p xs ≡ 0 → label s p ≢ t → link s' p ≡ link s p) where
  links-same : ((p : ℕ) → link s' p ≡ link s p) → links s' ≡ links s
  links-same e = ext_get_or 0 (links s') (links s) (links-length s' ∙ M.wide ∙ sym (links-length s))
      (λ p l. links-at s' p (omega (arith, links-length s')) ∙ e p ∙ sym (links-at s p (omega (arith, links-length s', M.wide))))

  -- the last pixel of t, where xs is empty
  ends : occurs (last (cluster s t).pixels) (cluster s t).pixels ≢ 0 → link s (last (cluster s t).pixels) ≡ 0
  unfolding first_of
  ends d =
      was-t M (last (cluster s t).pixels) (M.own (last (cluster s t).pixels) d) ∙ ap (after (last (cluster s t).pixels)) (sym (append-nil (cluster s t).pixels))
      ∙ after_last (cluster s t).pixels [] (omega (arith, M.once (last (cluster s t).pixels)))

  -- the last pixel of t is linked to the first of xs, and nothing else changes
  pub tailed-links : links s' ≡ link_after (links s) (area (cluster s t)) (last_of (cluster s t).pixels) (first_of xs)
  unfolding first_of
  tailed-links = pick (cluster s t).pixels refl xs refl
    where
      in-t : (x : ℕ) (r : List ℕ) → (cluster s t).pixels ≡ x ∷ r → occurs (last (cluster s t).pixels) (cluster s t).pixels ≢ 0
      in-t x r e = subst (λ ts. occurs (last ts) ts ≢ 0) (sym e) (last-in x r)

      pick : (ts : List ℕ) → (cluster s t).pixels ≡ ts → (ys : List ℕ) → xs ≡ ys → links s' ≡ link_after (links s) (length ts) (last_of ts) (first_of ys)
      pick [] e ys q = links-same (λ p. tail-keeps M p (λ d. absurd (d (ap (occurs p) e))) (other p)) ∙ sym (link_after-empty (links s) (last_of []) (first_of ys))
      pick (x ∷ r) e [] q = links-same (λ p. by_cases (ℕ_discrete p (last (cluster s t).pixels))
          (λ z. ap (link s') z ∙ tail-joint M (in-t x r e) ∙ ap first_of q ∙ sym (ap (link s) z ∙ ends (in-t x r e)))
          (λ z. tail-keeps M p (λ d. z) (other p))) ∙ sym (link_after-none (links s) (suc (length r)) (last_of (x ∷ r)))
      pick (x ∷ r) e (y ∷ ys) q =
          ext_get_or 0 (links s') (set (links s) (last_of (x ∷ r) - 1) (suc y)) (links-length s' ∙ M.wide ∙ sym (links-length s) ∙ sym (length-set (links s) (last_of (x ∷ r) - 1) (suc y)))
          (λ p l. links-at s' p (omega (arith, links-length s')) ∙ at p (omega (arith, links-length s', M.wide)) (ℕ_discrete p (last (cluster s t).pixels)))
          ∙ sym (link_after-joins (links s) (suc (length r)) (last_of (x ∷ r)) (suc y) (omega arith) (omega arith))
        where
          place : last_of (x ∷ r) - 1 ≡ last (cluster s t).pixels
          place = ap (λ m. m - 1) (last_of-last (x ∷ r) (omega arith)) ∙ omega arith ∙ ap last (sym e)

          at : (p : ℕ) → p < length s.labels → Dec (p ≡ last (cluster s t).pixels) → link s' p ≡ get_or (set (links s) (last_of (x ∷ r) - 1) (suc y)) p 0
          at p l (yes z) =
              ap (link s') z ∙ tail-joint M (in-t x r e) ∙ ap first_of q
              ∙ sym (ap (λ m. get_or (set (links s) (last_of (x ∷ r) - 1) (suc y)) m 0) (z ∙ sym place) ∙ get_or-set_same (links s) (last_of (x ∷ r) - 1) (suc y) 0 (omega (arith, links-length s, place)))
          at p l (no z) = tail-keeps M p (λ d. z) (other p) ∙ sym (links-at s p l) ∙ sym (get_or-set_other (links s) (last_of (x ∷ r) - 1) p (suc y) 0 (λ m. z (m ∙ place)))

  -- so in the buffers, which hold the links and where t ends
  pub linked-tail : {ks : List ℕ} {end : ℕ} → ks ≡ links s → (0 < area (cluster s t) → end ≡ last_of (cluster s t).pixels) → link_after ks (area (cluster s t)) end (first_of xs) ≡ links s'
  linked-tail {ks} {end} e last =
      ap (λ l. link_after l (area (cluster s t)) end (first_of xs)) e
      ∙ link_after-tail (links s) (area (cluster s t)) end (last_of (cluster s t).pixels) (first_of xs) last ∙ sym tailed-links
