-- What code can rely on when the buffers hold a state: indices in range, and lists read along the links.
use mathlib.Core.Path.{◌≡◌, sym, ap, ◌∙◌, subst}
use mathlib.Core.Logic.{◌≢◌}
use mathlib.Core.List.{List, [], append-nil}
use Prim.Native.Nat.{ℕ, suc, ◌≤◌, ◌<◌}
use native.Mathlib.Omega.{arith}
use lib.Dec.{T}
use lib.ListN.{length, get_or}
use Rattle.rules.specs.State.{State, cluster, label, area}
use Rattle.rules.specs.Layout.{after, first_of, link, walk}
use Rattle.rules.specs.Paint.{reads}
use Rattle.rules.specs.Ledger.{Held}
use Rattle.rules.specs.Claim.{occurs}
use Rattle.rules.specs.Code.Ranges.{AllBelow}
use Rattle.rules.specs.Code.Early.{Basic}
use Rattle.rules.proofs.Basic.{some-held, once-held}
use Rattle.rules.proofs.Sound.{Sound}
use Rattle.rules.proofs.Links.{last}
use Rattle.rules.proofs.Chains.{read}
use Rattle.rules.proofs.Ranges.{occurs-below}
use Rattle.rules.proofs.Layouts.{links-length, links-at}
use Rattle.rules.proofs.Paint.{reads-walk}
use Rattle.runner.specs.Code.Rep.{Rep, last_of}
use Rattle.runner.proofs.Tails.{last_of-last}
use Rattle.runner.proofs.Joined.{last-occurs}

module _ {image : List ℕ} {size : ℕ} {h : Held} {s : State} (B : Basic image size h s) where
  place : (k p : ℕ) → occurs p (cluster s k).pixels ≢ 0 → p < size
  place k p x = subst (λ m. p < m) B.width (B.places k p (some-held B k p x))

  -- the links go along the list of a cluster that labels its pixels
  pub label-chain : (k : ℕ) → ((p : ℕ) → T (h k p) → label s p ≡ k) → walk (link s) (first_of (cluster s k).pixels) (area (cluster s k)) ≡ (cluster s k).pixels
  unfolding link
  label-chain k own =
      read (link s) (cluster s k).pixels (once-held B k) (λ p x. ap (λ m. after p (cluster s m).pixels) (own p (some-held B k p x))) [] (cluster s k).pixels [] (sym (append-nil (cluster s k).pixels))

  module _ {t₀ ls ks tb es : List ℕ} (R : Rep size s t₀ ls ks tb es) where
    pub rep-labels-length : length ls ≡ size
    rep-labels-length = ap length R.labelled ∙ B.width

    pub rep-links-length : length ks ≡ size
    rep-links-length = ap length R.linked ∙ links-length s ∙ B.width

    pub rep-link : (p : ℕ) → p < size → get_or ks p 0 ≡ link s p
    rep-link p l = ap (λ xs. get_or xs p 0) R.linked ∙ links-at s p (omega (arith, B.width))

    -- a list that lies along the links is read from them
    module _ (k : ℕ) (chain : walk (link s) (first_of (cluster s k).pixels) (area (cluster s k)) ≡ (cluster s k).pixels) where
      both : T (reads size ks (first_of (cluster s k).pixels) (area (cluster s k)))
          × (walk (λ p. get_or ks p 0) (first_of (cluster s k).pixels) (area (cluster s k)) ≡ walk (link s) (first_of (cluster s k).pixels) (area (cluster s k)))
      both = reads-walk size s ks rep-link (area (cluster s k)) (first_of (cluster s k).pixels) (ap length chain)
          (subst (AllBelow size) (sym chain) (occurs-below size (cluster s k).pixels (place k)))

      pub rep-reads : T (reads size ks (first_of (cluster s k).pixels) (area (cluster s k)))
      rep-reads = both.0

      pub rep-walk : walk (λ p. get_or ks p 0) (first_of (cluster s k).pixels) (area (cluster s k)) ≡ (cluster s k).pixels
      rep-walk = both.1 ∙ chain

    -- the last pixel of a cluster with pixels that is inside no other
    pub rep-tail : (k : ℕ) → 0 < area (cluster s k) → (cluster s k).merged_into ≡ 0 → (0 < get_or es k 0) × (get_or es k 0 ≤ size)
    rep-tail k z r =
        let l : last_of (cluster s k).pixels ≡ suc (last (cluster s k).pixels) = last_of-last (cluster s k).pixels z in
        (omega (arith, R.tails k z r, l), omega (arith, R.tails k z r, l, place k (last (cluster s k).pixels) (last-occurs (cluster s k).pixels z)))

-- a cluster inside no other labels its pixels
pub root-chain : {image : List ℕ} {size : ℕ} {h O : Held} {s : State} → Sound image size h O s → (k : ℕ) → (cluster s k).merged_into ≡ 0
    → walk (link s) (first_of (cluster s k).pixels) (area (cluster s k)) ≡ (cluster s k).pixels
root-chain S k r = label-chain S.basic k (λ p x. S.tops k p x r)
