-- Labels, links and last pixels when the list of a cluster is put after that of another in stage 2.
use mathlib.Core.Path.{◌≡◌, sym, ap, ◌∙◌, subst}
use mathlib.Core.Logic.{◌≢◌, by_cases}
use mathlib.Core.List.{List, [], ◌∷◌}
use Prim.Native.Nat.{ℕ, ◌<◌}
use native.Mathlib.Decide.{dec_lt}
use native.Mathlib.Omega.{arith}
use lib.Dec.{T}
use lib.ListN.{length, get_or, set, get_or-eq_default}
use lib.Seq.{get_or-set_same, get_or-set_other}
use Rattle.rules.specs.State.{State, new_cluster, cluster, label, area, relabel}
use Rattle.rules.specs.Layout.{first_of, links}
use Rattle.rules.specs.Ledger.{ledger}
use Rattle.rules.specs.Claim.{occurs}
use Rattle.rules.proofs.Basic.{Moved, three}
use Rattle.rules.proofs.Links.{last, last-in, moved-tailed, moved_other}
use Rattle.rules.proofs.Outputs.{area-pos}
use Rattle.rules.proofs.Visits.{Going, Near, root, k≢t, target-root, target-stands}
use Rattle.runner.specs.Code.Rep.{Rep, last_of, link_after}
use Rattle.runner.proofs.Tails.{last_of-last, last_of-append, linked-tail}

pub last-occurs : (xs : List ℕ) → 0 < length xs → occurs (last xs) xs ≢ 0
last-occurs [] z = absurd (omega arith)
last-occurs (x ∷ xs) z = last-in x xs

-- a cluster with pixels has a slot
pub area-slot : (s : State) (k : ℕ) → 0 < area (cluster s k) → k < length s.clusters
area-slot s k z = by_cases (dec_lt k (length s.clusters))
    (λ l. l)
    (λ l. absurd (omega (arith, ap area (get_or-eq_default s.clusters new_cluster {n = k} (omega arith)))))

-- ---- a merge of f, which is visited, into t, of either kind

module _ {image : List ℕ} {size : ℕ} (a f : ℕ) (s : State) (G : Going image size a f s) (pos : 0 < a) (e : area (cluster s f) ≡ a) (t : ℕ) (N : Near s (label s (get_or (cluster s f).pixels 0 0)) t) where
  t-root : (cluster s t).merged_into ≡ 0
  t-root = target-root a f s G pos e t N

  pub target-some : 0 < area (cluster s t)
  target-some = let z = target-stands a f s G pos e t N in area-pos G.sound.basic t z.0 z.1

  module _ {t₀ ls ks tb es : List ℕ} (R : Rep size s t₀ ls ks tb es) {s' : State} (M : Moved f t s s') where
    pub moved-labels : relabel t (cluster s f).pixels ls ≡ s'.labels
    moved-labels = ap (relabel t (cluster s f).pixels) R.labelled ∙ sym M.labels

    -- the last pixel of t is linked to the first of f
    pub moved-links : ((p : ℕ) → occurs p (cluster s f).pixels ≡ 0 → occurs p (cluster s' f).pixels ≡ 0)
        → link_after ks (area (cluster s t)) (get_or es t 0) (first_of (cluster s f).pixels) ≡ links s'
    moved-links less = linked-tail (moved-tailed G.sound.basic f t n M f-tops t-tops) (λ p. moved_other G.sound.basic f t n M f-tops t-tops p (less p)) R.linked (λ z. R.tails t z t-root)
      where
        n : f ≢ t
        n = k≢t a f s G pos e t N

        f-tops : (p : ℕ) → T (ledger s.log f p) → label s p ≡ f
        f-tops p x = G.sound.tops f p x (root a f s G pos e)

        t-tops : (p : ℕ) → T (ledger s.log t p) → label s p ≡ t
        t-tops p x = G.sound.tops t p x t-root

    -- the last pixel of f becomes the last of t
    pub moved-tails : (0 < area (cluster s' f) → (cluster s' f).merged_into ≡ 0 → ⊥)
        → (k : ℕ) → 0 < area (cluster s' k) → (cluster s' k).merged_into ≡ 0 → get_or (set es t (get_or es f 0)) k 0 ≡ last_of (cluster s' k).pixels
    moved-tails gone = three f t (λ k. 0 < area (cluster s' k) → (cluster s' k).merged_into ≡ 0 → get_or (set es t (get_or es f 0)) k 0 ≡ last_of (cluster s' k).pixels)
        (λ x y. absurd (gone x y))
        (λ x y. get_or-set_same es t (get_or es f 0) 0 in-ends ∙ R.tails f (omega arith) (root a f s G pos e) ∙ sym (last_of-append (cluster s t).pixels (cluster s f).pixels (omega arith)) ∙ sym (ap last_of M.t-pixels))
        (λ k m l x y. get_or-set_other es t k (get_or es f 0) 0 l ∙ R.tails k (subst (λ c. 0 < area c) (M.other k m l) x) (subst (λ c. c.merged_into ≡ 0) (M.other k m l) y)
        ∙ sym (ap (λ c. last_of c.pixels) (M.other k m l)))
      where
        in-ends : t < length es
        in-ends = by_cases (dec_lt t (length es))
            (λ l. l)
            (λ l. absurd (omega (arith, get_or-eq_default es 0 {n = t} (omega arith), R.tails t target-some t-root, last_of-last (cluster s t).pixels target-some)))
