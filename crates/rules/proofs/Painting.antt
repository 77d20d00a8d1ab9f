-- What painting leaves at a pixel: the colour of the first output that holds it.
use mathlib.Core.Path.{◌≡◌, refl, sym, ap, ◌∙◌, subst}
use mathlib.Core.Logic.{◌≢◌, ◌⊎◌, inl, inr}
use mathlib.Core.List.{List, [], ◌∷◌}
use Prim.Native.Nat.{ℕ, suc, ◌+◌, ◌*◌, ◌<◌}
use native.Mathlib.Decide.{ℕ_discrete}
use native.Mathlib.Omega.{arith}
use lib.Dec.{T, eqb}
use lib.ListN.{length, get_or, set, replicate, length-set, length-replicate}
use lib.Seq.{length-sets, get_or-set_same, get_or-set_other}
use Rattle.rules.specs.Base.{each, each_back}
use Rattle.rules.specs.Color.{Color, pixel, average}
use Rattle.rules.specs.State.{State, cluster}
use Rattle.rules.specs.Picture.{paint_pixel, paint_cluster, paint}
use Rattle.rules.specs.Ledger.{Held}
use Rattle.rules.specs.Claim.{bit, occurs}
use Rattle.rules.proofs.Facts.{T-bit, is_false, eqb_yes, eqb_no}

set_here : (l : List ℕ) (i j a : ℕ) → i ≡ j → j < length l → get_or (set l i a) j 0 ≡ a
set_here l i j a e h = subst (λ m. get_or (set l m a) j 0 ≡ a) (sym e) (get_or-set_same l j a 0 h)

module _ (c : Color) (p : ℕ) (l : List ℕ) where
  l₁ : List ℕ
  l₁ = set l (4 * p) c.r

  l₂ : List ℕ
  l₂ = set l₁ (suc (4 * p)) c.g

  l₃ : List ℕ
  l₃ = set l₂ (suc (suc (4 * p))) c.b

  l₄ : List ℕ
  l₄ = set l₃ (suc (suc (suc (4 * p)))) c.a

  lengths : (length l₁ ≡ length l) × (length l₂ ≡ length l) × (length l₃ ≡ length l)
  unfolding l₁ l₂ l₃
  lengths =
      let a = length-set l (4 * p) c.r in
      let b = length-set l₁ (suc (4 * p)) c.g ∙ a in
      (a, b, length-set l₂ (suc (suc (4 * p))) c.b ∙ b)

  four : paint_pixel c p l ≡ l₄
  unfolding paint_pixel l₁ l₂ l₃ l₄
  four = refl

  far : (j : ℕ) → j ≢ 4 * p → j ≢ suc (4 * p) → j ≢ suc (suc (4 * p)) → j ≢ suc (suc (suc (4 * p))) → get_or l₄ j 0 ≡ get_or l j 0
  unfolding l₁ l₂ l₃ l₄
  far j a b d e =
      get_or-set_other l₃ (suc (suc (suc (4 * p)))) j c.a 0 e ∙ get_or-set_other l₂ (suc (suc (4 * p))) j c.b 0 d
      ∙ get_or-set_other l₁ (suc (4 * p)) j c.g 0 b ∙ get_or-set_other l (4 * p) j c.r 0 a

  pub pixel-other : (q : ℕ) → q ≢ p → pixel (paint_pixel c p l) q ≡ pixel l q
  unfolding pixel
  pixel-other q n = rw four λ i. record {
    r = far (4 * q) (omega arith) (omega arith) (omega arith) (omega arith) i;
    g = far (4 * q + 1) (omega arith) (omega arith) (omega arith) (omega arith) i;
    b = far (4 * q + 2) (omega arith) (omega arith) (omega arith) (omega arith) i;
    a = far (4 * q + 3) (omega arith) (omega arith) (omega arith) (omega arith) i;
  }

  pub pixel-same : 4 * p + 3 < length l → pixel (paint_pixel c p l) p ≡ c
  unfolding pixel l₁ l₂ l₃ l₄
  pixel-same h = rw four λ i. record {
    r = (get_or-set_other l₃ (suc (suc (suc (4 * p)))) (4 * p) c.a 0 (omega arith) ∙ get_or-set_other l₂ (suc (suc (4 * p))) (4 * p) c.b 0 (omega arith)
        ∙ get_or-set_other l₁ (suc (4 * p)) (4 * p) c.g 0 (omega arith) ∙ get_or-set_same l (4 * p) c.r 0 (omega arith)) i;
    g = (get_or-set_other l₃ (suc (suc (suc (4 * p)))) (4 * p + 1) c.a 0 (omega arith) ∙ get_or-set_other l₂ (suc (suc (4 * p))) (4 * p + 1) c.b 0 (omega arith)
        ∙ set_here l₁ (suc (4 * p)) (4 * p + 1) c.g (omega arith) (omega (arith, lengths.0))) i;
    b = (get_or-set_other l₃ (suc (suc (suc (4 * p)))) (4 * p + 2) c.a 0 (omega arith)
        ∙ set_here l₂ (suc (suc (4 * p))) (4 * p + 2) c.b (omega arith) (omega (arith, lengths.1))) i;
    a = set_here l₃ (suc (suc (suc (4 * p)))) (4 * p + 3) c.a (omega arith) (omega (arith, lengths.2)) i;
  }

  pub pixel-length : length (paint_pixel c p l) ≡ length l
  unfolding paint_pixel
  pixel-length = length-sets l (4 * p) (c.r ∷ c.g ∷ c.b ∷ c.a ∷ [])

-- ---- a cluster

pub each-length : (c : Color) (ps l : List ℕ) → length (each ps (paint_pixel c) l) ≡ length l
each-length c [] l = refl
each-length c (p ∷ ps) l = each-length c ps (paint_pixel c p l) ∙ pixel-length c p l

each-other : (c : Color) (q : ℕ) (ps l : List ℕ) → occurs q ps ≡ 0 → pixel (each ps (paint_pixel c) l) q ≡ pixel l q
each-other c q [] l e = refl
each-other c q (p ∷ ps) l e = each-other c q ps (paint_pixel c p l) (omega arith) ∙ pixel-other c p l q differ
  where
    differ : q ≢ p
    differ x = let y : bit (eqb q p) ≡ 1 = ap bit (eqb_yes q p x) in omega arith

pub each_in : (c : Color) (q : ℕ) (ps l : List ℕ) → 4 * q + 3 < length l → occurs q ps ≢ 0 → pixel (each ps (paint_pixel c) l) q ≡ c
each_in c q [] l h n = absurd (n refl)
each_in c q (p ∷ ps) l h n =
    pick (each_in c q ps (paint_pixel c p l) (omega (arith, pixel-length c p l))) (ℕ_discrete (occurs q ps) 0) (ℕ_discrete q p)
  where
    pick : (occurs q ps ≢ 0 → pixel (each ps (paint_pixel c) (paint_pixel c p l)) q ≡ c) → Dec (occurs q ps ≡ 0) → Dec (q ≡ p) → pixel (each ps (paint_pixel c) (paint_pixel c p l)) q ≡ c
    pick ih (no d) e = ih d
    pick ih (yes z) (yes e) = each-other c q ps (paint_pixel c p l) z ∙ subst (λ x. pixel (paint_pixel c x l) q ≡ c) e (pixel-same c q l h)
    pick ih (yes z) (no d) = let y : bit (eqb q p) ≡ 0 = ap bit (eqb_no q p d) in absurd (n (omega arith))

-- ---- the outputs

-- the first entry that holds p is k
abbrev pub First : Held → ℕ → List ℕ → ℕ → Type 0
First h p [] k = ⊥
First h p (x ∷ xs) k = (T (h x p) × (x ≡ k)) ⊎ ((T (h x p) → ⊥) × First h p xs k)

module _ (s : State) (h : Held) (lists : (k p : ℕ) → occurs p (cluster s k).pixels ≡ bit (h k p)) where
  back-length : (outs l : List ℕ) → length (each_back outs (paint_cluster s) l) ≡ length l
  unfolding paint_cluster
  back-length [] l = refl
  back-length (x ∷ xs) l = each-length (average (cluster s x).residue) (cluster s x).pixels (each_back xs (paint_cluster s) l) ∙ back-length xs l

  pub painted : (q k : ℕ) (outs l : List ℕ) → 4 * q + 3 < length l → First h q outs k → pixel (each_back outs (paint_cluster s) l) q ≡ average (cluster s k).residue
  unfolding paint_cluster
  painted q k [] l z f = absurd f
  painted q k (x ∷ xs) l z f = pick (painted q k xs l z) f
    where
      pick : (First h q xs k → pixel (each_back xs (paint_cluster s) l) q ≡ average (cluster s k).residue) → (T (h x q) × (x ≡ k)) ⊎ ((T (h x q) → ⊥) × First h q xs k)
          → pixel (paint_cluster s x (each_back xs (paint_cluster s) l)) q ≡ average (cluster s k).residue
      pick ih (inl y) =
          each_in (average (cluster s x).residue) q (cluster s x).pixels (each_back xs (paint_cluster s) l) (omega (arith, back-length xs l))
          (λ e. let b : bit (h x q) ≡ 1 = T-bit (h x q) y.0 in omega (arith, lists x q))
          ∙ ap (λ m. average (cluster s m).residue) y.1
      pick ih (inr y) =
          each-other (average (cluster s x).residue) q (cluster s x).pixels (each_back xs (paint_cluster s) l) (lists x q ∙ ap bit (is_false (h x q) y.0))
          ∙ ih y.1

  pub paint-first : (size q k : ℕ) → q < size → First h q s.outputs k → pixel (paint size s) q ≡ average (cluster s k).residue
  unfolding paint
  paint-first size q k l f = painted q k s.outputs (replicate (4 * size) 0) (omega (arith, length-replicate {A = ℕ} (4 * size) 0)) f
