-- The picture clause of demand 3: keying off.
use Rattle.std.specs.Prelude.{if◌then◌else◌}
use mathlib.Core.Path.{◌≡◌, refl, sym, ap, ◌∙◌, subst}
use mathlib.Core.Logic.{◌↔◌, ◌≢◌, inl, inr}
use mathlib.Core.Bool.{Bool, true, false}
use mathlib.Core.List.{List, [], ◌∷◌}
use Prim.Native.Nat.{ℕ, zero, suc, ◌+◌, ◌*◌, ◌≤◌, ◌<◌}
use native.Mathlib.Decide.{ℕ_discrete}
use native.Mathlib.Omega.{arith}
use lib.Dec.{T, eqb, ltb, lt→ltb, ltb→lt}
use lib.ListN.{length, get_or}
use Rattle.rules.specs.Base.{keep}
use Rattle.rules.specs.Color.{RunnerConfig, ColorSum, keying_on, pixel, average, sum_of_one, ◌⊕◌}
use Rattle.rules.specs.State.{Cluster, State, cluster, label, with_residue}
use Rattle.rules.specs.Stage2.{prepare_stage2}
use Rattle.rules.specs.Picture.{paint}
use Rattle.rules.specs.Run.{run, stage1, stage2, drop_empty}
use Rattle.rules.specs.Ledger.{ledger}
use Rattle.rules.specs.Demand3.{Discarded, state_view, Shown}
use Rattle.rules.specs.Claim.{bit, occurs, tally, count_of, Stands, Smallest}
use Rattle.rules.specs.Code.Early.{Basic, owned, Early}
use Rattle.rules.proofs.Facts.{is_true, count_of-lt, count_of-some, count_of-none}
use Rattle.rules.proofs.Sound.{Sound}
use Rattle.rules.proofs.Visits.{Going}
use Rattle.rules.proofs.Early.{prepare_stage2-going, settled}
use Rattle.rules.proofs.Whole.{early, stage2-passes, going, fewer}
use Rattle.rules.proofs.Painting.{First, paint-first}
use Rattle.rules.proofs.Outputs.{Shows, In, passes-shows, all-out, areas-le, area-le, area-pos, area-count_of, first-find, first_holds, first-keep, in-keep}

-- what painting asks of an output entry k, with n slots: refusals 8, 9 and the first half of 10 do not arise
pub record Paintable (size n : ℕ) (c : Cluster) (k : ℕ) : Type 0 where
  pub slot : k < n
  pub some : 0 < c.residue.count
  pub r : c.residue.r ≤ 255 * c.residue.count
  pub g : c.residue.g ≤ 255 * c.residue.count
  pub b : c.residue.b ≤ 255 * c.residue.count
  pub a : c.residue.a ≤ 255 * c.residue.count
  pub pixels : length c.pixels ≤ size

pub tally-count : (image : List ℕ) (f : ℕ → Bool) (n : ℕ) → (tally image f n).count ≡ count_of f n
unfolding tally count_of sum_of_one ◌⊕◌
tally-count image f zero = refl
tally-count image f (suc n) = pick (f n) (tally-count image f n)
  where
    pick : (b : Bool) → (tally image f n).count ≡ count_of f n → (if b then tally image f n ⊕ sum_of_one (pixel image n) else tally image f n).count ≡ bit b + count_of f n
    pick true e = omega arith
    pick false e = omega arith

prepare_stage2-shows : (o : RunnerConfig) (w h : ℕ) (image : List ℕ) → (T (keying_on o) → ⊥) → (s : State) → Early image (w * h) (Discarded o image) (T (keying_on o)) (w * h) s
    → Going image (w * h) 1 0 (prepare_stage2 s) → Shows o (w * h) (length (prepare_stage2 s).clusters) 1 0 (prepare_stage2 s)
unfolding prepare_stage2 with_residue
prepare_stage2-shows o w h image off s E G = record {
  inner = λ j z r. absurd (idle j z r);
  outer = λ j z r d. absurd (elim d [ inl d ↦ omega (arith, area-pos G.sound.basic j z.0 z.1) | inr d ↦ omega arith ]);
  over = λ x i r. absurd (subst (In x) E.quiet i);
  firsts = λ p x f. absurd (subst (λ l. First (ledger s.log) p l x) E.quiet f);
  bounds = areas-le (w * h) s.clusters [] (λ k. area-le E.basic k) tt;
  lit = λ p l z. off (E.lit p l z);
  table = refl;
  once = λ x. omega (arith, ap (occurs x) E.quiet);
  turned = λ x i r. absurd (subst (In x) E.quiet i);
}
  where
    idle : (j : ℕ) → Stands (ledger s.log) j → (cluster (prepare_stage2 s) j).merged_into ≢ 0 → ⊥
    idle j z r = r (ap (λ c. c.merged_into) (settled s j) ∙ E.roots j)

-- p is shown in the colour of the cluster that owns it
pub run-pictured : (o : RunnerConfig) (w h : ℕ) (image : List ℕ) → (T (keying_on o) → ⊥) → (p : ℕ) → p < w * h → Shown (w * h) image (ledger (run o w h image).log) (state_view (run o w h image)) (paint (w * h) (run o w h image)) p
unfolding run drop_empty
run-pictured o w h image off = show
  where
    s₀ : State
    s₀ = prepare_stage2 (stage1 o w h image)

    s : State
    s = stage2 o w h (stage1 o w h image)

    E : Early image (w * h) (Discarded o image) (T (keying_on o)) (w * h) (stage1 o w h image)
    E = early o w h image

    G₀ : Going image (w * h) 1 0 s₀
    G₀ = prepare_stage2-going (w * h) (stage1 o w h image) E

    R : Going image (w * h) (suc (w * h)) 0 s × Shows o (w * h) (length s₀.clusters) (suc (w * h)) 0 s
    R = rw (stage2-passes o w h image) (passes-shows o w h s₀ G₀ (prepare_stage2-shows o w h image off (stage1 o w h image) E G₀) (w * h))

    B : Basic image (w * h) (ledger s.log) s
    B = R.0.sound.basic

    counted : (y p : ℕ) → T (ledger s.log y p) → ltb 0 (cluster s y).sum.count ≡ true
    counted y p t =
        is_true (ltb 0 (cluster s y).sum.count) (lt→ltb 0 (cluster s y).sum.count
        (omega (arith, ap (λ c. c.count) (B.sums y), tally-count image (ledger s.log y) (w * h), area-count_of B y, area-pos B y p t)))

    -- k owns q exactly when k is the smallest that holds q
    owns : (k q : ℕ) → T (owned s.log k q) ↔ Smallest (ledger s.log) (w * h) q k
    owns k q = (
      λ x. (R.0.sound.forest.own_held k q x, λ j t d. fewer R.0.sound k j (R.0.sound.forest.own-inner k j q x t (λ e. d (sym e)))),
      λ x. let y = R.0.sound.forest.owner k q x.0 in back x y.0 y.1 (ℕ_discrete y.0 k),
    )
      where
        back : Smallest (ledger s.log) (w * h) q k → (j : ℕ) → T (owned s.log j q) → Dec (j ≡ k) → T (owned s.log k q)
        back x j y (yes e) = subst (λ m. T (owned s.log m q)) e y
        back x j y (no d) =
            absurd (omega (arith, fewer R.0.sound j k (R.0.sound.forest.own-inner j k q y x.0 d), x.1 j (R.0.sound.forest.own_held j q y) d))

    show : (p : ℕ) → p < w * h → Shown (w * h) image (ledger s.log) (state_view (drop_empty s)) (paint (w * h) (drop_empty s)) p
    show p l =
        let top : T (ledger s.log (label s p) p) = B.shown p (R.1.lit p l) in
        let f = first-find (ledger s.log) p (label s p) s.outputs (all-out o w h s R.0 R.1 (label s p) (p, top)) top in
        let own : T (owned s.log f.0 p) = R.1.firsts p f.0 f.1 in (
          f.0,
          (
            first_holds (ledger s.log) p f.0 s.outputs f.1,
            λ j t d. fewer R.0.sound f.0 j (R.0.sound.forest.own-inner f.0 j p own t (λ e. d (sym e))),
          ),
          paint-first (drop_empty s) (ledger s.log) B.lists (w * h) p f.0 l
              (first-keep (ledger s.log) (λ k. ltb 0 (cluster s k).sum.count) p f.0 s.outputs (λ y t. counted y p t) f.1),
          (owned s.log f.0, owns f.0, ap average (R.0.sound.residues f.0 (p, first_holds (ledger s.log) p f.0 s.outputs f.1))),
        )

-- ---- no check refuses the painting

module _ (image : List ℕ) (bytes : (i : ℕ) → get_or image i 0 ≤ 255) where
  pub tally-bytes : (f : ℕ → Bool) (n : ℕ) → ((tally image f n).r ≤ 255 * count_of f n) × ((tally image f n).g ≤ 255 * count_of f n) × ((tally image f n).b ≤ 255 * count_of f n) × ((tally image f n).a ≤ 255 * count_of f n)
  unfolding tally count_of sum_of_one ◌⊕◌ pixel
  tally-bytes f zero = omega arith
  tally-bytes f (suc n) = pick (f n) (tally-bytes f n)
    where
      t : ColorSum
      t = tally image f n

      u : Bool → ColorSum
      u b = if b then tally image f n ⊕ sum_of_one (pixel image n) else tally image f n

      pick : (b : Bool) → (t.r ≤ 255 * count_of f n) × (t.g ≤ 255 * count_of f n) × (t.b ≤ 255 * count_of f n) × (t.a ≤ 255 * count_of f n)
          → ((u b).r ≤ 255 * (bit b + count_of f n)) × ((u b).g ≤ 255 * (bit b + count_of f n)) × ((u b).b ≤ 255 * (bit b + count_of f n)) × ((u b).a ≤ 255 * (bit b + count_of f n))
      pick true e = (omega (arith, bytes (4 * n)), omega (arith, bytes (4 * n + 1)), omega (arith, bytes (4 * n + 2)), omega (arith, bytes (4 * n + 3)))
      pick false e = omega arith

  pub run-paintable : (o : RunnerConfig) (w h k : ℕ) → In k (run o w h image).outputs → Paintable (w * h) (length (run o w h image).clusters) (cluster (run o w h image) k) k
  unfolding run drop_empty
  run-paintable o w h k i = record {
    slot = B.slots k z.0 z.1;
    some = omega (arith, same, tally-count image (owned s.log k) (w * h), some-own);
    r = omega (arith, ap (λ c. c.r) res, t.0, tally-count image (owned s.log k) (w * h), same);
    g = omega (arith, ap (λ c. c.g) res, t.1, tally-count image (owned s.log k) (w * h), same);
    b = omega (arith, ap (λ c. c.b) res, t.2, tally-count image (owned s.log k) (w * h), same);
    a = omega (arith, ap (λ c. c.a) res, t.3, tally-count image (owned s.log k) (w * h), same);
    pixels = area-le B k;
  }
    where
      s : State
      s = stage2 o w h (stage1 o w h image)

      S : Sound image (w * h) (ledger s.log) (owned s.log) s
      S = (going o w h image).sound

      B : Basic image (w * h) (ledger s.log) s
      B = S.basic

      z : Stands (ledger s.log) k
      z =
          let l : 0 < (cluster s k).sum.count = ltb→lt 0 (cluster s k).sum.count (in-keep (λ k. ltb 0 (cluster s k).sum.count) k s.outputs i) in
          let y = count_of-some (λ p. false) (ledger s.log k) (w * h) (omega (arith, count_of-none (λ p. false) (λ p x. x) (w * h), ap (λ c. c.count) (B.sums k), tally-count image (ledger s.log k) (w * h))) in
          (y.0, y.1)

      res : (cluster s k).residue ≡ tally image (owned s.log k) (w * h)
      res = S.residues k z

      same : (cluster s k).residue.count ≡ (tally image (owned s.log k) (w * h)).count
      same = ap (λ c. c.count) res

      t : ((tally image (owned s.log k) (w * h)).r ≤ 255 * count_of (owned s.log k) (w * h)) × ((tally image (owned s.log k) (w * h)).g ≤ 255 * count_of (owned s.log k) (w * h))
          × ((tally image (owned s.log k) (w * h)).b ≤ 255 * count_of (owned s.log k) (w * h)) × ((tally image (owned s.log k) (w * h)).a ≤ 255 * count_of (owned s.log k) (w * h))
      t = tally-bytes (owned s.log k) (w * h)

      some-own : 0 < count_of (owned s.log k) (w * h)
      some-own =
          let y = S.owns k z in
          omega (
            arith,
            count_of-none (λ p. false) (λ p x. x) (w * h),
            count_of-lt (λ p. false) (owned s.log k) (λ p x. absurd x) (w * h) y.0 (omega (arith, B.width, B.places k y.0 (S.forest.own_held k y.0 y.1))) y.1 (λ x. x),
          )

-- with keying off no cluster is put out twice
pub run-once : (o : RunnerConfig) (w h : ℕ) (image : List ℕ) → (T (keying_on o) → ⊥) → (x : ℕ) → occurs x (run o w h image).outputs ≤ 1
unfolding run drop_empty
run-once o w h image off x = omega (arith, occurs-keep (λ k. ltb 0 (cluster s k).sum.count) x s.outputs, R.1.once x)
  where
    s₁ : State
    s₁ = stage1 o w h image

    s : State
    s = stage2 o w h s₁

    E : Early image (w * h) (Discarded o image) (T (keying_on o)) (w * h) s₁
    E = early o w h image

    G : Going image (w * h) 1 0 (prepare_stage2 s₁)
    G = prepare_stage2-going (w * h) s₁ E

    R : Going image (w * h) (suc (w * h)) 0 s × Shows o (w * h) (length (prepare_stage2 s₁).clusters) (suc (w * h)) 0 s
    R = rw (stage2-passes o w h image) (passes-shows o w h (prepare_stage2 s₁) G (prepare_stage2-shows o w h image off s₁ E G) (w * h))

    occurs-keep : (f : ℕ → Bool) (y : ℕ) (xs : List ℕ) → occurs y (keep f xs) ≤ occurs y xs
    occurs-keep f y [] = omega arith
    occurs-keep f y (z ∷ zs) = pick (f z) (occurs-keep f y zs)
      where
        pick : (b : Bool) → occurs y (keep f zs) ≤ occurs y zs → occurs y (if b then z ∷ keep f zs else keep f zs) ≤ bit (eqb y z) + occurs y zs
        pick true l = omega arith
        pick false l = omega arith
