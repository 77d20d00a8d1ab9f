-- Stage 2 starts in the buffers: slots prepared, the queue built.
use mathlib.Core.Path.{◌≡◌, refl, sym, ap, ◌∙◌, subst}
use mathlib.Core.List.{List, [], ◌∷◌, map}
use Prim.Native.Nat.{ℕ, ◌+◌, ◌*◌, ◌≤◌, max}
use native.Mathlib.Omega.{arith}
use lib.ListN.{length, get_or, length-map, get_or-map}
use Rattle.rules.specs.Color.{RunnerConfig}
use Rattle.rules.specs.State.{State, Cluster, new_cluster, cluster, area, with_residue}
use Rattle.rules.specs.Stage2.{prepare_stage2}
use Rattle.rules.specs.Run.{stage1}
use Rattle.rules.specs.Code.Order.{largest, start, turns}
use Rattle.rules.proofs.Early.{settled}
use Rattle.rules.proofs.Whole.{early}
use Rattle.rules.proofs.Ranges.{turns-ranged}
use Rattle.rules.specs.Layout.{slot_width}
use Rattle.rules.specs.Code.Bounds.{count_bound}
use Rattle.runner.specs.Code.Given.{Given}
use Rattle.runner.specs.Code.Rep.{Table, slots_of}
use Rattle.runner.specs.Code.Queue.{Built, queue_key}
use Rattle.runner.specs.Code.Stage2.{Prepared, Between, Entered}
use Rattle.runner.proofs.RepStage2.{rep-prepare, prepared-no-holes}

-- the largest pixel count does not change when residues do
largest-same : (cs : List Cluster) → largest (map (λ c. with_residue c.sum c) cs) ≡ largest cs
unfolding largest with_residue
largest-same [] = refl
largest-same (c ∷ cs) = ap (max (area c)) (largest-same cs)

module _ {o : RunnerConfig} {w h : ℕ} {image : List ℕ} {shift : ℕ} (G : Given o w h image shift) {t₀ L K B E H Q M S : List ℕ} {n : ℕ} (N : Entered o w h image t₀ L K B E H Q M S n) where
  abbrev s : State
  s = stage1 o w h image

  some-slots : 1 ≤ n
  some-slots = omega (arith, N.slots, (early o w h image).room, (early o w h image).some)

  few-slots : n ≤ w * h + 1
  few-slots = omega (arith, N.slots, (early o w h image).short)

  table_fits : slot_width * n ≤ length t₀
  table_fits = omega (arith, few-slots, N.table_fits)

  pub queue-fits : (3 * n ≤ length Q) × (n ≤ count_bound)
  queue-fits = (omega (arith, N.queue-long, few-slots), omega (arith, few-slots, G.small))

  module _ {B' Q₁ : List ℕ} {n₁ top : ℕ} (P : Prepared n B Q B' Q₁ top) (z : n₁ ≡ n) (e : length Q₁ ≡ length Q) where
    module _ {Q₂ : List ℕ} {n₂ : ℕ} (D : Built Q₁ Q₂ n₁) (y : n₂ ≡ n₁) (d : length Q₂ ≡ length Q₁) where
      key : (j : ℕ) → get_or (map area (prepare_stage2 s).clusters) j 0 ≡ area (cluster (prepare_stage2 s) j)
      key j = get_or-map area (prepare_stage2 s).clusters j new_cluster

      area_same : (j : ℕ) → area (cluster (prepare_stage2 s) j) ≡ area (cluster s j)
      unfolding with_residue
      area_same j = ap area (settled s j)

      slots : length (prepare_stage2 s).clusters ≡ length s.clusters
      unfolding prepare_stage2
      slots = length-map s.clusters (λ c. with_residue c.sum c)

      held : Table n (slots_of s) t₀ B
      held = subst (λ x. Table x (slots_of s) t₀ B) (sym N.slots) N.rep.tabled

      pub started : Between o w h image t₀ L K B' E H Q₂ M S n₂ (record { m = 0; turns = 0; largest = top })
      unfolding turns start prepare_stage2
      started = rw (y, z) (record {
        table_fits = N.table_fits;
        carried = record {
          queue-long = d ∙ e ∙ N.queue-long;
          marks-long = N.marks-long;
          staged-long = N.staged-long;
          rep = rep-prepare N.rep (subst (λ x. Table x (slots_of (prepare_stage2 s)) t₀ B') N.slots (P.state s t₀ N.slots table_fits held));
          hole-ends = prepared-no-holes s (early o w h image).no_holes N.hole-ends-long;
          slots = N.slots ∙ sym slots;
          tree = rw z at D.tree;
          keyed = record {
            wide = length-map (prepare_stage2 s).clusters area ∙ slots ∙ sym N.slots;
            below = λ j l. omega (arith, key j, (turns-ranged image G.bytes o w h 0).areas j, G.small);
            keyed = λ j l. D.keys j (omega (arith, z)) ∙ P.keys s t₀ N.slots table_fits held j l ∙ ap queue_key (sym (key j ∙ area_same j));
          };
          marked = λ j. omega (arith, N.marks j);
          entries = sym (ap length (early o w h image).quiet);
          staged = λ i l. absurd (omega arith);
        };
        top = P.largest s t₀ N.slots table_fits held ∙ sym (largest-same s.clusters);
      })
