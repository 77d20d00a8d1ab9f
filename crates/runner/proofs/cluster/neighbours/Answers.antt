use mathlib.Core.Path.{◌≡◌, refl, ap, ◌∙◌}
use mathlib.Core.List.{List, [], ◌∷◌, map}
use Prim.Native.Nat.{ℕ, ◌*◌, ◌≤◌}
use native.Mathlib.Omega.{arith}
use lib.ListN.{length}
use borrow.Author.Tests.{ne_eqb}
use Rattle.rules.specs.Code.Bounds.{capacity}
use Rattle.runner.specs.declared.cluster.Nearest.{Nearest}
use Rattle.rules.specs.Color.{Color, average}
use Rattle.rules.specs.Grid.{sides}
use Rattle.rules.specs.Stage2.{labels_at, labels_around}
use Rattle.rules.proofs.Labels.{sides-fit}
use Rattle.runner.specs.Code.Slots.{sum_at, list_in}
use Rattle.runner.specs.Code.Neighbours.{place_label, around, diff_from, diff_at, nearest_of, list_at, Scan, noted_four, Scannable}
use Rattle.std.proofs.Common.{rules}
use Rattle.runner.proofs.Pixels.{pixels_within, pixels_few}
use Rattle.runner.proofs.Nearest.{each-length, each-count, each_holds}
use Rattle.runner.proofs.cluster.neighbours.Invariants.{Going}
use Rattle.runner.proofs.cluster.neighbours.Goals as goal

module _ (labels links table marks : List ℕ) (w h k visit : ℕ) (S : Scannable labels links table marks w h k visit) where
  -- before the first pixel nothing is found
  begins : w * h ≤ capacity → (f : Nearest) → f ≡ nearest_of (diff_at table k) [] → (ps : List ℕ) → ps ≡ list_at links table k → Going labels links table marks w h k visit (record { marks = marks; nearest = f }) ps
  begins small f e ps d = record {
    kept = refl;
    within = rw d (pixels_within (w * h) links (list_in table k) S.readable);
    few = rw (d, e) (omega (arith, pixels_few links (list_in table k), S.few, small));
    found = [];
    holds = record { rising = tt; marked = λ j. ne_eqb _ _ (λ z. omega (arith, z, S.earlier j)); low = λ j. omega (arith, S.earlier j); right = e };
    rest = ap (λ qs. labels_around w h labels k qs []) d;
  }

  -- what a turn gives, with its four labels and the colour of k
  gives : (s t : Scan) (p : ℕ) (ps : List ℕ) → t ≡ noted_four (diff_at table k) k visit (around labels w h p) s → Going labels links table marks w h k visit s (p ∷ ps) → Going labels links table marks w h k visit t ps
  unfolding noted_four sides labels_around
  gives s t p ps e G =
      let ls = map (place_label labels) (sides w h p) in
      record {
        kept = rw e (each-length (diff_at table k) k visit ls s ∙ G.kept);
        within = G.within.1;
        few = rw e (omega (arith, each-count (diff_at table k) k visit ls s, G.few));
        found = labels_at labels k (sides w h p) G.found;
        holds = rw e (each_holds (diff_at table k) k visit labels (w * h) (length marks) (λ q i n. (S.notable q i n).mark) (sides w h p) (sides-fit w h p G.within.0) s G.found G.kept G.holds);
        rest = G.rest;
      }

  turn : (s t : Scan) (p : ℕ) (ps left : List ℕ) (c : Color) → left ≡ p ∷ ps → c ≡ average (sum_at table k) → t ≡ noted_four (diff_from table c) k visit (around labels w h p) s → Going labels links table marks w h k visit s left
      → Going labels links table marks w h k visit t ps
  turn s t p ps left c d e g G = gives s t p ps (rw e at g) (rw d at G)

pub loop-p-preserved : goal.loop-p-preserved
loop-p-preserved c = turn _ _ _ _ _ _ _ _ c.requires _ _ _ _ _ _ c.in-Some.ensures.steps c.color.ensures c.look-found.ensures c.loop-p.invariant

pub loop-p-init : goal.loop-p-init
loop-p-init c = begins _ _ _ _ _ _ _ _ c.requires c.args.input.now.given.small _ (search rules) _ (rw (c.into_iter-p-iterator.ensures.into_iter_gives, c.list-list.ensures) refl)
