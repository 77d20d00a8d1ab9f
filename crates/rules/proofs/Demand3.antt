-- Demand 3 of every run.
use mathlib.Core.List.{List}
use Prim.Native.Nat.{ℕ}
use Rattle.rules.specs.Color.{RunnerConfig}
use Rattle.rules.specs.Demand3.{Demand3}
use Rattle.rules.proofs.Moments.{run-always, run-first, run-later, run-last, run-returned}
use Rattle.rules.proofs.Pictures.{run-pictured}
use Rattle.rules.proofs.Calls.{run-then-paint}

pub demand3 : (o : RunnerConfig) (w h : ℕ) (image : List ℕ) → Demand3 o w h image
demand3 o w h image = record {
  always = run-always o w h image;
  first = run-first o w h image;
  later = run-later o w h image;
  last = run-last o w h image;
  returned = run-returned o w h image;
  pictured = run-pictured o w h image;
  unrefused = λ bytes b. run-then-paint o w h image bytes b;
}
