use Rattle.std.proofs.Common.{◌≡◌, ℕ, ◌<◌, length}
use Rattle.std.proofs.Math.Seq.{sets}
use Rattle.rules.specs.Stored.{stored_bytes}
use Rattle.sheet.specs.Code.Pairs.{pairs}
use Rattle.sheet.proofs.stored.put_pairs.Given as goal

-- the pairs before i are written
abbrev pub invariant-loop-i : goal.invariant-loop-i
invariant-loop-i g l = record {
  long : length l.destination ≡ length l.initial.destination;
  written : (f h : ℕ → ℕ) → ((i : ℕ) (x : ℕ × ℕ) → i < l.count → goal.F-post g l.pair i x → x ≡ (f i, h i))
      → l.destination ≡ sets l.initial.destination 0 (stored_bytes (pairs f h l.i));
}
