use mathlib.Core.Path.{◌≡◌}
use mathlib.Core.List.{List, ◌++◌, [], ◌∷◌}
use Prim.Native.Nat.{ℕ, ◌+◌, ◌-◌, ◌*◌, ◌≤◌}
use Rattle.std.proofs.Common.{arith, append_assoc, drop-drop}
use lib.ListN.{length, take, drop}
use lib.Seq.{sets}
use Rattle.std.proofs.lemmas.List.Edits.{sets-eq}
use Rattle.rules.specs.Picture.{paint_pixel}
use Rattle.container.proofs.halves.paint_pixel.Goals as goal

-- a part written over is a run of stores
part-sets : (l vs : List ℕ) (i k : ℕ) → k ≡ length vs → i + length vs ≤ length l → take i l ++ (vs ++ drop k (drop i l)) ≡ sets l i vs
part-sets l vs i k e h = rw (sets-eq vs l i h, append_assoc, e, drop-drop)

pub returns : goal.returns
unfolding paint_pixel
returns c = let p = c.args.p in
    let v = c.args.c in
    let e : (4 * p + 4) - 4 * p ≡ 4 = omega arith in
    rw (c.copy_from_slice.ensures.after, e) (part-sets c.args.picture.now (v.r ∷ v.g ∷ v.b ∷ v.a ∷ []) (4 * p) 4 (omega arith) (omega arith))
