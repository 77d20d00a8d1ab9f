-- From what stage 2 leaves in the buffers to the run of the rules.
use Rattle.std.specs.Prelude.{if◌then◌else◌}
use mathlib.Core.Path.{◌≡◌, refl, sym, ap, ◌∙◌, subst}
use mathlib.Core.List.{List, [], ◌∷◌, ◌++◌}
use Prim.Native.Nat.{ℕ, zero, suc, ◌+◌, ◌-◌, ◌*◌, ◌≤◌, ◌<◌}
use native.Mathlib.Nat.{sub-zero}
use native.Mathlib.Omega.{arith}
use lib.Dec.{ltb}
use lib.ListN.{length, get_or, take, drop, replicate}
use lib.Seq.{length-take-le, get_or-take, ext_get_or}
use Rattle.rules.specs.Base.{keep}
use Rattle.rules.specs.Color.{RunnerConfig}
use Rattle.rules.specs.State.{State, cluster}
use Rattle.rules.specs.Run.{stage1, stage2, drop_empty, run}
use Rattle.rules.specs.Layout.{link, links, slot, table, slot_width}
use Rattle.rules.specs.Code.Order.{drained}
use Rattle.rules.specs.Code.Ranges.{Ranged, AllBelow}
use Rattle.rules.specs.Calls.{Buffers, over, leaves, accepted}
use Rattle.rules.specs.Code.Accepted.{Accepted}
use Rattle.rules.proofs.Bounds.{outputs-bound}
use Rattle.rules.proofs.Layouts.{links-length}
use Rattle.rules.proofs.Moments.{run-width}
use Rattle.rules.proofs.Order.{drained-stage2}
use Rattle.rules.proofs.Ranges.{turns-ranged}
use Rattle.runner.specs.Code.Outputs.{counted}
use Rattle.runner.specs.Code.Rep.{Table, slots_of}
use Rattle.runner.specs.Code.Stage2.{Staged}
use Rattle.runner.specs.Code.Calls.{Clustered}
use Rattle.runner.proofs.Tables.{sum-at, table-over}

-- a list whose beginning was lent: what came back stands before the rest
abbrev pub with_front : List ℕ → ℕ → List ℕ → List ℕ
with_front old n ys = ys ++ drop (n - 0) old

beginning : (ys old : List ℕ) (n : ℕ) → length ys ≡ n → with_front old n ys ≡ over ys old
beginning ys old n e = ap (λ k. ys ++ drop k old) (sub-zero n ∙ sym e)

below_at : {n : ℕ} (xs : List ℕ) (i : ℕ) → AllBelow n xs → i < length xs → get_or xs i 0 < n
below_at [] i b l = absurd (omega arith)
below_at (x ∷ xs) zero b l = b.0
below_at (x ∷ xs) (suc i) b l = below_at xs i b.1 (omega arith)

-- dropping entries leaves the links and the slots
links-kept : (s : State) → links s ≡ links (drop_empty s)
unfolding links link drop_empty
links-kept s = refl

table_kept : (s : State) → table s ≡ table (drop_empty s)
unfolding table slot drop_empty
table_kept s = refl

-- the entries that count something by the table are those that do by the state
counted_is : (s : State) {t₀ t : List ℕ} → Table (length s.clusters) (slots_of s) t₀ t → (xs : List ℕ) → AllBelow (length s.clusters) xs
    → counted t xs ≡ keep (λ k. ltb 0 (cluster s k).sum.count) xs
unfolding counted
counted_is s {t₀} {t} T [] b = refl
counted_is s {t₀} {t} T (x ∷ xs) b =
    ap (λ z. if ltb 0 z.count then x ∷ counted t xs else counted t xs) (sum-at s T x b.0)
    ∙ ap (λ l. if ltb 0 (cluster s x).sum.count then x ∷ l else l) (counted_is s T xs b.1)

-- what stage 2 ends with
abbrev pub ended : RunnerConfig → ℕ → ℕ → List ℕ → State
ended o w h image = stage2 o w h (stage1 o w h image)

module _ (o : RunnerConfig) (w h : ℕ) (image : List ℕ) (bytes : (i : ℕ) → get_or image i 0 ≤ 255) where
  ended-ranged : Ranged w h (ended o w h image)
  unfolding drained
  ended-ranged = subst (Ranged w h) (drained-stage2 o w h image) (turns-ranged image bytes o w h (2 * (w * h)))

  -- both stages have left L, K and B, and the outputs S
  module _ {B₀ : List ℕ} (O₀ : List ℕ) (fits : slot_width * (w * h + 1) ≤ length B₀) (room : 2 * (w * h) ≤ length O₀) {L K B E H Q M S : List ℕ} {slots entries : ℕ} (F : Staged (w * h) (stage2 o w h (stage1 o w h image)) B₀ L K B E H Q M S slots entries) where
    entries-few : entries ≤ 2 * (w * h)
    entries-few = omega (arith, F.entries, outputs-bound o w h image)

    -- the outputs are staged
    pub staged-length : length (take entries S) ≡ entries
    staged-length = length-take-le entries S (omega (arith, entries-few, F.long))

    -- what is asked where they are copied
    pub staged-few : entries < 4294967296 → (length (take entries S) ≤ length O₀) × (length (take entries S) < 4294967296)
    staged-few l = (omega (arith, staged-length, entries-few, room), omega (arith, staged-length, l))

    pub staged-in : (i : ℕ) → i < length (take entries S) → slot_width * get_or (take entries S) i 0 + slot_width ≤ length B
    staged-in i l =
        omega (arith, get_or-take entries S i 0 (omega (arith, staged-length, l)), F.staged i (omega (arith, staged-length, l)), below_at (ended o w h image).outputs i ended-ranged.outputs (omega (arith, staged-length, l, F.entries)), ended-ranged.slots, F.tabled.long, fits)

    staged-all : take entries S ≡ (ended o w h image).outputs
    staged-all =
        ext_get_or 0 (take entries S) (ended o w h image).outputs (staged-length ∙ F.entries)
        (λ i l. get_or-take entries S i 0 (omega (arith, staged-length)) ∙ F.staged i (omega (arith, staged-length)))

    kept : counted B (take entries S) ≡ (run o w h image).outputs
    unfolding run drop_empty
    kept = ap (counted B) staged-all ∙ counted_is (ended o w h image) F.tabled (ended o w h image).outputs ended-ranged.outputs

    table_is : B ≡ over (table (run o w h image)) B₀
    unfolding run
    table_is =
        let s = ended o w h image in
        table-over s F.tabled (omega (arith, ended-ranged.slots, fits)) ∙ ap (λ l. over l B₀) (table_kept s)

    -- and the outputs that count something are copied
    pub is-clustered : {O' : List ℕ} {m : ℕ} → (O' ≡ over (counted B (take entries S)) O₀) × (m ≡ length (counted B (take entries S))) → Clustered (run o w h image) B₀ O₀ L K B O' slots m
    unfolding run drop_empty
    is-clustered D = record {
      labels = F.labelled;
      links = F.linked ∙ links-kept (ended o w h image);
      table = table_is;
      outputs = D.0 ∙ ap (λ l. over l O₀) kept;
      slots = F.slots;
      entries = D.1 ∙ ap length kept;
    }

  -- with a work buffer of zeros that is what the rules say of an accepted run
  module _ (b : Buffers) (A : Accepted o w h (length image) (length b.labels) (length b.links) (length b.table) (length b.outputs) (length b.work)) where
    pub ran : {L K B O W : List ℕ} {n m : ℕ} → Clustered (run o w h image) b.table b.outputs L K B O n m → W ≡ replicate (length b.work) 0
        → record { number = 0; n = n; m = m; buffers = record { labels = with_front b.labels (w * h) L; links = with_front b.links (w * h) K; table = B; outputs = O; work = W } } ≡ accepted o w h image b
    unfolding accepted leaves
    ran {L = L} {K = K} C z = λ i. record {
      number = 0;
      n = C.slots i;
      m = C.entries i;
      buffers = record {
        labels = (beginning L b.labels (w * h) (ap length C.labels ∙ width) ∙ ap (λ l. over l b.labels) C.labels) i;
        links = (beginning K b.links (w * h) (ap length C.links ∙ links-length (run o w h image) ∙ width) ∙ ap (λ l. over l b.links) C.links) i;
        table = C.table i;
        outputs = C.outputs i;
        work = z i;
      };
    }
      where
        width : length (run o w h image).labels ≡ w * h
        width = run-width o w h image
