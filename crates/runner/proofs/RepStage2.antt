-- The buffers keep holding the state of the rules through the operations of stage 2.
use Rattle.std.specs.Prelude.{if◌then◌else◌}
use mathlib.Core.Path.{◌≡◌, refl, sym, ap, ap₂, ◌∙◌, subst, fun_ext}
use mathlib.Core.Logic.{◌≢◌, inl, by_cases}
use mathlib.Core.Bool.{false}
use mathlib.Core.List.{List, [], ◌∷◌, map}
use Prim.Native.Nat.{ℕ, suc, ◌+◌, ◌*◌, ◌≤◌, ◌<◌}
use native.Mathlib.Decide.{ℕ_discrete, dec_lt}
use native.Mathlib.Omega.{arith}
use borrow.Author.Tests.{lt-ltb, le-ltb}
use lib.Dec.{ltb, lit≤, lit<}
use lib.ListN.{length, get_or, set, length-set, length-map}
use Rattle.rules.specs.Base.{up_to}
use Rattle.rules.specs.Color.{◌⊕◌}
use Rattle.rules.specs.State.{State, Cluster, new_cluster, cluster, label, area, relabel, with_cluster, emptied, with_residue, merged_to, deeper, put_out, merge_cluster_into, deepen_cluster_into}
use Rattle.rules.specs.Layout.{after, first_of, link, links, sum_numbers, slot, slot_width, merged_into_place, depth_place}
use Rattle.rules.specs.Stage2.{prepare_stage2}
use Rattle.rules.specs.Claim.{occurs}
use Rattle.rules.proofs.Basic.{Moved, three}
use Rattle.rules.proofs.Links.{after_none}
use Rattle.rules.proofs.Visits.{Going, Near, root, k≢t, k-slot, t-slot, merge-changes, merge-from, merge-to, deepen-changes, deepen-from, deepen-to}
use Rattle.rules.proofs.Early.{settled}
use Rattle.rules.proofs.Holes.{Holes, root-unnamed, merge-same-holes, merge-same-into, deepen-t-holes, deepen-other-holes, deepen-other-into, deepen-into}
use Rattle.color.specs.Colors.{sum_of}
use Rattle.color.specs.declared.ColorSum.{ColorSum}
use Rattle.runner.specs.Code.Slots.{sum_at, set_numbers, head_at, head_numbers, saved_head, residue_numbers, saved_residue, head_of}
use Rattle.runner.specs.Code.Rep.{Table, Rep, HoleEnds, last_of, link_after, written, slots_of}
use Rattle.runner.proofs.Tables.{written_out, table-head, table-residue, table-set, table_same}
use Rattle.runner.proofs.Rows.{Row, row_in, row_out, row, next_hole, slot_is, slot_row, Fills, table-fills}
use Rattle.runner.proofs.Joined.{moved-labels, moved-links, moved-tails}

-- a cluster that is put out changes no buffer
pub rep-put : {size : ℕ} {s : State} {t₀ ls ks tb es : List ℕ} (k : ℕ) → Rep size s t₀ ls ks tb es → Rep size (put_out k s) t₀ ls ks tb es
unfolding put_out links link slot
rep-put k R = record { labelled = R.labelled; linked = R.linked; tabled = R.tabled; tails = R.tails; room = R.room }

-- a change that leaves the hole lists leaves their ends
pub holes-same : {size : ℕ} {s u : State} {es : List ℕ} → ((k : ℕ) → (cluster u k).holes ≡ (cluster s k).holes) → HoleEnds size s es → HoleEnds size u es
holes-same e X = record { tails = λ k z. X.tails k (subst (λ l. 0 < length l) (e k) z) ∙ sym (ap last_of (e k)); room = X.room }

-- links read only labels and lists
pub links-same : (s u : State) → s.labels ≡ u.labels → ((k : ℕ) → (cluster s k).pixels ≡ (cluster u k).pixels) → links s ≡ links u
unfolding links link
links-same s u e same =
    ap₂ (λ (g : ℕ → ℕ) n. map g (up_to n)) (fun_ext λ p. ap (λ l. after p (cluster s (get_or l p 0)).pixels) e ∙ ap (after p) (same (label u p))) (ap length e)

-- ---- the end of stage 1

prepared-pixels : (s : State) (k : ℕ) → (cluster s k).pixels ≡ (cluster (prepare_stage2 s) k).pixels
unfolding with_residue
prepared-pixels s k = sym (ap (λ c. c.pixels) (settled s k))

prepared-into : (s : State) (k : ℕ) → (cluster (prepare_stage2 s) k).merged_into ≡ (cluster s k).merged_into
unfolding with_residue
prepared-into s k = ap (λ c. c.merged_into) (settled s k)

prepared-holes : (s : State) (k : ℕ) → (cluster (prepare_stage2 s) k).holes ≡ (cluster s k).holes
unfolding with_residue
prepared-holes s k = ap (λ c. c.holes) (settled s k)

-- every residue is set to its sum, and all else stays
pub rep-prepare : {size : ℕ} {s : State} {t₀ ls ks tb es : List ℕ} → Rep size s t₀ ls ks tb es → {tb' : List ℕ} → Table (length s.clusters) (slots_of (prepare_stage2 s)) t₀ tb'
    → Rep size (prepare_stage2 s) t₀ ls ks tb' es
unfolding prepare_stage2
rep-prepare {s = s} {t₀} R {tb'} U = record {
  labelled = R.labelled;
  linked = R.linked ∙ links-same s (prepare_stage2 s) refl (prepared-pixels s);
  tabled = subst (λ n. Table n (slots_of (prepare_stage2 s)) t₀ tb') (sym (length-map s.clusters (λ c. with_residue c.sum c))) U;
  tails = λ k z y. R.tails k (subst (λ l. 0 < length l) (sym (prepared-pixels s k)) z) (sym (prepared-into s k) ∙ y) ∙ ap last_of (prepared-pixels s k);
  room = R.room;
}

-- without a hole list any ends will do
pub prepared-no-holes : {size : ℕ} (s : State) {es : List ℕ} → ((k : ℕ) → (cluster s k).holes ≡ []) → length es ≡ size + 1 → HoleEnds size (prepare_stage2 s) es
prepared-no-holes s none e = record { tails = λ k z. absurd (omega (arith, ap length (prepared-holes s k ∙ none k))); room = e }

-- the numbers of the slots when the residues of those below k are set
abbrev pub preparing : State → ℕ → ℕ → ℕ → ℕ
preparing s k j f = if ltb j k then slots_of (prepare_stage2 s) j f else slots_of s j f

module _ (s : State) {n : ℕ} {t₀ tb : List ℕ} where
  pub prepare-end : Table n (preparing s n) t₀ tb → Table n (slots_of (prepare_stage2 s)) t₀ tb
  prepare-end U = table_same U (λ k f l b. ap (λ c. if c then slots_of (prepare_stage2 s) k f else slots_of s k f) (lt-ltb k n l))

  module _ (k : ℕ) (U : Table n (preparing s k) t₀ tb) (l : k < n) where
    still : (f : ℕ) → preparing s k k f ≡ slots_of s k f
    still f = ap (λ c. if c then slots_of (prepare_stage2 s) k f else slots_of s k f) (le-ltb k k (omega arith))

    sum_number : (f : ℕ) → f < slot_width → get_or tb (slot_width * k + f) 0 ≡ slots_of s k f
    sum_number f b = U.slots k f l b ∙ still f

    -- the sum of slot k, which is read before its residue is set
    pub prepare-sum : sum_at tb k ≡ (cluster s k).sum
    unfolding slot sum_numbers
    prepare-sum = λ i. record { r = sum_number 6 (lit< tt) i; g = sum_number 7 (lit< tt) i; b = sum_number 8 (lit< tt) i; a = sum_number 9 (lit< tt) i; count = sum_number 10 (lit< tt) i }

    pub prepare-head-sum : sum_of (head_at tb k).sum ≡ (cluster s k).sum
    unfolding head_at
    prepare-head-sum = prepare-sum

    pub prepare-step : slot_width * n ≤ length t₀ → (x : ColorSum) → sum_of x ≡ (cluster s k).sum → Table n (preparing s (suc k)) t₀ (saved_residue tb k x)
    unfolding with_residue
    prepare-step fits x e = table_same (table-residue U k x l fits) (λ j f m b. pick j f b (ℕ_discrete j k) (dec_lt j k))
      where
        old : Row (preparing s k) k (row s k)
        old = record { wide = refl; at = λ f b. still f ∙ (slot_row s k).at f b }

        next : next_hole (prepare_stage2 s) k ≡ next_hole s k
        next = ap (λ m. after k (cluster (prepare_stage2 s) m).holes) (prepared-into s k) ∙ ap (after k) (prepared-holes s (cluster s k).merged_into)

        new : set_numbers (row s k) 0 11 (residue_numbers x) ≡ slot (prepare_stage2 s) k
        new = sym (slot_is (prepare_stage2 s) k (with_residue (sum_of x) (cluster s k)) (next_hole s k) (settled s k ∙ ap (λ y. with_residue y (cluster s k)) (sym e)) next)

        pick : (j f : ℕ) → f < slot_width → Dec (j ≡ k) → Dec (j < k) → written (preparing s k) k 11 (residue_numbers x) j f ≡ preparing s (suc k) j f
        pick j f b (yes z) y = subst (λ i. written (preparing s k) k 11 (residue_numbers x) i f ≡ preparing s (suc k) i f) (sym z)
            ((row_in 11 (residue_numbers x) (lit≤ tt) old).at f b ∙ ap (λ v. get_or v f 0) new ∙ sym (ap (λ c. if c then slots_of (prepare_stage2 s) k f else slots_of s k f) (lt-ltb k (suc k) (omega arith))))
        pick j f b (no z) (yes y) = written_out (preparing s k) k 11 (residue_numbers x) j f (inl z)
            ∙ ap (λ c. if c then slots_of (prepare_stage2 s) j f else slots_of s j f) (lt-ltb j k y ∙ sym (lt-ltb j (suc k) (omega arith)))
        pick j f b (no z) (no y) = written_out (preparing s k) k 11 (residue_numbers x) j f (inl z)
            ∙ ap (λ c. if c then slots_of (prepare_stage2 s) j f else slots_of s j f) (le-ltb j k (omega arith) ∙ sym (le-ltb j (suc k) (omega arith)))

-- ---- merges

-- without its hole a deepening merge changes no hole list
pub deepen-same-holes : {image : List ℕ} {size : ℕ} (a f : ℕ) (s : State) (G : Going image size a f s) (pos : 0 < a) (e : area (cluster s f) ≡ a) (t : ℕ)
    (N : Near s (label s (get_or (cluster s f).pixels 0 0)) t) → (k : ℕ) → (cluster (deepen_cluster_into false f t s) k).holes ≡ (cluster s k).holes
deepen-same-holes a f s G pos e t N k = by_cases (ℕ_discrete k t)
    (λ z. subst (λ m. (cluster (deepen_cluster_into false f t s) m).holes ≡ (cluster s m).holes) (sym z) (deepen-t-holes a f s G pos e t N false))
    (λ z. deepen-other-holes a f s G pos e t N false k z)

module _ {image : List ℕ} {size : ℕ} (a f : ℕ) (s : State) (G : Going image size a f s) (pos : 0 < a) (e : area (cluster s f) ≡ a) (t : ℕ) (N : Near s (label s (get_or (cluster s f).pixels 0 0)) t)
    {t₀ ls ks tb es : List ℕ} (R : Rep size s t₀ ls ks tb es) (few : length s.clusters ≤ size + 1) (fits : slot_width * length s.clusters ≤ length t₀) where
  d : f ≢ t
  d = k≢t a f s G pos e t N

  fs : f < length s.clusters
  fs = k-slot a f s G pos e t N

  ts : t < length s.clusters
  ts = t-slot a f s G pos e t N

  pub rep-merge : (r : ColorSum) → sum_of r ≡ (cluster s t).residue ⊕ (cluster s f).residue
      → Rep size (merge_cluster_into f t s) t₀ (relabel t (cluster s f).pixels ls) (link_after ks (area (cluster s t)) (get_or es t 0) (first_of (cluster s f).pixels))
      (saved_head (saved_head (saved_residue tb t r) t (head_of (with_cluster (cluster s f) (cluster s t)))) f (head_of new_cluster)) (set es t (get_or es f 0))
  unfolding emptied with_cluster with_residue
  rep-merge r re = record {
    labelled = moved-labels a f s G pos e t N R M;
    linked = moved-links a f s G pos e t N R M (λ p z. ap (λ c. occurs p c.pixels) from);
    tabled = subst (λ n. Table n (slots_of u) t₀ tb') (sym M.table)
        (table-fills u (table-head (table-head (table-residue R.tabled t r ts fits) t (head_of to) ts fits) f (head_of new_cluster) fs fits) (λ k l. three f t (Fills σ u) f-fills t-fills o-fills k));
    tails = moved-tails a f s G pos e t N R M (λ z y. omega (arith, ap area from));
    room = length-set es t (get_or es f 0) ∙ R.room;
  }
    where
      u : State
      u = merge_cluster_into f t s

      to : Cluster
      to = with_cluster (cluster s f) (cluster s t)

      tb' : List ℕ
      tb' = saved_head (saved_head (saved_residue tb t r) t (head_of to)) f (head_of new_cluster)

      σ : ℕ → ℕ → ℕ
      σ = written (written (written (slots_of s) t 11 (residue_numbers r)) t 0 (head_numbers (head_of to))) f 0 (head_numbers (head_of new_cluster))

      M : Moved f t s (merge_cluster_into f t s)
      M = merge-changes a f s G pos e t N

      from : cluster (merge_cluster_into f t s) f ≡ emptied (cluster s f)
      from = merge-from a f s G pos e t N

      next : (k : ℕ) → next_hole (merge_cluster_into f t s) k ≡ next_hole s k
      next k = ap (λ m. after k (cluster (merge_cluster_into f t s) m).holes) (merge-same-into a f s G pos e t N k) ∙ ap (after k) (merge-same-holes a f s G pos e t N (cluster s k).merged_into)

      f-fills : Fills σ u f
      f-fills = (
        set_numbers (row s f) 0 0 (head_numbers (head_of new_cluster)),
        row_in 0 (head_numbers (head_of new_cluster)) (lit≤ tt) (row_out t 0 (head_numbers (head_of to)) d (row_out t 11 (residue_numbers r) d (slot_row s f))),
        sym (slot_is u f (emptied (cluster s f)) (next_hole s f) from (next f)),
      )

      t-fills : Fills σ u t
      t-fills = (
        set_numbers (set_numbers (row s t) 0 11 (residue_numbers r)) 0 0 (head_numbers (head_of to)),
        row_out f 0 (head_numbers (head_of new_cluster)) (λ z. d (sym z)) (row_in 0 (head_numbers (head_of to)) (lit≤ tt) (row_in 11 (residue_numbers r) (lit≤ tt) (slot_row s t))),
        sym (slot_is u t (with_residue (sum_of r) to) (next_hole s t) (merge-to a f s G pos e t N ∙ ap (λ x. with_residue x to) (sym re)) (next t)),
      )

      o-fills : (k : ℕ) → k ≢ f → k ≢ t → Fills σ u k
      o-fills k m n = (
        row s k,
        row_out f 0 (head_numbers (head_of new_cluster)) m (row_out t 0 (head_numbers (head_of to)) n (row_out t 11 (residue_numbers r) n (slot_row s k))),
        sym (slot_is u k (cluster s k) (next_hole s k) (M.other k m n) (next k)),
      )

  pub rep-deepen : Holes s → Rep size (deepen_cluster_into false f t s) t₀ (relabel t (cluster s f).pixels ls) (link_after ks (area (cluster s t)) (get_or es t 0) (first_of (cluster s f).pixels))
      (set (set (saved_head tb t (head_of (with_cluster (cluster s f) (cluster s t)))) (slot_width * f + merged_into_place) t) (slot_width * t + depth_place) ((cluster s t).depth + 1)) (set es t (get_or es f 0))
  unfolding merged_to with_cluster deeper
  rep-deepen H = record {
    labelled = moved-labels a f s G pos e t N R M;
    linked = moved-links a f s G pos e t N R M (λ p z. ap (λ c. occurs p c.pixels) from ∙ z);
    tabled = subst (λ n. Table n (slots_of u) t₀ tb') (sym M.table)
        (table-fills u (table-set (table-set (table-head R.tabled t (head_of to) ts fits) f 16 t fs (lit< tt) fits) t 17 ((cluster s t).depth + 1) ts (lit< tt) fits) (λ k l. three f t (Fills σ u) f-fills t-fills o-fills k));
    tails = moved-tails a f s G pos e t N R M (λ z y. N.0 (sym (deepen-into a f s G pos e t N false) ∙ y));
    room = length-set es t (get_or es f 0) ∙ R.room;
  }
    where
      u : State
      u = deepen_cluster_into false f t s

      to : Cluster
      to = with_cluster (cluster s f) (cluster s t)

      tb' : List ℕ
      tb' = set (set (saved_head tb t (head_of to)) (slot_width * f + merged_into_place) t) (slot_width * t + depth_place) ((cluster s t).depth + 1)

      σ : ℕ → ℕ → ℕ
      σ = written (written (written (slots_of s) t 0 (head_numbers (head_of to))) f 16 (t ∷ [])) t 17 (((cluster s t).depth + 1) ∷ [])

      M : Moved f t s (deepen_cluster_into false f t s)
      M = deepen-changes a f s G pos e t N false

      from : cluster (deepen_cluster_into false f t s) f ≡ merged_to t (cluster s f)
      from = deepen-from a f s G pos e t N false

      next : (k : ℕ) → k ≢ f → next_hole (deepen_cluster_into false f t s) k ≡ next_hole s k
      next k n = ap (λ m. after k (cluster (deepen_cluster_into false f t s) m).holes) (deepen-other-into a f s G pos e t N false k n) ∙ ap (after k) (deepen-same-holes a f s G pos e t N (cluster s k).merged_into)

      -- f is named nowhere
      f-next : next_hole (deepen_cluster_into false f t s) f ≡ next_hole s f
      f-next =
          ap (λ m. after f (cluster (deepen_cluster_into false f t s) m).holes) (deepen-into a f s G pos e t N false) ∙ ap (after f) (deepen-same-holes a f s G pos e t N t)
          ∙ after_none f (cluster s t).holes (root-unnamed H f (root a f s G pos e) t)
          ∙ sym (after_none f (cluster s (cluster s f).merged_into).holes (root-unnamed H f (root a f s G pos e) (cluster s f).merged_into))

      f-fills : Fills σ u f
      f-fills = (
        set_numbers (row s f) 0 16 (t ∷ []),
        row_out t 17 (((cluster s t).depth + 1) ∷ []) d (row_in 16 (t ∷ []) (lit≤ tt) (row_out t 0 (head_numbers (head_of to)) d (slot_row s f))),
        sym (slot_is u f (merged_to t (cluster s f)) (next_hole s f) from f-next),
      )

      t-fills : Fills σ u t
      t-fills = (
        set_numbers (set_numbers (row s t) 0 0 (head_numbers (head_of to))) 0 17 (((cluster s t).depth + 1) ∷ []),
        row_in 17 (((cluster s t).depth + 1) ∷ []) (lit≤ tt) (row_out f 16 (t ∷ []) (λ z. d (sym z)) (row_in 0 (head_numbers (head_of to)) (lit≤ tt) (slot_row s t))),
        sym (slot_is u t (deeper false f to) (next_hole s t) (deepen-to a f s G pos e t N false) (next t (λ z. d (sym z)))),
      )

      o-fills : (k : ℕ) → k ≢ f → k ≢ t → Fills σ u k
      o-fills k m n = (
        row s k,
        row_out t 17 (((cluster s t).depth + 1) ∷ []) n (row_out f 16 (t ∷ []) m (row_out t 0 (head_numbers (head_of to)) n (slot_row s k))),
        sym (slot_is u k (cluster s k) (next_hole s k) (M.other k m n) (next k m)),
      )
