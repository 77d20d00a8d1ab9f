-- The buffers keep holding the state of the rules when a cluster that deepened becomes a hole child.
use Rattle.std.specs.Prelude.{if◌then◌else◌}
use mathlib.Core.Path.{◌≡◌, refl, sym, ap, ap₂, ◌∙◌, subst}
use mathlib.Core.Logic.{◌≢◌, by_cases}
use mathlib.Core.Bool.{true, false}
use mathlib.Core.List.{List, [], ◌∷◌, ◌++◌}
use Prim.Native.Nat.{ℕ, suc, ◌+◌, ◌-◌, ◌*◌, ◌≤◌, ◌<◌}
use native.Mathlib.Decide.{ℕ_discrete}
use native.Mathlib.Omega.{arith}
use lib.Dec.{eqb, lit≤, lit<}
use lib.ListN.{length, get_or, set, length-set, length-append}
use lib.Seq.{get_or-set_same, get_or-set_other}
use Rattle.rules.specs.State.{State, Cluster, cluster, label, area, with_cluster, deeper, deepen_cluster_into}
use Rattle.rules.specs.Layout.{after, first_of, slot, slot_width, num_holes_place, first_hole_place, next_hole_place}
use Rattle.rules.specs.Claim.{bit, occurs}
use Rattle.rules.proofs.Facts.{eqb_no, occurs-append}
use Rattle.rules.proofs.Links.{last, after_none, after-skip, after_last, after-before}
use Rattle.rules.proofs.Visits.{Going, Near, root, k≢t, t-slot, target-root, deepen-changes, deepen-from, deepen-to}
use Rattle.rules.proofs.Holes.{Holes, root-unnamed, child-slot, deepen-t-holes, deepen-other-into, deepen-into}
use Rattle.runner.specs.Code.Slots.{set_numbers}
use Rattle.runner.specs.Code.Rep.{Table, Rep, HoleEnds, last_of, written, slots_of}
use Rattle.runner.proofs.Tables.{table-set, holes-at}
use Rattle.runner.proofs.Rows.{row_in, row_out, numbers, row, next_hole, slot_is, slot_row, Fills, table-fills}
use Rattle.runner.proofs.RepStage2.{links-same}
use Rattle.runner.proofs.Joined.{last-occurs}
use Rattle.runner.proofs.Tails.{last_of-last, last_of-append}

-- the firsts of lists that have one
first_of-append : (xs ys : List ℕ) → 0 < length xs → first_of (xs ++ ys) ≡ first_of xs
unfolding first_of
first_of-append [] ys z = absurd (omega arith)
first_of-append (x ∷ xs) ys z = refl

-- f, which just deepened into t, becomes the last of its hole children
module _ {image : List ℕ} {size : ℕ} (a f : ℕ) (s : State) (G : Going image size a f s) (pos : 0 < a) (e : area (cluster s f) ≡ a) (t : ℕ) (N : Near s (label s (get_or (cluster s f).pixels 0 0)) t)
    (H : Holes s) where
  t-in : t < length s.clusters
  t-in = t-slot a f s G pos e t N

  -- without its hole, and with it
  abbrev bare : State
  bare = deepen_cluster_into false f t s

  abbrev holed : State
  holed = deepen_cluster_into true f t s

  abbrev hs : List ℕ
  hs = (cluster s t).holes

  abbrev to : Cluster
  to = with_cluster (cluster s f) (cluster s t)

  unnamed : (k : ℕ) → (cluster s k).merged_into ≡ 0 → occurs k hs ≡ 0
  unnamed k r = root-unnamed H k r t

  same-cluster : (k : ℕ) → k ≢ t → cluster holed k ≡ cluster bare k
  same-cluster k m = by_cases (ℕ_discrete k f)
      (λ z. subst (λ j. cluster holed j ≡ cluster bare j) (sym z) (deepen-from a f s G pos e t N true ∙ sym (deepen-from a f s G pos e t N false)))
      (λ z. (deepen-changes a f s G pos e t N true).other k z m ∙ sym ((deepen-changes a f s G pos e t N false).other k z m))

  same-pixels : (k : ℕ) → (cluster holed k).pixels ≡ (cluster bare k).pixels
  same-pixels k = by_cases (ℕ_discrete k t)
      (λ z. subst (λ j. (cluster holed j).pixels ≡ (cluster bare j).pixels) (sym z) ((deepen-changes a f s G pos e t N true).t-pixels ∙ sym (deepen-changes a f s G pos e t N false).t-pixels))
      (λ z. ap (λ c. c.pixels) (same-cluster k z))

  same-into : (k : ℕ) → (cluster holed k).merged_into ≡ (cluster bare k).merged_into
  same-into k = by_cases (ℕ_discrete k t)
      (λ z. subst (λ j. (cluster holed j).merged_into ≡ (cluster bare j).merged_into) (sym z) ((deepen-changes a f s G pos e t N true).t-merged ∙ sym (deepen-changes a f s G pos e t N false).t-merged))
      (λ z. ap (λ c. c.merged_into) (same-cluster k z))

  same-labels : bare.labels ≡ holed.labels
  same-labels = (deepen-changes a f s G pos e t N false).labels ∙ sym (deepen-changes a f s G pos e t N true).labels

  was : (cluster bare t).holes ≡ hs
  was = deepen-t-holes a f s G pos e t N false

  is : (cluster holed t).holes ≡ hs ++ (f ∷ [])
  is = deepen-t-holes a f s G pos e t N true

  -- the next hole child changes only for the last one
  same_next : (k : ℕ) → k ≢ f → (occurs k hs ≢ 0 → k ≢ last hs) → next_hole holed k ≡ next_hole bare k
  same_next k m l = ap (λ j. after k (cluster holed j).holes) (same-into k) ∙ pick (ℕ_discrete (cluster bare k).merged_into t) (ℕ_discrete (occurs k hs) 0)
    where
      grown : occurs k (hs ++ (f ∷ [])) ≡ occurs k hs
      grown = occurs-append k hs (f ∷ []) ∙ omega (arith, ap bit (eqb_no k f m))

      pick : Dec ((cluster bare k).merged_into ≡ t) → Dec (occurs k hs ≡ 0) → after k (cluster holed (cluster bare k).merged_into).holes ≡ after k (cluster bare (cluster bare k).merged_into).holes
      pick (yes z) (yes y) = subst (λ j. after k (cluster holed j).holes ≡ after k (cluster bare j).holes) (sym z)
          (ap (after k) is ∙ after_none k (hs ++ (f ∷ [])) (grown ∙ y) ∙ sym (after_none k hs y) ∙ sym (ap (after k) was))
      pick (yes z) (no y) = subst (λ j. after k (cluster holed j).holes ≡ after k (cluster bare j).holes) (sym z)
          (ap (after k) is ∙ after-before k hs (f ∷ []) y (l y) ∙ sym (ap (after k) was))
      pick (no z) y = ap (λ c. after k c.holes) (same-cluster (cluster bare k).merged_into z)

  f-next : next_hole holed f ≡ next_hole bare f
  unfolding after
  f-next =
      ap (λ j. after f (cluster holed j).holes) (deepen-into a f s G pos e t N true) ∙ ap (after f) is ∙ after-skip f hs (f ∷ []) (unnamed f (root a f s G pos e))
      ∙ sym (after_none f hs (unnamed f (root a f s G pos e))) ∙ sym (ap (after f) was) ∙ sym (ap (λ j. after f (cluster bare j).holes) (deepen-into a f s G pos e t N false))

  -- slot t, with one hole child more
  t-is : (x y : ℕ) → length (hs ++ (f ∷ [])) ≡ x → first_of (hs ++ (f ∷ [])) ≡ y → numbers (cluster bare t) x y (next_hole bare t) ≡ slot holed t
  unfolding with_cluster deeper
  t-is x y p q =
      ap (λ c. numbers c x y (next_hole bare t)) (deepen-to a f s G pos e t N false) ∙ ap₂ (λ i j. numbers (deeper false f to) i j (next_hole bare t)) (sym p) (sym q)
      ∙ sym (slot_is holed t (deeper true f to) (next_hole bare t) (deepen-to a f s G pos e t N true) (same_next t (λ z. k≢t a f s G pos e t N (sym z)) (λ z. absurd (z (unnamed t (target-root a f s G pos e t N))))))

  -- a slot that is neither t's nor that of its last child
  o_is : (k : ℕ) → k ≢ t → (occurs k hs ≢ 0 → k ≢ last hs) → row bare k ≡ slot holed k
  o_is k m l = sym (slot_is holed k (cluster bare k) (next_hole bare k) (same-cluster k m) (by_cases (ℕ_discrete k f)
      (λ z. subst (λ j. next_hole holed j ≡ next_hole bare j) (sym z) f-next)
      (λ z. same_next k z l)))

  -- the last of some children
  module _ (some : 0 < length hs) where
    q-named : occurs (last hs) hs ≢ 0
    q-named = last-occurs hs some

    q≢f : last hs ≢ f
    q≢f z = q-named (ap (λ j. occurs j hs) z ∙ unnamed f (root a f s G pos e))

    q≢t : last hs ≢ t
    q≢t z = q-named (ap (λ j. occurs j hs) z ∙ unnamed t (target-root a f s G pos e t N))

    q-into : (cluster s (last hs)).merged_into ≡ t
    q-into = (H.inside t (last hs) q-named).1

    -- it goes on with f
    q-next : next_hole holed (last hs) ≡ f + 1
    unfolding first_of
    q-next =
        ap (λ j. after (last hs) (cluster holed j).holes) (deepen-other-into a f s G pos e t N true (last hs) q≢f ∙ q-into) ∙ ap (after (last hs)) is
        ∙ after_last hs (f ∷ []) (omega (arith, q-named, H.once t (last hs))) ∙ omega arith

  module _ {t₀ ls ks tb es ends : List ℕ} (R : Rep size (deepen_cluster_into false f t s) t₀ ls ks tb es) (X : HoleEnds size (deepen_cluster_into false f t s) ends) (few : length s.clusters ≤ size + 1) (fits : slot_width * length s.clusters ≤ length t₀) where
    held : length bare.clusters ≡ length s.clusters
    held = (deepen-changes a f s G pos e t N false).table

    start : Table (length s.clusters) (slots_of bare) t₀ tb
    start = subst (λ m. Table m (slots_of bare) t₀ tb) held R.tabled

    abbrev at : ℕ → ℕ
    at x = if eqb x 0 then slot_width * t + first_hole_place else slot_width * (get_or ends t 0 - 1) + next_hole_place

    table_is : (xs : List ℕ) → hs ≡ xs → Table (length s.clusters) (slots_of holed) t₀ (set (set tb (slot_width * t + num_holes_place) (length xs + 1)) (at (length xs)) (f + 1))
    unfolding first_of
    table_is [] z = table-fills holed (table-set (table-set start t 18 1 t-in (lit< tt) fits) t 19 (f + 1) t-in (lit< tt) fits) (λ k l. fills k (ℕ_discrete k t))
      where
        σ : ℕ → ℕ → ℕ
        σ = written (written (slots_of bare) t 18 (1 ∷ [])) t 19 ((f + 1) ∷ [])

        fills : (k : ℕ) → Dec (k ≡ t) → Fills σ holed k
        fills k (yes y) = subst (Fills σ holed) (sym y) (
          set_numbers (set_numbers (row bare t) 0 18 (1 ∷ [])) 0 19 ((f + 1) ∷ []),
          row_in 19 ((f + 1) ∷ []) (lit≤ tt) (row_in 18 (1 ∷ []) (lit≤ tt) (slot_row bare t)),
          t-is 1 (f + 1) (ap (λ l. length (l ++ (f ∷ []))) z) (ap (λ l. first_of (l ++ (f ∷ []))) z ∙ omega arith),
        )
        fills k (no y) = (row bare k, row_out t 19 ((f + 1) ∷ []) y (row_out t 18 (1 ∷ []) y (slot_row bare k)), o_is k y (λ x. absurd (x (ap (occurs k) z))))
    table_is (x ∷ xs) z =
        subst (λ i. Table (length s.clusters) (slots_of holed) t₀ (set (set tb (slot_width * t + num_holes_place) (length (x ∷ xs) + 1)) i (f + 1))) (sym place)
        (table-fills holed (table-set (table-set start t 18 (length (x ∷ xs) + 1) t-in (lit< tt) fits) q 20 (f + 1) (child-slot H t q (q-named some)) (lit< tt) fits) (λ k l. fills k (ℕ_discrete k t) (ℕ_discrete k q)))
      where
        some : 0 < length hs
        some = omega (arith, ap length z)

        q : ℕ
        q = last hs

        tail : get_or ends t 0 - 1 ≡ q
        tail = omega (arith, X.tails t (omega (arith, ap length was, some)), ap last_of was, last_of-last hs some)

        place : at (length (x ∷ xs)) ≡ slot_width * q + next_hole_place
        place = ap (λ b. if b then slot_width * t + first_hole_place else slot_width * (get_or ends t 0 - 1) + next_hole_place) (eqb_no (length (x ∷ xs)) 0 (λ y. omega arith)) ∙ ap (λ i. slot_width * i + next_hole_place) tail

        σ : ℕ → ℕ → ℕ
        σ = written (written (slots_of bare) t 18 ((length (x ∷ xs) + 1) ∷ [])) q 20 ((f + 1) ∷ [])

        fills : (k : ℕ) → Dec (k ≡ t) → Dec (k ≡ q) → Fills σ holed k
        fills k (yes y) v = subst (Fills σ holed) (sym y) (
          set_numbers (row bare t) 0 18 ((length (x ∷ xs) + 1) ∷ []),
          row_out q 20 ((f + 1) ∷ []) (λ w. q≢t some (sym w)) (row_in 18 ((length (x ∷ xs) + 1) ∷ []) (lit≤ tt) (slot_row bare t)),
          t-is (length (x ∷ xs) + 1) (first_of (cluster bare t).holes) (length-append hs (f ∷ []) ∙ ap (λ l. length l + 1) z) (first_of-append hs (f ∷ []) some ∙ sym (ap first_of was)),
        )
        fills k (no y) (yes v) = subst (Fills σ holed) (sym v) (
          set_numbers (row bare q) 0 20 ((f + 1) ∷ []),
          row_in 20 ((f + 1) ∷ []) (lit≤ tt) (row_out t 18 ((length (x ∷ xs) + 1) ∷ []) (q≢t some) (slot_row bare q)),
          sym (slot_is holed q (cluster bare q) (f + 1) (same-cluster q (q≢t some)) (q-next some)),
        )
        fills k (no y) (no v) = (
          row bare k,
          row_out q 20 ((f + 1) ∷ []) v (row_out t 18 ((length (x ∷ xs) + 1) ∷ []) y (slot_row bare k)),
          o_is k y (λ w. v),
        )

    -- with the numbers that the code reads: how many children t has, and the last of them
    pub rep-hollow : Rep size (deepen_cluster_into true f t s) t₀ ls ks
        (set (set tb (slot_width * t + num_holes_place) (get_or tb (slot_width * t + num_holes_place) 0 + 1)) (if eqb (get_or tb (slot_width * t + num_holes_place) 0) 0 then slot_width * t + first_hole_place else slot_width * (get_or ends t 0 - 1) + next_hole_place) (f + 1))
        es
    unfolding last_of
    rep-hollow = record {
      labelled = R.labelled ∙ same-labels;
      linked = R.linked ∙ links-same bare holed same-labels (λ k. sym (same-pixels k));
      tabled = subst (λ m. Table m (slots_of holed) t₀ (tb' (get_or tb (slot_width * t + num_holes_place) 0))) (sym whole) (subst (λ x. Table (length s.clusters) (slots_of holed) t₀ (tb' x)) (sym count) (table_is hs refl));
      tails = λ k z y. R.tails k (subst (λ l. 0 < length l) (same-pixels k) z) (sym (same-into k) ∙ y) ∙ sym (ap last_of (same-pixels k));
      room = R.room;
    }
      where
        whole : length holed.clusters ≡ length s.clusters
        whole = (deepen-changes a f s G pos e t N true).table

        tb' : ℕ → List ℕ
        tb' x = set (set tb (slot_width * t + num_holes_place) (x + 1)) (at x) (f + 1)

        count : get_or tb (slot_width * t + num_holes_place) 0 ≡ length hs
        count = holes-at bare start t t-in ∙ ap length was

    pub hole-ends-hollow : HoleEnds size (deepen_cluster_into true f t s) (set ends t (f + 1))
    unfolding last_of
    hole-ends-hollow = record { tails = λ k. tail k (ℕ_discrete k t); room = length-set ends t (f + 1) ∙ X.room }
      where
        tail : (k : ℕ) → Dec (k ≡ t) → 0 < length (cluster holed k).holes → get_or (set ends t (f + 1)) k 0 ≡ last_of (cluster holed k).holes
        tail k (yes y) z = subst (λ j. get_or (set ends t (f + 1)) j 0 ≡ last_of (cluster holed j).holes) (sym y)
            (get_or-set_same ends t (f + 1) 0 (omega (arith, X.room, t-in, few)) ∙ omega (arith, last_of-append hs (f ∷ []) (omega arith), ap last_of is))
        tail k (no y) z =
            get_or-set_other ends t k (f + 1) 0 y ∙ X.tails k (subst (λ c. 0 < length c.holes) (same-cluster k y) z)
            ∙ sym (ap (λ c. last_of c.holes) (same-cluster k y))

-- where there are hole children, the last of them is known and has a slot
pub hole-tail-fits : {size : ℕ} {s : State} {es : List ℕ} → HoleEnds size s es → Holes s → (k : ℕ) → 0 < length (cluster s k).holes
    → (0 < get_or es k 0) × (get_or es k 0 ≤ length s.clusters)
hole-tail-fits {s = s} X H k z =
    let l : last_of (cluster s k).holes ≡ suc (last (cluster s k).holes) = last_of-last (cluster s k).holes z in
    (omega (arith, X.tails k z, l), omega (arith, X.tails k z, l, child-slot H k (last (cluster s k).holes) (last-occurs (cluster s k).holes z)))
