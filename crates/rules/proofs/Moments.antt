-- Every moment of a run agrees with the ledger of its own log, and which states are moments.
use Rattle.std.specs.Prelude.{if◌then◌else◌}
use mathlib.Core.Path.{◌≡◌, refl, sym, ap, ◌∙◌, subst}
use mathlib.Core.Logic.{◌↔◌, ◌≢◌, ◌⊎◌, inl, inr, by_cases}
use mathlib.Core.Bool.{Bool, true, false, ◌&&◌}
use mathlib.Core.List.{List, [], ◌∷◌, ◌++◌}
use Prim.Native.Nat.{ℕ, zero, suc, ◌*◌, ◌<◌}
use native.Mathlib.Decide.{ℕ_discrete}
use native.Mathlib.Omega.{arith}
use borrow.Author.Tests.{ltb-true}
use lib.Dec.{T, ltb, lt→ltb}
use lib.ListN.{length}
use Rattle.rules.specs.Base.{times}
use Rattle.rules.specs.Color.{RunnerConfig, keying_on}
use Rattle.rules.specs.State.{State, Event, cluster, label, area, put_out, merge_cluster_into, deepen_cluster_into, added, plain, deepened}
use Rattle.rules.specs.Stage2.{visit, pass, passes, prepare_stage2}
use Rattle.rules.specs.Run.{run, stage1, stage2, drop_empty}
use Rattle.rules.specs.Layout.{link}
use Rattle.rules.specs.Ledger.{Held, ledger}
use Rattle.rules.specs.Claim.{count_of, Stands}
use Rattle.rules.specs.Moments.{Trace, begun, traced_step, traced_pass, traced_passes, traced, moments, suffixes, Merges, logs, Every, Newest, Oldest}
use Rattle.rules.specs.Demand3.{Discarded, Agrees}
use Rattle.rules.specs.Code.Early.{Basic, owned, Early}
use Rattle.rules.proofs.Facts.{T-dec, eqb_no, count_of-some, count_of-none, T-both, T_and}
use Rattle.rules.proofs.Forest.{inside-not}
use Rattle.rules.proofs.Sound.{Sound}
use Rattle.rules.proofs.Visits.{Going, visit-going, visit-cases, isolated-cases, times-keep, k≢t, next-area, slots-keep, passes-keep}
use Rattle.rules.proofs.Early.{prepare_stage2-going}
use Rattle.rules.proofs.Whole.{early, stage2-passes, rests, agrees, Some, AsBefore, merge-some, deepen-some, put_some}
use Rattle.rules.proofs.Chains.{Chained, listed, put-chained, merge-chained, deepen-chained, prepare_stage2-chained}
use Rattle.rules.proofs.Outputs.{area-count_of, area-pos}
use Rattle.rules.proofs.Pictures.{tally-count}

-- whether one of the numbers below n is chosen
pub find : (f : ℕ → Bool) (n : ℕ) → Dec ((p : ℕ) × (p < n) × T (f p))
find f zero = no (λ x. omega (arith, x.1))
find f (suc n) = pick (T-dec (f n)) (find f n)
  where
    pick : Dec (T (f n)) → Dec ((p : ℕ) × (p < n) × T (f p)) → Dec ((p : ℕ) × (p < suc n) × T (f p))
    pick (yes t) r = yes (n, omega arith, t)
    pick (no t) (yes r) = yes (r.0, omega (arith, r.1), r.2)
    pick (no t) (no r) = no (λ x. elim (ℕ_discrete x.0 n) [ yes e ↦ t (subst (λ m. T (f m)) e x.2) | no d ↦ r (x.0, omega (arith, x.1), x.2) ])

-- a sum counts a pixel exactly when its cluster stands
pub counted : {image : List ℕ} {size : ℕ} {h : Held} {s : State} → Basic image size h s → (k : ℕ) → (0 < (cluster s k).sum.count) ↔ Stands h k
counted {image} {size} {h} {s} B k = (
  λ l. let y = count_of-some (λ p. false) (h k) size (omega (arith, count_of-none (λ p. false) (λ p x. x) size, same)) in (y.0, y.1),
  λ z. omega (arith, same, area-count_of B k, area-pos B k z.0 z.1),
)
  where
    same : (cluster s k).sum.count ≡ count_of (h k) size
    same = ap (λ c. c.count) (B.sums k) ∙ tally-count image (h k) size

module _ (o : RunnerConfig) (w height : ℕ) (image : List ℕ) where
  -- the ledger at the end of stage 1
  g : Held
  g = ledger (stage1 o w height image).log

  pub compared : (a k : ℕ) (s : State) → Going image (w * height) a k s → AsBefore (ledger (stage1 o w height image).log) s → Chained s → Agrees o w height image (ledger s.log) s
  compared a k s G A C = record {
    chains = listed s S C;
    view = record {
      placed = λ j p x. (subst (λ m. p < m) B.width (B.places j p x), B.slots j p x);
      counts = counted B;
      whole = λ i j. by_cases (find (λ p. ledger s.log i p && ledger s.log j p) (w * height))
          (λ x. let y = T-both (ledger s.log i x.0) (ledger s.log j x.0) x.2 in inr ((agrees S).whole i j x.0 y.0 y.1))
          (λ n. inl (λ p x y. n (p, subst (λ m. p < m) B.width (B.places i p x), T_and (ledger s.log i p) (ledger s.log j p) x y)));
      distinct = (agrees S).distinct;
      labelled = λ p l n. top p (here p (E.covered p l) n);
      discarded = λ j p d x. let y = (A p).1 (j, x) in E.never y.0 p y.1 d;
      lists = B.lists;
      sums = B.sums;
      residues = (agrees S).residues;
      shade = λ p l n. let x = here p (E.covered p l) n in let y = S.forest.owner x.0 p x.1 in (y.0, (rests S y.0 p).0 y.1, λ j r. one p j y.0 ((rests S j p).1 r) y.1 (ℕ_discrete j y.0));
    };
  }
    where
      S : Sound image (w * height) (ledger s.log) (owned s.log) s
      S = G.sound

      B : Basic image (w * height) (ledger s.log) s
      B = S.basic

      E : Early image (w * height) (Discarded o image) (T (keying_on o)) (w * height) (stage1 o w height image)
      E = early o w height image

      one : (p i j : ℕ) → T (owned s.log i p) → T (owned s.log j p) → Dec (i ≡ j) → i ≡ j
      one p i j x y (yes e) = e
      one p i j x y (no d) =
          absurd (inside-not (λ k q. T (ledger s.log k q)) i j (S.forest.own-inner i j p x (S.forest.own_held j p y) d) (S.forest.own-inner j i p y (S.forest.own_held i p x) (λ e. d (sym e))))

      here : (p : ℕ) → Discarded o image p ⊎ Some (ledger (stage1 o w height image).log) p → (Discarded o image p → ⊥) → Some (ledger s.log) p
      here p (inl d) n = absurd (n d)
      here p (inr x) n = (A p).0 x

      top : (p : ℕ) → Some (ledger s.log) p
          → T (ledger s.log (label s p) p) × ((j : ℕ) → T (ledger s.log j p) → j ≢ label s p → count_of (ledger s.log j) (w * height) < count_of (ledger s.log (label s p)) (w * height))
      top p x = ((agrees S).labelled x.0 p x.1, λ j y n. (agrees S).largest j p y n)

-- ---- the trace

pub traced_step-now : (f : ℕ → State → State) (n : ℕ) (t : Trace) → (times n (λ k. traced_step (f k)) t).now ≡ times n f t.now
unfolding traced_step
traced_step-now f zero t = refl
traced_step-now f (suc n) t = ap (f n) (traced_step-now f n t)

pub traced_pass-now : (o : RunnerConfig) (w h a : ℕ) (t : Trace) → (traced_pass o w h a t).now ≡ pass o w h a t.now
unfolding traced_pass pass
traced_pass-now o w h a t = traced_step-now (visit o w h a) (length t.now.clusters) t

pub traced_passes-now : (o : RunnerConfig) (w h n : ℕ) (t : Trace) → (traced_passes o w h n t).now ≡ passes o w h n t.now
unfolding traced_passes passes
traced_passes-now o w h zero t = refl
traced_passes-now o w h (suc n) t = traced_pass-now o w h (suc n) (times n (λ a. traced_pass o w h (suc a)) t) ∙ ap (pass o w h (suc n)) (traced_passes-now o w h n t)

abbrev pub Shares : State → State → Type 0
Shares u s = (u.labels ≡ s.labels) × (u.clusters ≡ s.clusters) × (u.log ≡ s.log)

newest-map : (P Q : State → Type 0) (ss : List State) → ((s : State) → P s → Q s) → Newest P ss → Newest Q ss
newest-map P Q [] f x = x
newest-map P Q (s ∷ ss) f x = f s x

oldest-more : (P : State → Type 0) (s : State) (ss : List State) → Oldest P ss → Oldest P (s ∷ ss)
oldest-more P s [] x = absurd x
oldest-more P s (t ∷ ss) x = x

-- the step logged nothing: no moment
pub same-moments : (s u : State) (ms : List State) → u.log ≡ s.log → (if ltb (length s.log) (length u.log) then u ∷ ms else ms) ≡ ms
same-moments s u ms e = pick (ltb (length s.log) (length u.log)) refl
  where
    pick : (b : Bool) → ltb (length s.log) (length u.log) ≡ b → (if b then u ∷ ms else ms) ≡ ms
    pick true z = absurd (let l : length s.log < length u.log = ltb-true (length s.log) (length u.log) z in omega (arith, ap length e))
    pick false z = refl

-- it logged an event: one moment
pub more-moments : (s u : State) (ms : List State) (e : Event) → u.log ≡ e ∷ s.log → (if ltb (length s.log) (length u.log) then u ∷ ms else ms) ≡ u ∷ ms
more-moments s u ms x e = pick (ltb (length s.log) (length u.log)) refl
  where
    pick : (b : Bool) → ltb (length s.log) (length u.log) ≡ b → (if b then u ∷ ms else ms) ≡ u ∷ ms
    pick true z = refl
    pick false z = absurd (subst T z (lt→ltb (length s.log) (length u.log) (omega (arith, ap length e))))

-- a visit of a slot with another pixel count does nothing
pub visit-idle : (o : RunnerConfig) (w h a k : ℕ) (s : State) → area (cluster s k) ≢ a → visit o w h a k s ≡ s
unfolding visit
visit-idle o w h a k s d = rw (eqb_no (area (cluster s k)) a d) refl

-- a visit logs nothing, and then changes neither labels nor clusters, or it logs one merge
pub visit-logs : (o : RunnerConfig) (w h a k : ℕ) (s : State) → Shares (visit o w h a k s) s ⊎ ((x : Event) × ((visit o w h a k s).log ≡ x ∷ s.log) × Merges (x ∷ []))
unfolding put_out merge_cluster_into deepen_cluster_into
visit-logs o w h a k s =
    visit-cases o w h a k s (λ u. Shares u s ⊎ ((x : Event) × (u.log ≡ x ∷ s.log) × Merges (x ∷ []))) (λ x. inl (refl, refl, refl)) (λ e l. inl (refl, refl, refl))
    (λ e l z. isolated-cases o w h a k s (λ u. Shares u s ⊎ ((x : Event) × (u.log ≡ x ∷ s.log) × Merges (x ∷ []))) (inl (refl, refl, refl)) (inl (refl, refl, refl)))
    (λ e l t N. inr (plain k t, refl, tt)) (λ e l t N b. inr (deepened k t, refl, tt))

merges-more : (x : Event) (es : List Event) → Merges (x ∷ []) → Merges es → Merges (x ∷ es)
merges-more (added p k) es m n = m
merges-more (plain f t) es m n = n
merges-more (deepened f t) es m n = n

pub each_map : (P Q : State → Type 0) (ss : List State) → ((s : State) → P s → Q s) → Every P ss → Every Q ss
each_map P Q [] f x = tt
each_map P Q (s ∷ ss) f x = (f s x.0, each_map P Q ss f x.1)

-- between two visits of stage 2
abbrev pub Between : List ℕ → ℕ → State → Type 0
Between image size s = (a : ℕ) × (k : ℕ) × Going image size a k s

-- What every visit keeps holds at every moment
module _ (o : RunnerConfig) (w height : ℕ) (image : List ℕ) (P : State → Type 0)
    (step : (a k : ℕ) (s : State) → Going image (w * height) a k s → 0 < a → area (cluster s k) ≡ a → P s → P (visit o w height a k s))
    (starts : P (prepare_stage2 (stage1 o w height image))) where
  -- now, the moments so far, and the events logged since stage 1
  record Tracked (a k : ℕ) (s : State) (ms : List State) : Type 0 where
    going : Going image (w * height) a k s
    kept : P s
    good : Every (λ u. Between image (w * height) u × P u) ms
    begins : Oldest (λ u. u ≡ prepare_stage2 (stage1 o w height image)) ms
    newest : Newest (λ u. Shares s u) ms
    new : List Event
    merges : Merges new
    logged : s.log ≡ new ++ (stage1 o w height image).log
    timed : logs ms ≡ suffixes new (stage1 o w height image).log

  visit-tracked : (a k : ℕ) → 0 < a → (t : Trace) → Tracked a k t.now t.moments → Tracked a (suc k) (traced_step (visit o w height a k) t).now (traced_step (visit o w height a k) t).moments
  unfolding traced_step
  visit-tracked a k pos t K = go (visit-logs o w height a k s)
    where
      s : State
      s = t.now

      ms : List State
      ms = t.moments

      u : State
      u = visit o w height a k t.now

      G : Going image (w * height) a (suc k) u
      G = visit-going o w height a k s K.going pos

      p : P u
      p = elim (ℕ_discrete (area (cluster s k)) a) [ yes e ↦ step a k s K.going pos e K.kept | no d ↦ subst P (sym (visit-idle o w height a k s d)) K.kept ]

      go : Shares u s ⊎ ((x : Event) × (u.log ≡ x ∷ s.log) × Merges (x ∷ [])) → Tracked a (suc k) u (if ltb (length s.log) (length u.log) then u ∷ ms else ms)
      go (inl e) = subst (Tracked a (suc k) u) (sym (same-moments s u ms e.2)) (record {
        going = G;
        kept = p;
        good = K.good;
        begins = K.begins;
        newest = newest-map (λ v. Shares s v) (λ v. Shares u v) ms (λ v x. (e.0 ∙ x.0, e.1 ∙ x.1, e.2 ∙ x.2)) K.newest;
        new = K.new;
        merges = K.merges;
        logged = e.2 ∙ K.logged;
        timed = K.timed;
      })
      go (inr e) = subst (Tracked a (suc k) u) (sym (more-moments s u ms e.0 e.1)) (record {
        going = G;
        kept = p;
        good = (((a, suc k, G), p), K.good);
        begins = oldest-more (λ v. v ≡ prepare_stage2 (stage1 o w height image)) u ms K.begins;
        newest = (refl, refl, refl);
        new = e.0 ∷ K.new;
        merges = merges-more e.0 K.new e.2 K.merges;
        logged = whole;
        timed = λ i. whole i ∷ K.timed i;
      })
        where
          whole : u.log ≡ (e.0 ∷ K.new) ++ (stage1 o w height image).log
          whole = e.1 ∙ ap (λ l. e.0 ∷ l) K.logged

  pass-tracked : (a : ℕ) (t : Trace) → Tracked (suc a) 0 t.now t.moments → Tracked (suc (suc a)) 0 (traced_pass o w height (suc a) t).now (traced_pass o w height (suc a) t).moments
  unfolding traced_pass
  pass-tracked a t K = on end
    where
      u : Trace
      u = times (length t.now.clusters) (λ k. traced_step (visit o w height (suc a) k)) t

      end : Tracked (suc a) (length t.now.clusters) u.now u.moments
      end = times-keep (λ k v. Tracked (suc a) k v.now v.moments) (λ k. traced_step (visit o w height (suc a) k)) (λ k v H. visit-tracked (suc a) k (omega arith) v H) t K (length t.now.clusters)

      on : {n : ℕ} → Tracked (suc a) n u.now u.moments → Tracked (suc (suc a)) 0 u.now u.moments
      on H = record {
        going = next-area H.going;
        kept = H.kept;
        good = H.good;
        begins = H.begins;
        newest = H.newest;
        new = H.new;
        merges = H.merges;
        logged = H.logged;
        timed = H.timed;
      }

  run-tracked : Tracked (suc (w * height)) 0 (traced o w height image).now (traced o w height image).moments
  unfolding traced traced_passes begun prepare_stage2
  run-tracked = times-keep (λ a v. Tracked (suc a) 0 v.now v.moments) (λ a. traced_pass o w height (suc a)) pass-tracked (begun s) start (w * height)
    where
      s : State
      s = prepare_stage2 (stage1 o w height image)

      G : Going image (w * height) 1 0 s
      G = prepare_stage2-going (w * height) (stage1 o w height image) (early o w height image)

      start : Tracked 1 0 s (s ∷ [])
      start = record {
        going = G;
        kept = starts;
        good = (((1, 0, G), starts), tt);
        begins = refl;
        newest = (refl, refl, refl);
        new = [];
        merges = tt;
        logged = refl;
        timed = refl;
      }

  -- at every moment, and at the end of stage 2
  pub moments-keep : Every (λ u. Between image (w * height) u × P u) (moments o w height image)
  unfolding moments
  moments-keep = run-tracked.good

  pub stage2-keep : Going image (w * height) (suc (w * height)) 0 (stage2 o w height (stage1 o w height image)) × P (stage2 o w height (stage1 o w height image))
  unfolding traced begun
  stage2-keep = subst (λ u. Going image (w * height) (suc (w * height)) 0 u × P u) (traced_passes-now o w height (w * height) (begun (prepare_stage2 (stage1 o w height image))) ∙ sym (stage2-passes o w height image)) (run-tracked.going, run-tracked.kept)

logs-count : (ss : List State) → length (logs ss) ≡ length ss
logs-count [] = refl
logs-count (s ∷ ss) = ap suc (logs-count ss)

suffixes-count : (new old : List Event) → length (suffixes new old) ≡ suc (length new)
suffixes-count [] old = refl
suffixes-count (e ∷ es) old = ap suc (suffixes-count es old)

-- ---- demand 3

module _ (o : RunnerConfig) (w height : ℕ) (image : List ℕ) where
  -- no pixel is held that was not, and none is lost; the lists are read along the links
  abbrev pub Keeps : State → Type 0
  Keeps s = AsBefore (ledger (stage1 o w height image).log) s × Chained s

  pub visit-keeps : (a k : ℕ) (s : State) → Going image (w * height) a k s → 0 < a → area (cluster s k) ≡ a → Keeps s → Keeps (visit o w height a k s)
  visit-keeps a k s G pos e R =
      visit-cases o w height a k s Keeps (λ x. R) (λ z l. out) (λ z l n. isolated-cases o w height a k s Keeps out R)
      (λ z l t N. (merge-some (ledger (stage1 o w height image).log) k t s (k≢t a k s G pos e t N) R.0, merge-chained a k s G R.1 pos e t N))
      (λ z l t N b. (deepen-some (ledger (stage1 o w height image).log) b k t s R.0, deepen-chained a k s G R.1 pos e t N b))
    where
      out : Keeps (put_out k s)
      out = (put_some (ledger (stage1 o w height image).log) k s R.0, put-chained k s R.1)

  pub start-keeps : Keeps (prepare_stage2 (stage1 o w height image))
  unfolding prepare_stage2
  start-keeps = ((λ p. (λ x. x, λ x. x)), prepare_stage2-chained (w * height) (stage1 o w height image) (early o w height image))

  K : Tracked o w height image Keeps visit-keeps start-keeps (suc (w * height)) 0 (traced o w height image).now (traced o w height image).moments
  K = run-tracked o w height image Keeps visit-keeps start-keeps

  traced-now : (traced o w height image).now ≡ stage2 o w height (stage1 o w height image)
  unfolding traced begun
  traced-now = traced_passes-now o w height (w * height) (begun (prepare_stage2 (stage1 o w height image))) ∙ sym (stage2-passes o w height image)

  pub run-always : Every (λ s. Agrees o w height image (ledger s.log) s) (moments o w height image)
  run-always = each_map (λ u. Between image (w * height) u × Keeps u) (λ s. Agrees o w height image (ledger s.log) s) (moments o w height image)
      (λ s x. compared o w height image x.0.0 x.0.1 s x.0.2 x.1.0 x.1.1) (moments-keep o w height image Keeps visit-keeps start-keeps)

  pub run-first : Oldest (λ s. s ≡ prepare_stage2 (stage1 o w height image)) (moments o w height image)
  unfolding moments
  run-first = K.begins

  pub run-later : (new : List Event) × Merges new × ((run o w height image).log ≡ new ++ (stage1 o w height image).log) × (logs (moments o w height image) ≡ suffixes new (stage1 o w height image).log)
  unfolding moments run drop_empty
  run-later = (K.new, K.merges, sym (ap (λ s. s.log) traced-now) ∙ K.logged, K.timed)

  -- one moment for each of them, and the first
  pub moments-count : length (moments o w height image) ≡ suc (length run-later.0)
  unfolding moments run-later
  moments-count = sym (logs-count (traced o w height image).moments) ∙ ap length K.timed ∙ suffixes-count K.new (stage1 o w height image).log

  pub run-last : Newest (λ s. Shares (run o w height image) s) (moments o w height image)
  unfolding moments run drop_empty
  run-last = newest-map (λ u. Shares (traced o w height image).now u) (λ u. Shares (run o w height image) u) (moments o w height image)
      (λ u x. (sym (ap (λ s. s.labels) traced-now) ∙ x.0, sym (ap (λ s. s.clusters) traced-now) ∙ x.1, sym (ap (λ s. s.log) traced-now) ∙ x.2)) K.newest

  pub run-returned : Agrees o w height image (ledger (run o w height image).log) (run o w height image)
  unfolding run drop_empty link
  run-returned =
      let R = stage2-keep o w height image Keeps visit-keeps start-keeps in
      let A = compared o w height image (suc (w * height)) 0 (stage2 o w height (stage1 o w height image)) R.0 R.1.0 R.1.1 in
      record { view = A.view; chains = A.chains }

  pub run-width : length (run o w height image).labels ≡ w * height
  unfolding run drop_empty
  run-width = (stage2-keep o w height image Keeps visit-keeps start-keeps).0.sound.basic.width

  -- the same after any number of passes and visits: what a run that is stopped between two visits of stage 2 leaves
  pub stopped-agrees : (a m : ℕ) → Agrees o w height image (ledger (times m (visit o w height (suc a)) (passes o w height a (prepare_stage2 (stage1 o w height image)))).log) (times m (visit o w height (suc a)) (passes o w height a (prepare_stage2 (stage1 o w height image))))
  stopped-agrees a m = let R = slots-keep o w height Keeps visit-keeps (suc a) (omega arith) (passes o w height a s) (passes-keep o w height Keeps visit-keeps s start a) m in
      compared o w height image (suc a) m (times m (visit o w height (suc a)) (passes o w height a s)) R.0 R.1.0 R.1.1
    where
      s : State
      s = prepare_stage2 (stage1 o w height image)

      start : Going image (w * height) 1 0 s × Keeps s
      start = (prepare_stage2-going (w * height) (stage1 o w height image) (early o w height image), start-keeps)
