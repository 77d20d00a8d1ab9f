-- The claim of demand 3 before every turn, and the list of a cluster inside no other told by the labels.
use Rattle.std.specs.Prelude.{if◌then◌else◌}
use mathlib.Core.Path.{◌≡◌, refl, sym, ap, ap₂, ◌∙◌, subst}
use mathlib.Core.Bool.{Bool, true, false, not, ◌&&◌, ◌||◌}
use mathlib.Core.List.{List, [], ◌∷◌}
use mathlib.Core.Option.{Option, some, none as off}
use Prim.Native.Nat.{ℕ, suc, ◌+◌, ◌-◌, ◌*◌, ◌/◌, ◌%◌, ◌≤◌, ◌<◌}
use native.Mathlib.Nat.{div-lt_iff_lt-mul, mul_comm, mul-suc, mul-le-mul_left, div-add-mod}
use native.Mathlib.Omega.{arith}
use borrow.Author.Tests.{ltb-true}
use lib.Dec.{T, eqb, ltb, leb, eqb→eq}
use Rattle.rules.specs.Base.{member}
use Rattle.rules.specs.Grid.{up, down, left, right, sides}
use Rattle.rules.specs.Color.{RunnerConfig, is_discard}
use Rattle.rules.specs.State.{State, cluster, label}
use Rattle.rules.specs.Stage1.{is_key}
use Rattle.rules.specs.Stage2.{all_in, prepare_stage2}
use Rattle.rules.specs.Run.{stage1}
use Rattle.rules.specs.Code.Order.{any_of, interior, start, turns}
use Rattle.rules.specs.Layout.{link}
use Rattle.rules.specs.Ledger.{ledger}
use Rattle.rules.specs.Claim.{bit}
use Rattle.rules.specs.Code.Ranges.{AllBelow}
use Rattle.rules.specs.Demand3.{Discarded, Agrees}
use Rattle.rules.proofs.Facts.{is_false, eqb_yes}
use Rattle.rules.proofs.Visits.{Going}
use Rattle.rules.proofs.Connected.{AllSome, Some as Sided}
use Rattle.rules.proofs.Links.{after_none}
use Rattle.rules.proofs.Ranges.{pixels-below}
use Rattle.rules.proofs.Moments.{compared, Keeps, visit-keeps, start-keeps}
use Rattle.rules.proofs.Order.{Turning, turns-keep, start-turning}
use Rattle.rules.proofs.Interior.{member-held}

-- the neighbours of a pixel of the image are pixels of the image
pub sides-fit : (w h p : ℕ) → p < w * h → AllSome (λ q. q < w * h) (sides w h p)
unfolding sides up down left right
sides-fit w h p l = (ups (leb w p), (downs (ltb (p + w) (w * h)) refl, (lefts (ltb 0 (p % w)), (rights (ltb (p % w + 1) w) refl, tt))))
  where
    ups : (b : Bool) → Sided (λ q. q < w * h) (if b then some (p - w) else off)
    ups true = omega arith
    ups false = tt

    downs : (b : Bool) → ltb (p + w) (w * h) ≡ b → Sided (λ q. q < w * h) (if b then some (p + w) else off)
    downs true e = ltb-true (p + w) (w * h) e
    downs false e = tt

    lefts : (b : Bool) → Sided (λ q. q < w * h) (if b then some (p - 1) else off)
    lefts true = omega arith
    lefts false = tt

    rights : (b : Bool) → ltb (p % w + 1) w ≡ b → Sided (λ q. q < w * h) (if b then some (p + 1) else off)
    rights true e =
        let a : p % w + 1 < w = ltb-true (p % w + 1) w e in
        let row : p / w < h = (div-lt_iff_lt-mul {k = w} {x = p} {y = h} (omega arith)).1 (omega (arith, mul_comm w h)) in
        let b : w * suc (p / w) ≤ w * h = mul-le-mul_left w row in
        omega (arith, div-add-mod p w, mul-suc w (p / w))
    rights false e = tt

sided-map : (P Q : ℕ → Type 0) → ((q : ℕ) → P q → Q q) → (is : List (Option ℕ)) → AllSome P is → AllSome Q is
sided-map P Q f [] a = tt
sided-map P Q f (off ∷ is) a = (tt, sided-map P Q f is a.1)
sided-map P Q f (some i ∷ is) a = (f i a.0, sided-map P Q f is a.1)

all_in-same : (o : RunnerConfig) (w h : ℕ) (f g : ℕ → Bool) (is : List (Option ℕ)) → AllSome (λ q. f q ≡ g q) is → all_in f is ≡ all_in g is
unfolding all_in
all_in-same o w h f g [] a = refl
all_in-same o w h f g (off ∷ is) a = refl
all_in-same o w h f g (some i ∷ is) a = ap₂ (λ x y. x && y) a.0 (all_in-same o w h f g is a.1)

any_same : (f g : ℕ → Bool) (n : ℕ) (xs : List ℕ) → AllBelow n xs → ((p : ℕ) → p < n → f p ≡ g p) → any_of f xs ≡ any_of g xs
any_same f g n [] b e = refl
any_same f g n (x ∷ xs) b e = ap₂ (λ y z. y || z) (e x b.0) (any_same f g n xs b.1 e)

module _ (o : RunnerConfig) (w h : ℕ) (image : List ℕ) where
  turns_keeps : (m : ℕ) → Turning image (w * h) (turns o w h m (start (prepare_stage2 (stage1 o w h image)))) × Keeps o w h image (turns o w h m (start (prepare_stage2 (stage1 o w h image)))).now
  unfolding start
  turns_keeps m = turns-keep o w h (Keeps o w h image) (visit-keeps o w h image) (start (prepare_stage2 (stage1 o w h image))) (start-turning o w h image, start-keeps o w h image) m

  -- before and after every turn the state agrees with the ledger
  pub turns-agrees : (m : ℕ) → Agrees o w h image (ledger (turns o w h m (start (prepare_stage2 (stage1 o w h image)))).now.log) (turns o w h m (start (prepare_stage2 (stage1 o w h image)))).now
  turns-agrees m =
      let R = turns_keeps m in
      compared o w h image R.0.a R.0.k (turns o w h m (start (prepare_stage2 (stage1 o w h image)))).now R.0.going R.1.0 R.1.1

  -- a pixel is in the list of a cluster inside no other exactly when it has its label and is not discarded
  pub member-label : (a m : ℕ) (s : State) → Going image (w * h) a m s → Agrees o w h image (ledger s.log) s → (k : ℕ) → (cluster s k).merged_into ≡ 0 → (q : ℕ) → q < w * h
      → member q (cluster s k).pixels ≡ eqb (label s q) k && not (is_key o image q && is_discard o.keying_action)
  member-label a m s G C k r q l = member-held G.sound.basic k q ∙ go (ledger s.log k q) refl (eqb (label s q) k) refl (is_key o image q && is_discard o.keying_action) refl
    where
      go : (b : Bool) → ledger s.log k q ≡ b → (c : Bool) → eqb (label s q) k ≡ c → (d : Bool) → (is_key o image q && is_discard o.keying_action) ≡ d → b ≡ c && not d
      go true x true y true z = absurd (C.view.discarded k q (subst T (sym z) tt) (subst T (sym x) tt))
      go true x true y false z = refl
      go true x false y d z = absurd (subst T (sym (eqb_yes (label s q) k (G.sound.tops k q (subst T (sym x) tt) r)) ∙ y) tt)
      go false x true y true z = refl
      go false x true y false z = absurd (subst T (sym (ap (λ j. ledger s.log j q) (sym (eqb→eq (label s q) k (subst T (sym y) tt)))) ∙ x) (C.view.labelled q l (λ t. subst T z t)).0)
      go false x false y d z = refl

  -- the interior told by the labels
  pub interior-labels : (a m : ℕ) (s : State) → Going image (w * h) a m s → Agrees o w h image (ledger s.log) s → (k : ℕ) → (cluster s k).merged_into ≡ 0
      → interior w h s k ≡ any_of (λ p. all_in (λ q. eqb (label s q) k && not (is_key o image q && is_discard o.keying_action)) (sides w h p)) (cluster s k).pixels
  unfolding interior
  interior-labels a m s G C k r =
      any_same (λ p. all_in (λ q. member q (cluster s k).pixels) (sides w h p)) (λ p. all_in (λ q. eqb (label s q) k && not (is_key o image q && is_discard o.keying_action)) (sides w h p)) (w * h)
      (cluster s k).pixels (pixels-below s C k)
      (λ p l. all_in-same o w h (λ q. member q (cluster s k).pixels) (λ q. eqb (label s q) k && not (is_key o image q && is_discard o.keying_action)) (sides w h p)
      (sided-map (λ q. q < w * h) (λ q. member q (cluster s k).pixels ≡ eqb (label s q) k && not (is_key o image q && is_discard o.keying_action)) (member-label a m s G C k r) (sides w h p) (sides-fit w h p l)))

  -- "The link of a discarded pixel is 0."
  pub discarded-link : (s : State) → Agrees o w h image (ledger s.log) s → (p : ℕ) → Discarded o image p → link s p ≡ 0
  unfolding link
  discarded-link s C p d = after_none p (cluster s (label s p)).pixels (C.view.lists (label s p) p ∙ ap bit (is_false (ledger s.log (label s p) p) (C.view.discarded (label s p) p d)))
