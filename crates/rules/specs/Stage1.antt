-- Stage 1, the label of each pixel (rules, section 5; `stage_1` of builder.rs).
use Rattle.std.specs.Prelude.{Bool, ◌&&◌, List, ℕ, ◌+◌, ◌-◌, ◌/◌, ◌%◌, eqb, length, if◌then◌else◌}
use Rattle.std.proofs.Math.Bool.{not}
use Rattle.std.proofs.Math.Option.{Option, some, none as off}
use Rattle.std.proofs.Math.Dec.{leb}
use Rattle.rules.specs.Base.{times}
use Rattle.rules.specs.Color.{Color, RunnerConfig, equal_color, keying_on, is_discard, is_same, pixel}
use Rattle.rules.specs.Grid.{up, left, up_left}
use Rattle.rules.specs.State.{State, fresh, cluster, label, area, pixel_rect, add_pixel, begin_cluster}
use Rattle.rules.specs.State.{combine_clusters}

-- the pixel at a place; off the image it is none
unfoldable pub color_at : List ℕ → Option ℕ → Option Color
unfolding pixel
color_at image (some i) = some (pixel image i)
color_at image off = off

-- whether the pixels at two places are like
unfoldable pub same_at : RunnerConfig → List ℕ → Option ℕ → Option ℕ → Bool
unfolding color_at is_same
same_at o image p q = is_same o.is_same_color_a o.is_same_color_b (color_at image p) (color_at image q)

-- off the image the label is 0 (rule 5.2)
unfoldable pub label_at : State → Option ℕ → ℕ
label_at s (some i) = label s i
label_at s off = 0

-- with keying on, a pixel whose four channels are the key's (rule 2.2)
unfoldable pub is_key : RunnerConfig → List ℕ → ℕ → Bool
unfolding keying_on equal_color pixel
is_key o image i = keying_on o && equal_color (pixel image i) o.key_color

-- rule 5.3, the end: next falls by one where l, the cluster of left, which went, was the number just below next and
-- next equals the slot count
unfoldable pub lower_next : ℕ → State → State
lower_next l s = record {
  labels = s.labels;
  clusters = s.clusters;
  next_index =
      if eqb (l + 1) s.next_index && eqb s.next_index (length s.clusters)
      then s.next_index - 1
      else s.next_index;
  outputs = s.outputs;
  listed = s.listed;
  log = s.log;
}

module _ (o : RunnerConfig) (w : ℕ) (image : List ℕ) where
  -- rule 5.3, the condition: the labels of left and up differ, left is like up, and the pixel is like both
  unfoldable pub left_meets_up : ℕ → State → Bool
  unfolding same_at label_at up left
  left_meets_up i s =
      not (eqb (label_at s (left w i)) (label_at s (up w i)))
      && same_at o image (left w i) (up w i) && same_at o image (some i) (left w i) && same_at o image (some i) (up w i)

  -- rules 5.4 to 5.7, with l and u for the labels of left and up
  unfoldable pub place : ℕ → ℕ → ℕ → State → State
  unfolding is_key same_at up left up_left pixel pixel_rect add_pixel begin_cluster
  place i l u s =
      let c = pixel image i in
      let at = pixel_rect (i % w) (i / w) in
      if is_key o image i then (if is_discard o.keying_action then s else add_pixel i c at 0 s)
      else (if same_at o image (some i) (up w i) && same_at o image (some i) (up_left w i) then add_pixel i c at u s
      else (if same_at o image (some i) (left w i) && same_at o image (some i) (up_left w i) then add_pixel i c at l s
      else begin_cluster i c at s))

  -- rule 5.3, the merge: the smaller cluster goes into the larger, left into up on equal counts; the later rules read
  -- both labels as the survivor's
  unfoldable pub combine_then_place : ℕ → ℕ → ℕ → State → State
  unfolding combine_clusters lower_next place
  combine_then_place i l u s =
      if leb (area (cluster s l)) (area (cluster s u))
      then place i u u (lower_next l (combine_clusters l u s))
      else place i l l (combine_clusters u l s)

  -- pixel i is taken
  unfoldable pub take_pixel : ℕ → State → State
  unfolding left_meets_up combine_then_place place label_at up left
  take_pixel i s =
      let l = label_at s (left w i) in
      let u = label_at s (up w i) in
      if left_meets_up i s then combine_then_place i l u s else place i l u s

  -- n pixels of `size` are taken, row by row (rule 5.2)
  unfoldable pub taken : ℕ → ℕ → State
  unfolding take_pixel fresh
  taken size n = times n take_pixel (fresh size)
