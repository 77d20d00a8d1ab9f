-- Stage 2, merges and the output order (rules, section 7; `stage_2` of builder.rs, `patch_good` of runner.rs).
use Rattle.std.specs.Prelude.{Bool, true, false, ◌&&◌, ◌||◌, ℕ, suc, leb, get_or, if◌then◌else◌}
use Rattle.std.proofs.Math.Bool.{not}
use mathlib.Core.List.{List, [], ◌∷◌, ◌++◌, map}
use Rattle.std.proofs.Math.Option.{Option, some, none as off}
use Rattle.std.proofs.Math.Dec.{ltb, eqb}
use Rattle.std.proofs.Math.ListN.{length}
use Rattle.rules.specs.Base.{times, up_to, member, none_above, insert_once, keep, sort_by, least}
use Rattle.rules.specs.Color.{hierarchical_max, RunnerConfig, discards, color_diff, average, exceeds}
use Rattle.rules.specs.Grid.{sides}
use Rattle.rules.specs.State.{State, Cluster, cluster, label, area, with_residue, put_out, merge_cluster_into}
use Rattle.rules.specs.State.{deepen_cluster_into}

-- the areas of the clusters with pixels, each once, rising (rule 7.1)
unfoldable pub areas_of : List Cluster → List ℕ → List ℕ
areas_of [] l = l
areas_of (c ∷ cs) l = areas_of cs (if eqb (area c) 0 then l else insert_once (area c) l)

-- Stage 1 ends (rules 5.9, 7.1): each residue is set to its sum, and the areas present are listed.
unfoldable pub prepare_stage2 : State → State
unfolding with_residue areas_of
prepare_stage2 s = record {
  labels = s.labels;
  clusters = map (λ c. with_residue c.sum c) s.clusters;
  next_index = s.next_index;
  outputs = s.outputs;
  listed = areas_of s.clusters [];
  log = s.log;
}

-- with `hierarchical` 0: all clusters with pixels are put out by pixel count, then number (rule 7.2)
unfoldable pub output_all : State → State
unfolding sort_by up_to
output_all s = record {
  labels = s.labels;
  clusters = s.clusters;
  next_index = s.next_index;
  outputs =
      s.outputs
      ++ sort_by (λ k. area (cluster s k)) (keep (λ k. ltb 0 (area (cluster s k))) (up_to (length s.clusters)));
  listed = s.listed;
  log = s.log;
}

-- the labels at these places, neither 0 nor `own`, put into a rising list
unfoldable pub labels_at : List ℕ → ℕ → List (Option ℕ) → List ℕ → List ℕ
labels_at labels own [] found = found
labels_at labels own (off ∷ is) found = labels_at labels own is found
labels_at labels own (some i ∷ is) found =
    let l = get_or labels i 0 in
    labels_at labels own is (if eqb l 0 || eqb l own then found else insert_once l found)

-- the difference of the averages of the sums of clusters j and k (rule 7.7)
unfoldable pub cluster_diff : State → ℕ → ℕ → ℕ
unfolding color_diff average
cluster_diff s j k = color_diff (average (cluster s j).sum) (average (cluster s k).sum)

-- what the target of k is chosen by (rule 7.7): the neighbour j with the smallest rank, of several the smallest number
unfoldable pub rank : State → ℕ → ℕ → ℕ
unfolding cluster_diff
rank s k j = cluster_diff s k j

-- the pixels of these hole children, one after another
unfoldable pub hole_pixels : State → List ℕ → List ℕ
hole_pixels s [] = []
hole_pixels s (k ∷ ks) = (cluster s k).pixels ++ hole_pixels s ks

-- every place is in the image and chosen by f
unfoldable pub all_in : (ℕ → Bool) → List (Option ℕ) → Bool
all_in f [] = true
all_in f (off ∷ is) = false
all_in f (some i ∷ is) = f i && all_in f is

module _ (w h : ℕ) where
  -- the labels around these pixels, neither 0 nor `own`, put into a rising list
  unfoldable pub labels_around : List ℕ → ℕ → List ℕ → List ℕ → List ℕ
  unfolding labels_at sides
  labels_around labels own [] found = found
  labels_around labels own (p ∷ ps) found = labels_around labels own ps (labels_at labels own (sides w h p) found)

  -- the neighbours of cluster k, rising (rule 7.5): the labels around its pixels, neither 0 nor that of its first pixel
  unfoldable pub neighbours : State → ℕ → List ℕ
  unfolding labels_around
  neighbours s k = labels_around s.labels (label s (get_or (cluster s k).pixels 0 0)) (cluster s k).pixels []

  -- the boundary (rule 7.9): its pixels outside its own hole list with a 4-neighbour that is not such a pixel
  unfoldable pub boundary : State → ℕ → ℕ
  unfolding hole_pixels all_in sides
  boundary s k =
      let ps = (cluster s k).pixels in
      let hs = hole_pixels s (cluster s k).holes in
      length (keep (λ p. not (member p hs) && not (all_in (λ q. member q ps && not (member q hs)) (sides w h p))) ps)

-- a cluster with no neighbour is put out if no larger area is listed, or if keying is on with Discard; else it is
-- passed over (rule 7.6)
unfoldable pub isolated : RunnerConfig → ℕ → ℕ → State → State
unfolding discards put_out
isolated o a k s = if none_above a s.listed || discards o then put_out k s else s

module _ (o : RunnerConfig) (w h : ℕ) where
  -- whether cluster k may stay a patch (rule 7.8; `patch_good`): its area lies between the two settings, and unless the
  -- smaller is 0 some of its pixels are not on its boundary
  unfoldable pub patch_good : State → ℕ → Bool
  unfolding boundary
  patch_good s k =
      let a = area (cluster s k) in
      ltb o.good_min_area a && ltb a o.good_max_area && (eqb o.good_min_area 0 || ltb (boundary w h s k) a)

  -- whether cluster k deepens into t (rule 7.8)
  unfoldable pub deepens : State → ℕ → ℕ → Bool
  unfolding patch_good cluster_diff
  deepens s k t =
      eqb o.hierarchical hierarchical_max && patch_good s k && exceeds (cluster_diff s k t) o.deepen_diff

  -- cluster k with the neighbours x ∷ xs goes into the one of the smallest rank (rules 7.7, 7.8); hollow: at most
  -- `hollow_neighbours` neighbours (rule 7.10)
  unfoldable pub merge_into_nearest : ℕ → ℕ → List ℕ → State → State
  unfolding deepens rank merge_cluster_into deepen_cluster_into
  merge_into_nearest k x xs s =
      let t = least (rank s k) x xs in
      if deepens s k t
      then deepen_cluster_into (leb (length (x ∷ xs)) o.hollow_neighbours) k t s
      else merge_cluster_into k t s

  -- what becomes of cluster k, of area a, by its neighbours
  unfoldable pub by_neighbours : ℕ → ℕ → List ℕ → State → State
  unfolding isolated merge_into_nearest
  by_neighbours a k [] s = isolated o a k s
  by_neighbours a k (x ∷ xs) s = merge_into_nearest k x xs s

  -- slot k is visited at area a: it is taken if its pixel count is that area now (rules 7.3, 7.4)
  unfoldable pub visit : ℕ → ℕ → State → State
  unfolding neighbours by_neighbours put_out
  visit a k s =
      if eqb (area (cluster s k)) a
      then (if ltb o.hierarchical a then put_out k s else by_neighbours a k (neighbours w h s k) s)
      else s

  -- slots 0 to n - 1, at area a (rule 7.3)
  unfoldable pub pass : ℕ → State → State
  unfolding visit
  pass a s = times (length s.clusters) (visit a) s

  -- the areas 1 to n in rising order; one that no slot has is passed without effect
  unfoldable pub passes : ℕ → State → State
  unfolding pass
  passes n s = times n (λ a. pass (suc a)) s
