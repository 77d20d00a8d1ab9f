-- The state of a run: labels, clusters, the next free number, the outputs, the areas listed, and the log of what was
-- decided (cluster.rs, bound.rs, builder.rs; rules, sections 1 and 6). Whatever is decided changes the state by one
-- function of this file, which also logs it.
use Rattle.std.specs.Prelude.{Bool, ◌&&◌, List, [], ◌∷◌, ◌++◌, ℕ, ◌+◌, min, max, ltb, eqb, length, get_or, set}
use Rattle.std.specs.Prelude.{replicate, if◌then◌else◌}
use Rattle.rules.specs.Base.{each, insert_once}
use Rattle.rules.specs.Color.{Color, ColorSum, zero_sum, sum_of_one, ◌⊕◌}

-- right and bottom lie one past the last pixel (rule 6.1; bound.rs)
pub record BoundingRect : Type 0 where
  pub left : ℕ
  pub top : ℕ
  pub right : ℕ
  pub bottom : ℕ

-- around no pixel
abbrev pub empty_rect : BoundingRect
empty_rect = record { left = 0; top = 0; right = 0; bottom = 0 }

-- the pixel at column x, row y
unfoldable pub pixel_rect : ℕ → ℕ → BoundingRect
pixel_rect x y = record { left = x; top = y; right = x + 1; bottom = y + 1 }

-- whether it lies around no pixel
unfoldable pub is_empty : BoundingRect → Bool
is_empty a = eqb a.right a.left && eqb a.bottom a.top

-- the smallest rectangle around both; an empty one does not count (rule 6.1)
unfoldable pub merge_rect : BoundingRect → BoundingRect → BoundingRect
unfolding is_empty
merge_rect a b =
    if is_empty b then a
    else (if is_empty a then b
    else record {
      left = min a.left b.left;
      top = min a.top b.top;
      right = max a.right b.right;
      bottom = max a.bottom b.bottom;
    })

-- A cluster (rule 1.4): its pixels in the order of its list, the sum of their colours, the residue (what is not in a
-- cluster that deepened into it), its rectangle, the cluster that it deepened into (0: none), how many
-- deepened into it, and its hole children.
pub record Cluster : Type 0 where
  pub pixels : List ℕ
  pub sum : ColorSum
  pub residue : ColorSum
  pub rect : BoundingRect
  pub merged_into : ℕ
  pub depth : ℕ
  pub holes : List ℕ

-- what a slot holds at first
abbrev pub new_cluster : Cluster
new_cluster = record {
  pixels = [];
  sum = zero_sum;
  residue = zero_sum;
  rect = empty_rect;
  merged_into = 0;
  depth = 0;
  holes = [];
}

-- the pixel count
abbrev pub area : Cluster → ℕ
area c = length c.pixels

-- k with pixel p, of colour c and rectangle `at`
unfoldable pub with_pixel : ℕ → Color → BoundingRect → Cluster → Cluster
unfolding sum_of_one ◌⊕◌ merge_rect
with_pixel p c at k = record {
  pixels = k.pixels ++ (p ∷ []);
  sum = k.sum ⊕ sum_of_one c;
  residue = k.residue;
  rect = merge_rect k.rect at;
  merged_into = k.merged_into;
  depth = k.depth;
  holes = k.holes;
}

-- Every merge (rule 6.2): the list of f after the list of t, sums and rectangles added
unfoldable pub with_cluster : Cluster → Cluster → Cluster
unfolding ◌⊕◌ merge_rect
with_cluster f t = record {
  pixels = t.pixels ++ f.pixels;
  sum = t.sum ⊕ f.sum;
  residue = t.residue;
  rect = merge_rect t.rect f.rect;
  merged_into = t.merged_into;
  depth = t.depth;
  holes = t.holes;
}

-- f after a plain merge (rule 6.3): it keeps its residue, depth and hole list; sum, rectangle and list become zero
unfoldable pub emptied : Cluster → Cluster
emptied f = record {
  pixels = [];
  sum = zero_sum;
  residue = f.residue;
  rect = empty_rect;
  merged_into = f.merged_into;
  depth = f.depth;
  holes = f.holes;
}

-- k with another residue
unfoldable pub with_residue : ColorSum → Cluster → Cluster
with_residue s k = record {
  pixels = k.pixels;
  sum = k.sum;
  residue = s;
  rect = k.rect;
  merged_into = k.merged_into;
  depth = k.depth;
  holes = k.holes;
}

-- f after it deepened into t (rule 6.4): it keeps all it had
unfoldable pub merged_to : ℕ → Cluster → Cluster
merged_to t k = record {
  pixels = k.pixels;
  sum = k.sum;
  residue = k.residue;
  rect = k.rect;
  merged_into = t;
  depth = k.depth;
  holes = k.holes;
}

-- t after f deepened into it (rule 6.4)
unfoldable pub deeper : Bool → ℕ → Cluster → Cluster
deeper hollow f k = record {
  pixels = k.pixels;
  sum = k.sum;
  residue = k.residue;
  rect = k.rect;
  merged_into = k.merged_into;
  depth = k.depth + 1;
  holes = if hollow then k.holes ++ (f ∷ []) else k.holes;
}

-- What was decided (rule 12.1): pixel p is added to cluster k; a plain merge; a deepening merge.
pub data Event : Type 0 where
  added : (p k : ℕ) → Event
  plain : (from to : ℕ) → Event
  deepened : (from to : ℕ) → Event

-- `listed` has the areas of the output order, rising; `log` has the newest event first.
pub record State : Type 0 where
  pub labels : List ℕ
  pub clusters : List Cluster
  pub next_index : ℕ
  pub outputs : List ℕ
  pub listed : List ℕ
  pub log : List Event

-- before the first pixel (rule 5.1): slot 0 exists, and the next free number is 1
unfoldable pub fresh : ℕ → State
fresh size = record {
  labels = replicate size 0;
  clusters = new_cluster ∷ [];
  next_index = 1;
  outputs = [];
  listed = [];
  log = [];
}

-- cluster k; beyond the table there is only a new one
abbrev pub cluster : State → ℕ → Cluster
cluster s k = get_or s.clusters k new_cluster

-- the label of pixel p (rule 1.5)
abbrev pub label : State → ℕ → ℕ
label s p = get_or s.labels p 0

-- the pixels ps are labelled t
abbrev pub relabel : ℕ → List ℕ → List ℕ → List ℕ
relabel t ps labels = each ps (λ p ls. set ls p t) labels

-- Pixel p is added to cluster k, which is in the table (rule 5.8).
unfoldable pub add_pixel : ℕ → Color → BoundingRect → ℕ → State → State
unfolding with_pixel
add_pixel p c at k s = record {
  labels = set s.labels p k;
  clusters = set s.clusters k (with_pixel p c at (cluster s k));
  next_index = s.next_index;
  outputs = s.outputs;
  listed = s.listed;
  log = added p k ∷ s.log;
}

-- Pixel p begins a fresh cluster (rule 5.7), which takes slot `next`: a new slot or one that was emptied. Next rises by
-- one.
unfoldable pub begin_cluster : ℕ → Color → BoundingRect → State → State
unfolding with_pixel
begin_cluster p c at s =
    let k = with_pixel p c at new_cluster in
    record {
      labels = set s.labels p s.next_index;
      clusters =
          if ltb s.next_index (length s.clusters)
          then set s.clusters s.next_index k
          else s.clusters ++ (k ∷ []);
      next_index = s.next_index + 1;
      outputs = s.outputs;
      listed = s.listed;
      log = added p s.next_index ∷ s.log;
    }

-- A merge of stage 1 (rules 5.3, 6.3; `combine_clusters`), a plain one. Every residue is still zero, so there is none
-- to add.
unfoldable pub combine_clusters : ℕ → ℕ → State → State
unfolding with_cluster emptied
combine_clusters f t s =
    let from = cluster s f in
    record {
      labels = relabel t from.pixels s.labels;
      clusters = set (set s.clusters t (with_cluster from (cluster s t))) f (emptied from);
      next_index = s.next_index;
      outputs = s.outputs;
      listed = s.listed;
      log = plain f t ∷ s.log;
    }

-- Cluster k is put out (rule 7.11).
unfoldable pub put_out : ℕ → State → State
put_out k s = record {
  labels = s.labels;
  clusters = s.clusters;
  next_index = s.next_index;
  outputs = s.outputs ++ (k ∷ []);
  listed = s.listed;
  log = s.log;
}

-- What the merges of stage 2 have in common (rules 6.2, 7.1): f's pixels are relabelled, t's new area is listed, and
-- the event is logged.
unfoldable pub merge_as : Event → ℕ → ℕ → Cluster → Cluster → List ℕ → State → State
merge_as event f t from to outputs s = record {
  labels = relabel t (cluster s f).pixels s.labels;
  clusters = set (set s.clusters t to) f from;
  next_index = s.next_index;
  outputs = outputs;
  listed = insert_once (area to) s.listed;
  log = event ∷ s.log;
}

-- A plain merge (rule 6.3): f's residue is added to t's.
unfoldable pub merge_cluster_into : ℕ → ℕ → State → State
unfolding merge_as with_cluster emptied with_residue ◌⊕◌
merge_cluster_into f t s =
    let from = cluster s f in
    let to = with_residue ((cluster s t).residue ⊕ from.residue) (with_cluster from (cluster s t)) in
    merge_as (plain f t) f t (emptied from) to s.outputs s

-- A deepening merge (rules 6.4, 7.8): f keeps what it has, and is put out.
unfoldable pub deepen_cluster_into : Bool → ℕ → ℕ → State → State
unfolding merge_as with_cluster merged_to deeper
deepen_cluster_into hollow f t s =
    let from = cluster s f in
    let to = deeper hollow f (with_cluster from (cluster s t)) in
    merge_as (deepened f t) f t (merged_to t from) to (s.outputs ++ (f ∷ [])) s
