-- The range of every number of a state, for an image of w columns and h rows.
use Rattle.std.specs.Prelude.{List, [], ◌∷◌, ℕ, ◌+◌, ◌*◌, ◌≤◌, ◌<◌, length}
use Rattle.rules.specs.Color.{ColorSum}
use Rattle.rules.specs.State.{State, BoundingRect, cluster, label, area}
use Rattle.rules.specs.Layout.{after, first_of, link}

-- of bytes, at most `size` of them
pub record Fits (size : ℕ) (x : ColorSum) : Type 0 where
  pub count : x.count ≤ size
  pub r : x.r ≤ 255 * x.count
  pub g : x.g ≤ 255 * x.count
  pub b : x.b ≤ 255 * x.count
  pub a : x.a ≤ 255 * x.count

-- a rectangle that lies in the image
pub record OnImage (w h : ℕ) (r : BoundingRect) : Type 0 where
  pub left : r.left ≤ r.right
  pub right : r.right ≤ w
  pub top : r.top ≤ r.bottom
  pub bottom : r.bottom ≤ h

-- every entry is below n
abbrev pub AllBelow : ℕ → List ℕ → Type 0
AllBelow n [] = Unit {0}
AllBelow n (x ∷ xs) = (x < n) × AllBelow n xs

-- the 21 numbers of every slot, the labels, the links, the outputs. Stored numbers are plus one, so they may reach the
-- count.
pub record Ranged (w h : ℕ) (s : State) : Type 0 where
  pub slots : length s.clusters ≤ w * h + 1
  pub labels : (p : ℕ) → label s p < length s.clusters
  pub links : (p : ℕ) → link s p ≤ w * h
  pub firsts : (k : ℕ) → first_of (cluster s k).pixels ≤ w * h
  pub areas : (k : ℕ) → area (cluster s k) ≤ w * h
  pub rects : (k : ℕ) → OnImage w h (cluster s k).rect
  pub sums : (k : ℕ) → Fits (w * h) (cluster s k).sum
  pub residues : (k : ℕ) → Fits (w * h) (cluster s k).residue
  pub into : (k : ℕ) → (cluster s k).merged_into < length s.clusters
  pub depths : (k : ℕ) → (cluster s k).depth ≤ w * h
  pub holes : (k : ℕ) → length (cluster s k).holes ≤ w * h
  pub children : (k : ℕ) → AllBelow (length s.clusters) (cluster s k).holes
  pub first_child : (k : ℕ) → first_of (cluster s k).holes ≤ length s.clusters
  pub next_child : (k : ℕ) → after k (cluster s (cluster s k).merged_into).holes ≤ length s.clusters
  pub outputs : AllBelow (length s.clusters) s.outputs
