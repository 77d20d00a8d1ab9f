-- What the quick checks of painting show.
use Rattle.std.specs.Prelude.{List, ℕ, ◌≤◌, ◌<◌, T, get_or}
use Rattle.rules.specs.Color.{has_average}
use Rattle.rules.specs.Paint.{reads, slot_number, slot_residue}
use Rattle.rules.specs.Layout.{first_pixel_place, pixel_count_place}
use Rattle.image.specs.declared.PixelList.{PixelList}
use Rattle.container.specs.declared.quick.Lanes.{Lanes}

-- slot k passes checks 8 and 9, and its count is at most size
abbrev pub NumbersPass : ℕ → ℕ → List ℕ → ℕ → Type 0
NumbersPass size n table k =
    (k < n) × T (has_average (slot_residue table k)) × (slot_number table k pixel_count_place ≤ size)

-- the list of slot k can be read
abbrev pub ListPasses : ℕ → List ℕ → List ℕ → ℕ → Type 0
ListPasses size links table k =
    T (reads size links (slot_number table k first_pixel_place) (slot_number table k pixel_count_place))

-- the lists of the entries left, .. m - 1 can be read
abbrev pub PassFrom : ℕ → List ℕ → List ℕ → List ℕ → ℕ → ℕ → Type 0
PassFrom size links table outputs m left = (i : ℕ) → left ≤ i → i < m → ListPasses size links table (get_or outputs i 0)

-- If the rest y of a list can be read, so can the rest x that was there before, and the lists of the entries that were
-- taken since: left, .. before - 1.
pub record LanePasses (table outputs : List ℕ) (x : PixelList) (before : ℕ) (y : PixelList) (left : ℕ) : Type 0 where
  pub rest : (size : ℕ) (links : List ℕ) → T (reads size links y.first y.count) → T (reads size links x.first x.count)
  pub taken : (size : ℕ) (links : List ℕ) → T (reads size links y.first y.count)
      → (m : ℕ) → PassFrom size links table outputs m before → PassFrom size links table outputs m left

-- the rests of the four lanes can be read
abbrev pub RestsPass : ℕ → List ℕ → Lanes → Type 0
RestsPass size links x = (i : ℕ) → i < 4 → T (reads size links (get_or x.at i 0) (get_or x.count i 0))

-- if the rests of the four lanes can be read, so can the lists of all entries that were taken: left, .. m - 1
pub record LanesPass (size : ℕ) (links table outputs : List ℕ) (m : ℕ) (x : Lanes) : Type 0 where
  pub taken : RestsPass size links x → PassFrom size links table outputs m x.left
