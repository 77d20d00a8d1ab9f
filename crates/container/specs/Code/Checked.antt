-- The sheet that is painted, and what the rules say of it.
use Rattle.std.specs.Prelude.{◌≡◌, List, ℕ, ◌*◌, ◌<◌, T, length, take}
use Rattle.std.specs.List.{All}
use Rattle.rules.specs.Paint as rules
use Rattle.rules.specs.Color.{has_average}
use Rattle.rules.specs.Layout.{first_pixel_place, pixel_count_place}
use Rattle.rules.specs.Paint.{Painted, reads, slot_number, slot_residue}
use Rattle.image.specs.declared.Clusters.{Clusters}
use Rattle.image.specs.declared.PixelList.{PixelList}
use Rattle.container.specs.declared.checked.Sheet.{Sheet}

-- the sheet is that of the clusters, and bytes, a length, is four bytes for each pixel
pub record IsSheetOf (clusters : Clusters) (bytes : ℕ) (sheet : Sheet) : Type 0 where
  pub size : sheet.size ≡ clusters.size.w * clusters.size.h
  pub n : sheet.n ≡ clusters.counts.n
  pub m : length sheet.outputs.now ≡ clusters.counts.m
  pub links : sheet.links.now ≡ clusters.links.now
  pub table : sheet.table.now ≡ clusters.table.now
  pub outputs : sheet.outputs.now ≡ take clusters.counts.m clusters.outputs.now
  pub four : bytes ≡ 4 * sheet.size

-- what the checks of its entries answer
abbrev pub entries_answer : Sheet → ℕ
entries_answer s = rules.entries_answer s.size s.n s.links.now s.table.now s.outputs.now (length s.outputs.now)

-- the pixels of a list can be listed on the sheet
abbrev pub Listed : Sheet → PixelList → Type 0
Listed s list = T (reads s.size s.links.now list.first list.count)

-- what checks 8, 9 and 10 have shown of slot k, as far as painting it asks
pub record Passed (s : Sheet) (k : ℕ) : Type 0 where
  pub slot : k < s.n
  pub average : T (has_average (slot_residue s.table.now k))
  pub listed : T (reads s.size s.links.now (slot_number s.table.now k first_pixel_place)
      (slot_number s.table.now k pixel_count_place))

-- they have shown it of each entry
abbrev pub EntriesPass : Sheet → List ℕ → Type 0
EntriesPass s entries = All (Passed s) entries

-- what painting it answers, and the picture as it leaves it; `given` is the picture before
abbrev pub painting : Sheet → List ℕ → Painted
painting s given = rules.painting s.size s.n (length s.outputs.now) s.links.now s.table.now s.outputs.now given
