-- The neighbours of a cluster as a scan with marks finds them: how many, the nearest, and its difference.
use Rattle.std.specs.Prelude.{◌≡◌, ◌≢◌, Bool, ◌&&◌, ◌||◌, List, [], ◌∷◌, ℕ, ◌+◌, ◌*◌, ◌≤◌, ◌<◌, T, eqb, ltb, length}
use Rattle.std.specs.Prelude.{get_or, set, map, if◌then◌else◌}
use Rattle.std.proofs.Math.Option.{Option, none, some}
use Rattle.rules.specs.Base.{each, least}
use Rattle.rules.specs.Color.{Color, color_diff, average, has_average}
use Rattle.rules.specs.Grid.{sides}
use Rattle.rules.specs.Layout.{slot_width}
use Rattle.rules.specs.Stage2.{labels_around}
use Rattle.runner.specs.declared.cluster.Nearest.{Nearest}
use Rattle.runner.specs.Code.Slots.{sum_at, list_in}
use Rattle.runner.specs.Code.Pixels.{pixels, Readable}

-- the label at a place, 0 where there is none
abbrev pub place_label : List ℕ → Option ℕ → ℕ
place_label labels none = 0
place_label labels (some i) = get_or labels i 0

-- the labels up, down, left and right of pixel p, 0 off the image
abbrev pub around : List ℕ → ℕ → ℕ → ℕ → List ℕ
around labels w h p = map (place_label labels) (sides w h p)

-- the difference of the average of cluster l from a colour
abbrev pub diff_from : List ℕ → Color → ℕ → ℕ
diff_from table c = λ l. color_diff c (average (sum_at table l))

-- the difference of the averages of clusters k and l: the rules' `diff` read off the table
abbrev pub diff_at : List ℕ → ℕ → ℕ → ℕ
diff_at table k = diff_from table (average (sum_at table k))

-- of these neighbours: how many, the one of the smallest key, the first of several, and its key
abbrev pub nearest_of : (ℕ → ℕ) → List ℕ → Nearest
nearest_of key [] = record { count = 0; target = 0; diff = 0 }
nearest_of key (x ∷ xs) = record { count = length (x ∷ xs); target = least key x xs; diff = key (least key x xs) }

-- whether neighbour l, of difference d, is to be the target
abbrev pub closer : Nearest → ℕ → ℕ → Bool
closer f l d = eqb f.count 0 || ltb d f.diff || (eqb d f.diff && ltb l f.target)

-- one more neighbour
unfoldable pub with_neighbour : Nearest → ℕ → ℕ → Nearest
with_neighbour f l d = if closer f l d then record { count = f.count + 1; target = l; diff = d } else record
    { count = f.count + 1; target = f.target; diff = f.diff }

-- what a scan has: the marks, and the neighbours so far
pub record Scan : Type 0 where
  pub marks : List ℕ
  pub nearest : Nearest

-- label l is a neighbour if it is neither 0 nor own, nor marked in this visit
unfoldable pub noted : (ℕ → ℕ) → ℕ → ℕ → ℕ → Scan → Scan
noted key own visit l s =
    if eqb l 0 || eqb l own then s
    else (if eqb (get_or s.marks l 0) visit then s
    else record { marks = set s.marks l visit; nearest = with_neighbour s.nearest l (key l) })

-- the first four labels of a list, in turn
unfoldable pub noted_four : (ℕ → ℕ) → ℕ → ℕ → List ℕ → Scan → Scan
noted_four key own visit four s =
    each (get_or four 0 0 ∷ get_or four 1 0 ∷ get_or four 2 0 ∷ get_or four 3 0 ∷ []) (noted key own visit) s

-- slot k is in the table, and its sum has an average
pub record Averaged (table : List ℕ) (k : ℕ) : Type 0 where
  pub inside : slot_width * k + slot_width ≤ length table
  pub average : T (has_average (sum_at table k))

-- a label that may be a neighbour, with as many marks as size
pub record Notable (table : List ℕ) (size l : ℕ) : Type 0 where
  pub mark : l < size
  pub averaged : Averaged table l

-- What a scan for the neighbours of cluster k asks: its pixels can be listed, every label but 0 has a slot and a mark,
-- and no mark is of this visit or a later one.
pub record Scannable (labels links table marks : List ℕ) (w h k visit : ℕ) : Type 0 where
  pub labelled : w * h ≤ length labels
  pub linked : w * h ≤ length links
  pub own : Averaged table k
  pub few : (list_in table k).count ≤ w * h
  pub readable : Readable (w * h) links (list_in table k)
  pub notable : (p : ℕ) → p < w * h → get_or labels p 0 ≢ 0 → Notable table (length marks) (get_or labels p 0)
  pub earlier : (j : ℕ) → get_or marks j 0 < visit

-- the list of cluster k, along the links
abbrev pub list_at : List ℕ → List ℕ → ℕ → List ℕ
list_at links table k = pixels links (list_in table k)

-- What the scan finds: of the rules' list of neighbours their number, the target and its difference. No mark is of a
-- later visit.
pub record Found (labels links table : List ℕ) (w h k visit : ℕ) (r : Nearest) (marks : List ℕ) : Type 0 where
  pub nearest : r ≡ nearest_of (diff_at table k) (labels_around w h labels k (list_at links table k) [])
  pub marked : (j : ℕ) → get_or marks j 0 ≤ visit
