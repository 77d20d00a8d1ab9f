-- What the picture is, from what it begins with and the entries painted over that.
use mathlib.Core.Path.{◌≡◌, sym, ap, ◌∙◌}
use mathlib.Core.List.{List}
use Prim.Native.Nat.{ℕ, ◌+◌, ◌*◌, ◌-◌, ◌≤◌, ◌<◌}
use native.Mathlib.Omega.{arith}
use lib.ListN.{length, get_or, take, replicate, length-replicate}
use lib.Seq.{take-length}
use Rattle.std.proofs.lemmas.List.{get_or-take}
use Rattle.rules.specs.Base.{each_back}
use Rattle.rules.specs.Color.{average}
use Rattle.rules.specs.Refusals.{paint_answer}
use Rattle.rules.specs.Calls.{paint_call}
use Rattle.rules.specs.Paint.{Painted, slot_number, slot_residue, slot_pixels, entries_answer, paint_slot, paint_entries, painting}
use Rattle.rules.specs.Layout.{first_pixel_place, pixel_count_place}
use Rattle.image.specs.declared.Clusters.{Clusters}
use Rattle.container.specs.declared.checked.Sheet.{Sheet}
use Rattle.container.specs.Code.Checked as of_sheet
use Rattle.container.specs.Code.Checked.{IsSheetOf}
use Rattle.container.specs.Code.Uniform.{uniform}
use Rattle.container.specs.Code.Covered.{Whole}
use Rattle.container.specs.Code.Quick.{ListPasses}
use Rattle.refusal.specs.Refusal.{number_of}
use Rattle.refusal.specs.declared.Refusal.{Refusal}
use Rattle.refusal.proofs.Laws.{refused_number}
use Rattle.container.proofs.Leads.{leads-reads}
use Rattle.container.proofs.Entries.{back-turn, back-each, entries-cut, times-cut, sheet-pass, first-pass}
use Rattle.container.proofs.Covered.{whole-fill}

-- painting the last entry, where it is all pixels, fills the picture
whole-slot : (size : ℕ) (links table entries : List ℕ) → Whole size links table entries
    → (let k = get_or entries (length entries - 1) 0 in paint_slot links table k (replicate (4 * size) 0) ≡ uniform (average (slot_residue table k)) size)
unfolding paint_slot slot_pixels
whole-slot size links table entries W = rw W.count (whole-fill size links _ _ (replicate (4 * size) 0) (length-replicate (4 * size) 0) W.leads)

-- and its list passes
pub whole-passes : {size : ℕ} {links table entries : List ℕ} → Whole size links table entries → (i : ℕ) → length entries - 1 ≤ i → i < length entries → ListPasses size links table (get_or entries i 0)
whole-passes {size} {links} {table} {entries} W i l b =
    let e : i ≡ length entries - 1 = omega arith in
    let z : slot_number table (get_or entries (length entries - 1) 0) pixel_count_place ≡ size + 0 = W.count ∙ omega arith in
    rw (e, z) (leads-reads size links size 0 (slot_number table (get_or entries (length entries - 1) 0) first_pixel_place) 0 W.leads tt)

-- a refused entry leaves the picture
pub refused : (size n m : ℕ) (links table outputs given : List ℕ) (r : Refusal) → number_of r ≡ entries_answer size n links table outputs m
    → ◌≡◌ {A = Painted} (record { answer = number_of r; picture = given }) (painting size n m links table outputs given)
unfolding painting
refused size n m links table outputs given r e = rw (← e, refused_number r)

-- all entries over zeros
pub over_zeros : (size n : ℕ) (links table entries given : List ℕ) → entries_answer size n links table entries (length entries) ≡ 0
    → (p : List ℕ) → p ≡ each_back entries (paint_slot links table) (replicate (4 * size) 0) → ◌≡◌ {A = Painted} (record { answer = 0; picture = p }) (painting size n (length entries) links table entries given)
unfolding painting paint_entries
over_zeros size n links table entries given e p f = rw (e, f, back-each (length entries) entries (paint_slot links table) (replicate (4 * size) 0) (omega arith), take-length entries)

-- the last entry, which is all pixels, and the others over it
pub over_last : (size n : ℕ) (links table entries given : List ℕ) → entries_answer size n links table entries (length entries) ≡ 0 → Whole size links table entries
    → (p q : List ℕ) → q ≡ uniform (average (slot_residue table (get_or entries (length entries - 1) 0))) size → p ≡ each_back (take (length entries - 1) entries) (paint_slot links table) q
    → ◌≡◌ {A = Painted} (record { answer = 0; picture = p }) (painting size n (length entries) links table entries given)
over_last size n links table entries given e W p q f g =
    let paint = paint_slot links table in
    over_zeros size n links table entries given e p (g ∙ ap (each_back (take (length entries - 1) entries) paint) (f ∙ sym (whole-slot size links table entries W)) ∙ sym (back-turn entries paint (replicate (4 * size) 0) W.some))

-- painting reads no output beyond the first m
painting-cut : (size n m : ℕ) (links table outputs given : List ℕ) → painting size n m links table (take m outputs) given ≡ painting size n m links table outputs given
unfolding painting paint_entries
painting-cut size n m links table outputs given =
    let same : (i : ℕ) → i < m → get_or (take m outputs) i 0 ≡ get_or outputs i 0 = λ i l. get_or-take m outputs i 0 l in
    rw (entries-cut size n links table m (take m outputs) outputs same, times-cut (paint_slot links table) m (take m outputs) outputs same (replicate (4 * size) 0))

-- so painting the sheet of the clusters is painting them
pub sheet-painting : (a : Clusters) (bytes : ℕ) (s : Sheet) (given : List ℕ) → IsSheetOf a bytes s
    → of_sheet.painting s given ≡ painting (a.size.w * a.size.h) a.counts.n a.counts.m a.links.now a.table.now a.outputs.now given
sheet-painting a bytes s given h =
    rw (h.m, h.outputs, h.size, h.n, h.links, h.table) (painting-cut (a.size.w * a.size.h) a.counts.n a.counts.m a.links.now a.table.now a.outputs.now given)

-- the entries of a sheet that pass, over zeros
pub ruleset paints_all = (over_zeros, sheet-pass)

-- and the others over the last one
pub ruleset paints_others = (over_last, sheet-pass, first-pass)

-- an entry that fails, and lists that need no check
pub ruleset refuses = (refused, whole-passes)

-- the call is refused before any entry is checked
pub call-refused : (w h n m : ℕ) (links table outputs given : List ℕ) (r : Refusal) → number_of r ≡ paint_answer w h (length links) (length table) (length outputs) (length given) n m
    → ◌≡◌ {A = Painted} (record { answer = number_of r; picture = given }) (paint_call w h links table outputs given n m)
unfolding paint_call
call-refused w h n m links table outputs given r e = rw (← e, refused_number r)

-- or its sheet is painted
pub call-painted : (a : Clusters) (s : Sheet) (given : List ℕ) (x : Painted) → 0 ≡ paint_answer a.size.w a.size.h (length a.links.now) (length a.table.now) (length a.outputs.now) (length given) a.counts.n a.counts.m
    → IsSheetOf a (length given) s → x ≡ of_sheet.painting s given → x ≡ paint_call a.size.w a.size.h a.links.now a.table.now a.outputs.now given a.counts.n a.counts.m
unfolding paint_call
call-painted a s given x e h p = rw (sym e) (p ∙ sheet-painting a (length given) s given h)

-- what the call answers
pub ruleset calls = (call-refused, call-painted)
