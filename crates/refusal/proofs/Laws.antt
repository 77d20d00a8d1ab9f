-- Laws on the numbers of the checks.
use Rattle.std.specs.Prelude.{◌≡◌, false, nat_eq, refl}
use Rattle.std.proofs.Common.{sym, ◌∙◌, eq-eqb, true≢false}
use Rattle.refusal.specs.declared.Refusal.{Refusal}
use Rattle.refusal.specs.declared.Refusal.TheVariants.{Shift, NoPixels, TooManyPixels, ImageLength, BufferLength}
use Rattle.refusal.specs.declared.Refusal.TheVariants.{PictureLength, SumTooLarge, NoSlot, NoAverage, BadList, NoRow}
use Rattle.refusal.specs.declared.Refusal.TheVariants.{LargeNumber, DestinationLength}
use Rattle.refusal.specs.Refusal.{number_of}

-- a refusal is no acceptance
pub refused_number : (r : Refusal) → nat_eq (number_of r) 0 ≡ false
refused_number Shift = refl
refused_number NoPixels = refl
refused_number TooManyPixels = refl
refused_number ImageLength = refl
refused_number BufferLength = refl
refused_number PictureLength = refl
refused_number SumTooLarge = refl
refused_number NoSlot = refl
refused_number NoAverage = refl
refused_number BadList = refl
refused_number NoRow = refl
refused_number LargeNumber = refl
refused_number DestinationLength = refl

pub refused-ne0 : (r : Refusal) → number_of r ≡ 0 → ⊥
refused-ne0 r e = true≢false (sym (eq-eqb _ _ e) ∙ refused_number r)
