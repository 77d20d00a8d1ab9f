-- The numbers of the checks, and of what a call answers; and what is said of a refusal.
use Rattle.std.specs.Prelude.{ℕ, List, Result, Ok, Err, codes}
use Rattle.refusal.specs.declared.Refusal.{Refusal}
use Rattle.refusal.specs.declared.Refusal.TheVariants.{Shift, NoPixels, TooManyPixels, ImageLength, BufferLength}
use Rattle.refusal.specs.declared.Refusal.TheVariants.{PictureLength, SumTooLarge, NoSlot, NoAverage, BadList, NoRow}
use Rattle.refusal.specs.declared.Refusal.TheVariants.{LargeNumber, DestinationLength}

-- the number of a check in the table of rule 3.2
abbrev pub number_of : Refusal → ℕ
number_of Shift = 1
number_of NoPixels = 2
number_of TooManyPixels = 3
number_of ImageLength = 4
number_of BufferLength = 5
number_of PictureLength = 6
number_of SumTooLarge = 7
number_of NoSlot = 8
number_of NoAverage = 9
number_of BadList = 10
number_of NoRow = 11
number_of LargeNumber = 12
number_of DestinationLength = 13

-- the number that a call answers: 0 is acceptance
abbrev pub answer_of : {A : Type 0} → Result A Refusal → ℕ
answer_of (Ok _) = 0
answer_of (Err refusal) = number_of refusal

-- the words that are written of a refusal
abbrev pub words_of : Refusal → List ℕ
words_of Shift = codes "the shift is outside 0 to 7"
words_of NoPixels = codes "the image has no pixels"
words_of TooManyPixels = codes "the image has more than 65,000 pixels"
words_of ImageLength = codes "the image has not four bytes for each pixel"
words_of BufferLength = codes "a buffer is too short, or a count too large"
words_of PictureLength = codes "the picture has not four bytes for each pixel"
words_of SumTooLarge = codes "a number of the sum would pass 4,294,967,295"
words_of NoSlot = codes "an output names no slot"
words_of NoAverage = codes "the residue of an output has no average"
words_of BadList = codes "the list of an output leads off the image"
words_of NoRow = codes "the picture has no such row"
words_of LargeNumber = codes "a number to be stored exceeds 65,535"
words_of DestinationLength = codes "the destination has not the length of the sheet"
