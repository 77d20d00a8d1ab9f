-- The pixels of a list.
use Rattle.std.specs.Prelude.{List, ℕ, T, get_or}
use Rattle.image.specs.declared.PixelList.{PixelList}
use Rattle.rules.specs.Layout.{walk}
use Rattle.rules.specs.Paint.{reads}

-- in their order, along the links
abbrev pub pixels : List ℕ → PixelList → List ℕ
pixels links list = walk (λ p. get_or links p 0) list.first list.count

-- the links lead through them all, each less than size
abbrev pub Readable : ℕ → List ℕ → PixelList → Type 0
Readable size links list = T (reads size links list.first list.count)
