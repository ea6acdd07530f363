-- Tags by their bytes. Assumes nothing.
use Rattle.std.specs.Prelude.{ℕ}
use Rattle.house.specs.declared.tag.Tag.{Tag}
use Rattle.house.specs.declared.tag.Tag.TheVariants.{Size, Word, Question}

-- the "one-byte tag" of a field
abbrev pub byte_of : Tag → ℕ
byte_of Size = 1
byte_of Word = 2
byte_of Question = 3
