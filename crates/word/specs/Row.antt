-- The word of a row that is lent.
use Rattle.std.specs.Prelude.{Bool, List}
use Rattle.word.specs.declared.row.Row.{Row}
use Rattle.word.specs.Bits.{word}

-- "A word has m bits.": the first m bits of the row's bytes
abbrev pub word_of : Row → List Bool
word_of r = word r.bytes.now r.m
