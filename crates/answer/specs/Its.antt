-- The word of a balanced lineage.
use Rattle.std.specs.Prelude.{Bool, List}
use Rattle.word.specs.Row.{word_of}
use Rattle.answer.specs.declared.balanced.Balanced.{Balanced}

abbrev pub its_word : Balanced → List Bool
its_word x = word_of x.lineage.row
