-- Document 01's house file, from its bytes to the printed bytes, by the definitions alone. Assumes nothing.
use mathlib.Core.Path.{◌≡◌, refl}
use mathlib.Core.List.{List, [], ◌∷◌, ◌++◌}
use Prim.Native.Nat.{ℕ}
use Rattle.word.specs.Signed.{min_z, max_z, eq_z}
use Rattle.word.specs.Parse.{parse, is_balanced, forest_of}
use Rattle.word.specs.Questions.{ancestor, parent, nearest}
use Rattle.summary.specs.Stretch.{depth_of, depths, least_of, summary_of}
use Rattle.index.specs.Shape.{height_from, height}
use Rattle.walk.specs.Scan.{final}
use Rattle.walk.specs.Backward.{climb_back, backward}
use Rattle.walk.specs.Range.{range}
use Rattle.question.specs.Decode.{decode_of}
use Rattle.question.specs.Reply.{reply_of}
use Rattle.question.specs.Reads.{reads_of}
use Rattle.question.specs.Answer.{answer_to, answer_of}
use Rattle.house.specs.File.{read_of}
use Rattle.run.specs.Output.{output}

-- `01 0004 0000000C 02 0002 5B04`
abbrev word : List ℕ
word = 1 ∷ 0 ∷ 4 ∷ 0 ∷ 0 ∷ 0 ∷ 12 ∷ 2 ∷ 0 ∷ 2 ∷ 0x5B ∷ 0x04 ∷ []

-- `03 000C 0000000C 00000004 00000006`
abbrev first : List ℕ
first = 3 ∷ 0 ∷ 12 ∷ 0 ∷ 0 ∷ 0 ∷ 12 ∷ 0 ∷ 0 ∷ 0 ∷ 4 ∷ 0 ∷ 0 ∷ 0 ∷ 6 ∷ []

-- `03 000C 00000006 0000000A 00000000`
abbrev second : List ℕ
second = 3 ∷ 0 ∷ 12 ∷ 0 ∷ 0 ∷ 0 ∷ 6 ∷ 0 ∷ 0 ∷ 0 ∷ 10 ∷ 0 ∷ 0 ∷ 0 ∷ 0 ∷ []

-- `0 3 0`
abbrev line_1 : List ℕ
line_1 = 48 ∷ 32 ∷ 51 ∷ 32 ∷ 48 ∷ 10 ∷ []

-- `16 0 0`
abbrev line_2 : List ℕ
line_2 = 49 ∷ 54 ∷ 32 ∷ 48 ∷ 32 ∷ 48 ∷ 10 ∷ []

-- "Output, whole"
pub shown : output (word ++ (first ++ second)) ≡ line_1 ++ line_2
unfolding output read_of is_balanced parse forest_of ancestor parent nearest min_z max_z eq_z depth_of depths least_of summary_of height_from height final climb_back backward range decode_of reply_of reads_of answer_to answer_of
shown = refl
