-- Document 01's examples on W, `(()(()()))()`, that it marks (P): one table, one claim.
use mathlib.Core.Path.{◌≡◌, refl}
use mathlib.Core.List.{[], ◌∷◌}
use Prim.Native.Nat.{ℕ}
use Rattle.word.specs.Signed.{min_z, max_z, eq_z}
use Rattle.word.specs.Parse.{parse, forest_of}
use Rattle.word.specs.Questions.{depth, number, with_number, closing_of, opening_of, parent, ancestor}
use Rattle.word.specs.Questions.{branch, children, first_child, next_sibling, nearest, lowest, holds}
use Rattle.summary.specs.Stretch.{depth_of, depths, least_of, greatest_of, how_many, summary_of}
use Rattle.summary.specs.Join.{empty_of, at, joined, join_of}
use Rattle.index.specs.Shape.{height_from, height, entry, entry_by}
use Rattle.walk.specs.Scan.{first, final, nth}
use Rattle.walk.specs.Forward.{climb, descend, forward}
use Rattle.walk.specs.Backward.{climb_back, descend_back, backward}
use Rattle.walk.specs.Prefix.{prefix_up, prefix}
use Rattle.walk.specs.Select.{select_down, select}
use Rattle.walk.specs.Range.{range_up, range}
use Rattle.question.specs.Decode.{decode_of}
use Rattle.question.specs.Reply.{reply_of}
use Rattle.question.specs.Reads.{reads_of}
use Rattle.question.specs.Answer.{Answer, answer_to, answer_of}

-- "W is `(()(()()))()`: m = 12, bytes 5B 04"
abbrev asked : ℕ → ℕ → ℕ → Answer
asked kind a b = answer_of (0x5B ∷ 0x04 ∷ []) 12 kind a b

-- "Reads are 0 throughout."
abbrev gives : ℕ → ℕ → Answer
gives code result = record { code = code; result = result; reads = 0 }

pub marked : asked 1 4 0 ∷ asked 2 6 0 ∷ asked 3 3 0 ∷ asked 4 3 0 ∷ asked 6 10 0 ∷ asked 7 6 2
    ∷ asked 7 6 3 ∷ asked 9 0 0 ∷ asked 12 3 6 ∷ asked 12 0 10 ∷ asked 13 2 8 ∷ asked 13 0 12 ∷ []
    ≡ gives 0 2 ∷ gives 0 4 ∷ gives 0 4 ∷ gives 0 8 ∷ gives 16 0 ∷ gives 0 0
    ∷ gives 16 0 ∷ gives 0 2 ∷ gives 0 3 ∷ gives 16 0 ∷ gives 0 3 ∷ gives 0 0 ∷ []
unfolding depth number with_number closing_of opening_of parent ancestor branch children first_child next_sibling nearest lowest holds
    min_z max_z eq_z parse forest_of depth_of depths least_of greatest_of how_many
    summary_of empty_of at joined join_of height_from height entry entry_by
    first final nth climb descend forward climb_back descend_back backward prefix_up prefix select_down select
    range_up range decode_of reply_of reads_of answer_to answer_of
marked = refl
