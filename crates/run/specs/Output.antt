-- What the program `lineage` prints for an input, from the input's bytes to the output's bytes, and the promise of `run`.
use Rattle.std.specs.Prelude.{◌≡◌, cond, List, [], ◌∷◌, ℕ, ltb, length, Result, Ok, Err}
use Rattle.std.proofs.lemmas.List.Edits.{sets}
use Rattle.word.specs.Bits.{word}
use Rattle.word.specs.Parse.{is_balanced}
use Rattle.judge.specs.declared.Outcome.{Outcome}
use Rattle.judge.specs.First.{first_of}
use Rattle.judge.specs.Judge.{outcome_of, written}
use Rattle.batch.specs.Batch.{answers_of}
use Rattle.house.specs.declared.House.{House}
use Rattle.house.specs.File.{Gathered, read_of}
use Rattle.text.specs.Text.{lines, refusal}

-- "prints code, result and reads for each question .. or only `refused` and the number": "Then 2 and 6 as above", of which reading
-- the file judges 2
abbrev pub answered : List ℕ → ℕ → List ℕ → List ℕ
answered bytes m numbers = cond (is_balanced (word bytes m)) (lines (answers_of bytes m numbers)) (refusal 6)

abbrev pub printed_as : List ℕ → List ℕ → Result House ℕ → List ℕ
printed_as bytes numbers (Ok house) = answered bytes house.m numbers
printed_as bytes numbers (Err n) = refusal n

abbrev pub printed : Gathered → List ℕ
printed g = printed_as g.bytes g.numbers g.house

-- the whole output for a whole input
unfoldable pub output : List ℕ → List ℕ
output file = printed (read_of file)

-- 36, fewer bytes lent than 1,024 lines may take
abbrev pub refused : ℕ → ℕ
refused room = first_of ((ltb room 33792, 36) ∷ [])

-- the promise of `run`: the text's length, and the text over the front of what was lent; beside 36 it is 0, and nothing is written
pub record Ran (file held : List ℕ) (r : Outcome) (left : List ℕ) : Type 0 where
  pub outcome_is : r ≡ outcome_of (refused (length held)) (length (output file))
  pub output_is : left ≡ written (refused (length held)) (sets held 0 (output file)) held
