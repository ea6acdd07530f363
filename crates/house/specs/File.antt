-- A house file: what is gathered from it field by field, and the promise of reading it.
-- Assumes nothing.
use Rattle.std.specs.Prelude.{◌≡◌, cond, List, [], ◌∷◌, ◌++◌, ℕ, zero, suc, ◌+◌, ltb, length, Result, Ok, Err}
use Rattle.std.proofs.lemmas.List.Edits.{sets}
use Rattle.word.specs.Bits.{bytes_of}
use Rattle.judge.specs.Numbered.{numbered}
use Rattle.house.specs.declared.State.{State}
use Rattle.house.specs.declared.Stage.TheVariants.{First, Bytes, Questions}
use Rattle.house.specs.declared.House.{House}
use Rattle.house.specs.declared.fault.Fault.{Fault}
use Rattle.house.specs.Faults.{number_of}
use Rattle.house.specs.Fields.{is_first, four_at, Told, size, stretch, question, field_at}

-- before the first field
abbrev pub start : State
start = record { at = 0; stage = First; m = 0; bytes = 0; asked = 0 }

-- past a field of each tag, seven, three and more, or fifteen bytes on
abbrev pub sized : State → ℕ → State
sized s m = record { at = s.at + 7; stage = Bytes; m = m; bytes = s.bytes; asked = s.asked }

abbrev pub worded : State → ℕ → State
worded s len = record { at = s.at + 3 + len; stage = Bytes; m = s.m; bytes = s.bytes + len; asked = s.asked }

abbrev pub questioned : State → State
questioned s = record { at = s.at + 15; stage = Questions; m = s.m; bytes = s.bytes; asked = s.asked + 1 }

-- past the last field: "31 .. also for empty input", then "2 fewer than ceil(m/8) bytes"
abbrev pub ended : State → Result House ℕ
ended s =
    cond (is_first s.stage) (Err 31)
    (cond (ltb s.bytes (bytes_of s.m)) (Err 2) (Ok (record { m = s.m; bytes = s.bytes; asked = s.asked })))

-- what is gathered: what is given back, the word bytes, and the questions' numbers, three to each
pub record Gathered : Type 0 where
  pub house : Result House ℕ
  pub bytes : List ℕ
  pub numbers : List ℕ

abbrev pub only : Result House ℕ → Gathered
only h = record { house = h; bytes = []; numbers = [] }

abbrev pub more : List ℕ → List ℕ → Gathered → Gathered
more bytes numbers g = record { house = g.house; bytes = bytes ++ g.bytes; numbers = numbers ++ g.numbers }

-- "Each question is three unsigned 32-bit numbers"
abbrev pub three_of : List ℕ → List ℕ
three_of value = four_at value 0 ∷ (four_at value 4 ∷ (four_at value 8 ∷ []))

-- a field, and then the rest: "Tag 2 .. is the next stretch of word bytes. Tag 3 .. is a question." "The first faulty field decides"
abbrev pub onward : State → (State → Gathered) → Result Told ℕ → Gathered
onward s rest (Err n) = only (Err n)
onward s rest (Ok (size m)) = rest (sized s m)
onward s rest (Ok (stretch part)) = more part [] (rest (worded s (length part)))
onward s rest (Ok (question part)) = more [] (three_of part) (rest (questioned s))

-- the fields from where the state stands to the end; each is three bytes long or more, so the file's length is turns enough
abbrev pub from : List ℕ → ℕ → State → Gathered
from file zero s = only (ended s)
from file (suc turns) s = cond (ltb s.at (length file)) (onward s (from file turns) (field_at file s)) (only (ended s))

-- "Whole input over 49,152 bytes: 35. Then the first faulty field decides"
unfoldable pub read_of : List ℕ → Gathered
read_of file = cond (ltb 49152 (length file)) (only (Err 35)) (from file (length file) start)

-- the promise of reading: what is given back, and what was gathered over both lent slices from the front
pub record Read (file word numbers : List ℕ) (house : Result House Fault) (word' numbers' : List ℕ) : Type 0 where
  pub house_is : numbered number_of house ≡ (read_of file).house
  pub word_is : word' ≡ sets word 0 (read_of file).bytes
  pub numbers_are : numbers' ≡ sets numbers 0 (read_of file).numbers
