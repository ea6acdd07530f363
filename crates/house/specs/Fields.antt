-- One field of a house file: "one-byte tag, two-byte length, then that many bytes", and its faults in document 01's order.
-- A field is looked at where it stands in the file, after what the fields before it have told (`State`). Assumes nothing.
use Rattle.std.specs.Prelude.{Bool, true, false, cond, not, List, ℕ, ◌+◌, ◌*◌, ltb, eqb, length, take, drop, get_or, Result, Ok, Err}
use Rattle.word.specs.Bits.{bytes_of}
use Rattle.house.specs.declared.State.{State}
use Rattle.house.specs.declared.Field.{Field}
use Rattle.house.specs.declared.Field.TheVariants.{Size, Word, Question}
use Rattle.house.specs.declared.fault.Fault.{Fault}
use Rattle.house.specs.Faults.{number_of}
use Rattle.house.specs.declared.Stage.{Stage}
use Rattle.house.specs.declared.Stage.TheVariants.{First, Bytes, Questions}

-- "all numbers most significant first"
abbrev pub two_at : List ℕ → ℕ → ℕ
two_at file i = get_or file i 0 * 256 + get_or file (i + 1) 0

abbrev pub four_at : List ℕ → ℕ → ℕ
four_at file i = two_at file i * 65536 + two_at file (i + 2)

-- "one-byte tag, two-byte length, then that many bytes": the value is that part of the file
abbrev pub tag_at : List ℕ → ℕ → ℕ
tag_at file at = get_or file at 0

abbrev pub length_at : List ℕ → ℕ → ℕ
length_at file at = two_at file (at + 1)

abbrev pub value_at : List ℕ → ℕ → ℕ → List ℕ
value_at file at len = take len (drop (at + 3) file)

-- what is said of a field of tag 1, of tag 2 and of tag 3
abbrev pub by_tag : {A : Type 0} → ℕ → A → A → A → A
by_tag tag one two three = cond (eqb tag 1) one (cond (eqb tag 2) two three)

-- "31 cut short": the field's head or its value reaches past the end
abbrev pub cut_short : List ℕ → ℕ → Bool
cut_short file at = ltb (length file) (at + 3 + length_at file at)

-- "32 unknown tag"
abbrev pub unknown_tag : ℕ → Bool
unknown_tag tag = cond (eqb tag 0) true (ltb 3 tag)

-- whether the first field is still to come, and whether the word may go on
abbrev pub is_first : Stage → Bool
is_first First = true
is_first Bytes = false
is_first Questions = false

abbrev pub is_bytes : Stage → Bool
is_bytes First = false
is_bytes Bytes = true
is_bytes Questions = false

-- "33 out of place": tag 1 "comes once, first", so nothing comes before it; "tag 2 never follows tag 3"
abbrev pub out_of_place : ℕ → Stage → Bool
out_of_place tag stage = by_tag tag (not (is_first stage)) (not (is_bytes stage)) (is_first stage)

-- "34 wrong length": "Tag 1 (length 4)", "Tag 2 (length 1 or more)", "Tag 3 (length 12)"
abbrev pub wrong_length : ℕ → ℕ → Bool
wrong_length tag len = by_tag tag (not (eqb len 4)) (eqb len 0) (not (eqb len 12))

-- what a field without fault tells: m, "the next stretch of word bytes", or a question's twelve bytes
pub data Told : Type 0 where
  size : ℕ → Told
  stretch : List ℕ → Told
  question : List ℕ → Told

-- what the field reader gives back: a part of the file by the bytes there, and a fault by its number
abbrev pub told : Result Field Fault → Result Told ℕ
told (Ok (Size m)) = Ok (size m)
told (Ok (Word part)) = Ok (stretch part.now)
told (Ok (Question part)) = Ok (question part.now)
told (Err fault) = Err (number_of fault)

-- "35 m over 65,536, more than ceil(m/8) word bytes, or a 1,025th question"; a field without fault is what its tag says
abbrev pub size_field : ℕ → Result Told ℕ
size_field m = cond (ltb 65536 m) (Err 35) (Ok (size m))

abbrev pub word_field : State → List ℕ → Result Told ℕ
word_field s part = cond (ltb (bytes_of s.m) (s.bytes + length part)) (Err 35) (Ok (stretch part))

abbrev pub question_field : State → List ℕ → Result Told ℕ
question_field s part = cond (ltb 1023 s.asked) (Err 35) (Ok (question part))

abbrev pub last_test : State → ℕ → List ℕ → Result Told ℕ
last_test s tag part = by_tag tag (size_field (four_at part 0)) (word_field s part) (question_field s part)

-- the field where the state stands: its faults "in this order"
abbrev pub field_at : List ℕ → State → Result Told ℕ
field_at file s =
    cond (cut_short file s.at) (Err 31)
    (cond (unknown_tag (tag_at file s.at)) (Err 32)
    (cond (out_of_place (tag_at file s.at) s.stage) (Err 33)
    (cond (wrong_length (tag_at file s.at) (length_at file s.at)) (Err 34)
    (last_test s (tag_at file s.at) (value_at file s.at (length_at file s.at))))))
