-- The answer to three numbers asked of a word: code and result from the forest or the running depth, reads from the walks.
use Rattle.std.specs.Prelude.{Bool, List, ℕ, length, Result, Ok, Err}
use Rattle.word.specs.Bits.{word}
use Rattle.index.specs.Shape.{height}
use Rattle.question.specs.declared.Question.{Question}
use Rattle.question.specs.declared.fault.Fault.{Fault}
use Rattle.question.specs.Fault.{number_of}
use Rattle.question.specs.Decode.{decode_of}
use Rattle.question.specs.Reply.{reply_to}
use Rattle.question.specs.Reads.{reads_to}

-- "Each answer is code, result, entries read."
pub record Answer : Type 0 where
  pub code : ℕ
  pub result : ℕ
  pub reads : ℕ

-- an answer from what is given back: a result, or a fault, and the entries read
abbrev pub answered : Result ℕ Fault → ℕ → Answer
answered (Ok r) n = record { code = 0; result = r; reads = n }
answered (Err f) n = record { code = number_of f; result = 0; reads = n }

-- the answer to what three numbers were decoded into
abbrev pub answer_decoded : List Bool → Result Question ℕ → Answer
answer_decoded w d = record {
  code = (reply_to w d).code;
  result = (reply_to w d).result;
  reads = reads_to (height (length w)) w d;
}

unfoldable pub answer_to : List Bool → Question → Answer
answer_to w q = answer_decoded w (Ok q)

-- "Each question is three unsigned 32-bit numbers: kind, a, b."
unfoldable pub answer_of : List ℕ → ℕ → ℕ → ℕ → ℕ → Answer
answer_of bytes m kind a b = answer_decoded (word bytes m) (decode_of (word bytes m) kind a b)
