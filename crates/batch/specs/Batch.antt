-- What a batch gives back and writes, from the arguments alone: its refusals in order, or each question's own answer.
use Rattle.std.specs.Prelude.{◌≡◌, Bool, not, List, [], ◌∷◌, ◌++◌, ℕ, ◌/◌, ◌%◌, eqb, ltb, ℤ, length}
use Rattle.std.proofs.lemmas.List.Edits.{sets}
use Rattle.word.specs.Bits.{word}
use Rattle.judge.specs.declared.Outcome.{Outcome}
use Rattle.judge.specs.First.{first_of}
use Rattle.judge.specs.Judge.{too_long, too_few_bytes, unbalanced, outcome_of, written}
use Rattle.index.specs.Shape.{height}
use Rattle.index.specs.Lent.{too_few_numbers, is_index}
use Rattle.question.specs.Answer.{Answer, answer_of}

-- 4, "question slice not a multiple of three long"
abbrev pub not_threes : ℕ → Bool
not_threes asked = not (eqb (asked % 3) 0)

-- 5, "answer slice shorter than the question slice"
abbrev pub too_little_room : ℕ → ℕ → Bool
too_little_room asked room = ltb room asked

-- 7, "one of the 8L index numbers differs"
abbrev pub differs : List ℕ → ℕ → List ℤ → Bool
differs bytes m idx = not (is_index (height m) (word bytes m) idx)

-- "A batch checks 1 to 7 in order"
unfoldable pub refusal : List ℕ → ℕ → List ℤ → ℕ → ℕ → ℕ
refusal bytes m idx asked room =
    first_of
    ((too_long m, 1)
    ∷ (too_few_bytes bytes m, 2)
    ∷ (too_few_numbers m (length idx), 3)
    ∷ (not_threes asked, 4)
    ∷ (too_little_room asked room, 5)
    ∷ (unbalanced bytes m, 6)
    ∷ (differs bytes m idx, 7)
    ∷ [])

-- "Each answer is code, result, entries read."
abbrev pub three : Answer → List ℕ
three a = a.code ∷ (a.result ∷ (a.reads ∷ []))

-- "Each question is three unsigned 32-bit numbers: kind, a, b.": the answers of the questions in turn
abbrev pub answers_of : List ℕ → ℕ → List ℕ → List ℕ
answers_of bytes m [] = []
answers_of bytes m (kind ∷ []) = []
answers_of bytes m (kind ∷ (a ∷ [])) = []
answers_of bytes m (kind ∷ (a ∷ (b ∷ questions))) = three (answer_of bytes m kind a b) ++ answers_of bytes m questions

-- "returns a code with the number of questions"
unfoldable pub batch_outcome : List ℕ → ℕ → List ℤ → List ℕ → List ℕ → Outcome
batch_outcome bytes m idx questions held = outcome_of (refusal bytes m idx (length questions) (length held)) (length questions / 3)

-- the answers, written over the front of what the slice held; "Places in the answer slice past the answers keep what they held."
unfoldable pub batch_answers : List ℕ → ℕ → List ℤ → List ℕ → List ℕ → List ℕ
batch_answers bytes m idx questions held =
    written (refusal bytes m idx (length questions) (length held)) (sets held 0 (answers_of bytes m questions)) held

-- the promise of a batch
pub record Batched (bytes : List ℕ) (m : ℕ) (idx : List ℤ) (questions held : List ℕ) (r : Outcome) (left : List ℕ) : Type 0 where
  pub outcome_is : r ≡ batch_outcome bytes m idx questions held
  pub answers_are : left ≡ batch_answers bytes m idx questions held
