-- The codes of a question: 11 to 15 refuse its numbers and bring two zeros, and 16 stands exactly where the forest has no such node.
-- Assumes nothing.
use mathlib.Core.Path.{◌≡◌, refl, ap}
use mathlib.Core.Logic.{◌↔◌}
use mathlib.Core.Bool.{Bool}
use mathlib.Core.List.{List}
use mathlib.Core.Option.{Option, none, some}
use Prim.Native.Nat.{ℕ, ◌≤◌}
use native.Mathlib.Omega.{arith}
use Rattle.std.specs.Prelude.{Ok, Err}
use Rattle.word.specs.Bits.{word}
use Rattle.question.specs.declared.Question.{Question}
use Rattle.question.specs.Decode.{decode_of}
use Rattle.question.specs.Reply.{found}
use Rattle.question.specs.Answer.{answer_decoded, answer_to, answer_of}
use Rattle.question.proofs.Sound.{decode_early}

-- "16: no such node"
pub missing : (o : Option ℕ) → ((found o).code ≡ 16) ↔ (o ≡ none)
missing none = ((λ e. refl), λ e. refl)
missing (some r) = ((λ e. let z : ◌≡◌ {A = ℕ} 0 16 = e in absurd (omega arith)), λ e. cc)

-- "Codes 11 to 15 give result 0 and reads 0"
pub refused_zeros : (w : List Bool) (c : ℕ) → answer_decoded w (Err c) ≡ record { code = c; result = 0; reads = 0 }
refused_zeros w c = refl

-- a refusal's number is 11 to 15, so that none is taken for a 16
pub refused_early : (w : List Bool) (kind a b : ℕ) {c : ℕ} → decode_of w kind a b ≡ Err c → (11 ≤ c) × (c ≤ 15)
refused_early w kind a b = decode_early w kind a b

module _ (bytes : List ℕ) (m kind a b : ℕ) where
  -- a question's own answer
  pub question_answer : {q : Question} → decode_of (word bytes m) kind a b ≡ Ok q → answer_of bytes m kind a b ≡ answer_to (word bytes m) q
  unfolding answer_of answer_to
  question_answer e = ap (answer_decoded (word bytes m)) e

  -- and a refused one's
  pub refused_answer : {c : ℕ} → decode_of (word bytes m) kind a b ≡ Err c →
      answer_of bytes m kind a b ≡ record { code = c; result = 0; reads = 0 }
  unfolding answer_of
  refused_answer e = ap (answer_decoded (word bytes m)) e
