-- The answers of the questions in turn: one question further, each question's own three numbers, and how few entries it reads.
-- Assumes nothing.
use mathlib.Core.Path.{◌≡◌, refl, ap, ◌∙◌}
use mathlib.Core.List.{List, [], ◌∷◌, ◌++◌}
use mathlib.Core.Bool.{true}
use Prim.Native.Nat.{ℕ, zero, suc, ◌+◌, ◌*◌, ◌%◌, ◌≤◌}
use native.Mathlib.Omega.{arith}
use lib.ListN.{length, take, drop, get_or}
use Rattle.word.specs.Bits.{word}
use Rattle.word.specs.Parse.{is_balanced}
use Rattle.word.proofs.Bits.{length_bits}
use Rattle.fill.proofs.Fill.{drop_three}
use Rattle.index.specs.Shape.{height}
use Rattle.question.specs.Answer.{answer_of, answer_to}
use Rattle.question.proofs.Bound.{decoded_few}
use Rattle.batch.specs.Batch.{three, answers_of}

module _ (bytes : List ℕ) (m : ℕ) where
  -- one question further
  pub answers_step : (at : ℕ) (q : List ℕ) → at + 3 ≤ length q
      → answers_of bytes m (drop at q) ≡ three (answer_of bytes m (get_or q at 0) (get_or q (at + 1) 0) (get_or q (at + 2) 0))
      ++ answers_of bytes m (drop (at + 3) q)
  answers_step at q h = ap (answers_of bytes m) (drop_three q at 0 h)

  -- as many numbers as were asked
  pub answers_long : (q : List ℕ) → length q % 3 ≡ 0 → length (answers_of bytes m q) ≡ length q
  answers_long [] h = refl
  answers_long (k ∷ []) h = absurd (omega arith)
  answers_long (k ∷ (a ∷ [])) h = absurd (omega arith)
  answers_long (k ∷ (a ∷ (b ∷ q))) h = ap (λ n. suc (suc (suc n))) (answers_long q (omega arith))

  -- what stands past the answers of the first k questions answers the questions past them
  pub answers_drop : (k : ℕ) (q : List ℕ) → 3 * k ≤ length q → drop (3 * k) (answers_of bytes m q) ≡ answers_of bytes m (drop (3 * k) q)
  answers_drop zero q h = refl
  answers_drop (suc k) [] h = absurd (omega arith)
  answers_drop (suc k) (x ∷ []) h = absurd (omega arith)
  answers_drop (suc k) (x ∷ (a ∷ [])) h = absurd (omega arith)
  answers_drop (suc k) (x ∷ (a ∷ (b ∷ q))) h =
      let e : 3 * suc k ≡ suc (suc (suc (3 * k))) = omega arith in rw e (answers_drop k q (omega arith))

  -- "every question has its own answer": the three numbers at question k's place are the answer to the three asked there
  pub own_answer : (k : ℕ) (q : List ℕ) → 3 * k + 3 ≤ length q
      → take 3 (drop (3 * k) (answers_of bytes m q))
      ≡ three (answer_of bytes m (get_or q (3 * k) 0) (get_or q (3 * k + 1) 0) (get_or q (3 * k + 2) 0))
  own_answer k q h = ap (take 3) (answers_drop k q (omega arith) ∙ answers_step (3 * k) q h)

  -- "never over four times the index's height"
  pub reads_few : is_balanced (word bytes m) ≡ true → (kind a b : ℕ) → (answer_of bytes m kind a b).reads ≤ 4 * height m
  unfolding answer_of answer_to
  reads_few e kind a b = omega (arith, decoded_few (word bytes m) e kind a b, ap height (length_bits bytes 0 m))
