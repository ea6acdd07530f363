-- The demands on answers reach the slice that a batch writes: its codes and results are those of `asked`, over which demand 3 is
-- stated, and its reads are few. Assumes nothing.
use mathlib.Core.Path.{◌≡◌, sym, ap, subst, ◌∙◌}
use mathlib.Core.List.{List, [], ◌∷◌}
use Prim.Native.Nat.{ℕ, ◌+◌, ◌*◌, ◌≤◌}
use native.Mathlib.Omega.{arith}
use lib.IntN.{ℤ}
use lib.ListN.{length, take, get_or}
use lib.Seq.{length-sets}
use Rattle.word.specs.Bits.{word}
use Rattle.fill.proofs.Fill.{drop_three}
use Rattle.index.specs.Shape.{height}
use Rattle.question.specs.Reply.{Reply}
use Rattle.question.specs.Answer.{answer_of, answer_to}
use Rattle.question.proofs.Demands.{asked}
use Rattle.batch.specs.Batch.{three, answers_of, batch_answers}
use Rattle.batch.proofs.Refusals.{Accepted, accepted}
use Rattle.batch.proofs.Answers.{reads_few}
use Rattle.batch.proofs.Settled.{own_place}

-- code and result of answer k of a slice
abbrev pub reply_at : List ℕ → ℕ → Reply
reply_at s k = record { code = get_or s (3 * k) 0; result = get_or s (3 * k + 1) 0 }

module _ (bytes : List ℕ) (m : ℕ) (idx : List ℤ) (q held : List ℕ)
    (ok : Accepted bytes m idx (length q) (length held)) (k : ℕ) (in_q : 3 * k + 3 ≤ length q) where
  long : length (batch_answers bytes m idx q held) ≡ length held
  unfolding batch_answers
  long = rw ((accepted bytes m idx (length q) (length held)).1 ok) (length-sets held 0 (answers_of bytes m q))

  abbrev left : List ℕ
  left = batch_answers bytes m idx q held

  three_are : get_or left (3 * k) 0 ∷ (get_or left (3 * k + 1) 0 ∷ (get_or left (3 * k + 2) 0 ∷ []))
      ≡ three (answer_of bytes m (get_or q (3 * k) 0) (get_or q (3 * k + 1) 0) (get_or q (3 * k + 2) 0))
  three_are = sym (ap (take 3) (drop_three left (3 * k) 0 (omega (arith, long, in_q, ok.room_lent))))
      ∙ own_place bytes m idx q held ok k in_q

  -- the answer that an accepted batch writes for its question k has the code and result that `asked` gives
  pub answered : reply_at left k ≡ asked (word bytes m) (get_or q (3 * k) 0) (get_or q (3 * k + 1) 0) (get_or q (3 * k + 2) 0)
  unfolding answer_of answer_to
  answered = ap (λ (l : List ℕ). record { code = get_or l 0 0; result = get_or l 1 0 }) three_are

  -- "never over four times the index's height"
  pub answered_few : get_or left (3 * k + 2) 0 ≤ 4 * height m
  answered_few = subst (λ n. n ≤ 4 * height m) (sym (ap (λ (l : List ℕ). get_or l 2 0) three_are))
      (reads_few bytes m ok.balanced (get_or q (3 * k) 0) (get_or q (3 * k + 1) 0) (get_or q (3 * k + 2) 0))
