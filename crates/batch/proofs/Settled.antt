-- What the promise of a batch settles: everything; how a refusal ends; and which index it accepts. Assumes nothing.
use mathlib.Core.Path.{◌≡◌, refl, sym, ap, ◌∙◌}
use mathlib.Core.Logic.{◌↔◌}
use mathlib.Core.List.{List, ◌++◌}
use Prim.Native.Nat.{ℕ, zero, suc, ◌+◌, ◌*◌, ◌/◌, ◌%◌, ◌≤◌}
use native.Mathlib.Omega.{arith}
use lib.IntN.{ℤ}
use lib.ListN.{length, take, drop, get_or, length-drop}
use lib.Seq.{sets-eq, take-append-le, drop-append-le}
use Rattle.std.specs.Prelude.{Result}
use Rattle.judge.specs.declared.refusal.Refusal.{Refusal}
use Rattle.judge.specs.declared.Outcome.{Outcome}
use Rattle.judge.specs.Refusal.{outcome}
use Rattle.judge.proofs.Told.{outcome_apart}
use Rattle.build.specs.Build.{built_index}
use Rattle.build.specs.Build.{refusal as building}
use Rattle.build.proofs.Refusal.{accepted as may_build}
use Rattle.build.proofs.Settled.{built_long, built_checked, checked_built}
use Rattle.question.specs.Answer.{answer_of}
use Rattle.batch.specs.Batch.{refusal, three, answers_of, batch_outcome, batch_answers, Batched}
use Rattle.batch.proofs.Refusals.{Accepted, accepted}
use Rattle.batch.proofs.Answers.{answers_long, own_answer}

module _ (bytes : List ℕ) (m : ℕ) (idx : List ℤ) (q held : List ℕ) where
  -- no second outcome fits
  pub outcome_settled : (r r' : Outcome) (left left' : List ℕ) →
      Batched bytes m idx q held r left → Batched bytes m idx q held r' left' → (r ≡ r') × (left ≡ left')
  outcome_settled r r' left left' p p' = (p.outcome_is ∙ sym p'.outcome_is, p.answers_are ∙ sym p'.answers_are)

  -- and no second result
  pub settled : (r r' : Result ℕ Refusal) (left left' : List ℕ) →
      Batched bytes m idx q held (outcome r) left → Batched bytes m idx q held (outcome r') left' → (r ≡ r') × (left ≡ left')
  settled r r' left left' p p' = let s = outcome_settled (outcome r) (outcome r') left left' p p' in (outcome_apart r r' s.0, s.1)

  -- a refusal: its number with 0 beside it, and the slice as it was
  pub ends_refused : (c : ℕ) → c ≡ refusal bytes m idx (length q) (length held) → (c ≡ 0 → ⊥) →
      Batched bytes m idx q held (record { code = c; value = 0 }) held
  unfolding batch_outcome batch_answers
  ends_refused zero i h = absurd (h refl)
  ends_refused (suc c) i h = record { outcome_is = rw (← i); answers_are = rw (← i) }

  -- "Refusals 1 to 7 return 0 beside the code and write nothing."
  pub refused_whole : (r : Outcome) (left : List ℕ) → Batched bytes m idx q held r left →
      (refusal bytes m idx (length q) (length held) ≡ 0 → ⊥)
      → (r ≡ record { code = refusal bytes m idx (length q) (length held); value = 0 }) × (left ≡ held)
  refused_whole r left p some_refusal =
      outcome_settled r (record { code = refusal bytes m idx (length q) (length held); value = 0 }) left held p
      (ends_refused (refusal bytes m idx (length q) (length held)) refl some_refusal)

  module _ (ok : Accepted bytes m idx (length q) (length held)) where
    none : refusal bytes m idx (length q) (length held) ≡ 0
    none = (accepted bytes m idx (length q) (length held)).1 ok

    -- the answers in turn, and then what the slice held
    pub answers_plain : batch_answers bytes m idx q held ≡ answers_of bytes m q ++ drop (length q) held
    unfolding batch_answers
    answers_plain =
        let l = answers_long bytes m q ok.threes in
        let n : 0 + length (answers_of bytes m q) ≡ length q = omega arith in
        rw none (sets-eq (answers_of bytes m q) held 0 (omega (arith, ok.room_lent)) ∙ ap (λ n. answers_of bytes m q ++ drop n held) n)

    pub accepted_outcome : batch_outcome bytes m idx q held ≡ record { code = 0; value = length q / 3 }
    unfolding batch_outcome
    accepted_outcome = rw none

    -- question k's own answer stands at its place of the slice
    pub own_place : (k : ℕ) → 3 * k + 3 ≤ length q →
        take 3 (drop (3 * k) (batch_answers bytes m idx q held))
        ≡ three (answer_of bytes m (get_or q (3 * k) 0) (get_or q (3 * k + 1) 0) (get_or q (3 * k + 2) 0))
    own_place k h =
        let l = answers_long bytes m q ok.threes in
        ap (λ s. take 3 (drop (3 * k) s)) answers_plain
        ∙ ap (take 3) (drop-append-le (3 * k) (answers_of bytes m q) (drop (length q) held) (omega arith))
        ∙ take-append-le 3 (drop (3 * k) (answers_of bytes m q)) (drop (length q) held)
        (omega (arith, length-drop (3 * k) (answers_of bytes m q)))
        ∙ own_answer bytes m k q h

-- where `build` has nothing to refuse and the questions are threes with room for the answers, the index decides
module _ (bytes : List ℕ) (m : ℕ) (asked room : ℕ) (threes : asked % 3 ≡ 0) (lent : asked ≤ room) where
  -- a batch takes what `build` made, over whatever it was made
  pub built_accepted : (held : List ℤ) → building bytes m (length held) ≡ 0 → refusal bytes m (built_index bytes m held) asked room ≡ 0
  built_accepted held ok =
      let a = may_build bytes m held ok in
      (accepted bytes m (built_index bytes m held) asked room).1 (record {
        size = a.0.size;
        bytes_lent = a.0.bytes_lent;
        index_lent = omega (arith, a.0.index_lent, built_long bytes m held ok);
        threes = threes;
        room_lent = lent;
        balanced = a.1;
        indexed = built_checked bytes m held ok;
      })

  -- and nothing else: an index is accepted exactly where building over it changes nothing
  pub accepted_built : (idx : List ℤ) → building bytes m (length idx) ≡ 0 →
      (refusal bytes m idx asked room ≡ 0) ↔ (built_index bytes m idx ≡ idx)
  accepted_built idx ok = (
    (λ e. (checked_built bytes m idx ok).0 ((accepted bytes m idx asked room).0 e).indexed),
    λ e. ap (λ i. refusal bytes m i asked room) (sym e) ∙ built_accepted idx ok,
  )
