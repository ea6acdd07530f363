-- A sound file's word and questions: what building and a batch give and leave, and what is printed of it. Assumes nothing.
use mathlib.Core.Path.{◌≡◌, refl, sym, ap, ◌∙◌}
use mathlib.Core.Bool.{Bool, true, false, cond, not}
use mathlib.Core.List.{List}
use Prim.Native.Nat.{ℕ, ◌*◌, ◌/◌, ◌^◌, ◌≤◌}
use native.Mathlib.Nat.{pow-le-pow_right}
use native.Mathlib.Omega.{arith}
use lib.IntN.{ℤ, pos}
use lib.ListN.{length, take, replicate, length-replicate}
use lib.Seq.{sets, length-sets}
use Rattle.std.specs.Prelude.{Ok, Err}
use Rattle.word.specs.Bits.{word}
use Rattle.word.specs.Parse.{is_balanced}
use Rattle.judge.specs.declared.refusal.Refusal.{Refusal}
use Rattle.judge.specs.declared.Outcome.{Outcome}
use Rattle.judge.specs.Judge.{outcome_of}
use Rattle.judge.specs.Refusal.{number_of, outcome}
use Rattle.judge.proofs.Judged.{code_of}
use Rattle.judge.proofs.Told.{never_0}
use Rattle.index.specs.Shape.{height, numbers_of}
use Rattle.index.proofs.Height.{height_least, numbers_are}
use Rattle.build.specs.Build.{refusal, built_outcome, Built}
use Rattle.build.proofs.Refusal.{accepted, judging}
use Rattle.batch.specs.Batch.{answers_of, batch_outcome, batch_answers, Batched, refusal as batch_refusal}
use Rattle.batch.proofs.Answers.{answers_long}
use Rattle.batch.proofs.Settled.{built_accepted}
use Rattle.fill.proofs.Fill.{sets_front}
use Rattle.text.specs.Text.{Put, lines}
use Rattle.run.specs.Output.{answered}
use Rattle.run.specs.Sound.{Sound}

-- 65,536 bits have 256 leaves at most
pub numbers_few : (m : ℕ) → m ≤ 65536 → numbers_of m ≤ 2048
numbers_few m h =
    let l : 2 ^ height m ≤ 256 = pow-le-pow_right (omega arith) (height_least m 8 (omega arith)) in
    omega (arith, numbers_are m)

-- the index and the answers before they are built and asked
abbrev index : List ℤ
index = replicate 2048 (pos 0)

abbrev answers : List ℕ
answers = replicate 3072 0

module _ (bytes : List ℕ) (m : ℕ) (q out : List ℕ) (s : Sound bytes m q out) (idx : List ℤ) where
  long : length index ≡ 2048
  long = length-replicate 2048 (pos 0)

  room : length q ≤ length answers
  room = omega (arith, s.few, length-replicate {A = ℕ} 3072 0)

  -- 6 is all that building can refuse here
  pub six : (r : Refusal) → Built bytes m index (outcome (Err r)) idx → (is_balanced (word bytes m) ≡ false) × (number_of r ≡ 6)
  unfolding built_outcome
  six r built = go (is_balanced (word bytes m)) refl
    where
      is : outcome (Err r) ≡ outcome_of (cond (not (is_balanced (word bytes m))) 6 0) (m / 2)
      is =
          built.outcome_is
          ∙ ap (λ n. outcome_of n (m / 2))
          (judging bytes m (length index) (omega (arith, s.small)) s.enough (omega (arith, long, numbers_few m s.small)))

      go : (b : Bool) → is_balanced (word bytes m) ≡ b → (b ≡ false) × (number_of r ≡ 6)
      go true y = absurd (never_0 r (ap (λ (o : Outcome). o.code) (rw y at is)))
      go false y = (refl, ap (λ (o : Outcome). o.code) (rw y at is))

  -- the batch takes the index that was built: it refuses nothing, and the answers printed are those of the questions
  module _ (n : ℕ) (built : Built bytes m index (outcome (Ok n)) idx) (left : List ℕ) where
    taken : refusal bytes m (length index) ≡ 0
    unfolding built_outcome
    taken = sym (ap (λ (o : Outcome). o.code) built.outcome_is ∙ code_of (refusal bytes m (length index)) _)

    none : batch_refusal bytes m idx (length q) (length answers) ≡ 0
    unfolding built_outcome
    none = rw built.index_is (built_accepted bytes m (length q) (length answers) s.threes room index taken)

    told : (r : Outcome) → Batched bytes m idx q answers r left → r ≡ record { code = 0; value = length q / 3 }
    unfolding batch_outcome
    told r b = rw none at b.outcome_is

    pub never_refused : (r : Refusal) → Batched bytes m idx q answers (outcome (Err r)) left → ⊥
    never_refused r b = never_0 r (ap (λ (o : Outcome). o.code) (told (outcome (Err r)) b))

    module _ (k : ℕ) (b : Batched bytes m idx q answers (outcome (Ok k)) left) where
      asked : k ≡ length q / 3
      asked = ap (λ (o : Outcome). o.value) (told (outcome (Ok k)) b)

      pub few_asked : k ≤ 1024
      few_asked = omega (arith, asked, s.few)

      left_is : left ≡ sets answers 0 (answers_of bytes m q)
      unfolding batch_answers
      left_is = rw none at b.answers_are

      pub few_answers : 3 * k ≤ length left
      few_answers = omega (arith, asked, room, ap length left_is, length-sets answers 0 (answers_of bytes m q))

      pub ends_lines : (held : List ℕ) (e : ℕ) (after : List ℕ) → Put (lines (take (3 * k) left)) held 0 e after
          → Put (answered bytes m q) held 0 e after
      ends_lines held e after put =
          let many = answers_long bytes m q s.threes in
          let f : take (3 * k) left ≡ answers_of bytes m q =
          ap (take (3 * k)) left_is
          ∙ sets_front answers (answers_of bytes m q) (3 * k) (omega (arith, asked, s.threes, many)) (omega (arith, room, many)) in
          rw (accepted bytes m index taken).1 (rw f at put)
