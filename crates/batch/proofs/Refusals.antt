-- The refusals of a batch in their order, and what code 0 means. Assumes nothing.
use mathlib.Core.Path.{◌≡◌, ◌∙◌}
use mathlib.Core.Logic.{◌↔◌}
use mathlib.Core.Bool.{true, cond}
use mathlib.Core.List.{List}
use Prim.Native.Nat.{ℕ, ◌%◌, ◌^◌, ◌≤◌}
use native.Mathlib.Omega.{arith}
use borrow.Author.Tests.{le-ltb, eq-eqb, eqb-true, ltb-false, not-false}
use lib.IntN.{ℤ}
use lib.ListN.{length}
use Rattle.word.specs.Bits.{word, bytes_of}
use Rattle.word.specs.Parse.{is_balanced}
use Rattle.judge.specs.Judge.{too_long, too_few_bytes, unbalanced}
use Rattle.judge.proofs.First.{passed}
use Rattle.index.specs.Shape.{height, numbers_of}
use Rattle.index.specs.Lent.{too_few_numbers, is_index}
use Rattle.index.proofs.Numbers.{tested}
use Rattle.walk.specs.Lent.{Lent}
use Rattle.batch.specs.Batch.{not_threes, too_little_room, differs, refusal}

-- past the first five, word and index decide
pub judging : (bytes : List ℕ) (m : ℕ) (idx : List ℤ) (asked room : ℕ) → m ≤ 2097152 → bytes_of m ≤ length bytes →
    numbers_of m ≤ length idx → asked % 3 ≡ 0 → asked ≤ room
    → refusal bytes m idx asked room ≡ cond (unbalanced bytes m) 6 (cond (differs bytes m idx) 7 0)
unfolding refusal
judging bytes m idx asked room a b d e f =
    simp (
      le-ltb 2097152 m a,
      le-ltb (length bytes) (bytes_of m) b,
      le-ltb (length idx) (numbers_of m) d,
      eq-eqb (asked % 3) 0 e,
      le-ltb room asked f,
    )

pub record Accepted (bytes : List ℕ) (m : ℕ) (idx : List ℤ) (asked room : ℕ) : Type 0 where
  pub size : m ≤ 2097152
  pub bytes_lent : bytes_of m ≤ length bytes
  pub index_lent : numbers_of m ≤ length idx
  pub threes : asked % 3 ≡ 0
  pub room_lent : asked ≤ room
  pub balanced : is_balanced (word bytes m) ≡ true
  pub indexed : is_index (height m) (word bytes m) idx ≡ true

-- code 0 exactly where none of the seven holds
pub accepted : (bytes : List ℕ) (m : ℕ) (idx : List ℤ) (asked room : ℕ) →
    (refusal bytes m idx asked room ≡ 0) ↔ Accepted bytes m idx asked room
unfolding refusal
accepted bytes m idx asked room = (
  (λ e.
      let p₁ = passed (too_long m) 0 _ e in
      let p₂ = passed (too_few_bytes bytes m) 1 _ p₁.1 in
      let p₃ = passed (too_few_numbers m (length idx)) 2 _ p₂.1 in
      let p₄ = passed (not_threes asked) 3 _ p₃.1 in
      let p₅ = passed (too_little_room asked room) 4 _ p₄.1 in
      let p₆ = passed (unbalanced bytes m) 5 _ p₅.1 in
      let p₇ = passed (differs bytes m idx) 6 _ p₆.1 in
      record {
        size = ltb-false _ _ p₁.0;
        bytes_lent = ltb-false _ _ p₂.0;
        index_lent = ltb-false _ _ p₃.0;
        threes = eqb-true _ _ (not-false _ p₄.0);
        room_lent = ltb-false _ _ p₅.0;
        balanced = not-false _ p₆.0;
        indexed = not-false _ p₇.0;
      }),
  λ a. judging bytes m idx asked room a.size a.bytes_lent a.index_lent a.threes a.room_lent ∙ rw (a.balanced, a.indexed),
)

-- past the refusals, what is lent is a row and its own index of l leaves
pub lent_of : (bytes : List ℕ) (m : ℕ) (idx : List ℤ) (l : ℕ) → m ≤ 2097152 → bytes_of m ≤ length bytes →
    l ≡ 2 ^ height m → is_index (height m) (word bytes m) idx ≡ true → Lent bytes idx m l
lent_of bytes m idx l a b e i =
    record { small = a; enough = omega (arith, b); leaves = e; indexed = tested (height m) (word bytes m) idx i }
