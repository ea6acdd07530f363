-- The answer slice while it is filled: the answers still to come would make it what it shall be. Assumes nothing.
use mathlib.Core.Path.{◌≡◌, refl, sym, ap, ◌∙◌}
use mathlib.Core.List.{List, [], ◌++◌}
use Prim.Native.Nat.{ℕ, ◌+◌, ◌%◌, ◌≤◌, ◌<◌}
use native.Mathlib.Omega.{arith}
use lib.ListN.{length, drop, get_or}
use lib.Seq.{sets, length-sets, drop-length}
use Rattle.fill.proofs.Fill.{sets_append}
use Rattle.question.specs.Answer.{Answer, answer_of}
use Rattle.batch.specs.Batch.{three, answers_of}
use Rattle.batch.proofs.Answers.{answers_step}

-- the questions before place `at` are answered
pub record Done (bytes : List ℕ) (m : ℕ) (q held now : List ℕ) (at : ℕ) : Type 0 where
  pub inside : at ≤ length q
  pub threes : at % 3 ≡ 0
  pub long : length now ≡ length held
  pub goes : sets now at (answers_of bytes m (drop at q)) ≡ sets held 0 (answers_of bytes m q)

module _ (bytes : List ℕ) (m : ℕ) (q held : List ℕ) where
  pub done_none : Done bytes m q held held 0
  done_none = record { inside = omega arith; threes = refl; long = refl; goes = refl }

  module _ (now : List ℕ) (at : ℕ) (d : Done bytes m q held now at) where
    pub done_next : (left : List ℕ) (a : Answer) → length q % 3 ≡ 0 → at < length q →
        a ≡ answer_of bytes m (get_or q at 0) (get_or q (at + 1) 0) (get_or q (at + 2) 0) →
        left ≡ sets now at (three a) → Done bytes m q held left (at + 3)
    done_next left a t more is put =
        let rest = answers_of bytes m (drop (at + 3) q) in
        record {
          inside = omega (arith, d.threes);
          threes = omega (arith, d.threes);
          long = ap length put ∙ length-sets now at (three a) ∙ d.long;
          goes =
              ap (λ l. sets l (at + 3) rest) put
              ∙ sym (sets_append now at (three a) rest)
              ∙ ap (λ x. sets now at (three x ++ rest)) is
              ∙ ap (sets now at) (sym (answers_step bytes m at q (omega (arith, d.threes))))
              ∙ d.goes;
        }

    pub done_all : length q ≤ at → now ≡ sets held 0 (answers_of bytes m q)
    done_all h = let e : at ≡ length q = omega (arith, d.inside) in
        sym (ap (λ s. sets now at (answers_of bytes m s)) (drop_all at e)) ∙ d.goes
      where
        drop_all : (n : ℕ) → n ≡ length q → drop n q ≡ []
        drop_all n e = ap (λ n. drop n q) e ∙ drop-length q
