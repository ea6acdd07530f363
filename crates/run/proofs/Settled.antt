-- What the promise of `run` settles: everything; and that no text is too long for 33,792 bytes. Assumes nothing.
use mathlib.Core.Path.{◌≡◌, refl, sym, ap, ◌∙◌}
use mathlib.Core.Bool.{Bool, true, false, cond}
use mathlib.Core.List.{List}
use Prim.Native.Nat.{ℕ, ◌≤◌, ◌<◌}
use native.Mathlib.Omega.{arith}
use borrow.Author.Tests.{lt-ltb, le-ltb, ltb-false}
use lib.Dec.{ltb}
use lib.ListN.{length}
use lib.Seq.{sets, length-sets}
use Rattle.word.specs.Bits.{word}
use Rattle.word.specs.Parse.{is_balanced}
use Rattle.word.specs.Settles.{Settles}
use Rattle.word.proofs.Settled.{by_equation}
use Rattle.std.specs.Prelude.{Result}
use Rattle.run.specs.declared.no_room.NoRoom.{NoRoom}
use Rattle.judge.specs.declared.Outcome.{Outcome}
use Rattle.run.specs.RanAs.{number_of, ran_as}
use Rattle.judge.specs.Judge.{outcome_of}
use Rattle.batch.specs.Batch.{answers_of}
use Rattle.batch.proofs.Answers.{answers_long}
use Rattle.std.specs.Prelude.{Result, Ok, Err}
use Rattle.house.specs.declared.House.{House}
use Rattle.house.specs.File.{read_of}
use Rattle.house.proofs.Whole.{whole}
use Rattle.text.specs.Text.{Put}
use Rattle.text.proofs.Lines.{lines_few, refusal_few}
use Rattle.run.specs.Output.{refused, printed_as, output, Ran}

-- no second outcome fits
pub outcome_settled : (file held : List ℕ) (r r' : Outcome) (left left' : List ℕ) → Ran file held r left → Ran file held r' left'
    → (r ≡ r') × (left ≡ left')
outcome_settled file held r r' left left' p q = (p.outcome_is ∙ sym q.outcome_is, p.output_is ∙ sym q.output_is)

-- no two results are told alike
ran_apart : (r s : Result ℕ NoRoom) → ran_as r ≡ ran_as s → r ≡ s
ran_apart (Ok n) (Ok k) e = ap Ok (ap (λ (o : Outcome). o.value) e)
ran_apart (Ok n) (Err y) e = let z : ◌≡◌ {A = ℕ} 0 36 = ap (λ (o : Outcome). o.code) e in absurd (omega arith)
ran_apart (Err x) (Ok k) e = let z : ◌≡◌ {A = ℕ} 36 0 = ap (λ (o : Outcome). o.code) e in absurd (omega arith)
ran_apart (Err x) (Err y) e = refl

-- and no second result
pub settled : (file held : List ℕ) (r r' : Result ℕ NoRoom) (left left' : List ℕ) → Ran file held (ran_as r) left
    → Ran file held (ran_as r') left' → (r ≡ r') × (left ≡ left')
settled file held r r' left left' p q = let s = outcome_settled file held (ran_as r) (ran_as r') left left' p q in (ran_apart r r' s.0, s.1)

-- the number of the one refusal, and what is told of it
pub number_settled : (refused : NoRoom) → Settles {A = ℕ} (λ n. n ≡ number_of refused)
number_settled refused = by_equation (number_of refused)

pub from_settled : (refused : NoRoom) → Settles {A = Outcome} (λ o. o ≡ ran_as (Err refused))
from_settled refused = by_equation (ran_as (Err refused))

-- the two ways it ends
pub ends_short : (file held : List ℕ) → length held < 33792 → Ran file held (record { code = 36; value = 0 }) held
ends_short file held h = record { outcome_is = rw (lt-ltb (length held) 33792 h); output_is = rw (lt-ltb (length held) 33792 h) }

pub ends_run : (file held : List ℕ) (n : ℕ) (left : List ℕ) → 33792 ≤ length held → Put (output file) held 0 n left
    → Ran file held (record { code = 0; value = n }) left
ends_run file held n left h p =
    let e : n ≡ length (output file) = omega (arith, p.end_is) in
    record { outcome_is = rw (le-ltb (length held) 33792 h) (ap (λ k. record { code = 0; value = k }) e); output_is = rw (le-ltb (length held) 33792 h) p.left_is }

-- 1,024 lines of 33 bytes
either : (t : Bool) (x y : List ℕ) (n : ℕ) → (t ≡ true → length x ≤ n) → (t ≡ false → length y ≤ n) → length (cond t x y) ≤ n
either true x y n f g = f refl
either false x y n f g = g refl

printed_few : (file : List ℕ) (r : Result House ℕ) → (read_of file).house ≡ r
    → length (printed_as (read_of file).bytes (read_of file).numbers r) ≤ 33792
printed_few file (Err n) e = omega (arith, refusal_few n)
printed_few file (Ok h) e =
    let g = read_of file in
    let w = whole file h e in
    either (is_balanced (word g.bytes h.m)) _ _ 33792
    (λ b. omega (arith, lines_few (answers_of g.bytes h.m g.numbers), answers_long g.bytes h.m g.numbers (omega (arith, w.numbers_count)), w.numbers_count, w.few))
    (λ b. omega (arith, refusal_few 6))

pub output_few : (file : List ℕ) → length (output file) ≤ 33792
unfolding output
output_few file = printed_few file (read_of file).house refl

-- the text lies within what was lent
pub ran_inside : (file held : List ℕ) (r : Outcome) (left : List ℕ) → Ran file held r left → r.value ≤ length left
ran_inside file held r left p = go (ltb (length held) 33792) refl
  where
    value_is : r.value ≡ (outcome_of (refused (length held)) (length (output file))).value
    value_is = ap (λ (o : Outcome). o.value) p.outcome_is

    go : (t : Bool) → ltb (length held) 33792 ≡ t → r.value ≤ length left
    go true e = let z : r.value ≡ 0 = rw e at value_is in omega arith
    go false e =
        let z : r.value ≡ length (output file) = rw e at value_is in
        let l : left ≡ sets held 0 (output file) = rw e at p.output_is in
        omega (arith, output_few file, ltb-false (length held) 33792 e, ap length l, length-sets held 0 (output file))
