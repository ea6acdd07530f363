-- `house::read` meets its contract. The invariant is `Reading`: what is still to come,
-- laid over the lent slices as they are, gives what the whole file gives.
-- The measure is what is left of the file. Each arm cites the law of its kind of field. Assumes nothing.
use borrow.Author.Rules.{rules}
use mathlib.Core.Path.{sym}
use native.Mathlib.Omega.{arith}
use Rattle.house.proofs.Fields.{fits}
use Rattle.house.proofs.Loop.{too_long, begins, stops, past_size, past_word, past_question}
use Rattle.house.proofs.read.Goals as goal

pub returns-then-file-gt49152 : goal.returns-then-file-gt49152
returns-then-file-gt49152 c =
    let a = c.args in
    too_long a.file.now a.word.now a.numbers.now c.if-file-gt49152.true

pub returns-in_err-m : goal.returns-in_err-m
returns-in_err-m c =
    let a = c.args in
    let l = c.loop-s in
    stops a.file.now a.word.now a.numbers.now l.word l.numbers l.s l.invariant c.loop-s-test.true _ _
    (sym (rw c.in_err-m.was at c.field_at.ensures)) (search rules)

pub loop-s-init : goal.loop-s-init
loop-s-init c =
    let a = c.args in
    rw c.start-s.ensures (begins a.file.now a.word.now a.numbers.now c.if-file-gt49152.false)

pub loop-s-preserved-in-Size : goal.loop-s-preserved-in-Size
loop-s-preserved-in-Size c =
    let a = c.args in
    let l = c.loop-s in
    let e = sym (rw (c.in_ok-m.was, c.in-Size.is) at c.field_at.ensures) in
    rw c.sized-s.ensures (past_size a.file.now a.word.now a.numbers.now l.word l.numbers l.s l.invariant c.loop-s-test.true _ e)

pub copy-requires : goal.copy-requires
copy-requires c =
    let a = c.args in
    let l = c.loop-s in
    let e = sym (rw (c.in_ok-m.was, c.in-Word.is) at c.field_at.ensures) in
    omega (arith, l.invariant.steady.small, (fits a.file.now l.s _ e).1)

pub loop-s-preserved-in-Word : goal.loop-s-preserved-in-Word
loop-s-preserved-in-Word c =
    let a = c.args in
    let l = c.loop-s in
    let e = sym (rw (c.in_ok-m.was, c.in-Word.is) at c.field_at.ensures) in
    rw (c.worded-s.ensures, c.copy.ensures)
    (past_word a.file.now a.word.now a.numbers.now l.word l.numbers l.s l.invariant c.loop-s-test.true _ e)

pub put_three-requires : goal.put_three-requires
put_three-requires c =
    let a = c.args in
    let l = c.loop-s in
    let e = sym (rw (c.in_ok-m.was, c.in-Question.is) at c.field_at.ensures) in
    let b = fits a.file.now l.s _ e in
    (b.1.0, omega (arith, b.1.1))

pub loop-s-preserved : goal.loop-s-preserved
loop-s-preserved c =
    let a = c.args in
    let l = c.loop-s in
    let e = sym (rw (c.in_ok-m.was, c.in-Question.is) at c.field_at.ensures) in
    rw (c.questioned-s.ensures, c.put_three.ensures)
    (past_question a.file.now a.word.now a.numbers.now l.word l.numbers l.s l.invariant c.loop-s-test.true _ e)
