-- `between` meets its contract.
use mathlib.Core.Path.{ap, ◌∙◌}
use Prim.Native.Nat.{◌+◌}
use native.Mathlib.Omega.{arith}
use Rattle.question.specs.Reply.{gives}
use Rattle.answer.specs.Ready.{replied}
use Rattle.answer.proofs.Walked.{row, range_near}
use Rattle.answer.proofs.Told.{next_in, end_few, end_after, kids_between, children_told}
use Rattle.answer.proofs.branch.between.Goals as goal

pub overflow_add-a : goal.overflow_add-a
overflow_add-a c =
    let r = row c.args.of.now in
    record { fits = omega (arith, next_in r c.requires.0) }

pub overflow_sub-end : goal.overflow_sub-end
overflow_sub-end c = omega (arith, end_after (row c.args.of.now) c.requires.0 c.requires.1)

pub range-r-requires : goal.range-r-requires
range-r-requires c =
    let r = row c.args.of.now in
    let p = kids_between r c.requires.0 c.requires.1 c.requires.2 in
    (p.0, p.1)

pub overflow_cast-r : goal.overflow_cast-r
overflow_cast-r c =
    let r = row c.args.of.now in
    let p = kids_between r c.requires.0 c.requires.1 c.requires.2 in
    let t = range_near r _ _ p.0 p.1 c.range-r.ensures in
    rw t.count_back t.count_fits

pub overflow_add-end : goal.overflow_add-end
overflow_add-end c =
    let r = row c.args.of.now in
    let p = kids_between r c.requires.0 c.requires.1 c.requires.2 in
    let t = range_near r _ _ p.0 p.1 c.range-r.ensures in
    record { fits = omega (arith, t.few, end_few r c.requires.0 c.requires.1) }

pub returns : goal.returns
returns c =
    let r = row c.args.of.now in
    let p = kids_between r c.requires.0 c.requires.1 c.requires.2 in
    let t = range_near r _ _ p.0 p.1 c.range-r.ensures in
    let n = c.args.end.reads + c.range-r.result.reads in
    c.answered.ensures ∙ ap (λ i. replied (gives i) n) t.count_cast
    ∙ children_told r c.requires.0 c.requires.1 c.requires.2 c.range-r.ensures
