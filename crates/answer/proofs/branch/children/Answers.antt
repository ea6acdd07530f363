-- `children` meets its contract.
use mathlib.Core.Path.{◌∙◌}
use native.Mathlib.Omega.{arith}
use Rattle.answer.proofs.Walked.{row}
use Rattle.answer.proofs.Told.{next_in, childless_told}
use Rattle.answer.proofs.branch.children.Goals as goal

pub overflow_add-a : goal.overflow_add-a
overflow_add-a c =
    let r = row c.args.of.now in
    record { fits = omega (arith, next_in r c.requires) }

pub opens-requires : goal.opens-requires
opens-requires c =
    let r = row c.args.of.now in
    omega (arith, next_in r c.requires)

pub returns : goal.returns
returns c =
    let r = row c.args.of.now in
    c.answered.ensures
    ∙ childless_told r c.requires c.end_of-end.ensures c.opens.ensures c.if-opens.false
