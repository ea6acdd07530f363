-- `first_child` meets its contract.
use mathlib.Core.Path.{◌∙◌}
use native.Mathlib.Omega.{arith}
use Rattle.answer.proofs.Walked.{row}
use Rattle.answer.proofs.Told.{next_in, child_told, no_child}
use Rattle.answer.proofs.branch.first_child.Goals as goal

pub overflow_add-a : goal.overflow_add-a
overflow_add-a c =
    let r = row c.args.of.now in
    record { fits = omega (arith, r.small, next_in r c.requires) }

pub opens-requires : goal.opens-requires
opens-requires c =
    let r = row c.args.of.now in
    omega (arith, r.enough, next_in r c.requires)

pub overflow_add-a-then-opens : goal.overflow_add-a-then-opens
overflow_add-a-then-opens c =
    let r = row c.args.of.now in
    record { fits = omega (arith, r.small, next_in r c.requires) }

pub answered-requires : goal.answered-requires
answered-requires c =
    let r = row c.args.of.now in
    omega (arith, r.small, next_in r c.requires)

pub returns-then-opens : goal.returns-then-opens
returns-then-opens c =
    c.answered.ensures ∙ child_told (row c.args.of.now) c.requires c.opens.ensures c.if-opens.true

pub returns : goal.returns
returns c =
    c.refused.ensures ∙ no_child (row c.args.of.now) c.requires c.opens.ensures c.if-opens.false
