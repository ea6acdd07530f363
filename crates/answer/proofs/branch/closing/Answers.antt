-- `closing` meets its contract.
use mathlib.Core.Path.{◌∙◌}
use native.Mathlib.Omega.{arith}
use Rattle.answer.proofs.Walked.{row}
use Rattle.answer.proofs.Told.{end_after, end_within, closing_told}
use Rattle.answer.proofs.branch.closing.Goals as goal

pub overflow_sub-end : goal.overflow_sub-end
overflow_sub-end c = omega (arith, end_after (row c.args.of.now) c.requires c.end_of-end.ensures)

pub answered-requires : goal.answered-requires
answered-requires c =
    let r = row c.args.of.now in
    omega (arith, end_within r c.requires c.end_of-end.ensures)

pub returns : goal.returns
returns c = c.answered.ensures ∙ closing_told (row c.args.of.now) c.requires c.end_of-end.ensures
