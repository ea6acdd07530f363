-- `opening` meets its contract.
use mathlib.Core.Path.{◌∙◌}
use native.Mathlib.Omega.{arith}
use Rattle.answer.proofs.Walked.{row, closing_in, backward_near}
use Rattle.answer.proofs.Told.{opening_told}
use Rattle.answer.proofs.above.opening.Goals as goal

pub overflow_add-a : goal.overflow_add-a
overflow_add-a c =
    let r = row c.args.of.now in
    record { fits = omega (arith, closing_in r c.requires) }

pub backward-requires : goal.backward-requires
backward-requires c =
    let r = row c.args.of.now in
    (omega (arith, closing_in r c.requires), omega arith)

pub reached-requires : goal.reached-requires
reached-requires c =
    let r = row c.args.of.now in
    (backward_near r _ _ (omega (arith, closing_in r c.requires)) c.backward.ensures, omega arith)

pub returns : goal.returns
returns c =
    let r = row c.args.of.now in
    c.reached.ensures ∙ opening_told r c.requires c.backward.ensures
