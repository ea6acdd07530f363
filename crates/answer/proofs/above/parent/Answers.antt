-- `parent` meets its contract.
use mathlib.Core.Path.{◌∙◌}
use native.Mathlib.Omega.{arith}
use Rattle.answer.proofs.Walked.{row, node_in, backward_near}
use Rattle.answer.proofs.Told.{parent_told}
use Rattle.answer.proofs.above.parent.Goals as goal

pub backward-requires : goal.backward-requires
backward-requires c =
    let r = row c.args.of.now in
    (omega (arith, node_in r c.requires), omega arith)

pub reached-requires : goal.reached-requires
reached-requires c =
    let r = row c.args.of.now in
    (backward_near r _ _ (omega (arith, node_in r c.requires)) c.backward.ensures, omega arith)

pub returns : goal.returns
returns c =
    let r = row c.args.of.now in
    c.reached.ensures ∙ parent_told r c.requires c.backward.ensures
