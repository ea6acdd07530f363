-- `end_of` meets its contract.
use native.Mathlib.Omega.{arith}
use Rattle.answer.proofs.Walked.{row, node_in}
use Rattle.answer.proofs.Told.{ends_found, end_at}
use Rattle.answer.proofs.branch.end_of.Goals as goal

pub forward-found-requires : goal.forward-found-requires
forward-found-requires c =
    let r = row c.args.of.now in
    (omega (arith, node_in r c.requires), omega arith)

pub unwrap-requires : goal.unwrap-requires
unwrap-requires c = ends_found (row c.args.of.now) c.requires _ _ c.forward-found.ensures

pub returns : goal.returns
returns c = end_at (row c.args.of.now) c.requires c.forward-found.ensures c.unwrap.ensures
