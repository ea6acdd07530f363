-- `nearest` meets its contract.
use mathlib.Core.Path.{sym, ◌∙◌}
use native.Mathlib.Omega.{arith}
use Rattle.answer.proofs.Walked.{row, node_in}
use Rattle.answer.proofs.Told.{nearest_same, nearest_turned}
use Rattle.answer.proofs.pairs.nearest.Goals as goal

pub answered-requires : goal.answered-requires
answered-requires c =
    let r = row c.args.of.now in
    omega (arith, node_in r c.requires.0)

pub returns-then-a-b : goal.returns-then-a-b
returns-then-a-b c = c.answered.ensures ∙ nearest_same (row c.args.of.now) c.requires.0 c.if-a-b.true

pub returns : goal.returns
returns c =
    c.shared-2.ensures ∙ sym (nearest_turned (row c.args.of.now) c.args.a c.args.b c.if-a-b.false)
