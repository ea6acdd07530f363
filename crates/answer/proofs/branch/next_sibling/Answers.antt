-- `next_sibling` meets its contract.
use mathlib.Core.Path.{◌∙◌}
use Rattle.answer.proofs.Walked.{row}
use Rattle.answer.proofs.Told.{sibling_told, no_sibling, last_told}
use Rattle.answer.proofs.branch.next_sibling.Goals as goal
use Rattle.answer.proofs.branch.next_sibling.Goals.{else-end-of-via-then-end-of+else-opens, else-end-of-via-else-end-of}

pub returns-then-opens : goal.returns-then-opens
returns-then-opens c = c.answered.ensures
    ∙ sibling_told (row c.args.of.now) c.requires c.end_of-end.ensures c.if-end-of.true c.opens.ensures c.if-opens.true

pub returns : goal.returns
returns c = c.refused.ensures ∙ elim c.else-end-of.branch [
  | else-end-of-via-then-end-of+else-opens w ↦
      no_sibling (row c.args.of.now) c.requires c.end_of-end.ensures w.if-end-of.true w.opens.ensures w.if-opens.false
  | else-end-of-via-else-end-of w ↦ last_told (row c.args.of.now) c.requires c.end_of-end.ensures w.if-end-of.false
]
