-- `lowest` meets its contract.
use mathlib.Core.Path.{◌∙◌}
use Rattle.answer.proofs.Walked.{row}
use Rattle.answer.proofs.Told.{lowest_same}
use Rattle.answer.proofs.pairs.lowest.Goals as goal

pub returns-then-a-b : goal.returns-then-a-b
returns-then-a-b c = c.answered.ensures ∙ lowest_same (row c.args.of.now) c.if-a-b.true
