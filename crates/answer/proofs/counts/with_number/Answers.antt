-- `with_number` meets its contract.
use mathlib.Core.Path.{◌∙◌}
use native.Mathlib.Omega.{arith}
use Rattle.answer.proofs.Walked.{row, select_near}
use Rattle.answer.proofs.Told.{past_told, number_at}
use Rattle.answer.proofs.counts.with_number.Goals as goal

pub returns-then-of-r : goal.returns-then-of-r
returns-then-of-r c = c.refused.ensures ∙ past_told (row c.args.of.now) c.if-of-r.true

pub reached-requires : goal.reached-requires
reached-requires c = (select_near (row c.args.of.now) _ c.select.ensures, omega arith)

pub returns : goal.returns
returns c = c.reached.ensures ∙ number_at (row c.args.of.now) c.if-of-r.false c.select.ensures
