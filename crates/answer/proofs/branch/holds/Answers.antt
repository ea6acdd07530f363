-- `holds` meets its contract.
use mathlib.Core.Path.{◌∙◌}
use Rattle.std.proofs.Common.{rules}
use Rattle.answer.proofs.Walked.{row}
use Rattle.answer.proofs.Told.{held_told, beside_told}
use Rattle.answer.proofs.branch.holds.Goals as goal

pub returns-then-contains : goal.returns-then-contains
returns-then-contains c = c.answered.ensures
    ∙ held_told (row c.args.of.now) c.requires.0 c.end_of-end.ensures c.requires.1 (search rules) (search rules)

pub returns : goal.returns
returns c = c.answered-2.ensures ∙ beside_told (row c.args.of.now) c.requires.0 c.end_of-end.ensures c.requires.1 (λ l k. search rules)
