-- One parenthesis: its summary is computed. Assumes nothing.
use mathlib.Core.Path.{◌∙◌}
use Rattle.summary.proofs.Append.{one}
use Rattle.summary.proofs.Bounds.{summary_single}
use Rattle.summary.proofs.Machine.{held}
use Rattle.table.proofs.of_bit.Goals as goal

pub returns : goal.returns
unfolding one
returns c = c.from.ensures ∙ rw (held c.step-step.type_inv c.step-step.ensures, summary_single)
