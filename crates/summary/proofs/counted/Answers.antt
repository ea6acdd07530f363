-- `counted` takes a side's count where that side reaches the least. Assumes nothing.
use mathlib.Core.Path.{sym, ◌∙◌}
use mir.Facts.{to_z-of_z}
use Rattle.word.proofs.Signed.{zarith, of_z_eq, of_z_ne}
use Rattle.summary.proofs.Join.{at_yes, at_no}
use Rattle.summary.proofs.counted.Goals as goal

pub returns-then-side-least : goal.returns-then-side-least
returns-then-side-least c = to_z-of_z c.ranges.count ∙ sym (at_yes c.args.side c.args.least c.args.count (of_z_eq c.args.side c.args.least c.ranges.side c.ranges.least c.if-side-least.true))

pub returns-else-side-least : goal.returns-else-side-least
returns-else-side-least c =
    sym (at_no c.args.side c.args.least c.args.count (omega (zarith, of_z_ne c.args.side c.args.least c.if-side-least.false)))
