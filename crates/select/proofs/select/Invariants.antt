-- `select` meets its contract.
use Rattle.select.proofs.Descent.{Kept}
use Rattle.select.proofs.select.Given as goal

abbrev pub invariant-loop-v : goal.invariant-loop-v
invariant-loop-v l = Kept l.lineage.row l.r l.v

abbrev pub decreases-loop-v : goal.decreases-loop-v
decreases-loop-v l = l.v.width
