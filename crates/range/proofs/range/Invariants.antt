-- `range` meets its contract.
use Rattle.range.proofs.Climb.{Kept}
use Rattle.range.proofs.range.Given as goal

abbrev pub invariant-loop-v : goal.invariant-loop-v
invariant-loop-v l = Kept l.lineage.row l.a l.b l.v

abbrev pub decreases-loop-v : goal.decreases-loop-v
decreases-loop-v l = l.v.r
