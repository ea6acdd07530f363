-- `prefix` meets its contract.
use Rattle.prefix.proofs.Climb.{Kept}
use Rattle.prefix.proofs.prefix.Given as goal

abbrev pub invariant-loop-w : goal.invariant-loop-w
invariant-loop-w l = Kept l.lineage.row l.p l.w

abbrev pub decreases-loop-w : goal.decreases-loop-w
decreases-loop-w l = l.w.entry
