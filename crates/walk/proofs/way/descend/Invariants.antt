-- `descend` meets its contract: what is left of the way down gives what the whole gives.
use Prim.Native.Nat.{◌-◌}
use Rattle.walk.specs.Way.{entries}
use Rattle.walk.proofs.Room.{Sinking}
use Rattle.walk.proofs.way.descend.Given as goal

abbrev pub invariant-loop-w : goal.invariant-loop-w
invariant-loop-w g l = Sinking (g.W.Way.descent_of (entries l.lineage.row) l.lineage.l) l.lineage.l l.initial.w l.w

abbrev pub decreases-loop-w : goal.decreases-loop-w
decreases-loop-w g l = l.lineage.l - l.w.entry
