-- `climb` meets its contract: what is left of the climb gives what the whole gives.
use Rattle.walk.specs.Way.{entries}
use Rattle.walk.proofs.Room.{Climbing}
use Rattle.walk.proofs.way.climb.Given as goal

abbrev pub invariant-loop-w : goal.invariant-loop-w
invariant-loop-w g l = Climbing (g.W.Way.climb_of (entries l.lineage.row)) l.initial.w l.w

abbrev pub decreases-loop-w : goal.decreases-loop-w
decreases-loop-w g l = l.w.entry
