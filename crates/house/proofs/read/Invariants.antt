-- `house::read` meets its contract. The invariant is `Reading`: what is still to come,
-- laid over the lent slices as they are, gives what the whole file gives.
-- The measure is what is left of the file. Each arm cites the law of its kind of field. Assumes nothing.
use Prim.Native.Nat.{◌-◌}
use lib.ListN.{length}
use Rattle.house.proofs.Loop.{Reading}
use Rattle.house.proofs.read.Given as goal

abbrev pub invariant-loop-s : goal.invariant-loop-s
invariant-loop-s l = Reading l.file l.initial.word l.initial.numbers l.word l.numbers l.s

abbrev pub decreases-loop-s : goal.decreases-loop-s
decreases-loop-s l = length l.file - l.s.at
