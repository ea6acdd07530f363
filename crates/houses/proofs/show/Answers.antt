-- `show` writes no more than `run` gave it. Assumes nothing.
use mathlib.Core.Path.{sym}
use lib.Seq.{length-take-le}
use Rattle.run.proofs.Settled.{ran_inside}
use Rattle.houses.proofs.show.Goals as goal

pub slice_bounds-output-end : goal.slice_bounds-output-end
slice_bounds-output-end g c = ran_inside _ _ _ _ c.in-Ok.ensures

pub slice_bounds-write_all-end : goal.slice_bounds-write_all-end
slice_bounds-write_all-end g c = sym (length-take-le _ _ (ran_inside _ _ _ _ c.in-Ok.ensures))
