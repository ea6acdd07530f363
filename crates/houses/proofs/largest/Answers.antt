-- `largest` lends parts of its file. Assumes nothing.
use mathlib.Core.Path.{sym}
use native.Mathlib.Omega.{arith}
use lib.Seq.{length-take-le}
use Rattle.houses.proofs.largest.Goals as goal

pub slice_bounds-show_last-end-2 : goal.slice_bounds-show_last-end-2
slice_bounds-show_last-end-2 g c = sym (length-take-le 23562 _ (omega arith))

pub slice_bounds-show-end-2 : goal.slice_bounds-show-end-2
slice_bounds-show-end-2 g c = sym (length-take-le 23577 _ (omega arith))
