-- The loop of `bytes_of`: s is the summary of what was read so far. Assumes nothing.
use mathlib.Core.Path.{◌≡◌}
use Prim.Native.Nat.{◌*◌}
use Rattle.word.specs.Bits.{bits}
use Rattle.summary.specs.Stretch.{summary_of}
use Rattle.table.proofs.bytes_of.Given as goal

abbrev pub invariant-loop-b : goal.invariant-loop-b
invariant-loop-b l = l.s ≡ summary_of (bits l.bytes (8 * l.first) (8 * l.b-index))
