-- The loop of `bits_of`: s is the summary of what was read so far. Assumes nothing.
use mathlib.Core.Path.{◌≡◌}
use Prim.Native.Nat.{◌-◌}
use Rattle.word.specs.Bits.{bits}
use Rattle.summary.specs.Stretch.{summary_of}
use Rattle.table.proofs.bits_of.Given as goal

abbrev pub invariant-loop-i : goal.invariant-loop-i
invariant-loop-i l = l.s ≡ summary_of (bits l.bytes l.from (l.i - l.from))
