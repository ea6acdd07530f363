-- `scan` meets its contract.
use mathlib.Core.Path.{◌≡◌}
use Prim.Native.Nat.{◌+◌, ◌-◌, ◌≤◌}
use lib.IntN.{nat_abs}
use Rattle.forward.specs.Steps.{scan_of}
use Rattle.forward.proofs.scan.Given as goal

abbrev pub invariant-loop-i : goal.invariant-loop-i
invariant-loop-i l = (l.from ≤ l.i) × (nat_abs l.t ≤ 1152921504606846976 + (l.i - l.from))
    × (scan_of l.bytes l.i (l.to - l.i) l.t ≡ scan_of l.bytes l.from (l.to - l.from) l.want)
