-- `scan_down` meets its contract: what is left of the scan gives what the whole gives.
use mathlib.Core.Path.{◌≡◌}
use Prim.Native.Nat.{◌+◌, ◌-◌, ◌≤◌}
use lib.IntN.{nat_abs}
use Rattle.backward.specs.Steps.{scan_down}
use Rattle.backward.proofs.scan_down.Given as goal

abbrev pub invariant-loop-i : goal.invariant-loop-i
invariant-loop-i l = (l.i ≤ l.to) × (nat_abs l.t ≤ 1152921504606846976 + (l.to - l.i))
    × (scan_down l.bytes l.from (l.i - l.from) l.t ≡ scan_down l.bytes l.from (l.to - l.from) l.want)
