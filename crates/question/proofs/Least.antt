-- The least of a range's summary is the least of D over its boundaries. Assumes nothing.
use mathlib.Core.Bool.{Bool}
use mathlib.Core.List.{List}
use Prim.Native.Nat.{ℕ, ◌-◌, ◌≤◌, ◌<◌}
use lib.ListN.{length, take, drop}
use Rattle.word.specs.Depth.{Least}
use Rattle.summary.specs.Stretch.{summary_of}
use Rattle.summary.proofs.Depth.{sums}

pub least_is : (w : List Bool) (a b : ℕ) → a < b → b ≤ length w → Least w a b (summary_of (take (b - a) (drop a w))).least
least_is w a b l k = let s = sums w a b l k in record { low = s.least_low; reached = s.least_at }
