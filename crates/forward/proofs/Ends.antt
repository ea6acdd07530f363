-- The scans at the two ends of the walk, by the bits of the bytes: of the block where it starts, and of the leaf that it reaches.
use mathlib.Core.Path.{◌≡◌, sym, ap, ◌∙◌}
use mathlib.Core.Bool.{Bool}
use mathlib.Core.List.{List}
use mathlib.Core.Option.{Option, none, some}
use Prim.Native.Nat.{ℕ, ◌+◌, ◌-◌, ◌*◌, ◌/◌, ◌<◌, min}
use lib.IntN.{ℤ, ◌-ℤ◌}
use Rattle.word.specs.Bits.{bits, word}
use Rattle.summary.specs.Stretch.{depth_of}
use Rattle.walk.specs.declared.Walk.{Walk}
use Rattle.std.specs.Prelude.{Result, Ok, Err}
use Rattle.walk.specs.Scan.{first, ahead, scanned, reached}
use Rattle.walk.specs.Forward.{leaf_scan}
use Rattle.walk.proofs.Stretches.{block_is, ahead_is, scanned_met, scanned_left, reached_is}
use Rattle.forward.specs.Steps.{scan_of}

-- a stretch x of the word that is n bits from bit i
module _ (bytes : List ℕ) (i n : ℕ) (x : List Bool) (t : ℤ) (s : Result ℕ ℤ) (e : x ≡ bits bytes i n) (r : s ≡ scan_of bytes i n t) where
  scan_is : s ≡ scanned (first i x t) (t -ℤ depth_of x)
  unfolding scan_of
  scan_is = r ∙ rw e

  met : (q : ℕ) → s ≡ Ok q → first i x t ≡ some q
  met q y = scanned_met (first i x t) (t -ℤ depth_of x) q (sym scan_is ∙ y)

  left : (u : ℤ) → s ≡ Err u → (first i x t ≡ none) × (u ≡ t -ℤ depth_of x)
  left u y = scanned_left (first i x t) (t -ℤ depth_of x) u (sym scan_is ∙ y)

-- ---- the leaf where the walk stands
pub leaf_is : (bytes : List ℕ) (m l : ℕ) (w : Walk) (to : ℕ) (s : Result ℕ ℤ) → to ≡ min (256 * (w.entry - l + 1)) m
    → s ≡ scan_of bytes (256 * (w.entry - l)) (to - 256 * (w.entry - l)) w.want
    → (reached s, w.reads) ≡ leaf_scan l (word bytes m) w
leaf_is bytes m l w to s e r = ap (λ (x : Option ℕ). (x, w.reads))
    (ap reached (scan_is bytes _ _ _ w.want s (block_is bytes m (w.entry - l) to e) r) ∙ reached_is _ _)

-- ---- the block where the walk starts
module _ (bytes : List ℕ) (m p : ℕ) (t : ℤ) (o : p < m) (to : ℕ) (e : to ≡ min (256 * (p / 256 + 1)) m) (s : Result ℕ ℤ)
    (r : s ≡ scan_of bytes p (to - p) t) where
  pub start_met : (q : ℕ) → s ≡ Ok q → first p (ahead (word bytes m) p) t ≡ some q
  start_met = met bytes p (to - p) (ahead (word bytes m) p) t s (ahead_is bytes m p to e o) r

  pub start_left : (u : ℤ) → s ≡ Err u → (first p (ahead (word bytes m) p) t ≡ none) × (u ≡ t -ℤ depth_of (ahead (word bytes m) p))
  start_left = left bytes p (to - p) (ahead (word bytes m) p) t s (ahead_is bytes m p to e o) r
