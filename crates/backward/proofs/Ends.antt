-- The two scans of the walk, in the block where it starts and in the leaf that it reaches.
-- What the scan's result says of a stretch of bits, and so of the word's block.
use mathlib.Core.Path.{◌≡◌, refl, sym, ap, ◌∙◌}
use mathlib.Core.Bool.{Bool}
use mathlib.Core.List.{List}
use mathlib.Core.Option.{Option, none, some}
use Prim.Native.Nat.{ℕ, suc, ◌+◌, ◌-◌, ◌*◌, ◌/◌, ◌<◌, min}
use native.Mathlib.Omega.{arith}
use lib.IntN.{ℤ, ◌+ℤ◌}
use Rattle.word.specs.Bits.{bit, bits, word}
use Rattle.summary.specs.Stretch.{step, depth_of}
use Rattle.std.specs.Prelude.{Result, Ok, Err}
use Rattle.walk.specs.declared.Walk.{Walk}
use Rattle.walk.specs.Scan.{final, behind, scanned, reached}
use Rattle.walk.specs.Backward.{leaf_back, from_start}
use Rattle.backward.specs.Steps.{scan_down}
use Rattle.walk.proofs.Stretches.{block_is, behind_is, up_to_is, scanned_met, scanned_left, reached_is}
use Rattle.backward.proofs.Scan.{one_more}

-- a stretch x of the word that is n bits from bit i, and u wanted from its start
module _ (bytes : List ℕ) (i n : ℕ) (x : List Bool) (t u : ℤ) (s : Result ℕ ℤ) (e : x ≡ bits bytes i n) (d : t +ℤ depth_of x ≡ u)
    (r : s ≡ scan_down bytes i n t) where
  scan_is : s ≡ scanned (final i x u) u
  unfolding scan_down
  scan_is = r ∙ rw (← d, e)

  met : (q : ℕ) → s ≡ Ok q → final i x u ≡ some q
  met q y = scanned_met (final i x u) u q (sym scan_is ∙ y)

  left : (v : ℤ) → s ≡ Err v → (final i x u ≡ none) × (v ≡ u)
  left v y = scanned_left (final i x u) u v (sym scan_is ∙ y)

-- ---- the leaf where the walk stands
pub leaf_is : (bytes : List ℕ) (m l : ℕ) (w : Walk) (to : ℕ) (s : Result ℕ ℤ) → to ≡ min (256 * (w.entry - l + 1)) m
    → s ≡ scan_down bytes (256 * (w.entry - l)) (to - 256 * (w.entry - l)) w.want
    → (reached s, w.reads) ≡ leaf_back l (word bytes m) w
leaf_is bytes m l w to s e r = ap (λ (x : Option ℕ). (x, w.reads))
    (ap reached (scan_is bytes _ _ _ w.want _ s (block_is bytes m (w.entry - l) to e) refl r) ∙ reached_is _ _)

-- ---- the first block: the bits before bit p, where t is wanted from boundary p + 1 and `u` from boundary p
module _ (bytes : List ℕ) (m p : ℕ) (t u : ℤ) (s : Result ℕ ℤ) (h : p < m) (d : u ≡ t +ℤ step (bit bytes p))
    (r : s ≡ scan_down bytes (256 * (p / 256)) (p - 256 * (p / 256)) u) where
  from_start_lem : u +ℤ depth_of (behind (word bytes m) p) ≡ from_start (word bytes m) p t
  from_start_lem =
      let b : ℕ = 256 * (p / 256) in
      let a : suc p - b ≡ suc (p - b) = omega arith in
      let c : b + (p - b) ≡ p = omega arith in
      rw (d, up_to_is bytes m p h, behind_is bytes m p h, a, one_more bytes b (p - b) (suc (p - b)) t refl, c)

  pub near_met : (q : ℕ) → s ≡ Ok q → final (256 * (p / 256)) (behind (word bytes m) p) (from_start (word bytes m) p t) ≡ some q
  near_met = met bytes _ _ _ u _ s (behind_is bytes m p h) from_start_lem r

  pub near_left : (v : ℤ) → s ≡ Err v → (final (256 * (p / 256)) (behind (word bytes m) p) (from_start (word bytes m) p t) ≡ none)
      × (v ≡ from_start (word bytes m) p t)
  near_left = left bytes _ _ _ u _ s (behind_is bytes m p h) from_start_lem r
