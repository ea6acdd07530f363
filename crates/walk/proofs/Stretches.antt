-- The stretches of a word that the walks scan, as bits of the bytes lent.
-- The definitions cut them out of the word; the code goes from a first bit to a last one.
use mathlib.Core.Path.{◌≡◌, refl, ap, ◌∙◌}
use mathlib.Core.List.{List}
use mathlib.Core.Option.{Option, none, some}
use Prim.Native.Nat.{ℕ, suc, ◌+◌, ◌-◌, ◌*◌, ◌/◌, ◌%◌, ◌≤◌, ◌<◌, min}
use native.Mathlib.Omega.{arith}
use lib.ListN.{take, drop}
use lib.IntN.{ℤ}
use Rattle.word.specs.Bits.{bits, word}
use Rattle.word.proofs.Bits.{part_bits}
use Rattle.index.specs.Shape.{block}
use Rattle.std.specs.Prelude.{Ok, Err}
use Rattle.walk.specs.Scan.{ahead, behind, up_to, scanned, reached}

module _ (bytes : List ℕ) (m : ℕ) where
  part_is : (i n k : ℕ) → min n (m - i) ≡ k → take n (drop i (word bytes m)) ≡ bits bytes i k
  part_is i n k e = part_bits bytes m i n ∙ ap (bits bytes i) e

  pub block_is : (b to : ℕ) → to ≡ min (256 * (b + 1)) m → block (word bytes m) b ≡ bits bytes (256 * b) (to - 256 * b)
  block_is b to e = part_is (256 * b) 256 (to - 256 * b) (omega arith)

  pub ahead_is : (p to : ℕ) → to ≡ min (256 * (p / 256 + 1)) m → p < m → ahead (word bytes m) p ≡ bits bytes p (to - p)
  ahead_is p to e l = part_is p (256 - p % 256) (to - p) (omega arith)

  pub behind_is : (p : ℕ) → p < m → behind (word bytes m) p ≡ bits bytes (256 * (p / 256)) (p - 256 * (p / 256))
  behind_is p l = part_is (256 * (p / 256)) (p % 256) (p - 256 * (p / 256)) (omega arith)

  pub up_to_is : (p : ℕ) → p < m → up_to (word bytes m) p ≡ bits bytes (256 * (p / 256)) (suc p - 256 * (p / 256))
  up_to_is p l = part_is (256 * (p / 256)) (suc (p % 256)) (suc p - 256 * (p / 256)) (omega arith)

  pub between_is : (a b : ℕ) → b ≤ m → take (b - a) (drop a (word bytes m)) ≡ bits bytes a (b - a)
  between_is a b l = part_is a (b - a) (b - a) (omega arith)

-- what a scan in code says of what it scanned
pub scanned_met : (o : Option ℕ) (u : ℤ) (q : ℕ) → scanned o u ≡ Ok q → o ≡ some q
scanned_met none u q e = let z : ◌≡◌ {A = ℕ} 0 1 = cc in absurd (omega arith)
scanned_met (some p) u q e = cc

pub scanned_left : (o : Option ℕ) (u v : ℤ) → scanned o u ≡ Err v → (o ≡ none) × (v ≡ u)
scanned_left none u v e = (refl, cc)
scanned_left (some p) u v e = let z : ◌≡◌ {A = ℕ} 0 1 = cc in absurd (omega arith)

pub reached_is : (o : Option ℕ) (u : ℤ) → reached (scanned o u) ≡ o
reached_is none u = refl
reached_is (some q) u = refl
