-- 64-bit signed numbers: their range, and how they are read back from bits.
-- The amount wanted is one; it stays far from the ends of the range.
use mathlib.Core.Path.{◌≡◌}
use Prim.Native.Nat.{suc, ◌+◌, ◌≤◌, ◌<◌, max}
use native.Mathlib.Omega.{arith}
use lib.IntN.{ℤ, pos, negsuc, ◌+ℤ◌, ◌-ℤ◌, nat_abs}
use lib.Signed.{mag}
use mir.Syntax.{w32, w64}
use mir.Val.{SFits, to_z, of_z}
use mir.Facts.{to_z-of_z}
use Rattle.word.specs.Signed.{P, N}
use Rattle.word.proofs.Signed.{zarith, mag_law, abs_law, -law, +law, parts}

pub →fits64 : (z : ℤ) → max (suc (P z + P z)) (N z + N z) ≤ 9223372036854775808 + P z + N z → SFits w64 z
→fits64 (pos n) h = record { sfits = omega arith }
→fits64 (negsuc n) h = record { sfits = omega arith }

-- what a 64-bit local holds, read back
abbrev pub wb : ℤ → ℤ
wb z = to_z w64 (of_z w64 z)

pub record I64 (z : ℤ) : Type 0 where
  pub back : wb z ≡ z
  pub upper : P z < 9223372036854775808
  pub lower : N z ≤ 9223372036854775808

pub i64 : {z : ℤ} → SFits w64 z → I64 z
i64 {z} f = record { back = to_z-of_z f; upper = omega (arith, mag_law z, f.sfits); lower = omega (arith, mag_law z, f.sfits) }

pub ruleset zwide = (zarith, →fits64)

pub widen : {z : ℤ} → SFits w32 z → SFits w64 z
widen {z} f = record { sfits = omega (arith, f.sfits) }

-- what is wanted stays far from the ends of `i64`
pub small64 : (z : ℤ) → nat_abs z ≤ 2305843009213693952 → SFits w64 z
small64 z h = omega (zwide, abs_law z)

pub less_fits : (a b : ℤ) → nat_abs a ≤ 2305843009213693952 → nat_abs b ≤ 2147483648 → SFits w64 (a -ℤ b)
less_fits a b h k = omega (zwide, abs_law a, abs_law b, -law a b)

pub more_fits : (a b : ℤ) → nat_abs a ≤ 2305843009213693952 → nat_abs b ≤ 2147483648 → SFits w64 (a +ℤ b)
more_fits a b h k = omega (zwide, abs_law a, abs_law b, +law a b)

pub mag_abs : (z : ℤ) → mag z < 2147483648 → nat_abs z ≤ 2147483648
mag_abs z h = omega (zarith, abs_law z, mag_law z, parts z)

pub fits_abs : {z : ℤ} → SFits w32 z → nat_abs z ≤ 2147483648
fits_abs {z} f = mag_abs z f.sfits
