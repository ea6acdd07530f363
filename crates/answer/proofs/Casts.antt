-- A signed number that is not negative, cast to an unsigned one. Assumes nothing.
use mathlib.Core.Path.{◌≡◌}
use Prim.Native.Nat.{ℕ, ◌≤◌, ◌<◌}
use native.Mathlib.Omega.{arith}
use lib.Dec.{T}
use lib.IntN.{ℤ, pos, neg_ℤ, nat_abs, ◌-ℤ◌}
use lib.Signed.{◌≤ℤ◌, non_neg}
use mir.Syntax.{w32, w64}
use mir.Val.{Fits, to_z, of_z}
use mir.Facts.{to_z-of_z}
use Rattle.word.specs.Signed.{P}
use Rattle.word.proofs.Signed.{zarith, abs_law, parts, -law, P_neg, N_neg}
use Rattle.walk.proofs.Signed64.{small64}
use Rattle.summary.proofs.Machine.{small}

pub part_is : (x : ℤ) → pos 0 ≤ℤ x → nat_abs x ≡ P x
part_is x h = omega (zarith, abs_law x, parts x)

pub cast_fits : (x : ℤ) → pos 0 ≤ℤ x → P x < 9223372036854775808 → T (non_neg x) × Fits w64 (nat_abs x)
cast_fits x h k = (omega zarith, record { fits = omega (zarith, part_is x h) })

-- "kind 7 from a by -b": b has 32 bits, so that -b fits 64
module _ (b : ℕ) (f : Fits w32 b) where
  pub back_is : {x : ℤ} → x ≡ pos b → pos 0 -ℤ to_z w64 (of_z w64 x) ≡ neg_ℤ (pos b)
  back_is {x} e = rw (e, to_z-of_z (small64 (pos b) (omega (zarith, f, abs_law (pos b)))))
      (omega (zarith, -law (pos 0) (pos b), P_neg (pos b), N_neg (pos b)))

  pub back_near : nat_abs (neg_ℤ (pos b)) ≤ 8589934592
  back_near = omega (zarith, f, abs_law (neg_ℤ (pos b)), P_neg (pos b), N_neg (pos b))

-- a number that went through a local is read back as it was
pub back_64 : (x : ℤ) → nat_abs x ≤ 8589934592 → to_z w64 (of_z w64 x) ≡ x
back_64 x h = to_z-of_z (small64 x (omega arith))

pub back_32 : (x : ℤ) → nat_abs x ≤ 2097152 → to_z w32 (of_z w32 x) ≡ x
back_32 x h = to_z-of_z (small x (omega arith))

-- so is one that a step made of a small number
pub through : {x y : ℤ} → nat_abs y ≤ 8589934592 → x ≡ y → to_z w64 (of_z w64 x) ≡ y
through {x} {y} h e = rw e (back_64 y h)
