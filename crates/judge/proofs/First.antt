-- Laws of the first test that holds. Assumes nothing.
use mathlib.Core.Path.{◌≡◌, refl}
use mathlib.Core.Bool.{Bool, true, false, cond}
use Prim.Native.Nat.{ℕ, suc}
use native.Mathlib.Omega.{arith}

-- no refusal: this test does not hold, and what follows it refuses nothing
pub passed : (t : Bool) (n r : ℕ) → cond t (suc n) r ≡ 0 → (t ≡ false) × (r ≡ 0)
passed true n r e = absurd (omega arith)
passed false n r e = (refl, e)
