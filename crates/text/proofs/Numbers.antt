-- A number in decimal: its digits case by case, and how few they are. Assumes nothing.
use mathlib.Core.Path.{◌≡◌, refl}
use mathlib.Core.Bool.{Bool, true, false, cond}
use mathlib.Core.List.{[], ◌∷◌, ◌++◌}
use Prim.Native.Nat.{ℕ, zero, suc, ◌+◌, ◌-◌, ◌/◌, ◌<◌, ◌≤◌}
use native.Mathlib.Omega.{arith}
use borrow.Author.Tests.{lt-ltb, le-ltb}
use lib.Dec.{ltb}
use lib.ListN.{length, length-append}
use Rattle.text.specs.Text.{unit, digits, number}

pub digits_zero : (k n : ℕ) → k ≡ 0 → digits k n ≡ unit n
digits_zero k n e = rw e

pub digits_small : (k n : ℕ) → n < 10 → digits k n ≡ unit n
digits_small zero n h = refl
digits_small (suc k) n h = simp (lt-ltb n 10 h)

pub digits_more : (k n : ℕ) → (k ≡ 0 → ⊥) → 10 ≤ n → digits k n ≡ digits (k - 1) (n / 10) ++ unit n
digits_more zero n z h = absurd (z refl)
digits_more (suc k) n z h = let e : suc k - 1 ≡ k = omega arith in rw (le-ltb n 10 h, e)

pub digits_few : (k n : ℕ) → length (digits k n) ≤ k + 1
digits_few zero n = omega arith
digits_few (suc k) n = go (ltb n 10) (digits_few k (n / 10))
  where
    go : (t : Bool) → length (digits k (n / 10)) ≤ k + 1 → length (cond t (unit n) (digits k (n / 10) ++ unit n)) ≤ suc k + 1
    go true h = omega arith
    go false h = omega (arith, length-append (digits k (n / 10)) (unit n))

pub number_few : (n after : ℕ) → length (number n after) ≤ 11
number_few n after = omega (arith, length-append (digits 9 n) (after ∷ []), digits_few 9 n)
