-- Worked uses of the signed kit: what `omega` reads once the laws of the sums, differences, minima and maxima that occur are listed.
use mathlib.Core.Path.{◌≡◌}
use mathlib.Core.Logic.{◌≢◌}
use lib.Dec.{T}
use lib.IntN.{ℤ, pos, negsuc, ◌+ℤ◌, ◌-ℤ◌}
use lib.Signed.{◌≤ℤ◌, ◌<ℤ◌, le_z}
use mir.Syntax.{w32}
use mir.Val.{SFits}
use Rattle.word.specs.Signed.{min_z, max_z}
use Rattle.word.proofs.Signed.{zarith, ne→, +law, -law, min_law, max_law, mag_law}

-- orders follow by themselves
le_lt_trans : (a b c : ℤ) → a ≤ℤ b → b <ℤ c → a <ℤ c
le_lt_trans a b c h k = omega zarith

antisymmetric : (a b : ℤ) → a ≤ℤ b → b ≤ℤ a → a ≡ b
antisymmetric a b h k = omega zarith

-- each sum is listed by its law
sum_monotone : (a b c : ℤ) → a ≤ℤ b → (a +ℤ c) ≤ℤ (b +ℤ c)
sum_monotone a b c h = omega (zarith, +law a c, +law b c)

sum_associative : (a b c : ℤ) → a +ℤ b +ℤ c ≡ a +ℤ (b +ℤ c)
sum_associative a b c = omega (zarith, +law a b, +law b c, +law (a +ℤ b) c, +law a (b +ℤ c))

equal_below_next : (a b : ℤ) → a ≡ b → a ≤ℤ (b +ℤ pos 1)
equal_below_next a b h = omega (zarith, +law b (pos 1))

-- a test that held is read as the order that it tests
difference_by_test : (a b : ℤ) → T (le_z a b) → (a -ℤ b) ≤ℤ pos 0
difference_by_test a b h = omega (zarith, -law a b)

-- the smaller and the larger of two
min_associative : (a b c : ℤ) → min_z a (min_z b c) ≡ min_z (min_z a b) c
min_associative a b c = omega (zarith, min_law b c, min_law a b, min_law a (min_z b c), min_law (min_z a b) c)

min_over_sum : (a b c : ℤ) → min_z a b +ℤ c ≡ min_z (a +ℤ c) (b +ℤ c)
min_over_sum a b c = omega (zarith, min_law a b, +law a c, +law b c, +law (min_z a b) c, min_law (a +ℤ c) (b +ℤ c))

min_below_max : (a b : ℤ) → min_z a b ≤ℤ max_z a b
min_below_max a b = omega (zarith, min_law a b, max_law a b)

-- ranges of an i32
sum_fits : (a b : ℤ) → negsuc 4194303 ≤ℤ a → a ≤ℤ pos 4194304 → negsuc 4194303 ≤ℤ b → b ≤ℤ pos 4194304 → SFits w32 (a +ℤ b)
sum_fits a b h k l m = omega (zarith, +law a b)

min_fits : (a b : ℤ) → SFits w32 a → SFits w32 b → SFits w32 (min_z a b)
min_fits a b h k = omega (zarith, min_law a b, mag_law a, mag_law b)

-- two numbers that differ are told apart
not_equal_below : (a b : ℤ) → a ≤ℤ b → a ≢ b → a <ℤ b
not_equal_below a b h n = omega (zarith, ne→ a b n)
