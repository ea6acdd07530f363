-- Signed numbers: their two parts, the smaller and the larger of two, and equality as a test. D and all that is made of it are signed.
use Rattle.std.specs.Prelude.{Bool, false, cond, ℕ, suc, eqb, ℤ, pos, negsuc}
use Rattle.std.specs.Int.Signed.{le_z}

-- the positive and the negative part: z is P z less N z, and one of the two is 0
abbrev pub P : ℤ → ℕ
P (pos n) = n
P (negsuc n) = 0

abbrev pub N : ℤ → ℕ
N (pos n) = 0
N (negsuc n) = suc n

-- the smaller of two
unfoldable pub min_z : ℤ → ℤ → ℤ
min_z a b = cond (le_z a b) a b

-- the larger of two
unfoldable pub max_z : ℤ → ℤ → ℤ
max_z a b = cond (le_z a b) b a

-- whether two are the same
unfoldable pub eq_z : ℤ → ℤ → Bool
eq_z (pos a) (pos b) = eqb a b
eq_z (pos a) (negsuc b) = false
eq_z (negsuc a) (pos b) = false
eq_z (negsuc a) (negsuc b) = eqb a b
