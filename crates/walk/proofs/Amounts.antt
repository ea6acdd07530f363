-- Amounts wanted, depths of a stretch, and the D of document 01.
-- An amount is wanted from a boundary; passing a stretch takes its depth off.
use mathlib.Core.Path.{◌≡◌, refl, sym, ◌∙◌}
use mathlib.Core.Bool.{Bool, true, false}
use mathlib.Core.List.{List, [], ◌∷◌}
use Prim.Native.Nat.{ℕ, zero, suc, ◌+◌, ◌≤◌, ◌<◌}
use lib.ListN.{length, take}
use lib.IntN.{ℤ, pos, negsuc, ◌+ℤ◌, ◌-ℤ◌, nat_abs}
use lib.Signed.{mag}
use Rattle.word.specs.Signed.{eq_z}
use Rattle.word.specs.Forest.{count, D}
use Rattle.word.proofs.Signed.{zarith, +law, -law, abs_law, parts}
use Rattle.summary.specs.Stretch.{step, depth_of}
use Rattle.summary.specs.Join.{empty_of}
use Rattle.summary.proofs.Bounds.{depth_within, within_abs}
use Rattle.walk.proofs.Signed64.{mag_abs}

pub none_off : (t : ℤ) → t -ℤ pos 0 ≡ t
none_off t = omega (zarith, -law t (pos 0))

-- where no entry is read, nothing is taken off and nothing added
pub empty_off : (t : ℤ) → t -ℤ empty_of.total ≡ t
unfolding empty_of
empty_off t = none_off t

pub empty_on : (t : ℤ) → t +ℤ empty_of.total ≡ t
unfolding empty_of
empty_on t = omega (zarith, +law t (pos 0))

-- how far an amount can move
module _ (t a : ℤ) (m n : ℕ) (h : nat_abs t ≤ m) (k : nat_abs a ≤ n) where
  pub less_near : nat_abs (t -ℤ a) ≤ m + n
  less_near = omega (zarith, -law t a, abs_law t, abs_law a, abs_law (t -ℤ a), parts (t -ℤ a))

  pub more_near : nat_abs (t +ℤ a) ≤ m + n
  more_near = omega (zarith, +law t a, abs_law t, abs_law a, abs_law (t +ℤ a), parts (t +ℤ a))

-- a total is below 2 ^ 31
module _ (t a : ℤ) (o : mag a < 2147483648) where
  pub total_off : nat_abs (t -ℤ a) ≤ nat_abs t + 2147483648
  total_off = less_near t a (nat_abs t) 2147483648 (omega zarith) (mag_abs a o)

  pub total_on : nat_abs (t +ℤ a) ≤ nat_abs t + 2147483648
  total_on = more_near t a (nat_abs t) 2147483648 (omega zarith) (mag_abs a o)

pub step_abs : (b : Bool) → nat_abs (step b) ≤ 1
step_abs true = omega zarith
step_abs false = omega zarith

pub depth_abs : (n : ℕ) (z : List Bool) → length z ≤ n → nat_abs (depth_of z) ≤ n
depth_abs n z h = within_abs n (depth_of z) (omega (zarith, depth_within z))

pub off_twice : (t a b : ℤ) → (t -ℤ a) -ℤ b ≡ t -ℤ (a +ℤ b)
off_twice t a b = omega (zarith, -law t a, -law (t -ℤ a) b, +law a b, -law t (a +ℤ b))

pub depth_cons : (b : Bool) (z : List Bool) → depth_of (b ∷ z) ≡ step b +ℤ depth_of z
unfolding depth_of
depth_cons b z = refl

pub depth_nil : depth_of [] ≡ pos 0
unfolding depth_of
depth_nil = refl

depth_count : (z : List Bool) → depth_of z ≡ pos (count true z) -ℤ pos (count false z)
unfolding depth_of
depth_count [] = refl
depth_count (true ∷ z) =
    omega (
      zarith,
      depth_count z,
      +law (pos 1) (depth_of z),
      -law (pos (count true z)) (pos (count false z)),
      -law (pos (suc (count true z))) (pos (count false z)),
    )
depth_count (false ∷ z) =
    omega (
      zarith,
      depth_count z,
      +law (negsuc 0) (depth_of z),
      -law (pos (count true z)) (pos (count false z)),
      -law (pos (count true z)) (pos (suc (count false z))),
    )

-- "D(p) .. is openings less closings among the first p bits"
pub D_depth : (w : List Bool) (p : ℕ) → D w p ≡ depth_of (take p w)
D_depth w p = sym (depth_count (take p w))

-- one bit, and the bits after it
module _ (b : Bool) (z : List Bool) (t : ℤ) where
  pub one_there : eq_z (step b) t ≡ true → depth_of (b ∷ []) ≡ t
  one_there e = depth_cons b [] ∙ omega (zarith, depth_nil, +law (step b) (depth_of []))

  pub one_other : eq_z (step b) t ≡ false → depth_of (b ∷ []) ≡ t → ⊥
  one_other e q = omega (zarith, depth_cons b [], depth_nil, +law (step b) (depth_of []))

  pub more_there : (j : ℕ) → depth_of (take j z) ≡ t -ℤ step b → depth_of (b ∷ take j z) ≡ t
  more_there j e = depth_cons b (take j z) ∙ omega (zarith, -law t (step b), +law (step b) (depth_of (take j z)))

  pub more_back : (j : ℕ) → depth_of (b ∷ take j z) ≡ t → depth_of (take j z) ≡ t -ℤ step b
  more_back j e = omega (zarith, depth_cons b (take j z), -law t (step b), +law (step b) (depth_of (take j z)))

-- no boundary after the start of z has depth t from there
abbrev pub Nowhere : List Bool → ℤ → Type 0
Nowhere z t = (j : ℕ) → j < length z → depth_of (take (suc j) z) ≡ t → ⊥

pub nowhere_cons : (b : Bool) (z : List Bool) (t : ℤ) → eq_z (step b) t ≡ false → Nowhere z (t -ℤ step b) → Nowhere (b ∷ z) t
nowhere_cons b z t h f zero l d = one_other b z t h d
nowhere_cons b z t h f (suc j) l d = f j (omega zarith) (more_back b z t (suc j) d)
