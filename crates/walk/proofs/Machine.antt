-- What the shared code computes, as the machine has it: each signed number is read back from its bits.
-- Here those readings are taken off, over plain values.
use mathlib.Core.Path.{◌≡◌, refl, sym, ap, ◌∙◌}
use mathlib.Core.Bool.{Bool, true, false}
use Prim.Native.Nat.{ℕ, ◌≤◌, ◌<◌}
use lib.IntN.{ℤ, pos, ◌+ℤ◌, ◌-ℤ◌, nat_abs}
use lib.Dec.{eqb, eqb_refl, eqb→eq}
use lib.Signed.{mag}
use mir.Syntax.{w64}
use mir.Val.{SFits, Fits, to_z, of_z}
use mir.Facts.{to_z-of_z, of_z-to_z, sfits_lit}
use Rattle.std.specs.Prelude.{nat_eq}
use Rattle.word.specs.Signed.{eq_z}
use Rattle.word.proofs.Signed.{zarith, by_test, →eq_z, eq_z→, →eq, eq→, neq_z→, T_true, true_T, not_true}
use Rattle.summary.specs.Stretch.{step}
use Rattle.summary.proofs.Machine.{rb}
use Rattle.walk.proofs.Amounts.{step_abs}
use Rattle.walk.proofs.Signed64.{wb, less_fits, more_fits, small64}

-- a field of a struct, read back
pub back64 : (z : ℤ) → mag z < 9223372036854775808 → wb z ≡ z
back64 z h = to_z-of_z {w = w64} (record { sfits = h })

pub small_back : (z : ℤ) → nat_abs z ≤ 1152921504606846976 → wb z ≡ z
small_back z h = to_z-of_z (small64 z (omega zarith))

-- `==` compares bits
pub eqb_of_z64 : {a b : ℤ} → SFits w64 a → SFits w64 b → eqb (of_z w64 a) (of_z w64 b) ≡ eq_z a b
eqb_of_z64 {a} {b} f g = by_test (eq_z a b)
    (λ e. let q : of_z w64 a ≡ of_z w64 b = ap (of_z w64) (→eq a b (eq_z→ a b e)) in rw (e, q) (T_true _ (eqb_refl (of_z w64 b))))
    (λ e. rw e (not_true _
    (λ q. absurd (neq_z→ a b e
    (eq→ a b (sym (to_z-of_z f) ∙ ap (to_z w64) (eqb→eq (of_z w64 a) (of_z w64 b) (true_T q)) ∙ to_z-of_z g))))))

pub none_wanted : (z : ℤ) → SFits w64 z → nat_eq (of_z w64 z) 0 ≡ eq_z z (pos 0)
none_wanted z f = eqb_of_z64 {b = pos 0} f (sfits_lit tt)

-- ---- an amount after one bit: `r` is what the bit b adds, widened to 64 bits
wide_step : (b : Bool) → wb (rb (step b)) ≡ step b
wide_step true = refl
wide_step false = refl

-- an amount's bits are all 0 exactly where it is 0
pub zero_bits : (z t : ℤ) → wb z ≡ t → of_z w64 z ≡ 0 → eq_z t (pos 0) ≡ true
zero_bits z t f e = rw (← f, e) (→eq_z (pos 0) (pos 0) refl)

pub other_bits : (z t : ℤ) → z ≡ t → (of_z w64 z ≡ 0 → ⊥) → eq_z t (pos 0) ≡ false
other_bits z t f n = not_true (eq_z t (pos 0)) (λ e. n (ap (of_z w64) (f ∙ →eq t (pos 0) (eq_z→ t (pos 0) e))))

pub zero_wanted : {n : ℕ} → n ≡ 0 → eq_z (to_z w64 n) (pos 0) ≡ true
zero_wanted e = rw e (→eq_z (pos 0) (pos 0) refl)

pub other_wanted : {n : ℕ} → Fits w64 n → (n ≡ 0 → ⊥) → eq_z (to_z w64 n) (pos 0) ≡ false
other_wanted {n} f h = not_true (eq_z (to_z w64 n) (pos 0))
    (λ e. h (sym (of_z-to_z f) ∙ ap (of_z w64) (→eq (to_z w64 n) (pos 0) (eq_z→ (to_z w64 n) (pos 0) e))))

module _ (t r s : ℤ) (b : Bool) (near : nat_abs t ≤ 2305843009213693952) (e : r ≡ rb s) (f : s ≡ step b) where
  step_is : wb r ≡ step b
  step_is = rw (e, f) (wide_step b)

  pub less_step : wb (t -ℤ wb r) ≡ t -ℤ step b
  less_step = rw step_is (to_z-of_z (less_fits t (step b) near (omega (zarith, step_abs b))))

  pub more_step : wb (t +ℤ wb r) ≡ t +ℤ step b
  more_step = rw step_is (to_z-of_z (more_fits t (step b) near (omega (zarith, step_abs b))))

  pub less_zero : of_z w64 (t -ℤ wb r) ≡ 0 → eq_z (t -ℤ step b) (pos 0) ≡ true
  less_zero = zero_bits (t -ℤ wb r) (t -ℤ step b) less_step

  pub less_other : (of_z w64 (t -ℤ wb r) ≡ 0 → ⊥) → eq_z (t -ℤ step b) (pos 0) ≡ false
  less_other = other_bits (t -ℤ wb r) (t -ℤ step b) (ap (λ (x : ℤ). t -ℤ x) step_is)
