-- One turn of the scan's loop: what is wanted after bit i, and what is left of the scan from there.
use mathlib.Core.Path.{◌≡◌, sym, ap, ◌∙◌}
use mathlib.Core.Bool.{Bool, true, false}
use mathlib.Core.List.{List}
use Prim.Native.Nat.{ℕ, suc, ◌+◌, ◌-◌, ◌≤◌, ◌<◌}
use native.Mathlib.Numerals.{add-one}
use mir.Syntax.{w64}
use mir.Val.{of_z}
use lib.IntN.{ℤ, pos, ◌-ℤ◌, nat_abs}
use Rattle.word.specs.Signed.{eq_z}
use Rattle.word.specs.Bits.{bit, bits}
use Rattle.word.proofs.Signed.{zarith, -law, →eq_z, →neq_z}
use Rattle.summary.specs.Stretch.{step}
use Rattle.std.specs.Prelude.{Ok, Err}
use Rattle.summary.proofs.Machine.{rb}
use Rattle.walk.proofs.Signed64.{wb}
use Rattle.walk.proofs.Machine.{less_step, less_zero, less_other}
use Rattle.walk.proofs.Amounts.{depth_cons, depth_nil, none_off, off_twice, less_near, step_abs}
use Rattle.walk.proofs.First.{first_cons, first_nil}
use Rattle.forward.specs.Steps.{scan_of}

pub scan_end : (bytes : List ℕ) (i n : ℕ) (t : ℤ) → n ≡ 0 → scan_of bytes i n t ≡ Err t
unfolding scan_of
scan_end bytes i n t e = rw (e, first_nil, depth_nil, none_off)

-- the bit's step is what is wanted, exactly where nothing is wanted after it
met_is : (b : Bool) (t : ℤ) (x : Bool) → eq_z (t -ℤ step b) (pos 0) ≡ x → eq_z (step b) t ≡ x
met_is b t true e = →eq_z (step b) t (omega (zarith, -law t (step b)))
met_is b t false e = →neq_z (step b) t (omega (zarith, -law t (step b)))

module _ (bytes : List ℕ) (i m n : ℕ) (t : ℤ) (e : n ≡ suc m) where
  scan_met : eq_z (t -ℤ step (bit bytes i)) (pos 0) ≡ true → scan_of bytes i n t ≡ Ok (suc i)
  unfolding scan_of
  scan_met z = rw (e, first_cons i (bit bytes i) (bits bytes (suc i) m) t, met_is (bit bytes i) t true z)

  scan_next : eq_z (t -ℤ step (bit bytes i)) (pos 0) ≡ false → scan_of bytes i n t ≡ scan_of bytes (suc i) m (t -ℤ step (bit bytes i))
  unfolding scan_of
  scan_next z =
      rw (
        e,
        first_cons i (bit bytes i) (bits bytes (suc i) m) t,
        met_is (bit bytes i) t false z,
        depth_cons (bit bytes i) (bits bytes (suc i) m),
        off_twice,
      )

-- one turn of the code's loop, where `r` is what bit i adds, widened: what is wanted after it is `wb (t -ℤ wb r)`
module _ (bytes : List ℕ) (to i : ℕ) (t r s : ℤ) (b : Bool) (l : i < to) (near : nat_abs t ≤ 2305843009213693952) (e : r ≡ rb s)
    (f : s ≡ step b) (g : b ≡ bit bytes i) where
  on : s ≡ step (bit bytes i)
  on = rw f (ap step g)

  after : wb (t -ℤ wb r) ≡ t -ℤ step (bit bytes i)
  after = less_step t r s (bit bytes i) near e on

  pub turn_met : of_z w64 (t -ℤ wb r) ≡ 0 → Ok (i + 1) ≡ scan_of bytes i (to - i) t
  turn_met z = ap Ok (add-one i)
      ∙ sym (scan_met bytes i (to - (i + 1)) (to - i) t (omega zarith) (less_zero t r s (bit bytes i) near e on z))

  pub turn_next : (of_z w64 (t -ℤ wb r) ≡ 0 → ⊥) → scan_of bytes (i + 1) (to - (i + 1)) (wb (t -ℤ wb r)) ≡ scan_of bytes i (to - i) t
  turn_next z =
      rw (after, add-one i) (sym (scan_next bytes i (to - suc i) (to - i) t (omega zarith) (less_other t r s (bit bytes i) near e on z)))

  pub turn_near : (m n : ℕ) → nat_abs t ≤ m → m + 1 ≡ n → nat_abs (wb (t -ℤ wb r)) ≤ n
  turn_near m n h e = rw (after, ← e) (less_near t (step (bit bytes i)) m 1 h (step_abs (bit bytes i)))
