-- The scan down, bit by bit: what one turn of its loop does.
-- The bits between two boundaries are taken from their end.
use mathlib.Core.Path.{◌≡◌, sym, ap, ◌∙◌}
use mathlib.Core.Bool.{Bool, true, false, cond}
use mathlib.Core.List.{List, [], ◌∷◌}
use mathlib.Core.Option.{none, some}
use Prim.Native.Nat.{ℕ, suc, ◌+◌, ◌-◌, ◌≤◌, ◌<◌, min}
use lib.ListN.{take, drop, take-append-drop}
use lib.IntN.{ℤ, pos, ◌+ℤ◌, ◌-ℤ◌, nat_abs}
use Rattle.word.specs.Signed.{eq_z}
use Rattle.word.specs.Bits.{bit, bits}
use Rattle.word.proofs.Bits.{take_bits, drop_bits}
use Rattle.word.proofs.Signed.{zarith, -law, +law, eq_z_refl, →eq_z, →neq_z}
use Rattle.summary.specs.Stretch.{step, depth_of}
use Rattle.summary.proofs.Meaning.{depth_append}
use Rattle.std.specs.Prelude.{Ok, Err}
use Rattle.walk.specs.Scan.{or_else, final}
use Rattle.summary.proofs.Machine.{rb}
use Rattle.walk.proofs.Signed64.{wb}
use Rattle.walk.proofs.Machine.{more_step}
use Rattle.walk.proofs.Amounts.{depth_nil, one_there, more_near, step_abs}
use Rattle.walk.proofs.Final.{final_split, final_cons, final_nil}
use Rattle.backward.specs.Steps.{scan_down}

pub scan_end : (bytes : List ℕ) (i n : ℕ) (t : ℤ) → n ≡ 0 → scan_down bytes i n t ≡ Err t
unfolding scan_down
scan_end bytes i n t e = let z : t +ℤ depth_of [] ≡ t = omega (zarith, +law t (depth_of []), depth_nil) in rw (e, final_nil, z)

module _ (bytes : List ℕ) (i m n : ℕ) (t : ℤ) (e : n ≡ suc m) where
  front : take m (bits bytes i (suc m)) ≡ bits bytes i m
  front = let z : min m (suc m) ≡ m = omega zarith in rw (take_bits, z)

  back : drop m (bits bytes i (suc m)) ≡ bit bytes (i + m) ∷ []
  back = let z : suc m - m ≡ 1 = omega zarith in rw (drop_bits bytes i (suc m) m, z)

  depth : depth_of (bits bytes i (suc m)) ≡ depth_of (bits bytes i m) +ℤ step (bit bytes (i + m))
  depth = ap depth_of (sym (take-append-drop m (bits bytes i (suc m))))
      ∙ depth_append (take m (bits bytes i (suc m))) (drop m (bits bytes i (suc m)))
      ∙ rw (front, back, one_there (bit bytes (i + m)) [] (step (bit bytes (i + m))) (eq_z_refl (step (bit bytes (i + m)))))

  pub one_more : t +ℤ depth_of (bits bytes i (suc m)) ≡ (t +ℤ step (bit bytes (i + m))) +ℤ depth_of (bits bytes i m)
  one_more = omega (
    zarith,
    depth,
    +law t (depth_of (bits bytes i (suc m))),
    +law t (step (bit bytes (i + m))),
    +law (t +ℤ step (bit bytes (i + m))) (depth_of (bits bytes i m)),
    +law (depth_of (bits bytes i m)) (step (bit bytes (i + m))),
  )

  over : ((t +ℤ step (bit bytes (i + m))) +ℤ depth_of (bits bytes i m)) -ℤ depth_of (bits bytes i m) ≡ t +ℤ step (bit bytes (i + m))
  over = omega (
    zarith,
    +law (t +ℤ step (bit bytes (i + m))) (depth_of (bits bytes i m)),
    -law ((t +ℤ step (bit bytes (i + m))) +ℤ depth_of (bits bytes i m)) (depth_of (bits bytes i m)),
  )

  test : (x : Bool) → eq_z t (pos 0) ≡ x → eq_z (step (bit bytes (i + m))) (t +ℤ step (bit bytes (i + m))) ≡ x
  test true h = →eq_z _ _ (omega (zarith, +law t (step (bit bytes (i + m)))))
  test false h = →neq_z _ _ (omega (zarith, +law t (step (bit bytes (i + m)))))

  turn : (x : Bool) → eq_z t (pos 0) ≡ x → final i (bits bytes i (suc m)) (t +ℤ depth_of (bits bytes i (suc m)))
      ≡ or_else (or_else none (cond x (some (suc (i + m))) none))
      (final i (bits bytes i m) ((t +ℤ step (bit bytes (i + m))) +ℤ depth_of (bits bytes i m)))
  turn x h = final_split m i (bits bytes i (suc m)) (t +ℤ depth_of (bits bytes i (suc m)))
      ∙ rw (front, back, one_more, over, final_cons (i + m) (bit bytes (i + m)) [] (t +ℤ step (bit bytes (i + m))), final_nil, test x h)

  scan_met : eq_z t (pos 0) ≡ true → scan_down bytes i n t ≡ Ok (i + n)
  unfolding scan_down
  scan_met h = let z : suc (i + m) ≡ i + suc m = omega zarith in rw (e, turn true h, z)

  scan_next : eq_z t (pos 0) ≡ false → scan_down bytes i n t ≡ scan_down bytes i m (t +ℤ step (bit bytes (i + m)))
  unfolding scan_down
  scan_next h = rw (e, turn false h, one_more)

-- one turn of the code's loop, at boundary i: `r` is what bit i - 1 adds, widened, and `wb (t +ℤ wb r)` is wanted from boundary i - 1
module _ (bytes : List ℕ) (from i : ℕ) (t : ℤ) (l : from < i) where
  pub turn_met : eq_z t (pos 0) ≡ true → Ok (i - 1 + 1) ≡ scan_down bytes from (i - from) t
  turn_met z = ap Ok (let e : i - 1 + 1 ≡ from + (i - from) = omega zarith in e)
      ∙ sym (scan_met bytes from (i - from - 1) (i - from) t (omega zarith) z)

  module _ (r s : ℤ) (b : Bool) (near : nat_abs t ≤ 2305843009213693952) (e : r ≡ rb s) (f : s ≡ step b) (g : b ≡ bit bytes (i - 1)) where
    after : wb (t +ℤ wb r) ≡ t +ℤ step (bit bytes (i - 1))
    after = more_step t r s (bit bytes (i - 1)) near e (rw f (ap step g))

    pub turn_next : eq_z t (pos 0) ≡ false → scan_down bytes from (i - 1 - from) (wb (t +ℤ wb r)) ≡ scan_down bytes from (i - from) t
    turn_next z = let e : i - 1 ≡ from + (i - 1 - from) = omega zarith in
        rw after (ap (λ (j : ℕ). scan_down bytes from (i - 1 - from) (t +ℤ step (bit bytes j))) e
        ∙ sym (scan_next bytes from (i - 1 - from) (i - from) t (omega zarith) z))

    pub turn_near : (m n : ℕ) → nat_abs t ≤ m → m + 1 ≡ n → nat_abs (wb (t +ℤ wb r)) ≤ n
    turn_near m n h e = rw (after, ← e) (more_near t (step (bit bytes (i - 1))) m 1 h (step_abs (bit bytes (i - 1))))
