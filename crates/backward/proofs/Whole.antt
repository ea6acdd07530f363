-- The first block of the backward walk is the definition's, and so is what follows it.
use mathlib.Core.Path.{◌≡◌, ◌∙◌}
use mathlib.Core.Bool.{Bool}
use mathlib.Core.List.{List}
use mathlib.Core.Option.{none, some}
use Prim.Native.Nat.{ℕ, suc, ◌+◌, ◌-◌, ◌*◌, ◌/◌, ◌%◌, ◌^◌, ◌≤◌}
use native.Mathlib.Omega.{arith}
use lib.ListN.{drop, length-take}
use lib.IntN.{ℤ, ◌+ℤ◌, nat_abs}
use Rattle.word.specs.Bits.{bit, word}
use Rattle.summary.specs.Stretch.{step, depth_of}
use Rattle.index.specs.Shape.{height, entry}
use Rattle.std.specs.Prelude.{Result, Ok, Err}
use Rattle.walk.specs.Walk.{walk}
use Rattle.walk.specs.Scan.{final, behind, up_to}
use Rattle.walk.specs.Lent.{Lent}
use Rattle.walk.specs.Room.{Ready}
use Rattle.walk.specs.Backward.{landed_back, from_start, backward}
use Rattle.walk.proofs.Amounts.{more_near, depth_abs}
use Rattle.walk.proofs.Room.{ready_at}
use Rattle.backward.specs.Steps.{scan_down, climb_of}
use Rattle.backward.proofs.Ends.{near_met, near_left}

pub none_before : (h : ℕ) (w : List Bool) (p : ℕ) (t : ℤ) → p ≡ 0 → (none, 0) ≡ backward h w p t
unfolding backward
none_before h w p t e = rw e

near_block : (h : ℕ) (w : List Bool) (p q : ℕ) (t : ℤ) (r : ℕ) → p ≡ suc q → final (256 * (q / 256)) (behind w q) (from_start w q t)
    ≡ some r → (some r, 0) ≡ backward h w p t
unfolding backward
near_block h w p q t r e f = rw (e, f)

past_block : (h : ℕ) (w : List Bool) (p q : ℕ) (t : ℤ) → p ≡ suc q → final (256 * (q / 256)) (behind w q) (from_start w q t) ≡ none
    → landed_back h w (climb_of (entry h w) h (walk (2 ^ h + q / 256) (from_start w q t) 0)) ≡ backward h w p t
unfolding backward
past_block h w p q t e f = rw (e, f)

-- one bit is stepped over first: `u` is wanted from boundary p - 1; s is what the scan of the bits before it gave
module _ (bytes : List ℕ) (idx : List ℤ) (m l p : ℕ) (t : ℤ) (lent : Lent bytes idx m l) (b : p ≤ m) (z : p ≡ 0 → ⊥)
    (small : nat_abs t ≤ 8589934592) (u : ℤ) (d : u ≡ t +ℤ step (bit bytes (p - 1))) where
  module _ (s : Result ℕ ℤ) (r : s ≡ scan_down bytes (256 * ((p - 1) / 256)) (p - 1 - 256 * ((p - 1) / 256)) u) where
    pub found_near : (q : ℕ) → s ≡ Ok q → (some q, 0) ≡ backward (height m) (word bytes m) p t
    found_near q y = near_block (height m) (word bytes m) p (p - 1) t q (omega arith) (near_met bytes m (p - 1) t u s (omega arith) d r q y)

    -- v is the amount that it left
    module _ (v x : ℤ) (y : s ≡ Err x) (e : v ≡ x) where
      still : (final (256 * ((p - 1) / 256)) (behind (word bytes m) (p - 1)) (from_start (word bytes m) (p - 1) t) ≡ none)
          × (v ≡ from_start (word bytes m) (p - 1) t)
      still = let n = near_left bytes m (p - 1) t u s (omega arith) d r x y in (n.0, e ∙ n.1)

      pub begin : Ready l (walk (l + (p - 1) / 256) v 0)
      begin = let w = up_to (word bytes m) (p - 1) in
          ready_at bytes idx m l (p - 1) v lent (omega arith)
          (rw still.1 (omega (
            arith,
            more_near t (depth_of w) 8589934592 256 small
                (depth_abs 256 w (omega (arith, length-take (suc ((p - 1) % 256)) (drop (256 * ((p - 1) / 256)) (word bytes m))))),
          )))

      pub found_far : landed_back (height m) (word bytes m)
          (climb_of (entry (height m) (word bytes m)) (height m) (walk (l + (p - 1) / 256) v 0)) ≡ backward (height m) (word bytes m) p t
      found_far = rw (still.1, lent.leaves) (past_block (height m) (word bytes m) p (p - 1) t (omega arith) still.0)
