-- The first block of the forward walk is the definition's, and so is what follows it.
use mathlib.Core.Path.{◌≡◌, ◌∙◌}
use mathlib.Core.List.{List}
use mathlib.Core.Option.{none, some}
use Prim.Native.Nat.{ℕ, ◌+◌, ◌-◌, ◌*◌, ◌/◌, ◌%◌, ◌≤◌, ◌<◌, min}
use native.Mathlib.Omega.{arith}
use lib.ListN.{drop, length-take}
use lib.IntN.{ℤ, ◌-ℤ◌, nat_abs}
use Rattle.word.specs.Bits.{word}
use Rattle.summary.specs.Stretch.{depth_of}
use Rattle.index.specs.Shape.{height, entry}
use Rattle.std.specs.Prelude.{Result, Ok, Err}
use Rattle.walk.specs.Walk.{walk}
use Rattle.walk.specs.Scan.{first, ahead}
use Rattle.walk.specs.Forward.{landed, forward}
use Rattle.walk.specs.Lent.{Lent}
use Rattle.walk.specs.Room.{Ready}
use Rattle.walk.proofs.Amounts.{less_near, depth_abs}
use Rattle.walk.proofs.Room.{ready_at}
use Rattle.forward.specs.Steps.{scan_of, climb_of}
use Rattle.forward.proofs.Ends.{start_met, start_left}

-- s is what the scan of that block gave
module _ (bytes : List ℕ) (idx : List ℤ) (m l p : ℕ) (t : ℤ) (lent : Lent bytes idx m l) (b : p < m) (small : nat_abs t ≤ 8589934592)
    (to : ℕ) (i : to ≡ min (256 * (p / 256 + 1)) m) (s : Result ℕ ℤ) (r : s ≡ scan_of bytes p (to - p) t) where
  pub found_near : (q : ℕ) → s ≡ Ok q → (some q, 0) ≡ forward (height m) (word bytes m) p t
  unfolding forward
  found_near q y = rw (start_met bytes m p t b to i s r q y)

  -- u is the amount that it left
  module _ (u x : ℤ) (y : s ≡ Err x) (z : u ≡ x) where
    still : (first p (ahead (word bytes m) p) t ≡ none) × (u ≡ t -ℤ depth_of (ahead (word bytes m) p))
    still = let n = start_left bytes m p t b to i s r x y in (n.0, z ∙ n.1)

    pub begin : Ready l (walk (l + p / 256) u 0)
    begin = let w = ahead (word bytes m) p in
        ready_at bytes idx m l p u lent b
        (rw still.1 (omega (
          arith,
          less_near t (depth_of w) 8589934592 256 small
              (depth_abs 256 w (omega (arith, length-take (256 - p % 256) (drop p (word bytes m))))),
        )))

    pub found_far : landed (height m) (word bytes m) (climb_of (entry (height m) (word bytes m)) (height m) (walk (l + p / 256) u 0))
        ≡ forward (height m) (word bytes m) p t
    unfolding forward
    found_far = rw (still.0, still.1, lent.leaves)
