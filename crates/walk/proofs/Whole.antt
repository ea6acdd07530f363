-- A walk past its first block, whichever way it goes: what its two loops and its leaf give is what the definition gives.
use mathlib.Core.Path.{◌≡◌, sym, ap, ◌∙◌}
use mathlib.Core.Bool.{Bool}
use mathlib.Core.List.{List}
use Prim.Native.Nat.{ℕ, ◌^◌, ◌≤◌}
use native.Mathlib.Omega.{arith}
use native.Mathlib.Nat.{two-pow-succ, mul-le-mul_right}
use lib.IntN.{ℤ, nat_abs}
use Rattle.word.specs.Bits.{word}
use Rattle.summary.specs.declared.Summary.{Summary}
use Rattle.index.specs.Shape.{height, entry}
use Rattle.walk.specs.declared.Walk.{Walk}
use Rattle.walk.specs.declared.Climb.{Climb}
use Rattle.walk.specs.declared.Climb.TheVariants.{Enter}
use Rattle.walk.specs.Walk.{Reach}
use Rattle.walk.specs.Lent.{Lent}
use Rattle.walk.specs.Room.{Ready, Near, Climbed, Hold, Sunk}
use Rattle.walk.specs.Way.{WayLaws}
use Rattle.walk.proofs.Room.{hold, low_leaf}

module _ {climb : (ℕ → Summary) → ℕ → Walk → Climb} {descent : (ℕ → Summary) → ℕ → ℕ → Walk → Walk} {leaf : ℕ → List Bool → Walk → Reach}
    {landed : ℕ → List Bool → Climb → Reach}
    (laws : WayLaws climb descent leaf landed) (bytes : List ℕ) (idx : List ℤ) (m l : ℕ) (v : Walk) (lent : Lent bytes idx m l)
    (ready : Ready l v) where
  abbrev e : ℕ → Summary
  e = entry (height m) (word bytes m)

  module _ (r : Climb) (c : Climbed (climb e) v r) where
    pub landing : (u : Climb) → r ≡ u → landed (height m) (word bytes m) u ≡ landed (height m) (word bytes m) (climb e (height m) v)
    landing u q = ap (landed (height m) (word bytes m))
        (sym q ∙ c.same (height m) (omega (arith, ready.inside, lent.leaves, two-pow-succ (height m))))

    module _ (u : Walk) (q : r ≡ Enter u) where
      near : Near v (Enter u)
      near = rw q at c.near

      pub held : Hold l u
      held = hold bytes idx m l v lent ready u near

      module _ (x : Walk) (k : Sunk (descent e l) l u x) where
        pub leaf_there : (l ≤ x.entry) × (x.entry ≤ 16384) × (nat_abs x.want ≤ 1152921504606846976)
        leaf_there = low_leaf bytes idx m l v lent ready u near x k

        pub entered : leaf l (word bytes m) x ≡ landed (height m) (word bytes m) (climb e (height m) v)
        entered =
            let s : x ≡ descent e l (height m) u = k.same (height m) (omega (arith, mul-le-mul_right (2 ^ height m) near.0, lent.leaves)) in
            rw (s, lent.leaves) (laws.lands (height m) (word bytes m) u) ∙ landing (Enter u) q
