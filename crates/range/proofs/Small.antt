-- What is joined on one side, g levels above the leaves, is the summary of at most 2 ^ g blocks of bits.
-- So the numbers of every join have room.
use mathlib.Core.Path.{◌≡◌, sym}
use mathlib.Core.Bool.{Bool}
use mathlib.Core.List.{List, [], ◌++◌}
use Prim.Native.Nat.{ℕ, suc, ◌-◌, ◌*◌, ◌^◌, ◌≤◌}
use native.Mathlib.Omega.{arith}
use native.Mathlib.Nat.{two-pow-succ, pow-le-pow_right}
use lib.ListN.{length, take, drop, length-append, length-take}
use Rattle.summary.specs.declared.Summary.{Summary}
use Rattle.summary.specs.Bound.{Bounded}
use Rattle.summary.specs.Stretch.{summary_of}
use Rattle.summary.specs.Join.{empty_of, join_of}
use Rattle.summary.proofs.Append.{summary_empty, summary_append, words_empty}
use Rattle.summary.proofs.Bounds.{summary_bounded}
use Rattle.index.specs.Shape.{entry}
use Rattle.index.proofs.Level.{Level, level_low, entry_is}

pub record Small (g : ℕ) (s : Summary) : Type 0 where
  pub bits : List Bool
  pub is : s ≡ summary_of bits
  pub short : length bits ≤ 256 * 2 ^ g

pub small_bounded : (g : ℕ) (s : Summary) → g ≤ 13 → Small g s → Bounded 4194304 s
small_bounded g s l x =
    rw x.is (summary_bounded 4194304 x.bits (omega (arith, x.short, pow-le-pow_right {n = 2} (omega arith) {i = g} {j = 13} l)))

pub small_empty : (g : ℕ) → Small g empty_of
small_empty g = record { bits = []; is = sym summary_empty; short = omega arith }

pub small_join : (g : ℕ) (s t : Summary) → Small g s → Small g t → Small (suc g) (join_of s t)
small_join g s t x y = record {
  bits = x.bits ++ y.bits;
  is = rw (x.is, y.is) (sym (summary_append x.bits y.bits));
  short = omega (arith, x.short, y.short, length-append x.bits y.bits, two-pow-succ g);
}

-- "the empty summary changes nothing on either side"
pub joins_empty : (g : ℕ) (s : Summary) → Small g s → join_of s empty_of ≡ s
joins_empty g s x = rw x.is (words_empty x.bits)

pub small_entry : (h f g k : ℕ) (w : List Bool) → Level h f g k → Small g (entry h w k)
small_entry h f g k w l = let a : ℕ = k * 2 ^ g - 2 ^ h in record {
  bits = take (256 * 2 ^ g) (drop (256 * a) w);
  is = entry_is h f g k a w l (omega (arith, level_low l));
  short = omega (arith, length-take (256 * 2 ^ g) (drop (256 * a) w));
}
