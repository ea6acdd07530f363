-- The prefix walk gives D(p), and reads at most h entries.
use mathlib.Core.Path.{◌≡◌, sym, ap, ◌∙◌}
use mathlib.Core.Bool.{Bool, false}
use mathlib.Core.List.{List, []}
use Prim.Native.Nat.{ℕ, zero, suc, ◌+◌, ◌-◌, ◌*◌, ◌/◌, ◌%◌, ◌^◌, ◌≤◌, ◌<◌}
use native.Mathlib.Omega.{arith}
use borrow.Author.Tests.{ne_eqb}
use lib.ListN.{length, take}
use lib.IntN.{ℤ, ◌+ℤ◌}
use Rattle.word.specs.Forest.{D}
use Rattle.word.proofs.Signed.{zarith, by_test, +law}
use Rattle.summary.specs.declared.Summary.{Summary}
use Rattle.summary.specs.Stretch.{depth_of}
use Rattle.summary.proofs.Meaning.{total_is}
use Rattle.summary.proofs.Bounds.{depth_part}
use Rattle.index.specs.Shape.{entry, even}
use Rattle.index.proofs.Level.{Level, even_no, level_up, level_before}
use Rattle.walk.specs.Scan.{behind}
use Rattle.walk.specs.Prefix.{prefix_up, prefix}
use Rattle.walk.proofs.Amounts.{depth_nil, D_depth}
use Rattle.walk.proofs.Places.{Starts, Earlier, stretch, leaf_level, leaf_starts, not_one, root_start, starts_even, starts_odd, stands}

module _ (h : ℕ) (w : List Bool) where
  -- the climb, from the start of entry k's stretch
  abbrev Up : ℕ → Type 0
  Up f = (g k a : ℕ) (d : ℤ) (n : ℕ) → Level h f g k → Starts h g k a
      → ((prefix_up (entry h w) f k d n).0 ≡ depth_of (take (256 * a) w) +ℤ d) × ((prefix_up (entry h w) f k d n).1 ≤ n + f)

  up_zero : Up 0
  unfolding prefix_up
  up_zero g k a d n l b = let z : a ≡ 0 = root_start l b in (rw z (omega (zarith, +law (depth_of []) d, depth_nil)), omega arith)

  -- the depth at a stretch's end is the depth at its start and the total of its entry
  over : (g a b : ℕ) (d : ℤ) (s : Summary) → a ≡ b + 2 ^ g → s.total ≡ depth_of (stretch w g b)
      → depth_of (take (256 * b) w) +ℤ (d +ℤ s.total) ≡ depth_of (take (256 * a) w) +ℤ d
  over g a b d s i e =
      let c : 256 * a ≡ 256 * b + 256 * 2 ^ g = omega arith in
      let q : depth_of (take (256 * a) w) ≡ depth_of (take (256 * b) w) +ℤ depth_of (stretch w g b) =
      ap (λ (j : ℕ). depth_of (take j w)) c ∙ depth_part (256 * b) (256 * 2 ^ g) w in
      omega (
        zarith,
        q,
        e,
        +law (depth_of (take (256 * b) w)) (d +ℤ s.total),
        +law d s.total,
        +law (depth_of (take (256 * b) w)) (depth_of (stretch w g b)),
        +law (depth_of (take (256 * a) w)) d,
      )

  up_suc : (f : ℕ) → Up f → Up (suc f)
  unfolding prefix_up
  up_suc f ih g k a d n l b = rw (ne_eqb k 1 (not_one l)) (by_test (even k)
      (λ v. let r = ih (suc g) (k / 2) a d n (level_up l) (starts_even v b) in rw v (r.0, omega (arith, r.1)))
      (λ v. let u = starts_odd l v b in
      let r = ih (suc g) (k / 2) (a - 2 ^ g) (d +ℤ (entry h w (k - 1)).total) (n + 1) (level_up l) u.above in
      rw v (r.0 ∙ over g a (a - 2 ^ g) d (entry h w (k - 1)) u.is (total v u), omega (arith, r.1))))
    where
      total : even k ≡ false → Earlier h g k a (a - 2 ^ g) → (entry h w (k - 1)).total ≡ depth_of (stretch w g (a - 2 ^ g))
      total v u = ap (λ (s : Summary). s.total) (stands h w (level_before l (even_no k v)) u.before) ∙ total_is (stretch w g (a - 2 ^ g))

  up : (f : ℕ) → Up f
  up zero = up_zero
  up (suc f) = up_suc f (up f)

  module _ (m : length w ≤ 256 * 2 ^ h) (p : ℕ) (b : p < length w) where
    climbed : ((prefix h w p).0 ≡ depth_of (take (256 * (p / 256)) w) +ℤ depth_of (behind w p)) × ((prefix h w p).1 ≤ 0 + h)
    unfolding prefix
    climbed = up h 0 (2 ^ h + p / 256) (p / 256) (depth_of (behind w p)) 0 (leaf_level h (length w) p m b) (leaf_starts h (p / 256))

    -- "Prefix at p < m: D(p)."
    pub prefix_is : (prefix h w p).0 ≡ D w p
    prefix_is = climbed.0 ∙ sym (depth_part (256 * (p / 256)) (p % 256) w)
        ∙ ap (λ (j : ℕ). depth_of (take j w)) (let e : 256 * (p / 256) + p % 256 ≡ p = omega arith in e) ∙ sym (D_depth w p)

    pub prefix_reads : (prefix h w p).1 ≤ h
    prefix_reads = omega (arith, climbed.1)
