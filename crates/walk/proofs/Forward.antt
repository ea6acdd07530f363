-- The forward walk finds the first boundary wanted, and none exactly when there is none. It reads at most 2h - 1 entries.
use mathlib.Core.Path.{◌≡◌, sym, ap, ◌∙◌}
use mathlib.Core.Bool.{Bool, true, false}
use mathlib.Core.List.{List}
use mathlib.Core.Option.{Option, none, some}
use Prim.Native.Nat.{ℕ, zero, suc, ◌+◌, ◌-◌, ◌*◌, ◌/◌, ◌%◌, ◌^◌, ◌≤◌, ◌<◌}
use native.Mathlib.Omega.{arith}
use borrow.Author.Tests.{ne_eqb}
use borrow.Author.Tests.{le-leb, lt-leb}
use lib.ListN.{length, take, drop, drop_of_length-le, length-drop}
use lib.Seq.{drop-drop}
use lib.IntN.{ℤ, ◌+ℤ◌, ◌-ℤ◌}
use Rattle.word.specs.Forest.{D}
use Rattle.word.proofs.Signed.{by_test, zarith, +law}
use Rattle.summary.specs.declared.Summary.{Summary}
use Rattle.summary.specs.Stretch.{depth_of, summary_of}
use Rattle.summary.proofs.Bounds.{depth_part}
use Rattle.index.specs.Shape.{entry, even}
use Rattle.index.proofs.Level.{Level, even_yes, level_up, level_next, level_left, level_right, level_low, below_leaves}
use Rattle.walk.specs.Walk.{Reach, walk, hit}
use Rattle.walk.specs.Scan.{or_else, first, ahead}
use Rattle.walk.specs.Forward.{climb, descend, leaf_scan, landed, forward}
use Rattle.walk.proofs.Options.{by_option, found_or_not, only, either_is, either_reads}
use Rattle.walk.proofs.Amounts.{D_depth}
use Rattle.walk.proofs.First.{first_split, first_some, first_none, first_nil, front, back}
use Rattle.walk.proofs.Places.{Starts, Ends, stretch, left_half, right_half, stands}
use Rattle.walk.proofs.Places.{leaf_level, leaf_ends, not_one, left_starts, right_starts, next_starts, ends_even, ends_odd}
use Rattle.word.specs.Depth.{Forward, NoForward}

-- one level down, by what the left child says
module _ (w : List Bool) (g a : ℕ) (t : ℤ) (s : Summary) (e : s ≡ summary_of (stretch w g a)) where
  enter_left : hit s t ≡ true → first (256 * a) (stretch w (suc g) a) t ≡ first (256 * a) (stretch w g a) t
  enter_left y = front (256 * 2 ^ g) (256 * a) (stretch w (suc g) a) t s (rw (left_half w g a) e) y ∙ rw (left_half w g a)

  enter_right : hit s t ≡ false → first (256 * a) (stretch w (suc g) a) t
      ≡ first (256 * (a + 2 ^ g)) (stretch w g (a + 2 ^ g)) (t -ℤ s.total)
  enter_right y =
      let d : 256 * a + 256 * 2 ^ g ≡ 256 * (a + 2 ^ g) = omega arith in
      back (256 * 2 ^ g) (256 * a) (stretch w (suc g) a) t s (rw (left_half w g a) e) y ∙ rw (right_half w g a, d)

module _ (h : ℕ) (w : List Bool) where
  -- the way down from an entry over 2 ^ g blocks: g reads
  abbrev Down : ℕ → Type 0
  Down g = (s f k a : ℕ) (t : ℤ) (n : ℕ) → g ≤ s → Level h f g k → Starts h g k a
      → leaf_scan (2 ^ h) w (descend (entry h w) (2 ^ h) s k t n) ≡ (first (256 * a) (stretch w g a) t, n + g)

  at_leaf : (k a : ℕ) (t : ℤ) (n : ℕ) → Starts h 0 k a → leaf_scan (2 ^ h) w (walk k t n) ≡ (first (256 * a) (stretch w 0 a) t, n + 0)
  at_leaf k a t n b = let d : k - 2 ^ h ≡ a = omega (arith, b.at) in let m : n + 0 ≡ n = omega arith in rw (d, m)

  down_zero : Down 0
  unfolding descend
  down_zero zero f k a t n o l b = at_leaf k a t n b
  down_zero (suc s) f k a t n o l b = rw (le-leb (2 ^ h) k (omega (arith, level_low l))) (at_leaf k a t n b)

  down_suc : (g : ℕ) → Down g → Down (suc g)
  unfolding descend
  down_suc g ih zero f k a t n o l b = absurd (omega arith)
  down_suc g ih (suc s) f k a t n o l b =
      let c : n + 1 + g ≡ n + suc g = omega arith in
      let sum : entry h w (2 * k) ≡ summary_of (stretch w g a) = stands h w (level_left l) (left_starts b) in
      rw (lt-leb (2 ^ h) k (below_leaves l))
      (by_test (hit (entry h w (2 * k)) t)
      (λ y. rw (y, ih s (suc f) (2 * k) a t (n + 1) (omega arith) (level_left l) (left_starts b), c, enter_left w g a t _ sum y))
      (λ y. rw (
        y,
        ih s (suc f) (2 * k + 1) (a + 2 ^ g) (t -ℤ (entry h w (2 * k)).total) (n + 1) (omega arith) (level_right l)
            (right_starts b),
        c,
        enter_right w g a t _ sum y,
      )))

  down : (g : ℕ) → Down g
  down zero = down_zero
  down (suc g) = down_suc g (down g)

  -- the climb, from the end of entry k's stretch
  module _ (m : length w ≤ 256 * 2 ^ h) where
    abbrev Up : ℕ → Type 0
    Up f = (g k a : ℕ) (t : ℤ) (n : ℕ) → Level h f g k → Ends h g k a
        → ((landed h w (climb (entry h w) f k t n)).0 ≡ first (256 * a) (drop (256 * a) w) t)
        × ((landed h w (climb (entry h w) f k t n)).1 ≤ n + (2 * f + g - 1))

    up_zero : Up 0
    unfolding climb
    up_zero g k a t n l b =
        let z : g ≡ h = omega (arith, l.levels) in (
          rw (drop_of_length-le w {i = 256 * a} (omega (arith, b.at, level_low l, ap (λ n. 2 ^ n) z))) (sym (first_nil (256 * a) t)),
          omega arith,
        )

    up_suc : (f : ℕ) → Up f → Up (suc f)
    unfolding climb
    up_suc f ih g k a t n l b = rw (ne_eqb k 1 (not_one l)) (by_test (even k)
        (λ v. rw v (by_test (hit (entry h w (k + 1)) t)
        (λ y. let r = down g h (suc f) (k + 1) a t (n + 1) (omega (arith, l.levels)) (level_next l (even_yes k v)) (next_starts b) in
        rw y (
          ap (λ (r : Reach). r.0) r ∙ sym (front (256 * 2 ^ g) (256 * a) (drop (256 * a) w) t _ (sum v) y),
          omega (arith, ap (λ (r : Reach). r.1) r),
        ))
        (λ y. let r = ih (suc g) (k / 2) (a + 2 ^ g) (t -ℤ (entry h w (k + 1)).total) (n + 1) (level_up l) (ends_even v b) in
        rw y (r.0 ∙ rw (back (256 * 2 ^ g) (256 * a) (drop (256 * a) w) t _ (sum v) y, drop-drop, d), omega (arith, r.1)))))
        (λ v. let r = ih (suc g) (k / 2) a t n (level_up l) (ends_odd v b) in rw v (r.0, omega (arith, r.1))))
      where
        d : 256 * a + 256 * 2 ^ g ≡ 256 * (a + 2 ^ g)
        d = omega arith

        sum : even k ≡ true → entry h w (k + 1) ≡ summary_of (stretch w g a)
        sum v = stands h w (level_next l (even_yes k v)) (next_starts b)

    up : (f : ℕ) → Up f
    up zero = up_zero
    up (suc f) = up_suc f (up f)

    -- ---- the whole walk
    module _ (p : ℕ) (t : ℤ) (l : p < length w) where
      climbed : ((landed h w (climb (entry h w) h (2 ^ h + p / 256) (t -ℤ depth_of (ahead w p)) 0)).0
          ≡ first (256 * suc (p / 256)) (drop (256 * suc (p / 256)) w) (t -ℤ depth_of (ahead w p)))
          × ((landed h w (climb (entry h w) h (2 ^ h + p / 256) (t -ℤ depth_of (ahead w p)) 0)).1 ≤ 0 + (2 * h + 0 - 1))
      climbed = up h 0 (2 ^ h + p / 256) (suc (p / 256)) (t -ℤ depth_of (ahead w p)) 0 (leaf_level h (length w) p m l)
          (leaf_ends h (p / 256))

      -- what is found is what a scan of all the bits after p finds
      pub forward_finds : (forward h w p t).0 ≡ first p (drop p w) t
      unfolding forward
      forward_finds =
          either_is (first p (ahead w p) t) _
          ∙ ap (or_else (first p (ahead w p) t)) (climbed.0 ∙ rest)
          ∙ sym (first_split (256 - p % 256) p (drop p w) t)
        where
          d : 256 * suc (p / 256) ≡ p + (256 - p % 256)
          d = omega arith

          rest : first (256 * suc (p / 256)) (drop (256 * suc (p / 256)) w) (t -ℤ depth_of (ahead w p))
              ≡ first (p + (256 - p % 256)) (drop (256 - p % 256) (drop p w)) (t -ℤ depth_of (ahead w p))
          rest = rw (d, drop-drop)

      pub forward_reads : (forward h w p t).1 ≤ 2 * h - 1
      unfolding forward
      forward_reads = either_reads (first p (ahead w p) t) _ (2 * h - 1) (omega (arith, climbed.1))

      -- depth t from p, and depth D(p) + t
      from : (j : ℕ) → depth_of (take j (drop p w)) ≡ t → D w (p + j) ≡ D w p +ℤ t
      from j e = D_depth w (p + j) ∙ depth_part p j w ∙ rw (D_depth w p, e)

      to : (j : ℕ) → D w (p + j) ≡ D w p +ℤ t → depth_of (take j (drop p w)) ≡ t
      to j e = omega (
        zarith,
        depth_part p j w,
        D_depth w p,
        D_depth w (p + j),
        +law (D w p) t,
        +law (depth_of (take p w)) (depth_of (take j (drop p w))),
      )

      -- "the first q > p with D(q) = D(p)+t"
      pub forward_some : (q : ℕ) → (forward h w p t).0 ≡ some q → Forward w p t q
      forward_some q e = let r = first_some p (drop p w) t q (sym forward_finds ∙ e) in record {
        later = omega (arith, r.is);
        within = omega (arith, r.is, r.ends, length-drop p w);
        there = ap (D w) r.is ∙ from (suc r.after) r.there;
        first = λ j o k d. let e : j ≡ p + suc (j - suc p) = omega arith in
            r.soonest (j - suc p) (omega (arith, r.is)) (to (suc (j - suc p)) (ap (D w) (sym e) ∙ d));
      }

      pub forward_none : (forward h w p t).0 ≡ none → NoForward w p t
      forward_none n = record {
        nowhere = λ j o k d. let e : j ≡ p + suc (j - suc p) = omega arith in
            first_none p (drop p w) t (sym forward_finds ∙ n) (j - suc p) (omega (arith, length-drop p w))
            (to (suc (j - suc p)) (ap (D w) (sym e) ∙ d));
      }

      -- so it is exactly that boundary, and none exactly when there is none
      pub forward_is : (q : ℕ) → Forward w p t q → (forward h w p t).0 ≡ some q
      forward_is q f = by_option (forward h w p t).0
          (λ e. absurd ((forward_none e).nowhere q f.later f.within f.there))
          (λ r e. let g = forward_some r e in
          e ∙ ap {B = Option ℕ} some (only r q (λ z. f.first r g.later z g.there) (λ z. g.first q f.later z f.there)))

      pub forward_is_none : NoForward w p t → (forward h w p t).0 ≡ none
      forward_is_none f = found_or_not (forward h w p t).0 (λ q e. let g = forward_some q e in f.nowhere q g.later g.within g.there)
