-- The backward walk finds the last boundary wanted, boundary 0 among them, and none exactly when there is none. It reads at most
-- 2h - 1 entries.
use mathlib.Core.Path.{◌≡◌, refl, sym, ap, ap₂, ◌∙◌}
use mathlib.Core.Logic.{◌≢◌}
use mathlib.Core.Bool.{Bool, true, false, cond}
use mathlib.Core.List.{List, []}
use mathlib.Core.Option.{Option, none, some}
use Prim.Native.Nat.{ℕ, zero, suc, ◌+◌, ◌-◌, ◌*◌, ◌/◌, ◌%◌, ◌^◌, ◌≤◌, ◌<◌}
use native.Mathlib.Omega.{arith}
use borrow.Author.Tests.{ne_eqb}
use borrow.Author.Tests.{le-leb, lt-leb}
use lib.ListN.{length, take, drop, length-take}
use lib.Seq.{take-take}
use lib.IntN.{ℤ, pos, ◌+ℤ◌, ◌-ℤ◌}
use Rattle.word.specs.Signed.{eq_z}
use Rattle.word.specs.Forest.{D}
use Rattle.word.proofs.Signed.{zarith, by_test, +law, -law}
use Rattle.summary.specs.declared.Summary.{Summary}
use Rattle.summary.specs.Stretch.{depth_of, summary_of}
use Rattle.summary.proofs.Meaning.{total_is}
use Rattle.summary.proofs.Bounds.{depth_part}
use Rattle.index.specs.Shape.{entry, even}
use Rattle.index.proofs.Level.{Level, even_no, level_up, level_before, level_left, level_right, level_low, below_leaves}
use Rattle.walk.specs.declared.Climb.TheVariants.{Enter}
use Rattle.walk.specs.Walk.{Reach, walk}
use Rattle.walk.specs.Scan.{or_else, final, behind}
use Rattle.walk.specs.Backward.{hit_back, climb_back, descend_back, leaf_back, landed_back, from_start, backward}
use Rattle.walk.proofs.Options.{or_else_assoc, by_option, some_is, none_some, found_or_not, only, either_is, either_reads}
use Rattle.walk.proofs.Amounts.{depth_nil, D_depth}
use Rattle.walk.proofs.Hit.{hits}
use Rattle.walk.proofs.Final.{Final, final_split, final_some, final_none, final_nil, final_scans, early, later_part, earlier_part}
use Rattle.walk.proofs.Places.{Starts, Earlier, stretch, drop_take, left_half, right_half, stands}
use Rattle.walk.proofs.Places.{leaf_level, leaf_starts, not_one, root_start, left_starts, right_starts, starts_even, starts_odd}
use Rattle.word.specs.Depth.{Backward, NoBackward}

-- one level down, by what the right child says
module _ (w : List Bool) (g a : ℕ) (t : ℤ) (s : Summary) (e : s ≡ summary_of (stretch w g (a + 2 ^ g))) where
  enter_right : hit_back s t ≡ true → final (256 * a) (stretch w (suc g) a) (t +ℤ depth_of (stretch w (suc g) a))
      ≡ final (256 * (a + 2 ^ g)) (stretch w g (a + 2 ^ g)) (t +ℤ depth_of (stretch w g (a + 2 ^ g)))
  enter_right y =
      let d : 256 * a + 256 * 2 ^ g ≡ 256 * (a + 2 ^ g) = omega arith in
      later_part (256 * 2 ^ g) (256 * a) (stretch w (suc g) a) t s (rw (right_half w g a) e) y ∙ rw (right_half w g a, d)

  enter_left : hit_back s t ≡ false → final (256 * a) (stretch w (suc g) a) (t +ℤ depth_of (stretch w (suc g) a))
      ≡ final (256 * a) (stretch w g a) ((t +ℤ s.total) +ℤ depth_of (stretch w g a))
  enter_left y = earlier_part (256 * 2 ^ g) (256 * a) (stretch w (suc g) a) t s (rw (right_half w g a) e) y ∙ rw (left_half w g a)

module _ (h : ℕ) (w : List Bool) where
  -- the way down from an entry over 2 ^ g blocks: g reads
  abbrev Down : ℕ → Type 0
  Down g = (s f k a : ℕ) (t : ℤ) (n : ℕ) → g ≤ s → Level h f g k → Starts h g k a
      → leaf_back (2 ^ h) w (descend_back (entry h w) (2 ^ h) s k t n)
      ≡ (final (256 * a) (stretch w g a) (t +ℤ depth_of (stretch w g a)), n + g)

  at_leaf : (k a : ℕ) (t : ℤ) (n : ℕ) → Starts h 0 k a → leaf_back (2 ^ h) w (walk k t n)
      ≡ (final (256 * a) (stretch w 0 a) (t +ℤ depth_of (stretch w 0 a)), n + 0)
  at_leaf k a t n b = let d : k - 2 ^ h ≡ a = omega (arith, b.at) in let m : n + 0 ≡ n = omega arith in rw (d, m)

  down_zero : Down 0
  unfolding descend_back
  down_zero zero f k a t n o l b = at_leaf k a t n b
  down_zero (suc s) f k a t n o l b = rw (le-leb (2 ^ h) k (omega (arith, level_low l))) (at_leaf k a t n b)

  down_suc : (g : ℕ) → Down g → Down (suc g)
  unfolding descend_back
  down_suc g ih zero f k a t n o l b = absurd (omega arith)
  down_suc g ih (suc s) f k a t n o l b =
      let c : n + 1 + g ≡ n + suc g = omega arith in
      let sum : entry h w (2 * k + 1) ≡ summary_of (stretch w g (a + 2 ^ g)) = stands h w (level_right l) (right_starts b) in
      rw (lt-leb (2 ^ h) k (below_leaves l))
      (by_test (hit_back (entry h w (2 * k + 1)) t)
      (λ y. rw (
        y,
        ih s (suc f) (2 * k + 1) (a + 2 ^ g) t (n + 1) (omega arith) (level_right l) (right_starts b),
        c,
        enter_right w g a t _ sum y,
      ))
      (λ y. rw (
        y,
        ih s (suc f) (2 * k) a (t +ℤ (entry h w (2 * k + 1)).total) (n + 1) (omega arith) (level_left l) (left_starts b),
        c,
        enter_left w g a t _ sum y,
      )))

  down : (g : ℕ) → Down g
  down zero = down_zero
  down (suc g) = down_suc g (down g)

  -- all the boundaries up to p, 0 among them, the last first; u is wanted from boundary 0
  abbrev pub before : ℕ → ℤ → Option ℕ
  before p u = or_else (final 0 (take p w) u) (cond (eq_z u (pos 0)) (some 0) none)

  -- the boundaries up to a stretch's end, where the stretch is summed up in s
  module _ (g a : ℕ) (t : ℤ) (s : Summary) (e : s ≡ summary_of (stretch w g a)) where
    first_part : take (256 * a) (take (256 * (a + 2 ^ g)) w) ≡ take (256 * a) w
    first_part = take-take (256 * a) (256 * (a + 2 ^ g)) w (omega arith)

    last_part : drop (256 * a) (take (256 * (a + 2 ^ g)) w) ≡ stretch w g a
    last_part = let d : 256 * (a + 2 ^ g) ≡ 256 * a + 256 * 2 ^ g = omega arith in rw (d, drop_take)

    into : hit_back s t ≡ true → before (256 * (a + 2 ^ g)) (t +ℤ depth_of (take (256 * (a + 2 ^ g)) w))
        ≡ final (256 * a) (stretch w g a) (t +ℤ depth_of (stretch w g a))
    into y =
        let f = hits (stretch w g a) (t +ℤ depth_of (stretch w g a)) (final_scans (256 * a) (stretch w g a) (t +ℤ depth_of (stretch w g a)))
        (rw (e, total_is) at y) in
        let z : 0 + 256 * a ≡ 256 * a = omega arith in
        let c = later_part (256 * a) 0 (take (256 * (a + 2 ^ g)) w) t s (rw last_part e) y in
        rw (rw (last_part, z) at c, f.1)

    over : hit_back s t ≡ false → before (256 * (a + 2 ^ g)) (t +ℤ depth_of (take (256 * (a + 2 ^ g)) w))
        ≡ before (256 * a) ((t +ℤ s.total) +ℤ depth_of (take (256 * a) w))
    over y =
        let c : final 0 (take (256 * (a + 2 ^ g)) w) (t +ℤ depth_of (take (256 * (a + 2 ^ g)) w))
        ≡ final 0 (take (256 * a) w) ((t +ℤ s.total) +ℤ depth_of (take (256 * a) w))
        = rw first_part at (earlier_part (256 * a) 0 (take (256 * (a + 2 ^ g)) w) t s (rw last_part e) y) in
        let u : t +ℤ depth_of (take (256 * (a + 2 ^ g)) w) ≡ (t +ℤ s.total) +ℤ depth_of (take (256 * a) w)
        = early (256 * a) 0 (take (256 * (a + 2 ^ g)) w) t s (rw last_part e) ∙ rw (last_part, first_part, e, total_is) in
        ap₂ (λ (o : Option ℕ) (u : ℤ). or_else o (cond (eq_z u (pos 0)) (some 0) none)) c u

  -- the climb, from the start of entry k's stretch
  abbrev Up : ℕ → Type 0
  Up f = (g k a : ℕ) (t : ℤ) (n : ℕ) → Level h f g k → Starts h g k a
      → ((landed_back h w (climb_back (entry h w) f k t n)).0 ≡ before (256 * a) (t +ℤ depth_of (take (256 * a) w)))
      × ((landed_back h w (climb_back (entry h w) f k t n)).1 ≤ n + (2 * f + g - 1))

  up_zero : Up 0
  unfolding climb_back
  up_zero g k a t n l b =
      let d : 256 * a ≡ 0 = omega (arith, root_start l b) in
      let z : t +ℤ depth_of [] ≡ t = omega (zarith, +law t (depth_of []), depth_nil) in
      (rw (d, z, final_nil), omega arith)

  up_suc : (f : ℕ) → Up f → Up (suc f)
  unfolding climb_back
  up_suc f ih g k a t n l b = rw (ne_eqb k 1 (not_one l)) (by_test (even k)
      (λ v. let r = ih (suc g) (k / 2) a t n (level_up l) (starts_even v b) in rw v (r.0, omega (arith, r.1)))
      (λ v. rw v (odd v (a - 2 ^ g) (starts_odd l v b))))
    where
      odd : even k ≡ false → (b : ℕ) → Earlier h g k a b
          → ((landed_back h w
          (cond (hit_back (entry h w (k - 1)) t) (Enter (walk (k - 1) t (n + 1)))
          (climb_back (entry h w) f (k / 2) (t +ℤ (entry h w (k - 1)).total) (n + 1)))).0
          ≡ before (256 * a) (t +ℤ depth_of (take (256 * a) w)))
          × ((landed_back h w
          (cond (hit_back (entry h w (k - 1)) t) (Enter (walk (k - 1) t (n + 1)))
          (climb_back (entry h w) f (k / 2) (t +ℤ (entry h w (k - 1)).total) (n + 1)))).1
          ≤ n + (2 * suc f + g - 1))
      odd v b u =
          let lb = level_before l (even_no k v) in
          let sum : entry h w (k - 1) ≡ summary_of (stretch w g b) = stands h w lb u.before in
          rw u.is (by_test (hit_back (entry h w (k - 1)) t)
          (λ y. let r = down g h (suc f) (k - 1) b t (n + 1) (omega (arith, l.levels)) lb u.before in
          rw y (ap (λ (r : Reach). r.0) r ∙ sym (into g b t _ sum y), omega (arith, ap (λ (r : Reach). r.1) r)))
          (λ y. let r = ih (suc g) (k / 2) b (t +ℤ (entry h w (k - 1)).total) (n + 1) (level_up l) u.above in
          rw y (r.0 ∙ sym (over g b t _ sum y), omega (arith, r.1))))

  up : (f : ℕ) → Up f
  up zero = up_zero
  up (suc f) = up_suc f (up f)

  -- ---- the whole walk, from boundary p + 1
  module _ (m : length w ≤ 256 * 2 ^ h) (p : ℕ) (t : ℤ) (b : p < length w) where
    -- the block's start, and the amounts wanted from there and from boundary 0
    abbrev s : ℕ
    s = 256 * (p / 256)

    abbrev u : ℤ
    u = from_start w p t

    abbrev U : ℤ
    U = t +ℤ depth_of (take (suc p) w)

    climbed : ((landed_back h w (climb_back (entry h w) h (2 ^ h + p / 256) u 0)).0 ≡ before s (u +ℤ depth_of (take s w)))
        × ((landed_back h w (climb_back (entry h w) h (2 ^ h + p / 256) u 0)).1 ≤ 0 + (2 * h + 0 - 1))
    climbed = up h 0 (2 ^ h + p / 256) (p / 256) u 0 (leaf_level h (length w) p m b) (leaf_starts h (p / 256))

    depth : depth_of (take (suc p) w) ≡ depth_of (take s w) +ℤ depth_of (take (suc (p % 256)) (drop s w))
    depth = let e : suc p ≡ s + suc (p % 256) = omega arith in rw e (depth_part s (suc (p % 256)) w)

    from_start_lem : u +ℤ depth_of (take s w) ≡ U
    from_start_lem =
        omega (
          zarith,
          depth,
          +law u (depth_of (take s w)),
          +law t (depth_of (take (suc p) w)),
          +law t (depth_of (take (suc (p % 256)) (drop s w))),
          +law (depth_of (take s w)) (depth_of (take (suc (p % 256)) (drop s w))),
        )

    to_start : U -ℤ depth_of (take s w) ≡ u
    to_start = omega (zarith, from_start_lem, +law u (depth_of (take s w)), -law U (depth_of (take s w)))

    split : final 0 (take p w) U ≡ or_else (final s (behind w p) u) (final 0 (take s w) U)
    split =
        let z : 0 + s ≡ s = omega arith in
        let place : s + p % 256 ≡ p = omega arith in
        rw (final_split s 0 (take p w) U, take-take s p w (omega arith), z, to_start)
        (ap (λ (x : List Bool). or_else (final s x u) (final 0 (take s w) U))
        (ap (λ (j : ℕ). drop s (take j w)) (sym place) ∙ drop_take s (p % 256) w))

    -- what is found is what a scan of all the bits before p finds, or boundary 0
    pub backward_finds : (backward h w (suc p) t).0 ≡ before p U
    unfolding backward
    backward_finds =
        either_is (final s (behind w p) u) _
        ∙ ap (or_else (final s (behind w p) u)) (climbed.0 ∙ ap (before s) from_start_lem)
        ∙ sym (or_else_assoc (final s (behind w p) u) (final 0 (take s w) U) (cond (eq_z U (pos 0)) (some 0) none))
        ∙ ap (λ (o : Option ℕ). or_else o (cond (eq_z U (pos 0)) (some 0) none)) (sym split)

    reads : (backward h w (suc p) t).1 ≤ 2 * h - 1
    unfolding backward
    reads = either_reads (final s (behind w p) u) _ (2 * h - 1) (omega (arith, climbed.1))

    -- D(q) = D(p+1)+t, and depth U from boundary 0
    wanted : D w (suc p) +ℤ t ≡ U
    wanted = omega (zarith, D_depth w (suc p), +law (D w (suc p)) t, +law t (depth_of (take (suc p) w)))

    there : (j : ℕ) → depth_of (take j w) ≡ U → D w j ≡ D w (suc p) +ℤ t
    there j e = D_depth w j ∙ e ∙ sym wanted

    deep : (j : ℕ) → D w j ≡ D w (suc p) +ℤ t → depth_of (take j w) ≡ U
    deep j e = sym (D_depth w j) ∙ e ∙ wanted

    part : (j : ℕ) → j ≤ p → take j (take p w) ≡ take j w
    part j l = take-take j p w l

    len : length (take p w) ≡ p
    len = omega (arith, length-take p w)

    none_after : final 0 (take p w) U ≡ none → (j : ℕ) → 0 < j → j < suc p → D w j ≢ D w (suc p) +ℤ t
    none_after e zero l k d = omega arith
    none_after e (suc j) l k d =
        final_none 0 (take p w) U e j (omega (arith, len)) (ap depth_of (part (suc j) (omega arith)) ∙ deep (suc j) d)

    at_zero : eq_z U (pos 0) ≡ true → depth_of (take 0 w) ≡ U
    at_zero y = depth_nil ∙ omega zarith

    -- "the answer is boundary 0 if t is 0"
    last_zero : final 0 (take p w) U ≡ none → (q : ℕ) → cond (eq_z U (pos 0)) (some 0) none ≡ some q → Backward w (suc p) t q
    last_zero n q e = by_test (eq_z U (pos 0))
        (λ y. let o : q ≡ 0 = some_is {a = 0} {b = q} (rw y) e in
        rw o (record { earlier = omega arith; there = there 0 (at_zero y); last = none_after n }))
        (λ y. absurd (none_some (rw y) e))

    last_later : (q : ℕ) → Final 0 (take p w) U q → Backward w (suc p) t q
    last_later q y = let e : q ≡ suc y.after = omega (arith, y.is) in rw e (record {
      earlier = omega (arith, y.ends, len);
      there = there (suc y.after) (ap depth_of (sym (part (suc y.after) (omega (arith, y.ends, len)))) ∙ y.there);
      last = λ j l k d. let z : j ≡ suc (j - 1) = omega arith in
          y.latest (j - 1) (omega arith) (omega (arith, len))
          (ap depth_of (part (suc (j - 1)) (omega arith)) ∙ deep (suc (j - 1)) (ap (D w) (sym z) ∙ d));
    })

    some_last : (q : ℕ) → before p U ≡ some q → Backward w (suc p) t q
    some_last q e = by_option (final 0 (take p w) U)
        (λ n. last_zero n q (rw n at e))
        (λ r f. let o : q ≡ r = some_is {x = some r} {a = r} {b = q} refl (rw f at e) in
        last_later q (final_some 0 (take p w) U q (f ∙ ap {B = Option ℕ} some (sym o))))

    none_at : before p U ≡ none → (j : ℕ) → j < suc p → D w j ≢ D w (suc p) +ℤ t
    none_at e j l d = by_option (final 0 (take p w) U)
        (λ n. go n j l d)
        (λ r f. none_some {a = r} e (rw f))
      where
        go : final 0 (take p w) U ≡ none → (j : ℕ) → j < suc p → D w j ≢ D w (suc p) +ℤ t
        go n zero l d = none_some {a = 0} e (let y : eq_z U (pos 0) ≡ true = omega (zarith, deep 0 d, depth_nil) in rw (n, y))
        go n (suc j) l d = none_after n (suc j) (omega arith) l d

  -- ---- from any boundary p
  module _ (m : length w ≤ 256 * 2 ^ h) where
    pub backward_reads : (p : ℕ) (t : ℤ) → p ≤ length w → (backward h w p t).1 ≤ 2 * h - 1
    unfolding backward
    backward_reads zero t b = omega arith
    backward_reads (suc p) t b = reads m p t b

    -- "the last q < p with D(q) = D(p)+t"
    pub backward_some : (p : ℕ) (t : ℤ) → p ≤ length w → (q : ℕ) → (backward h w p t).0 ≡ some q → Backward w p t q
    unfolding backward
    backward_some zero t b q e = absurd (none_some refl e)
    backward_some (suc p) t b q e = some_last m p t b q (sym (backward_finds m p t b) ∙ e)

    pub backward_none : (p : ℕ) (t : ℤ) → p ≤ length w → (backward h w p t).0 ≡ none → NoBackward w p t
    backward_none zero t b e = record { nowhere = λ j l d. omega arith }
    backward_none (suc p) t b e = record { nowhere = none_at m p t b (sym (backward_finds m p t b) ∙ e) }

    -- so it is exactly that boundary, and none exactly when there is none
    pub backward_is : (p : ℕ) (t : ℤ) → p ≤ length w → (q : ℕ) → Backward w p t q → (backward h w p t).0 ≡ some q
    backward_is p t b q f = by_option (backward h w p t).0
        (λ e. absurd ((backward_none p t b e).nowhere q f.earlier f.there))
        (λ r e. let g = backward_some p t b r e in
        e ∙ ap {B = Option ℕ} some (only r q (λ z. g.last q z f.earlier f.there) (λ z. f.last r z g.earlier g.there)))

    pub backward_is_none : (p : ℕ) (t : ℤ) → p ≤ length w → NoBackward w p t → (backward h w p t).0 ≡ none
    backward_is_none p t b f = found_or_not (backward h w p t).0 (λ q e. let g = backward_some p t b q e in f.nowhere q g.earlier g.there)
