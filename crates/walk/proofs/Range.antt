-- The range walk gives the summary of the bits between two boundaries, and reads at most 2h - 2 entries.
use mathlib.Core.Path.{◌≡◌, refl, sym, ap, ◌∙◌}
use mathlib.Core.Bool.{Bool, false, cond}
use mathlib.Core.List.{List, [], ◌++◌, append_assoc, append-nil}
use Prim.Native.Nat.{ℕ, zero, suc, ◌+◌, ◌-◌, ◌*◌, ◌/◌, ◌%◌, ◌^◌, ◌≤◌, ◌<◌}
use native.Mathlib.Omega.{arith}
use native.Mathlib.Nat.{mul-le-mul_right}
use borrow.Author.Tests.{eq-eqb}
use lib.Dec.{eqb, eqb→eq}
use lib.ListN.{length, take, drop}
use lib.Seq.{take-add, drop-drop}
use Rattle.word.proofs.Signed.{by_test, true_T, true≢false}
use Rattle.summary.specs.Stretch.{summary_of}
use Rattle.summary.specs.Join.{join_of}
use Rattle.summary.proofs.Append.{summary_append}
use Rattle.index.specs.Shape.{entry, even}
use Rattle.index.proofs.Level.{Level, even_yes, even_no, level_up, level_next, level_before}
use Rattle.walk.specs.Scan.{ahead, up_to}
use Rattle.walk.specs.Range.{range_up, range}
use Rattle.walk.proofs.Places.{Starts, Ends, stretch, stands}
use Rattle.walk.proofs.Places.{leaf_level, leaf_starts, leaf_ends, next_starts, ends_even, ends_odd, starts_even, starts_odd}

-- the blocks from a to c
abbrev pub mid : List Bool → ℕ → ℕ → List Bool
mid w a c = take (256 * (c - a)) (drop (256 * a) w)

mid_none : (w : List Bool) (a c : ℕ) → a ≡ c → mid w a c ≡ []
mid_none w a c e = let z : 256 * (c - a) ≡ 0 = omega arith in rw z

mid_left : (w : List Bool) (g a c : ℕ) → a + 2 ^ g ≤ c → mid w a c ≡ stretch w g a ++ mid w (a + 2 ^ g) c
mid_left w g a c l =
    let e : 256 * (c - a) ≡ 256 * 2 ^ g + 256 * (c - (a + 2 ^ g)) = omega arith in
    let d : 256 * (a + 2 ^ g) ≡ 256 * a + 256 * 2 ^ g = omega arith in
    rw (e, d, take-add, drop-drop)

mid_right : (w : List Bool) (g a c : ℕ) → a ≤ c → mid w a (c + 2 ^ g) ≡ mid w a c ++ stretch w g c
mid_right w g a c l =
    let e : 256 * (c + 2 ^ g - a) ≡ 256 * (c - a) + 256 * 2 ^ g = omega arith in
    let d : 256 * c ≡ 256 * a + 256 * (c - a) = omega arith in
    rw (e, take-add, drop-drop, ← d)

module _ (h : ℕ) (w : List Bool) where
  -- what a step reads on the left: the bits that it reads, and the block before which they end
  record Left (g k a : ℕ) : Type 0 where
    pub bits : List Bool
    pub end : ℕ
    pub ends : Ends h (suc g) (k / 2) end
    pub sum : (x : List Bool) → cond (even k) (join_of (summary_of x) (entry h w (k + 1))) (summary_of x) ≡ summary_of (x ++ bits)
    pub part : (c : ℕ) → end ≤ c → mid w a c ≡ bits ++ mid w end c

  left : {f g k a : ℕ} → Level h (suc f) g k → Ends h g k a → Left g k a
  left {f} {g} {k} {a} l b = by_test (even k)
      (λ v. record {
        bits = stretch w g a;
        end = a + 2 ^ g;
        ends = ends_even v b;
        sum = λ x. rw (v, stands h w (level_next l (even_yes k v)) (next_starts b), summary_append);
        part = mid_left w g a;
      })
      (λ v. record { bits = []; end = a; ends = ends_odd v b; sum = λ x. rw (v, append-nil); part = λ c o. refl })

  -- and on the right, with the block at which they start
  record Right (g r c : ℕ) : Type 0 where
    pub bits : List Bool
    pub start : ℕ
    pub early : start ≤ c
    pub starts : Starts h (suc g) (r / 2) start
    pub sum : (y : List Bool) → cond (even r) (summary_of y) (join_of (entry h w (r - 1)) (summary_of y)) ≡ summary_of (bits ++ y)
    pub part : (a : ℕ) → a ≤ start → mid w a c ≡ mid w a start ++ bits

  right : {f g r c : ℕ} → Level h (suc f) g r → Starts h g r c → Right g r c
  right {f} {g} {r} {c} l b = by_test (even r)
      (λ v. record {
        bits = [];
        start = c;
        early = omega arith;
        starts = starts_even v b;
        sum = λ y. rw v;
        part = λ a o. sym (append-nil (mid w a c));
      })
      (λ v. let u = starts_odd l v b in record {
        bits = stretch w g (c - 2 ^ g);
        start = c - 2 ^ g;
        early = omega arith;
        starts = u.above;
        sum = λ y. rw (v, stands h w (level_before l (even_no r v)) u.before, summary_append);
        part = λ a o. ap (mid w a) u.is ∙ mid_right w g a (c - 2 ^ g) o;
      })

  -- entry k ends before block a, entry r starts at block c; x and y are the bits outside, whose summaries are joined already
  abbrev Up : ℕ → Type 0
  Up f = (g k r a c : ℕ) (x y : List Bool) (n : ℕ) → Level h f g k → Level h f g r → k < r → Ends h g k a → Starts h g r c
      → ((range_up (entry h w) f k r (summary_of x) (summary_of y) n).0 ≡ summary_of (x ++ (mid w a c ++ y)))
      × ((range_up (entry h w) f k r (summary_of x) (summary_of y) n).1 ≤ n + 2 * (f - 1))

  up_zero : Up 0
  up_zero g k r a c x y n l m b p q = absurd (omega (arith, l.low, m.high))

  stop : (a c : ℕ) (x y : List Bool) → a ≡ c → join_of (summary_of x) (summary_of y) ≡ summary_of (x ++ (mid w a c ++ y))
  stop a c x y e = rw (mid_none w a c e) (sym (summary_append x y))

  met : (g k r a c : ℕ) → k < r → Ends h g k a → Starts h g r c → k / 2 ≡ r / 2 → a ≡ c
  met g k r a c b p q e = omega (arith, p.at, q.at, ap (λ j. j * 2 ^ g) (let o : r ≡ suc k = omega arith in o))

  ordered : (g k r a c : ℕ) → Ends h g k a → Starts h g r c → k < r → a ≤ c
  ordered g k r a c p q b = omega (arith, p.at, q.at, mul-le-mul_right (2 ^ g) b)

  -- entry 1 stands alone on its level
  apart : {f g k r : ℕ} → Level h f g k → Level h f g r → k < r → 1 ≤ f
  apart {f} {g} {k} {r} l m b = go f l.low m.high
    where
      go : (f : ℕ) → 2 ^ f ≤ k → r < 2 ^ suc f → 1 ≤ f
      go zero p q = absurd (omega arith)
      go (suc f) p q = omega arith

  regroup : (x u v y s : List Bool) → (x ++ u) ++ (s ++ (v ++ y)) ≡ x ++ ((u ++ (s ++ v)) ++ y)
  regroup x u v y s = simp append_assoc

  few : (k r : ℕ) → cond (even k) 1 0 + cond (even r) 0 1 ≤ 2
  few k r = by_test (even k)
      (λ v. by_test (even r) (λ u. rw (v, u) (omega arith)) (λ u. rw (v, u) (omega arith)))
      (λ v. by_test (even r) (λ u. rw (v, u) (omega arith)) (λ u. rw (v, u) (omega arith)))

  differ : (i j : ℕ) → eqb i j ≡ false → i ≡ j → ⊥
  differ i j e d = true≢false (sym (eq-eqb i j d) ∙ e)

  -- the bits between, after a step on both sides
  around : {g k r a c : ℕ} (x y : List Bool) (u : Left g k a) (v : Right g r c) → u.end ≤ v.start
      → (x ++ u.bits) ++ (mid w u.end v.start ++ (v.bits ++ y)) ≡ x ++ (mid w a c ++ y)
  around {g} {k} {r} {a} {c} x y u v o = regroup x u.bits v.bits y (mid w u.end v.start) ∙ ap (λ (s : List Bool). x ++ (s ++ y)) (sym whole)
    where
      whole : mid w a c ≡ u.bits ++ (mid w u.end v.start ++ v.bits)
      whole = u.part c (omega (arith, v.early)) ∙ ap (λ (s : List Bool). u.bits ++ s) (v.part u.end o)

  up_suc : (f : ℕ) → Up f → Up (suc f)
  unfolding range_up
  up_suc f ih g k r a c x y n l m b p q = by_test (eqb (k / 2) (r / 2))
      (λ e. rw e (stop a c x y (met g k r a c b p q (eqb→eq (k / 2) (r / 2) (true_T e))), omega arith))
      (λ e. rw e (on (omega (arith, differ (k / 2) (r / 2) e)) (left l p) (right m q)))
    where
      on : k / 2 < r / 2 → (u : Left g k a) (v : Right g r c)
          → ((range_up (entry h w) f (k / 2) (r / 2) (cond (even k) (join_of (summary_of x) (entry h w (k + 1))) (summary_of x))
          (cond (even r) (summary_of y) (join_of (entry h w (r - 1)) (summary_of y))) (n + (cond (even k) 1 0 + cond (even r) 0 1))).0
          ≡ summary_of (x ++ (mid w a c ++ y)))
          × ((range_up (entry h w) f (k / 2) (r / 2) (cond (even k) (join_of (summary_of x) (entry h w (k + 1))) (summary_of x))
          (cond (even r) (summary_of y) (join_of (entry h w (r - 1)) (summary_of y))) (n + (cond (even k) 1 0 + cond (even r) 0 1))).1
          ≤ n + 2 * (suc f - 1))
      on o u v =
          let i = ih (suc g) (k / 2) (r / 2) u.end v.start (x ++ u.bits) (v.bits ++ y) (n + (cond (even k) 1 0 + cond (even r) 0 1))
          (level_up l) (level_up m) o u.ends v.starts in
          rw (u.sum x, v.sum y) (
            i.0 ∙ ap summary_of (around x y u v (ordered (suc g) (k / 2) (r / 2) u.end v.start u.ends v.starts o)),
            omega (arith, i.1, few k r, apart (level_up l) (level_up m) o),
          )

  up : (f : ℕ) → Up f
  up zero = up_zero
  up (suc f) = up_suc f (up f)

  -- bits a up to c + 1
  module _ (m : length w ≤ 256 * 2 ^ h) (a c : ℕ) (o : a ≤ c) (b : c < length w) where
    pieces : a / 256 < c / 256 → ahead w a ++ (mid w (suc (a / 256)) (c / 256) ++ up_to w c) ≡ take (suc c - a) (drop a w)
    pieces l =
        let e : suc c - a ≡ (256 - a % 256) + (256 * (c / 256 - suc (a / 256)) + suc (c % 256)) = omega arith in
        let d : a + (256 - a % 256) ≡ 256 * suc (a / 256) = omega arith in
        let i : 256 * suc (a / 256) + 256 * (c / 256 - suc (a / 256)) ≡ 256 * (c / 256) = omega arith in
        rw (
          e,
          take-add (256 - a % 256) (256 * (c / 256 - suc (a / 256)) + suc (c % 256)) (drop a w),
          drop-drop,
          d,
          take-add (256 * (c / 256 - suc (a / 256))) (suc (c % 256)) (drop (256 * suc (a / 256)) w),
          drop-drop,
          i,
        )

    both : ((range h w a (suc c)).0 ≡ summary_of (take (suc c - a) (drop a w))) × ((range h w a (suc c)).1 ≤ 2 * (h - 1))
    unfolding range
    both =
        let z : suc c - 1 ≡ c = omega arith in
        rw z (by_test (eqb (a / 256) (c / 256))
        (λ e. rw e (refl, omega arith))
        (λ e. let l : a / 256 < c / 256 = omega (arith, differ (a / 256) (c / 256) e) in
        let i = up h 0 (2 ^ h + a / 256) (2 ^ h + c / 256) (suc (a / 256)) (c / 256) (ahead w a) (up_to w c) 0
        (leaf_level h (length w) a m (omega arith)) (leaf_level h (length w) c m b) (omega arith) (leaf_ends h (a / 256))
        (leaf_starts h (c / 256)) in
        rw e (i.0 ∙ ap summary_of (pieces l), omega (arith, i.1))))

  module _ (m : length w ≤ 256 * 2 ^ h) where
    -- "the summary of bits a up to b"
    pub range_is : (a b : ℕ) → a < b → b ≤ length w → (range h w a b).0 ≡ summary_of (take (b - a) (drop a w))
    range_is a zero o l = absurd (omega arith)
    range_is a (suc c) o l = (both m a c (omega arith) l).0

    pub range_reads : (a b : ℕ) → a < b → b ≤ length w → (range h w a b).1 ≤ 2 * h - 2
    range_reads a zero o l = absurd (omega arith)
    range_reads a (suc c) o l = omega (arith, (both m a c (omega arith) l).1)
