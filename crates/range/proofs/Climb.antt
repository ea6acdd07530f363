-- The climb of the range walk: what is left of it from here gives what the whole gives.
-- Either side stays small, so that every join has room.
use mathlib.Core.Path.{◌≡◌, refl, sym, ap, ap₂, ◌∙◌}
use mathlib.Core.Bool.{cond}
use Prim.Native.Nat.{ℕ, zero, suc, ◌+◌, ◌-◌, ◌*◌, ◌/◌, ◌^◌, ◌≤◌, ◌<◌}
use native.Mathlib.Omega.{arith}
use native.Mathlib.Nat.{one-le-pow, mul-le-mul_left}
use borrow.Author.Tests.{eq-eqb, ne_eqb}
use Rattle.word.specs.Bits.{bits}
use Rattle.word.specs.declared.row.Row.{Row}
use Rattle.word.specs.Row.{word_of}
use Rattle.word.proofs.Signed.{by_test}
use Rattle.word.proofs.Bits.{length_bits}
use Rattle.summary.specs.declared.Summary.{Summary}
use Rattle.summary.specs.Bound.{Bounded}
use Rattle.summary.specs.Stretch.{summary_of}
use Rattle.summary.specs.Join.{join_of}
use Rattle.summary.proofs.Join.{join_empty_left}
use Rattle.index.specs.Shape.{height, entry, even}
use Rattle.index.specs.Lent.{entry_at}
use Rattle.index.proofs.Height.{height_reaches, height_small}
use Rattle.index.proofs.Level.{Level, even_yes, even_no, level_up, level_next, level_before, level_high}
use Rattle.walk.specs.declared.Counted.{Counted}
use Rattle.walk.specs.Beside.{after_of, before_of}
use Rattle.walk.specs.declared.lineage.Lineage.{Lineage}
use Rattle.walk.specs.Range.{range_up, range}
use Rattle.walk.proofs.Beside.{after_reads, before_reads, after_same, before_same}
use Rattle.walk.proofs.Places.{leaf_level}
use Rattle.walk.proofs.Stretches.{between_is, ahead_is, up_to_is}
use Rattle.range.specs.declared.Span.{Span}
use Rattle.range.specs.Span.{span, joined, Joins}
use Rattle.range.proofs.Small.{Small, small_bounded, small_empty, small_join, joins_empty, small_entry}

-- ---- one step of the definition
module _ (e : ℕ → Summary) (k r : ℕ) (x y : Summary) (n : ℕ) where
  at_end : (s : ℕ) → k / 2 ≡ r / 2 → (join_of x y, n) ≡ range_up e s k r x y n
  unfolding range_up
  at_end zero d = refl
  at_end (suc s) d = rw (eq-eqb (k / 2) (r / 2) d)

  -- where nothing is read, the empty summary is joined
  left_is : (g : ℕ) → Small g x → join_of x (after_of e k n).value ≡ cond (even k) (join_of x (e (k + 1))) x
  left_is g p = by_test (even k) (λ v. rw v) (λ v. rw (v, joins_empty g x p))

  right_is : (i : ℕ) → join_of (before_of e r i).value y ≡ cond (even r) y (join_of (e (r - 1)) y)
  right_is i = by_test (even r) (λ v. rw (v, join_empty_left)) (λ v. rw v)

  reads_are : (before_of e r (after_of e k n).reads).reads ≡ n + (cond (even k) 1 0 + cond (even r) 0 1)
  reads_are = by_test (even k)
      (λ v. by_test (even r) (λ u. rw (v, u) (omega arith)) (λ u. rw (v, u) (omega arith)))
      (λ v. by_test (even r) (λ u. rw (v, u) (omega arith)) (λ u. rw (v, u) (omega arith)))

  at_step : (s g : ℕ) → Small g x → (k / 2 ≡ r / 2 → ⊥)
      → range_up e (suc s) k r x y n ≡ range_up e s (k / 2) (r / 2) (join_of x (after_of e k n).value)
      (join_of (before_of e r (after_of e k n).reads).value y) (before_of e r (after_of e k n).reads).reads
  unfolding range_up
  at_step s g p d = rw (ne_eqb (k / 2) (r / 2) d, left_is g p, right_is (after_of e k n).reads, reads_are)

few : (e : ℕ → Summary) (k r n : ℕ) → (before_of e r (after_of e k n).reads).reads ≤ n + 2
few e k r n = omega (arith, after_reads e k n, before_reads e r (after_of e k n).reads)

inside : {h f g k : ℕ} → Level h f g k → k < 2 * 2 ^ h
inside {h} {f} {g} {k} l = omega (arith, level_high l, mul-le-mul_left (suc k) (one-le-pow g 2 (omega arith)))

-- f levels are left to entry 1
pub record Kept (row : Row) (a b : ℕ) (v : Span) : Type 0 where
  pub f : ℕ
  pub g : ℕ
  pub lk : Level (height row.m) f g v.k
  pub lr : Level (height row.m) f g v.r
  pub order : v.k < v.r
  pub left : Small g v.left
  pub right : Small g v.right
  pub count : v.reads + 2 * f ≤ 26
  pub is : range_up (entry (height row.m) (word_of row)) f v.k v.r v.left v.right v.reads ≡ range (height row.m) (word_of row) a b

module _ (lin : Lineage) (a b : ℕ) where
  abbrev entry_of : ℕ → Summary
  entry_of = entry (height lin.row.m) (word_of lin.row)

  low : (f g : ℕ) → f + g ≡ height lin.row.m → g ≤ 13
  low f g e = omega (arith, height_small lin.row.m lin.lent.small)

  module _ (o : a < b) (p : b ≤ lin.row.m) where
    -- "Within one block, scan."
    pub near : (x : Summary) → a / 256 ≡ (b - 1) / 256 → x ≡ summary_of (bits lin.row.bytes.now a (b - a))
        → (x, 0) ≡ range (height lin.row.m) (word_of lin.row) a b
    unfolding range
    near x d e = rw (eq-eqb (a / 256) ((b - 1) / 256) d, between_is lin.row.bytes.now lin.row.m a b p, e)

    -- "Else scan the ends"
    module _ (x y : Summary) (d : a / 256 ≡ (b - 1) / 256 → ⊥) (e : x ≡ summary_of (bits lin.row.bytes.now a (256 * (a / 256 + 1) - a)))
        (i : y ≡ summary_of (bits lin.row.bytes.now (256 * ((b - 1) / 256)) (b - 256 * ((b - 1) / 256)))) where
      begins : range_up entry_of (height lin.row.m) (lin.l + a / 256) (lin.l + (b - 1) / 256) x y 0
          ≡ range (height lin.row.m) (word_of lin.row) a b
      unfolding range
      begins = let c : suc (b - 1) ≡ b = omega arith in
          rw (
            ne_eqb (a / 256) ((b - 1) / 256) d,
            ahead_is lin.row.bytes.now lin.row.m a (256 * (a / 256 + 1)) (omega arith) (omega arith),
            up_to_is lin.row.bytes.now lin.row.m (b - 1) (omega arith),
            c,
            e,
            i,
            lin.lent.leaves,
          )

      pub kept_start : Kept lin.row a b (span (lin.l + a / 256) (lin.l + (b - 1) / 256) x y 0)
      kept_start = record {
        f = height lin.row.m;
        g = 0;
        lk = rw lin.lent.leaves (leaf_level (height lin.row.m) lin.row.m a (height_reaches lin.row.m) (omega arith));
        lr = rw lin.lent.leaves (leaf_level (height lin.row.m) lin.row.m (b - 1) (height_reaches lin.row.m) (omega arith));
        order = omega arith;
        left = record {
          bits = bits lin.row.bytes.now a (256 * (a / 256 + 1) - a);
          is = e;
          short = omega (arith, length_bits lin.row.bytes.now a (256 * (a / 256 + 1) - a));
        };
        right = record {
          bits = bits lin.row.bytes.now (256 * ((b - 1) / 256)) (b - 256 * ((b - 1) / 256));
          is = i;
          short = omega (arith, length_bits lin.row.bytes.now (256 * ((b - 1) / 256)) (b - 256 * ((b - 1) / 256)));
        };
        count = omega (arith, height_small lin.row.m lin.lent.small);
        is = begins;
      }

  module _ (v : Span) (kept : Kept lin.row a b v) where
    pub bounded_left : Bounded 4194304 v.left
    bounded_left = small_bounded kept.g v.left (low kept.f kept.g kept.lk.levels) kept.left

    pub bounded_right : Bounded 4194304 v.right
    bounded_right = small_bounded kept.g v.right (low kept.f kept.g kept.lk.levels) kept.right

    pub kept_end : v.k / 2 ≡ v.r / 2 → (join_of v.left v.right, v.reads) ≡ range (height lin.row.m) (word_of lin.row) a b
    kept_end d = at_end entry_of v.k v.r v.left v.right v.reads kept.f d ∙ kept.is

    -- entry 1 stands alone on its level: so there is one above
    module _ (f : ℕ) (lk : Level (height lin.row.m) (suc f) kept.g v.k) (lr : Level (height lin.row.m) (suc f) kept.g v.r) where
      after_own : (n : ℕ) → after_of (entry_at lin.index.now) v.k n ≡ after_of entry_of v.k n
      after_own n = after_same (entry_at lin.index.now) v.k n entry_of
          (λ y. lin.lent.indexed.reads (v.k + 1) (inside (level_next lk (even_yes v.k y))))

      before_own : (n : ℕ) → before_of (entry_at lin.index.now) v.r n ≡ before_of entry_of v.r n
      before_own n = before_same (entry_at lin.index.now) v.r n entry_of
          (λ y. lin.lent.indexed.reads (v.r - 1) (inside (level_before lr (even_no v.r y))))

      joined_own : joined (entry_at lin.index.now) v ≡ joined entry_of v
      joined_own = ap₂ (λ (s t : Counted Summary). span (v.k / 2) (v.r / 2) (join_of v.left s.value) (join_of t.value v.right) t.reads)
          (after_own v.reads)
          (before_own (after_of (entry_at lin.index.now) v.k v.reads).reads
          ∙ ap (λ (s : Counted Summary). before_of entry_of v.r s.reads) (after_own v.reads))

      small_after : (n : ℕ) → Small kept.g (after_of entry_of v.k n).value
      small_after n = by_test (even v.k)
          (λ y. rw y (small_entry (height lin.row.m) (suc f) kept.g (v.k + 1) (word_of lin.row) (level_next lk (even_yes v.k y))))
          (λ y. rw y (small_empty kept.g))

      small_before : (n : ℕ) → Small kept.g (before_of entry_of v.r n).value
      small_before n = by_test (even v.r)
          (λ y. rw y (small_empty kept.g))
          (λ y. rw y (small_entry (height lin.row.m) (suc f) kept.g (v.r - 1) (word_of lin.row) (level_before lr (even_no v.r y))))

      joins_at : Joins lin.index.now v
      joins_at = record {
        long = omega (arith, inside lk, lin.lent.indexed.long);
        longer = omega (arith, inside lr, lin.lent.indexed.long);
        count = omega (arith, kept.count);
        left = bounded_left;
        right = bounded_right;
        after = λ n. rw (after_own n) (small_bounded kept.g _ (low (suc f) kept.g lk.levels) (small_after n));
        before = λ n. rw (before_own n) (small_bounded kept.g _ (low (suc f) kept.g lk.levels) (small_before n));
      }

      on : (v.k / 2 ≡ v.r / 2 → ⊥) → v.reads + 2 * suc f ≤ 26 → range_up entry_of (suc f) v.k v.r v.left v.right v.reads
          ≡ range (height lin.row.m) (word_of lin.row) a b
          → Kept lin.row a b (joined entry_of v)
      on d c i = record {
        f = f;
        g = suc kept.g;
        lk = level_up lk;
        lr = level_up lr;
        order = omega (arith, kept.order, d);
        left = small_join kept.g v.left _ kept.left (small_after v.reads);
        right = small_join kept.g _ v.right (small_before (after_of entry_of v.k v.reads).reads) kept.right;
        count = omega (arith, c, few entry_of v.k v.r v.reads);
        is = sym (at_step entry_of v.k v.r v.left v.right v.reads f kept.g kept.left d) ∙ i;
      }

    pub joins : Joins lin.index.now v
    joins = go kept.f kept.lk kept.lr
      where
        go : (f : ℕ) → Level (height lin.row.m) f kept.g v.k → Level (height lin.row.m) f kept.g v.r → Joins lin.index.now v
        go zero x y = absurd (omega (arith, x.low, y.high, kept.order))
        go (suc f) x y = joins_at f x y

    pub kept_on : (v.k / 2 ≡ v.r / 2 → ⊥) → (u : Span) → u ≡ joined (entry_at lin.index.now) v → Kept lin.row a b u
    kept_on d u e = go kept.f kept.lk kept.lr kept.count kept.is
      where
        go : (f : ℕ) → Level (height lin.row.m) f kept.g v.k → Level (height lin.row.m) f kept.g v.r → v.reads + 2 * f ≤ 26
            → range_up entry_of f v.k v.r v.left v.right v.reads ≡ range (height lin.row.m) (word_of lin.row) a b → Kept lin.row a b u
        go zero x y c i = absurd (omega (arith, x.low, y.high, kept.order))
        go (suc f) x y c i = rw (e ∙ joined_own f x y) (on f x y d c i)
