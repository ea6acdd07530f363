-- The way down: what is left of it from here gives what the whole gives.
-- Where the state stands in the index tells that the left child's length and total make a sum that isn't negative.
use mathlib.Core.Path.{◌≡◌, refl, sym, ap, ◌∙◌}
use mathlib.Core.Bool.{Bool, true, false}
use mathlib.Core.List.{List}
use Prim.Native.Nat.{ℕ, zero, suc, ◌+◌, ◌-◌, ◌*◌, ◌/◌, ◌^◌, ◌≤◌, ◌<◌, min}
use native.Mathlib.Nat.{two-pow-succ, one-le-pow}
use lib.Dec.{ltb}
use lib.ListN.{length, take, drop, length-take, length-drop}
use lib.IntN.{pos, ◌+ℤ◌}
use lib.Signed.{◌≤ℤ◌}
use Rattle.word.specs.Signed.{P}
use Rattle.word.specs.Bits.{bits}
use Rattle.word.specs.declared.row.Row.{Row}
use Rattle.word.specs.Row.{word_of}
use Rattle.word.proofs.Bits.{length_bits}
use Rattle.word.proofs.Signed.{zarith, by_test}
use Rattle.summary.specs.declared.Summary.{Summary}
use Rattle.summary.specs.Stretch.{summary_of}
use Rattle.summary.proofs.Meaning.{total_is, opens_twice}
use Rattle.index.specs.Shape.{height, entry}
use Rattle.index.proofs.Height.{leaves_few, height_small}
use Rattle.index.proofs.Level.{Level, level_left, level_right, level_high, below_leaves}
use Rattle.walk.specs.Scan.{nth}
use Rattle.walk.specs.declared.lineage.Lineage.{Lineage}
use Rattle.walk.proofs.Stretches.{block_is}
use Rattle.walk.proofs.Places.{Starts, left_starts, right_starts, stands}
use Rattle.walk.specs.Select.{seek, openings, select_down, leaf_nth, select}
use Rattle.select.specs.declared.Sink.{Sink}
use Rattle.select.specs.Sink.{sum_of, sunk, Over}

-- one step of the definition
module _ (e : ℕ → Summary) (m g k a r n : ℕ) where
  go_left : ltb r (openings m g a (e (2 * k))) ≡ true → select_down e m (suc g) k a r n ≡ select_down e m g (2 * k) a r (n + 1)
  unfolding select_down
  go_left y = rw y

  go_right : ltb r (openings m g a (e (2 * k))) ≡ false → select_down e m (suc g) k a r n
      ≡ select_down e m g (2 * k + 1) (a + 2 ^ g) (r - openings m g a (e (2 * k))) (n + 1)
  unfolding select_down
  go_right y = rw y

  at_leaf : select_down e m zero k a r n ≡ seek k a r n
  unfolding select_down
  at_leaf = refl

select_is : (row : Row) (r : ℕ) → leaf_nth (word_of row) (select_down (entry (height row.m) (word_of row)) row.m (height row.m) 1 0 r 0)
    ≡ select (height row.m) (word_of row) r
unfolding select
select_is row r = ap (λ (n : ℕ). leaf_nth (word_of row) (select_down (entry (height row.m) (word_of row)) n (height row.m) 1 0 r 0))
    (sym (length_bits row.bytes.now 0 row.m))

-- of a stretch of the word, the sum of length and total is twice its openings
sum_twice : (w : List Bool) (n i : ℕ) (s : Summary) → s ≡ summary_of (take n (drop i w)) → pos 0 ≤ℤ (pos (min n (length w - i)) +ℤ s.total)
sum_twice w n i s e =
    let x : List Bool = take n (drop i w) in
    let l : length x ≡ min n (length w - i) = omega (zarith, length-take n (drop i w), length-drop i w) in
    rw (e, total_is, ← l, ← opens_twice x) (omega zarith)

pub record Kept (row : Row) (r : ℕ) (v : Sink) : Type 0 where
  pub f : ℕ
  pub g : ℕ
  pub level : Level (height row.m) f g v.entry
  pub starts : Starts (height row.m) g v.entry v.block
  pub wide : v.width ≡ 2 ^ g
  pub count : v.reads ≤ f
  pub is : select_down (entry (height row.m) (word_of row)) row.m g v.entry v.block v.number v.reads
      ≡ select_down (entry (height row.m) (word_of row)) row.m (height row.m) 1 0 r 0

module _ (lin : Lineage) (r : ℕ) where
  abbrev entry_of : ℕ → Summary
  entry_of = entry (height lin.row.m) (word_of lin.row)

  module _ (v : Sink) (kept : Kept lin.row r v) where
    -- the blocks under the entry are among the leaves
    blocks_inside : v.block + v.width ≤ 2 ^ height lin.row.m
    blocks_inside = omega (zarith, kept.wide, kept.starts.at, level_high kept.level)

    pub block_near : v.block ≤ 8192
    block_near = omega (zarith, blocks_inside, leaves_few lin.row.m lin.lent.small)

    pub kept_end : v.width ≤ 1 → (to : ℕ) → to ≡ min (256 * (v.block + 1)) lin.row.m
        → (nth (256 * v.block) (bits lin.row.bytes.now (256 * v.block) (to - 256 * v.block)) v.number, v.reads)
        ≡ select (height lin.row.m) (word_of lin.row) r
    kept_end b to e = go kept.g kept.wide kept.is
      where
        go : (g : ℕ) → v.width ≡ 2 ^ g → select_down entry_of lin.row.m g v.entry v.block v.number v.reads
            ≡ select_down entry_of lin.row.m (height lin.row.m) 1 0 r 0
            → (nth (256 * v.block) (bits lin.row.bytes.now (256 * v.block) (to - 256 * v.block)) v.number, v.reads)
            ≡ select (height lin.row.m) (word_of lin.row) r
        go zero w i =
            ap (λ (x : List Bool). (nth (256 * v.block) x v.number, v.reads)) (sym (block_is lin.row.bytes.now lin.row.m v.block to e))
            ∙ ap (leaf_nth (word_of lin.row)) (sym (at_leaf entry_of lin.row.m 0 v.entry v.block v.number v.reads) ∙ i)
            ∙ select_is lin.row r
        go (suc g) w i = absurd (omega (zarith, two-pow-succ g, one-le-pow g 2 (omega zarith)))

    -- below an entry that is no leaf, g levels above the leaves
    module _ (g : ℕ) (level : Level (height lin.row.m) kept.f (suc g) v.entry) (starts : Starts (height lin.row.m) (suc g) v.entry v.block)
        (wide : v.width ≡ 2 ^ suc g) where
      half : v.width / 2 ≡ 2 ^ g
      half = omega (zarith, wide, two-pow-succ g)

      -- the left child read is the word's own
      sum_own : sum_of lin.index.now lin.row.m v ≡ pos (min (256 * 2 ^ g) (lin.row.m - 256 * v.block)) +ℤ (entry_of (2 * v.entry)).total
      sum_own = ap (λ (s : Summary). pos (min (256 * (v.width / 2)) (lin.row.m - 256 * v.block)) +ℤ s.total)
          (lin.lent.indexed.reads (2 * v.entry) (omega (zarith, below_leaves level))) ∙ rw half

      sum_over : pos 0 ≤ℤ sum_of lin.index.now lin.row.m v
      sum_over = rw sum_own
          (rw (length_bits lin.row.bytes.now 0 lin.row.m) at
          (sum_twice (word_of lin.row) (256 * 2 ^ g) (256 * v.block) (entry_of (2 * v.entry))
          (stands (height lin.row.m) (word_of lin.row) (level_left level) (left_starts starts))))

      over_at : Over lin.index.now lin.row.m v
      over_at = record {
        inside = omega (zarith, below_leaves level, lin.lent.indexed.long);
        small = lin.lent.small;
        near = omega (zarith, below_leaves level, leaves_few lin.row.m lin.lent.small);
        start = block_near;
        wide = omega (zarith, blocks_inside, leaves_few lin.row.m lin.lent.small);
        count = omega (zarith, kept.count, level.levels, height_small lin.row.m lin.lent.small);
        sum = sum_over;
      }

      module _ (i : select_down entry_of lin.row.m (suc g) v.entry v.block v.number v.reads
          ≡ select_down entry_of lin.row.m (height lin.row.m) 1 0 r 0) where
        on : Kept lin.row r (sunk lin.index.now lin.row.m v)
        on = by_test (ltb v.number (P (sum_of lin.index.now lin.row.m v) / 2))
            (λ y. rw y (record {
              f = suc kept.f;
              g = g;
              level = level_left level;
              starts = left_starts starts;
              wide = half;
              count = omega (zarith, kept.count);
              is = sym (go_left entry_of lin.row.m g v.entry v.block v.number v.reads (rw sum_own at y)) ∙ i;
            }))
            (λ y. rw y (record {
              f = suc kept.f;
              g = g;
              level = level_right level;
              starts = rw half (right_starts starts);
              wide = half;
              count = omega (zarith, kept.count);
              is = rw (sum_own, half) (sym (go_right entry_of lin.row.m g v.entry v.block v.number v.reads (rw sum_own at y)) ∙ i);
            }))

    -- the case of a leaf aside
    module _ (b : 1 < v.width) where
      pub over : Over lin.index.now lin.row.m v
      over = go kept.g kept.level kept.starts kept.wide
        where
          go : (g : ℕ) → Level (height lin.row.m) kept.f g v.entry → Starts (height lin.row.m) g v.entry v.block → v.width ≡ 2 ^ g
              → Over lin.index.now lin.row.m v
          go zero x y z = absurd (omega zarith)
          go (suc g) x y z = over_at g x y z

      pub kept_on : (u : Sink) → u ≡ sunk lin.index.now lin.row.m v → Kept lin.row r u
      kept_on u e = rw e (go kept.g kept.level kept.starts kept.wide kept.is)
        where
          go : (g : ℕ) → Level (height lin.row.m) kept.f g v.entry → Starts (height lin.row.m) g v.entry v.block → v.width ≡ 2 ^ g
              → select_down entry_of lin.row.m g v.entry v.block v.number v.reads
              ≡ select_down entry_of lin.row.m (height lin.row.m) 1 0 r 0 → Kept lin.row r (sunk lin.index.now lin.row.m v)
          go zero x y z i = absurd (omega zarith)
          go (suc g) x y z i = on g x y z i
