-- The climb of the prefix walk: what is left of it from here gives what the whole gives.
-- The numbers have room for it: a total adds at most 2 ^ 31, and each step at least halves the entry.
use mathlib.Core.Path.{◌≡◌, refl, sym, ap, ◌∙◌}
use Prim.Native.Nat.{ℕ, zero, suc, ◌+◌, ◌-◌, ◌*◌, ◌/◌, ◌%◌, ◌^◌, ◌≤◌, ◌<◌}
use native.Mathlib.Nat.{two-pow-succ}
use borrow.Author.Tests.{eq-eqb, ne_eqb}
use lib.ListN.{drop, length-take}
use lib.IntN.{ℤ, nat_abs, ◌+ℤ◌}
use lib.Signed.{mag}
use mir.Syntax.{w32}
use mir.Val.{SFits}
use Rattle.word.proofs.Signed.{zarith, by_test}
use Rattle.word.specs.Bits.{bits}
use Rattle.word.specs.declared.row.Row.{Row}
use Rattle.word.specs.Row.{word_of}
use Rattle.summary.specs.declared.Summary.{Summary}
use Rattle.summary.specs.Stretch.{depth_of}
use Rattle.index.specs.Shape.{height, entry, even}
use Rattle.index.specs.Lent.{entry_at}
use Rattle.index.proofs.Height.{height_reaches, leaves_few}
use Rattle.walk.specs.declared.lineage.Lineage.{Lineage}
use Rattle.walk.specs.declared.Counted.{Counted}
use Rattle.walk.specs.declared.Walk.{Walk}
use Rattle.walk.specs.Walk.{walk}
use Rattle.walk.specs.Beside.{before_of}
use Rattle.walk.specs.Prefix.{prefix_up, prefix}
use Rattle.walk.specs.Scan.{behind}
use Rattle.walk.proofs.Amounts.{empty_on, depth_abs, total_on}
use Rattle.walk.proofs.Beside.{before_reads, before_own}
use Rattle.walk.proofs.Signed64.{wb}
use Rattle.walk.proofs.Machine.{back64, small_back}
use Rattle.walk.proofs.Stretches.{behind_is}

-- what the climb gives from where it stands, in s steps: the amount in the state is the depth gathered
abbrev up_from : (ℕ → Summary) → ℕ → Walk → ℤ × ℕ
up_from e s w = prefix_up e s w.entry w.want w.reads

-- to the entry above, with x seen beside entry w
abbrev above_of : Walk → Counted Summary → Walk
above_of w x = walk (w.entry / 2) (w.want +ℤ x.value.total) x.reads

module _ (e : ℕ → Summary) (w : Walk) where
  at_top : (s : ℕ) → w.entry ≡ 1 → (w.want, w.reads) ≡ up_from e s w
  unfolding prefix_up
  at_top zero o = refl
  at_top (suc s) o = rw (eq-eqb w.entry 1 o)

  -- where nothing is read, the empty summary's total is added
  at_step : (s : ℕ) → 1 < w.entry → up_from e s (above_of w (before_of e w.entry w.reads)) ≡ up_from e (suc s) w
  unfolding prefix_up
  at_step s o = by_test (even w.entry)
      (λ y. rw (ne_eqb w.entry 1 (omega zarith), y, empty_on))
      (λ y. rw (ne_eqb w.entry 1 (omega zarith), y))

-- rest steps are left; the numbers have room for what they can add
pub record Kept (row : Row) (p : ℕ) (w : Walk) : Type 0 where
  pub rest : ℕ
  pub above : 0 < w.entry
  pub below : w.entry < 2 ^ suc rest
  pub inside : w.entry < 2 * 2 ^ height row.m
  pub room : nat_abs w.want + 2147483648 * w.entry ≤ 1152921504606846976
  pub count : w.reads + w.entry ≤ 1073741824
  pub is : up_from (entry (height row.m) (word_of row)) rest w ≡ prefix (height row.m) (word_of row) p

module _ (lin : Lineage) (p : ℕ) where
  abbrev whole : ℤ × ℕ
  whole = prefix (height lin.row.m) (word_of lin.row) p

  abbrev entry_of : ℕ → Summary
  entry_of = entry (height lin.row.m) (word_of lin.row)

  few : 2 ^ height lin.row.m ≤ 8192
  few = leaves_few lin.row.m lin.lent.small

  pub kept_start : (d : ℤ) → p < lin.row.m → mag d < 9223372036854775808
      → d ≡ depth_of (bits lin.row.bytes.now (256 * (p / 256)) (p - 256 * (p / 256)))
      → Kept lin.row p (walk (lin.l + p / 256) (wb d) 0)
  unfolding prefix
  kept_start d b o e = record {
    rest = height lin.row.m;
    above = omega (zarith, height_reaches lin.row.m, lin.lent.leaves);
    below = omega (zarith, height_reaches lin.row.m, lin.lent.leaves, two-pow-succ (height lin.row.m));
    inside = omega (zarith, height_reaches lin.row.m, lin.lent.leaves);
    room = rw near (omega (zarith, few, lin.lent.leaves, height_reaches lin.row.m, start_near));
    count = omega (zarith, few, lin.lent.leaves, height_reaches lin.row.m);
    is = rw (near, lin.lent.leaves);
  }
    where
      near : wb d ≡ depth_of (behind (word_of lin.row) p)
      near = back64 d o ∙ e ∙ ap depth_of (sym (behind_is lin.row.bytes.now lin.row.m p b))

      start_near : nat_abs (depth_of (behind (word_of lin.row) p)) ≤ 256
      start_near = depth_abs 256 (behind (word_of lin.row) p)
          (omega (zarith, length-take (p % 256) (drop (256 * (p / 256)) (word_of lin.row))))

  module _ (w : Walk) (kept : Kept lin.row p w) where
    pub kept_end : w.entry ≤ 1 → (wb w.want, w.reads) ≡ whole
    kept_end o = rw (small_back w.want (omega (zarith, kept.room))) (at_top entry_of w kept.rest (omega (zarith, kept.above)) ∙ kept.is)

    module _ (o : 1 < w.entry) (x : Counted Summary) (q : x ≡ before_of (entry_at lin.index.now) w.entry w.reads)
        (f : SFits w32 x.value.total)
        (u : Walk) (r : u ≡ above_of w x) where
      own : x ≡ before_of entry_of w.entry w.reads
      own = q ∙ before_own lin.row.bytes.now lin.index.now lin.row.m lin.l lin.lent w.entry w.reads
          (omega (zarith, kept.inside, lin.lent.leaves))

      halved : u.entry ≡ w.entry / 2
      halved = rw r

      counted : u.reads ≤ w.reads + 1
      counted = rw (r, own) (before_reads entry_of w.entry w.reads)

      near : nat_abs u.want ≤ nat_abs w.want + 2147483648
      near = rw r (total_on w.want x.value.total f.sfits)

      step_on : (s : ℕ) → up_from entry_of s u ≡ up_from entry_of (suc s) w
      step_on s = rw (r, own) (at_step entry_of w s o)

      pub kept_on : Kept lin.row p u
      kept_on = go kept.rest kept.below kept.is
        where
          go : (s : ℕ) → w.entry < 2 ^ suc s → up_from entry_of s w ≡ whole → Kept lin.row p u
          go zero b i = absurd (omega zarith)
          go (suc s) b i = record {
            rest = s;
            above = omega (zarith, halved);
            below = omega (zarith, halved, two-pow-succ (suc s));
            inside = omega (zarith, halved, kept.inside);
            room = omega (zarith, halved, near, kept.room);
            count = omega (zarith, halved, counted, kept.count);
            is = step_on s ∙ i;
          }
