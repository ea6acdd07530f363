-- One step of the climb: at an entry before which there is a hit, and at one before which there is none.
-- What is added at an even entry, where nothing is read, is the empty summary's total.
use mathlib.Core.Path.{◌≡◌, refl, sym, ◌∙◌}
use mathlib.Core.Bool.{true, false}
use Prim.Native.Nat.{ℕ, suc, ◌-◌, ◌/◌, ◌<◌}
use borrow.Author.Tests.{ne_eqb}
use lib.IntN.{ℤ, ◌+ℤ◌}
use mir.Syntax.{w32}
use mir.Val.{SFits}
use Rattle.word.proofs.Signed.{zarith, by_test, true≢false}
use Rattle.summary.specs.declared.Summary.{Summary}
use Rattle.summary.specs.Join.{empty_of}
use Rattle.index.specs.Shape.{even}
use Rattle.walk.specs.declared.Counted.{Counted}
use Rattle.walk.specs.declared.Walk.{Walk}
use Rattle.walk.specs.declared.Climb.TheVariants.{Enter}
use Rattle.walk.specs.Walk.{walk}
use Rattle.walk.specs.Backward.{hit_back, climb_back}
use Rattle.walk.specs.Way.{Up, Into}
use Rattle.walk.specs.Beside.{before_of}
use Rattle.walk.proofs.Amounts.{empty_on, total_on}
use Rattle.walk.proofs.Beside.{before_reads}
use Rattle.walk.proofs.Hit.{empty_missed}
use Rattle.backward.specs.Steps.{climb_of}

module _ (e : ℕ → Summary) (k : ℕ) (t : ℤ) (n : ℕ) (d : 1 < k) where
  odd_hit : hit_back (before_of e k n).value t ≡ true → even k ≡ false
  odd_hit h = by_test (even k) (λ v. absurd (true≢false (sym (rw v at h) ∙ empty_missed (t +ℤ empty_of.total)))) (λ v. v)

  at_hit : (s : ℕ) → hit_back (before_of e k n).value t ≡ true → Enter (walk (k - 1) t (before_of e k n).reads) ≡ climb_back e (suc s) k t n
  unfolding climb_back
  at_hit s h = let v = odd_hit h in rw (ne_eqb k 1 (omega zarith), v, rw v at h)

  at_miss : (s : ℕ) → hit_back (before_of e k n).value t ≡ false
      → climb_back e s (k / 2) (t +ℤ (before_of e k n).value.total) (before_of e k n).reads ≡ climb_back e (suc s) k t n
  unfolding climb_back
  at_miss s h = by_test (even k) (λ v. rw (ne_eqb k 1 (omega zarith), v, empty_on)) (λ v. rw (ne_eqb k 1 (omega zarith), v, rw v at h))

-- x is what was read beside entry w
module _ (e : ℕ → Summary) (w : Walk) (d : 1 < w.entry) (x : Counted Summary) (q : x ≡ before_of e w.entry w.reads) where
  pub into : hit_back x.value w.want ≡ true → (u : Walk) → u ≡ walk (w.entry - 1) w.want x.reads → Into (climb_of e) w u
  into h u r = rw (r, q) (record {
    above = omega zarith;
    beside = omega zarith;
    want = refl;
    reads = before_reads e w.entry w.reads;
    is = λ s. at_hit e w.entry w.want w.reads d s (rw q at h);
  })

  pub past : hit_back x.value w.want ≡ false → SFits w32 x.value.total → (u : Walk)
      → u ≡ walk (w.entry / 2) (w.want +ℤ x.value.total) x.reads → Up (climb_of e) w u
  past h o u r = rw (r, q) (record {
    half = refl;
    near = total_on w.want (before_of e w.entry w.reads).value.total (rw q at o.sfits);
    reads = before_reads e w.entry w.reads;
    on = λ s. at_miss e w.entry w.want w.reads d s (rw q at h);
  })
