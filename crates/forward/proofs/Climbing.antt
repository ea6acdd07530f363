-- One step of the climb: at an entry beside which there is a hit, and at one beside which there is none.
-- What is taken off at an odd entry, where nothing is read, is the empty summary's total.
use mathlib.Core.Path.{◌≡◌, refl, sym, ◌∙◌}
use mathlib.Core.Bool.{true, false}
use Prim.Native.Nat.{ℕ, suc, ◌+◌, ◌/◌, ◌<◌}
use borrow.Author.Tests.{ne_eqb}
use lib.IntN.{ℤ, ◌-ℤ◌}
use mir.Syntax.{w32}
use mir.Val.{SFits}
use Rattle.word.proofs.Signed.{zarith, by_test, true≢false}
use Rattle.summary.specs.declared.Summary.{Summary}
use Rattle.index.specs.Shape.{even}
use Rattle.walk.specs.declared.Counted.{Counted}
use Rattle.walk.specs.declared.Walk.{Walk}
use Rattle.walk.specs.declared.Climb.TheVariants.{Enter}
use Rattle.walk.specs.Walk.{walk, hit}
use Rattle.walk.specs.Forward.{climb}
use Rattle.walk.specs.Way.{Up, Into}
use Rattle.walk.specs.Beside.{after_of}
use Rattle.walk.proofs.Amounts.{empty_off, total_off}
use Rattle.walk.proofs.Beside.{after_reads}
use Rattle.walk.proofs.Hit.{empty_missed}
use Rattle.forward.specs.Steps.{climb_of}

module _ (e : ℕ → Summary) (k : ℕ) (t : ℤ) (n : ℕ) (d : 1 < k) where
  even_hit : hit (after_of e k n).value t ≡ true → even k ≡ true
  even_hit h = by_test (even k) (λ v. v) (λ v. absurd (true≢false (sym (rw v at h) ∙ empty_missed t)))

  at_hit : (s : ℕ) → hit (after_of e k n).value t ≡ true → Enter (walk (k + 1) t (after_of e k n).reads) ≡ climb e (suc s) k t n
  unfolding climb
  at_hit s h = let v = even_hit h in rw (ne_eqb k 1 (omega zarith), v, rw v at h)

  at_miss : (s : ℕ) → hit (after_of e k n).value t ≡ false → climb e s (k / 2) (t -ℤ (after_of e k n).value.total) (after_of e k n).reads
      ≡ climb e (suc s) k t n
  unfolding climb
  at_miss s h = by_test (even k) (λ v. rw (ne_eqb k 1 (omega zarith), v, rw v at h)) (λ v. rw (ne_eqb k 1 (omega zarith), v, empty_off))

-- x is what was read beside entry w
module _ (e : ℕ → Summary) (w : Walk) (d : 1 < w.entry) (x : Counted Summary) (q : x ≡ after_of e w.entry w.reads) where
  pub into : hit x.value w.want ≡ true → (u : Walk) → u ≡ walk (w.entry + 1) w.want x.reads → Into (climb_of e) w u
  into h u r = rw (r, q) (record {
    above = omega zarith;
    beside = omega zarith;
    want = refl;
    reads = after_reads e w.entry w.reads;
    is = λ s. at_hit e w.entry w.want w.reads d s (rw q at h);
  })

  pub past : hit x.value w.want ≡ false → SFits w32 x.value.total → (u : Walk) → u ≡ walk (w.entry / 2) (w.want -ℤ x.value.total) x.reads
      → Up (climb_of e) w u
  past h o u r = rw (r, q) (record {
    half = refl;
    near = total_off w.want (after_of e w.entry w.reads).value.total (rw q at o.sfits);
    reads = after_reads e w.entry w.reads;
    on = λ s. at_miss e w.entry w.want w.reads d s (rw q at h);
  })
