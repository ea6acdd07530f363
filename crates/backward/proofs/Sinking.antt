-- One step of the way down: the right child is entered, or passed with its total added.
use mathlib.Core.Path.{◌≡◌}
use mathlib.Core.Bool.{true, false}
use Prim.Native.Nat.{ℕ, suc, ◌+◌, ◌*◌, ◌<◌}
use borrow.Author.Tests.{lt-leb}
use lib.IntN.{ℤ, ◌+ℤ◌}
use mir.Syntax.{w32}
use mir.Val.{SFits}
use Rattle.word.proofs.Signed.{zarith}
use Rattle.summary.specs.declared.Summary.{Summary}
use Rattle.walk.specs.declared.Counted.{Counted}
use Rattle.walk.specs.declared.Walk.{Walk}
use Rattle.walk.specs.Walk.{walk, seen}
use Rattle.walk.specs.Backward.{hit_back, descend_back}
use Rattle.walk.specs.Way.{Down}
use Rattle.walk.proofs.Amounts.{total_on}
use Rattle.backward.specs.Steps.{descent_of}

module _ (e : ℕ → Summary) (l k : ℕ) (t : ℤ) (n s : ℕ) (b : k < l) where
  below_hit : hit_back (e (2 * k + 1)) t ≡ true → descend_back e l s (2 * k + 1) t (n + 1) ≡ descend_back e l (suc s) k t n
  unfolding descend_back
  below_hit y = rw (lt-leb l k b, y)

  below_miss : hit_back (e (2 * k + 1)) t ≡ false → descend_back e l s (2 * k) (t +ℤ (e (2 * k + 1)).total) (n + 1)
      ≡ descend_back e l (suc s) k t n
  unfolding descend_back
  below_miss y = rw (lt-leb l k b, y)

-- x is what was read of the right child of entry w
module _ (e : ℕ → Summary) (l : ℕ) (w : Walk) (b : w.entry < l) (x : Counted Summary)
    (q : x ≡ seen (e (2 * w.entry + 1)) (w.reads + 1)) where
  pub right : hit_back x.value w.want ≡ true → (u : Walk) → u ≡ walk (2 * w.entry + 1) w.want x.reads → Down (descent_of e l) w u
  right h u r = rw (r, q) (record {
    child = omega zarith;
    near = omega zarith;
    reads = omega zarith;
    on = λ s. below_hit e l w.entry w.want w.reads s b (rw q at h);
  })

  pub left : hit_back x.value w.want ≡ false → SFits w32 x.value.total → (u : Walk)
      → u ≡ walk (2 * w.entry) (w.want +ℤ x.value.total) x.reads → Down (descent_of e l) w u
  left h o u r = rw (r, q) (record {
    child = omega zarith;
    near = total_on w.want (e (2 * w.entry + 1)).total (rw q at o.sfits);
    reads = omega zarith;
    on = λ s. below_miss e l w.entry w.want w.reads s b (rw q at h);
  })
