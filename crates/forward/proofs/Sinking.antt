-- One step of the way down: the left child is entered, or passed with its total taken off.
use mathlib.Core.Path.{◌≡◌}
use mathlib.Core.Bool.{true, false}
use Prim.Native.Nat.{ℕ, suc, ◌+◌, ◌*◌, ◌<◌}
use borrow.Author.Tests.{lt-leb}
use lib.IntN.{ℤ, ◌-ℤ◌}
use mir.Syntax.{w32}
use mir.Val.{SFits}
use Rattle.word.proofs.Signed.{zarith}
use Rattle.summary.specs.declared.Summary.{Summary}
use Rattle.walk.specs.declared.Counted.{Counted}
use Rattle.walk.specs.declared.Walk.{Walk}
use Rattle.walk.specs.Walk.{walk, seen, hit}
use Rattle.walk.specs.Forward.{descend}
use Rattle.walk.specs.Way.{Down}
use Rattle.walk.proofs.Amounts.{total_off}
use Rattle.forward.specs.Steps.{descent_of}

module _ (e : ℕ → Summary) (l k : ℕ) (t : ℤ) (n s : ℕ) (b : k < l) where
  below_hit : hit (e (2 * k)) t ≡ true → descend e l s (2 * k) t (n + 1) ≡ descend e l (suc s) k t n
  unfolding descend
  below_hit y = rw (lt-leb l k b, y)

  below_miss : hit (e (2 * k)) t ≡ false → descend e l s (2 * k + 1) (t -ℤ (e (2 * k)).total) (n + 1) ≡ descend e l (suc s) k t n
  unfolding descend
  below_miss y = rw (lt-leb l k b, y)

-- x is what was read of the left child of entry w
module _ (e : ℕ → Summary) (l : ℕ) (w : Walk) (b : w.entry < l) (x : Counted Summary) (q : x ≡ seen (e (2 * w.entry)) (w.reads + 1)) where
  pub left : hit x.value w.want ≡ true → (u : Walk) → u ≡ walk (2 * w.entry) w.want x.reads → Down (descent_of e l) w u
  left h u r = rw (r, q) (record {
    child = omega zarith;
    near = omega zarith;
    reads = omega zarith;
    on = λ s. below_hit e l w.entry w.want w.reads s b (rw q at h);
  })

  pub right : hit x.value w.want ≡ false → SFits w32 x.value.total → (u : Walk)
      → u ≡ walk (2 * w.entry + 1) (w.want -ℤ x.value.total) x.reads → Down (descent_of e l) w u
  right h o u r = rw (r, q) (record {
    child = omega zarith;
    near = total_off w.want (e (2 * w.entry)).total (rw q at o.sfits);
    reads = omega zarith;
    on = λ s. below_miss e l w.entry w.want w.reads s b (rw q at h);
  })
