-- The entry beside another: at most one read, and the same by any two readers that agree there. What is lent is read as the word's own.
use mathlib.Core.Path.{◌≡◌, ap}
use mathlib.Core.Bool.{true, false}
use Prim.Native.Nat.{ℕ, ◌+◌, ◌-◌, ◌*◌, ◌≤◌, ◌<◌}
use lib.IntN.{ℤ}
use mathlib.Core.List.{List}
use native.Mathlib.Omega.{arith}
use Rattle.word.proofs.Signed.{by_test}
use Rattle.summary.specs.declared.Summary.{Summary}
use Rattle.word.specs.Bits.{word}
use Rattle.index.specs.Shape.{height, entry, even}
use Rattle.index.specs.Lent.{entry_at}
use Rattle.index.proofs.Level.{even_yes}
use Rattle.walk.specs.Lent.{Lent}
use Rattle.walk.specs.Walk.{seen}
use Rattle.walk.specs.Beside.{after_of, before_of}

module _ (e : ℕ → Summary) (k n : ℕ) where
  pub after_reads : (after_of e k n).reads ≤ n + 1
  after_reads = by_test (even k) (λ v. rw v (omega arith)) (λ v. rw v (omega arith))

  pub before_reads : (before_of e k n).reads ≤ n + 1
  before_reads = by_test (even k) (λ v. rw v (omega arith)) (λ v. rw v (omega arith))

  module _ (d : ℕ → Summary) where
    pub after_same : (even k ≡ true → e (k + 1) ≡ d (k + 1)) → after_of e k n ≡ after_of d k n
    after_same f = by_test (even k) (λ v. rw v (ap (λ (s : Summary). seen s (n + 1)) (f v))) (λ v. rw v)

    pub before_same : (even k ≡ false → e (k - 1) ≡ d (k - 1)) → before_of e k n ≡ before_of d k n
    before_same f = by_test (even k) (λ v. rw v) (λ v. rw v (ap (λ (s : Summary). seen s (n + 1)) (f v)))

module _ (bytes : List ℕ) (idx : List ℤ) (m l : ℕ) (lent : Lent bytes idx m l) (k n : ℕ) (b : k < 2 * l) where
  pub read_own : seen (entry_at idx k) n ≡ seen (entry (height m) (word bytes m) k) n
  read_own = ap (λ (s : Summary). seen s n) (lent.indexed.reads k (omega (arith, lent.leaves)))

  pub after_own : after_of (entry_at idx) k n ≡ after_of (entry (height m) (word bytes m)) k n
  after_own = after_same (entry_at idx) k n (entry (height m) (word bytes m))
      (λ v. lent.indexed.reads (k + 1) (omega (arith, even_yes k v, lent.leaves)))

  pub before_own : before_of (entry_at idx) k n ≡ before_of (entry (height m) (word bytes m)) k n
  before_own = before_same (entry_at idx) k n (entry (height m) (word bytes m))
      (λ v. lent.indexed.reads (k - 1) (omega (arith, lent.leaves)))
