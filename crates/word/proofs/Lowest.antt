-- "leftmost boundary from a to b with the least D": what `lowest` gives is that boundary, in any word, and there is one only. Assumes nothing.
use mathlib.Core.Path.{◌≡◌, refl, subst}
use mathlib.Core.Bool.{Bool, true, false, cond}
use mathlib.Core.List.{List}
use Prim.Native.Nat.{ℕ, zero, suc, ◌+◌, ◌≤◌, ◌<◌}
use native.Mathlib.Omega.{arith}
use native.Mathlib.Decide.{dec_le, dec_lt}
use lib.Signed.{lt_z, ◌≤ℤ◌, ◌<ℤ◌}
use Rattle.word.specs.Forest.{D}
use Rattle.word.specs.Questions.{lowest}
use Rattle.word.proofs.Signed.{zarith}
use Rattle.word.proofs.Depth.{eq}

-- r is the leftmost of the boundaries a to a + n with the least D
pub record Lowest (w : List Bool) (a n r : ℕ) : Type 0 where
  pub from : a ≤ r
  pub to : r ≤ a + n
  pub low : (j : ℕ) → a ≤ j → j ≤ a + n → D w r ≤ℤ D w j
  pub left : (j : ℕ) → a ≤ j → j < r → D w r <ℤ D w j

module _ (w : List Bool) (a : ℕ) where
  pub lowest_unique : (n r s : ℕ) → Lowest w a n r → Lowest w a n s → r ≡ s
  lowest_unique n r s l k = go (dec_lt r s) (dec_lt s r)
    where
      go : Dec (r < s) → Dec (s < r) → r ≡ s
      go (yes h) q = absurd (omega (zarith, k.left r l.from h, l.low s k.from k.to))
      go (no h) (yes q) = absurd (omega (zarith, l.left s k.from q, k.low r l.from l.to))
      go (no h) (no q) = omega arith

  -- one more boundary q at the right
  module _ (n r q : ℕ) (e : q ≡ a + suc n) (l : Lowest w a n r) where
    reach : (P : ℕ → Type 0) → ((i : ℕ) → a ≤ i → i ≤ a + n → P i) → P q → (j : ℕ) → a ≤ j → j ≤ a + suc n → P j
    reach P f g j p k = go (dec_le j (a + n))
      where
        go : Dec (j ≤ a + n) → P j
        go (yes h) = f j p h
        go (no h) = subst P (eq q j (omega arith)) g

    lower : D w q <ℤ D w r → Lowest w a (suc n) q
    lower h = record {
      from = omega arith;
      to = omega arith;
      low = reach (λ i. D w q ≤ℤ D w i) (λ i u v. omega (zarith, l.low i u v)) (omega zarith);
      left = λ j p k. omega (zarith, l.low j p (omega arith));
    }

    no_lower : D w r ≤ℤ D w q → Lowest w a (suc n) r
    no_lower h = record { from = l.from; to = omega (arith, l.to); low = reach (λ i. D w r ≤ℤ D w i) l.low h; left = l.left }

  pub lowest_is : (n : ℕ) → Lowest w a n (lowest w a n)
  unfolding lowest
  lowest_is zero = record {
    from = omega arith;
    to = omega arith;
    low = λ j p q. subst (λ i. D w a ≤ℤ D w i) (eq a j (omega arith)) (omega zarith);
    left = λ j p q. absurd (omega arith);
  }
  lowest_is (suc n) = go (lt_z (D w (a + suc n)) (D w (lowest w a n))) refl (lowest_is n)
    where
      go : (t : Bool) → lt_z (D w (a + suc n)) (D w (lowest w a n)) ≡ t → Lowest w a n (lowest w a n)
          → Lowest w a (suc n) (cond t (a + suc n) (lowest w a n))
      go true e ih = lower n (lowest w a n) (a + suc n) refl ih (omega zarith)
      go false e ih = no_lower n (lowest w a n) (a + suc n) refl ih (omega zarith)
