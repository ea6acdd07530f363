-- What code 0 of building means, and how a refusal ends. Assumes nothing.
use mathlib.Core.Path.{◌≡◌, refl, ◌∙◌}
use mathlib.Core.Bool.{true, cond, not}
use mathlib.Core.List.{List}
use Prim.Native.Nat.{ℕ, zero, suc, ◌≤◌}
use borrow.Author.Tests.{le-ltb, ltb-false, not-false}
use lib.Dec.{ltb}
use lib.IntN.{ℤ}
use lib.ListN.{length}
use Rattle.word.specs.Bits.{word, bytes_of}
use Rattle.word.specs.Parse.{is_balanced}
use Rattle.judge.proofs.First.{passed}
use Rattle.index.specs.Shape.{numbers_of}
use Rattle.entry.specs.Known.{Lent}
use Rattle.build.specs.Build.{refusal, built_outcome, built_index, Built}

-- past the first three the word decides
pub judging : (bytes : List ℕ) (m room : ℕ) → m ≤ 2097152 → bytes_of m ≤ length bytes → numbers_of m ≤ room
    → refusal bytes m room ≡ cond (not (is_balanced (word bytes m))) 6 0
unfolding refusal
judging bytes m room a b d = simp (le-ltb 2097152 m a, le-ltb (length bytes) (bytes_of m) b, le-ltb room (numbers_of m) d)

-- where none holds
pub accepted : (bytes : List ℕ) (m : ℕ) (held : List ℤ) → refusal bytes m (length held) ≡ 0
    → Lent bytes m held × (is_balanced (word bytes m) ≡ true)
unfolding refusal
accepted bytes m held e =
    let p₁ = passed (ltb 2097152 m) 0 _ e in
    let p₂ = passed (ltb (length bytes) (bytes_of m)) 1 _ p₁.1 in
    let p₃ = passed (ltb (length held) (numbers_of m)) 2 _ p₂.1 in
    let p₄ = passed (not (is_balanced (word bytes m))) 5 _ p₃.1 in
    (record { size = ltb-false _ _ p₁.0; bytes_lent = ltb-false _ _ p₂.0; index_lent = ltb-false _ _ p₃.0 }, not-false _ p₄.0)

pub accepts : (bytes : List ℕ) (m : ℕ) (held : List ℤ) → Lent bytes m held → is_balanced (word bytes m) ≡ true
    → refusal bytes m (length held) ≡ 0
accepts bytes m held l b = judging bytes m (length held) l.size l.bytes_lent l.index_lent ∙ rw b

-- a refusal: its number with 0 beside it, and the slice as it was
pub ends_refused : (bytes : List ℕ) (m : ℕ) (held : List ℤ) (c : ℕ) → c ≡ refusal bytes m (length held) → (c ≡ 0 → ⊥)
    → Built bytes m held (record { code = c; value = 0 }) held
unfolding built_outcome built_index
ends_refused bytes m held zero i h = absurd (h refl)
ends_refused bytes m held (suc c) i h = record { outcome_is = rw (← i); index_is = rw (← i) }
