-- Which words the judge accepts, and what it gives beside each refusal. Assumes nothing.
use mathlib.Core.Path.{◌≡◌, refl, sym, ap, ◌∙◌}
use mathlib.Core.Logic.{◌↔◌}
use mathlib.Core.Bool.{Bool, true, false, cond}
use mathlib.Core.List.{List}
use Prim.Native.Nat.{ℕ, zero, suc, ◌%◌, ◌≤◌}
use native.Mathlib.Omega.{arith}
use lib.ListN.{length}
use borrow.Author.Tests.{ltb-false, le-ltb, not-false}
use Rattle.word.specs.Forest.{Balanced}
use Rattle.word.specs.Bits.{word, bytes_of}
use Rattle.word.specs.Parse.{is_balanced, parse}
use Rattle.word.proofs.Bits.{length_bits}
use Rattle.word.proofs.Parse.{is_balanced_iff}
use Rattle.word.proofs.Answers.{size_length}
use Rattle.word.proofs.Signed.{not_true}
use Rattle.judge.specs.declared.Outcome.{Outcome}
use Rattle.judge.specs.Judge.{too_long, too_few_bytes, unbalanced, refusal, outcome_of, judged}
use Rattle.judge.proofs.First.{passed}

pub nothing_beside : (n : ℕ) → (record { code = n; value = 0 }) ≡ outcome_of n 0
nothing_beside zero = refl
nothing_beside (suc n) = refl

pub code_of : (c n : ℕ) → (outcome_of c n).code ≡ c
code_of zero n = refl
code_of (suc c) n = refl

pub judged_is : (bytes : List ℕ) (m : ℕ) → judged bytes m ≡ record { code = refusal bytes m; value = 0 }
unfolding judged
judged_is bytes m = sym (nothing_beside (refusal bytes m))

pub record Accepted (bytes : List ℕ) (m : ℕ) : Type 0 where
  pub short : m ≤ 2097152
  pub lent : bytes_of m ≤ length bytes
  pub balanced : Balanced (word bytes m)

-- past refusals 1 and 2 the word decides
pub judging : (bytes : List ℕ) (m : ℕ) → m ≤ 2097152 → bytes_of m ≤ length bytes → (b : Bool) →
    is_balanced (word bytes m) ≡ b → judged bytes m ≡ record { code = cond b 0 6; value = 0 }
judging bytes m h k true e = judged_is bytes m ∙ simp (le-ltb 2097152 m h, le-ltb (length bytes) (bytes_of m) k, e)
judging bytes m h k false e = judged_is bytes m ∙ simp (le-ltb 2097152 m h, le-ltb (length bytes) (bytes_of m) k, e)

-- code 0 exactly where m is within the limit, the bytes are there, and some forest encodes to the word
pub accepted_iff : (bytes : List ℕ) (m : ℕ) → ((judged bytes m).code ≡ 0) ↔ Accepted bytes m
accepted_iff bytes m = (
  to,
  λ a. ap (λ (r : Outcome). r.code) (judging bytes m a.short a.lent true ((is_balanced_iff (word bytes m)).1 a.balanced)),
)
  where
    to : (judged bytes m).code ≡ 0 → Accepted bytes m
    to e =
        let p₁ = passed (too_long m) 0 _ (sym (ap (λ (r : Outcome). r.code) (judged_is bytes m)) ∙ e) in
        let p₂ = passed (too_few_bytes bytes m) 1 _ p₁.1 in
        let p₃ = passed (unbalanced bytes m) 5 _ p₂.1 in
        record { short = ltb-false _ _ p₁.0; lent = ltb-false _ _ p₂.0; balanced = (is_balanced_iff (word bytes m)).0 (not-false _ p₃.0) }

-- a balanced word has two bits to a node, so an odd m is refused by 6
pub odd_unbalanced : (bytes : List ℕ) (m : ℕ) → m % 2 ≡ 1 → is_balanced (word bytes m) ≡ false
odd_unbalanced bytes m o = not_true (is_balanced (word bytes m)) (λ e.
    let b = (is_balanced_iff (word bytes m)).0 e in
    omega (arith, size_length b.0, ap length b.1, length_bits bytes 0 m))

pub odd_refused : (bytes : List ℕ) (m : ℕ) → m % 2 ≡ 1 → m ≤ 2097152 →
    bytes_of m ≤ length bytes → judged bytes m ≡ record { code = 6; value = 0 }
odd_refused bytes m o h k = judging bytes m h k false (odd_unbalanced bytes m o)

-- "The empty forest is accepted."
pub empty_accepted : (bytes : List ℕ) → judged bytes 0 ≡ record { code = 0; value = 0 }
unfolding is_balanced parse
empty_accepted bytes = judging bytes 0 (omega arith) (omega arith) true refl

-- "m = 2,097,152 passes refusal 1; one bit more doesn't."
pub limit : (too_long 2097152 ≡ false) × (too_long 2097153 ≡ true)
limit = (refl, refl)
