-- The judge of a row: which refusal it meets first, or none.
use Rattle.std.specs.Prelude.{Bool, not, List, [], ◌∷◌, ℕ, zero, suc, ltb, length}
use Rattle.word.specs.Bits.{word, bytes_of}
use Rattle.word.specs.Parse.{is_balanced}
use Rattle.judge.specs.declared.Outcome.{Outcome}
use Rattle.judge.specs.First.{first_of}

-- 1, "m > 2,097,152"
abbrev pub too_long : ℕ → Bool
too_long m = ltb 2097152 m

-- 2, "fewer than ceil(m/8) bytes lent"
abbrev pub too_few_bytes : List ℕ → ℕ → Bool
too_few_bytes bytes m = ltb (length bytes) (bytes_of m)

-- 6, "word not balanced": no forest encodes to it
abbrev pub unbalanced : List ℕ → ℕ → Bool
unbalanced bytes m = not (is_balanced (word bytes m))

-- the first two alone, which every call begins with
abbrev pub unlent : List ℕ → ℕ → ℕ
unlent bytes m = first_of ((too_long m, 1) ∷ (too_few_bytes bytes m, 2) ∷ [])

abbrev pub refusal : List ℕ → ℕ → ℕ
refusal bytes m = first_of ((too_long m, 1) ∷ (too_few_bytes bytes m, 2) ∷ (unbalanced bytes m, 6) ∷ [])

-- "Refusals 1 to 7 return 0 beside the code": n stands beside code 0 alone
abbrev pub outcome_of : ℕ → ℕ → Outcome
outcome_of zero n = record { code = 0; value = n }
outcome_of (suc c) n = record { code = suc c; value = 0 }

-- "Refusals 1 to 7 .. write nothing.": what a lent slice has afterwards, from what an accepted call leaves and what it held
abbrev pub written : {A : Type 0} → ℕ → List A → List A → List A
written zero now held = now
written (suc c) now held = held

-- "a call that names no other number gives 0 beside it"
unfoldable pub judged : List ℕ → ℕ → Outcome
judged bytes m = outcome_of (refusal bytes m) 0
