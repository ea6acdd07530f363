-- The refusals' numbers, and a call's result as the code and the number beside it.
use Rattle.std.specs.Prelude.{ℕ, ⊤}
use Rattle.std.specs.Prelude.{Result, Ok, Err}
use Rattle.judge.specs.declared.refusal.Refusal.{Refusal}
use Rattle.judge.specs.declared.refusal.Refusal.TheVariants.{TooLong, TooFewBytes, TooFewNumbers, NotThrees}
use Rattle.judge.specs.declared.refusal.Refusal.TheVariants.{TooLittleRoom, Unbalanced, Differs}
use Rattle.judge.specs.declared.Outcome.{Outcome}

-- 1, "m > 2,097,152"; 2, "fewer than ceil(m/8) bytes lent"; 3, "fewer than 8L index numbers lent"; 4, "question slice not a multiple of
-- three long"; 5, "answer slice shorter than the question slice"; 6, "word not balanced"; 7, "one of the 8L index numbers differs"
abbrev pub number_of : Refusal → ℕ
number_of TooLong = 1
number_of TooFewBytes = 2
number_of TooFewNumbers = 3
number_of NotThrees = 4
number_of TooLittleRoom = 5
number_of Unbalanced = 6
number_of Differs = 7

-- "Code 0 means no refusal"
abbrev pub code_of : {A : Type 0} → Result A Refusal → ℕ
code_of (Ok x) = 0
code_of (Err r) = number_of r

-- a call that names a number gives it beside code 0: "Refusals 1 to 7 return 0 beside the code"
abbrev pub outcome : Result ℕ Refusal → Outcome
outcome (Ok n) = record { code = 0; value = n }
outcome (Err r) = record { code = number_of r; value = 0 }

-- "a call that names no other number gives 0 beside it"
abbrev pub verdict : Result ⊤ Refusal → Outcome
verdict r = record { code = code_of r; value = 0 }
