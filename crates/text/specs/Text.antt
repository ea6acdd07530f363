-- The printed text: "prints code, result and reads for each question, single spaces, one line each; or only `refused` and the number".
-- Text is a list of bytes, where 48 is the digit 0, 32 a space and 10 a line's end. Assumes nothing.
use Rattle.std.specs.Prelude.{◌≡◌, cond, List, [], ◌∷◌, ◌++◌, ℕ, zero, suc, ◌+◌, ◌/◌, ◌%◌, ltb, length}
use Rattle.std.proofs.lemmas.List.Edits.{sets}

-- the last digit of n
abbrev pub unit : ℕ → List ℕ
unit n = (48 + n % 10) ∷ []

-- n in decimal, as far as k + 1 digits reach
abbrev pub digits : ℕ → ℕ → List ℕ
digits zero n = unit n
digits (suc k) n = cond (ltb n 10) (unit n) (digits k (n / 10) ++ unit n)

-- a number of 32 bits in decimal (it has ten digits at most), and the byte after it
abbrev pub number : ℕ → ℕ → List ℕ
number n after = digits 9 n ++ (after ∷ [])

-- "code, result and reads .., single spaces, one line each"
abbrev pub line : ℕ → ℕ → ℕ → List ℕ
line code result reads = number code 32 ++ (number result 32 ++ number reads 10)

-- a line for each answer, which is three numbers
abbrev pub lines : List ℕ → List ℕ
lines [] = []
lines (code ∷ []) = []
lines (code ∷ (result ∷ [])) = []
lines (code ∷ (result ∷ (reads ∷ answers))) = line code result reads ++ lines answers

-- `refused` and a space
abbrev pub refused : List ℕ
refused = 114 ∷ 101 ∷ 102 ∷ 117 ∷ 115 ∷ 101 ∷ 100 ∷ 32 ∷ []

-- "only `refused` and the number"
abbrev pub refusal : ℕ → List ℕ
refusal code = refused ++ number code 10

-- the promise of what writes text: `text` stands over `out` from place `at` on, and `end` is the place past it
pub record Put (text out : List ℕ) (at end : ℕ) (left : List ℕ) : Type 0 where
  pub left_is : left ≡ sets out at text
  pub end_is : end ≡ at + length text
