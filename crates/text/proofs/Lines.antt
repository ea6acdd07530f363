-- Lines and refusals: how long they are at most, one line further, and document 01's output. Assumes nothing.
use mathlib.Core.Path.{◌≡◌, refl}
use mathlib.Core.List.{List, [], ◌∷◌, ◌++◌}
use Prim.Native.Nat.{ℕ, ◌*◌, ◌≤◌}
use native.Mathlib.Omega.{arith}
use lib.ListN.{length, get_or, length-append}
use Rattle.text.specs.Text.{number, line, lines, refused, refusal}
use Rattle.text.proofs.Numbers.{number_few}

pub line_few : (code result reads : ℕ) → length (line code result reads) ≤ 33
line_few code result reads =
    omega (
      arith,
      length-append (number code 32) (number result 32 ++ number reads 10),
      length-append (number result 32) (number reads 10),
      number_few code 32,
      number_few result 32,
      number_few reads 10,
    )

-- eleven bytes for each number of an answer
pub lines_few : (answers : List ℕ) → length (lines answers) ≤ 11 * length answers
lines_few [] = omega arith
lines_few (code ∷ []) = omega arith
lines_few (code ∷ (result ∷ [])) = omega arith
lines_few (code ∷ (result ∷ (reads ∷ answers))) =
    omega (arith, length-append (line code result reads) (lines answers), line_few code result reads, lines_few answers)

pub refusal_few : (code : ℕ) → length (refusal code) ≤ 19
refusal_few code = omega (arith, length-append refused (number code 10), number_few code 10)

-- one line further
pub lines_step : (a rest : List ℕ) → length a ≡ 3 → lines (a ++ rest) ≡ line (get_or a 0 0) (get_or a 1 0) (get_or a 2 0) ++ lines rest
lines_step [] rest h = absurd (omega arith)
lines_step (code ∷ []) rest h = absurd (omega arith)
lines_step (code ∷ (result ∷ [])) rest h = absurd (omega arith)
lines_step (code ∷ (result ∷ (reads ∷ []))) rest h = refl
lines_step (code ∷ (result ∷ (reads ∷ (n ∷ a)))) rest h = absurd (omega arith)

-- "Output, whole": `0 3 0` and `16 0 0`
shown : lines (0 ∷ 3 ∷ 0 ∷ 16 ∷ 0 ∷ 0 ∷ []) ≡ 48 ∷ 32 ∷ 51 ∷ 32 ∷ 48 ∷ 10 ∷ 49 ∷ 54 ∷ 32 ∷ 48 ∷ 32 ∷ 48 ∷ 10 ∷ []
shown = refl

-- `refused 31`
shown_refusal : refusal 31 ≡ 114 ∷ 101 ∷ 102 ∷ 117 ∷ 115 ∷ 101 ∷ 100 ∷ 32 ∷ 51 ∷ 49 ∷ 10 ∷ []
shown_refusal = refl

-- the largest number of 32 bits keeps all its ten digits
shown_largest : number 4294967295 10 ≡ 52 ∷ 50 ∷ 57 ∷ 52 ∷ 57 ∷ 54 ∷ 55 ∷ 50 ∷ 57 ∷ 53 ∷ 10 ∷ []
shown_largest = refl
