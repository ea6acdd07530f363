-- Refusals in order: tests, each with the number that document 01 gives it.
use Rattle.std.specs.Prelude.{Bool, cond, List, [], ◌∷◌, ℕ}

-- the number of the first test that holds. "Code 0 means no refusal"
abbrev pub first_of : List (Bool × ℕ) → ℕ
first_of [] = 0
first_of (t ∷ ts) = cond t.0 t.1 (first_of ts)
