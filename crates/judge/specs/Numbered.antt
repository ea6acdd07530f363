-- A result that is told with the number of its fault in the fault's place: of each crate's own faults, by its own numbers.
use Rattle.std.specs.Prelude.{ℕ, Result, Ok, Err}

abbrev pub numbered : {A F : Type 0} → (F → ℕ) → Result A F → Result A ℕ
numbered number_of (Ok x) = Ok x
numbered number_of (Err f) = Err (number_of f)
