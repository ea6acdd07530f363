-- What a sound house file brings, and room for its text.
use Rattle.std.specs.Prelude.{◌≡◌, List, ℕ, ◌%◌, ◌≤◌, length}
use Rattle.word.specs.Bits.{bytes_of}

pub record Sound (bytes : List ℕ) (m : ℕ) (numbers out : List ℕ) : Type 0 where
  pub small : m ≤ 65536
  pub enough : bytes_of m ≤ length bytes
  pub threes : length numbers % 3 ≡ 0
  pub few : length numbers ≤ 3072
  pub room : 33792 ≤ length out
