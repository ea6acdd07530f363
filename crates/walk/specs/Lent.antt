-- What a caller of a walk lends: the word's bytes and its own index.
use Rattle.std.specs.Prelude.{◌≡◌, List, ℕ, ◌*◌, ◌^◌, ◌≤◌, length, ℤ}
use Rattle.word.specs.Bits.{word}
use Rattle.index.specs.Shape.{height}
use Rattle.index.specs.Lent.{Indexed}

-- a word of m bits in enough bytes, an index of l leaves, and in it the word's own entries
pub record Lent (bytes : List ℕ) (idx : List ℤ) (m l : ℕ) : Type 0 where
  pub small : m ≤ 2097152
  pub enough : m ≤ 8 * length bytes
  pub leaves : l ≡ 2 ^ height m
  pub indexed : Indexed (height m) (word bytes m) idx
