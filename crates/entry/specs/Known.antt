-- What working out the entries one after the other relies on, from the last down to entry 0.
use Rattle.std.specs.Prelude.{◌≡◌, List, ℕ, ◌*◌, ◌^◌, ◌≤◌, ◌<◌, length, ℤ}
use Rattle.word.specs.Bits.{word, bytes_of}
use Rattle.index.specs.Shape.{height, numbers_of, entry}
use Rattle.index.specs.Lent.{entry_at}

-- the word's bytes and its index's numbers are all lent
pub record Lent (bytes : List ℕ) (m : ℕ) (idx : List ℤ) : Type 0 where
  pub size : m ≤ 2097152
  pub bytes_lent : bytes_of m ≤ length bytes
  pub index_lent : numbers_of m ≤ length idx

-- and the entries from k on are the word's own already
pub record Known (bytes : List ℕ) (m l : ℕ) (idx : List ℤ) (k : ℕ) : Type 0 where
  pub lent : Lent bytes m idx
  pub leaves : l ≡ 2 ^ height m
  pub inside : k ≤ 2 * l
  pub reads : (j : ℕ) → k ≤ j → j < 2 * l → entry_at idx j ≡ entry (height m) (word bytes m) j
