-- The word that m bits of the lent bytes hold. "Bytes past the first ceil(m/8), and bits of the last byte past m, are never read into an
-- answer": the word has no other bits, and answers are read off the word.
use Rattle.std.specs.Prelude.{Bool, List, [], ◌∷◌, ℕ, zero, suc, ◌+◌, ◌/◌, ◌%◌, ◌^◌, eqb, get_or}

-- "Bit i is in byte i/8 and has weight 2^(i mod 8) there; 1 opens, 0 closes."
abbrev pub bit : List ℕ → ℕ → Bool
bit bytes i = eqb (get_or bytes (i / 8) 0 / 2 ^ (i % 8) % 2) 1

-- the n bits from bit i on
abbrev pub bits : List ℕ → ℕ → ℕ → List Bool
bits bytes i zero = []
bits bytes i (suc n) = bit bytes i ∷ bits bytes (suc i) n

-- "A word has m bits."
abbrev pub word : List ℕ → ℕ → List Bool
word bytes m = bits bytes 0 m

-- how many bytes m bits take: ceil(m/8)
abbrev pub bytes_of : ℕ → ℕ
bytes_of m = (m + 7) / 8
