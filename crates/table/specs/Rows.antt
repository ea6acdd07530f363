-- What the byte table holds: the summary of each byte's eight bits, four numbers to a row.
use Rattle.std.specs.Prelude.{Bool, false, cond, List, [], ◌∷◌, ◌++◌, ℕ, zero, suc, ◌+◌, ◌/◌, ◌%◌, eqb, leb, ℤ}
use Rattle.word.specs.Bits.{bits}
use Rattle.summary.specs.declared.Summary.{Summary}
use Rattle.summary.specs.Stretch.{summary_of}

-- "a table of 256 rows, one for each byte value, of total, least, greatest and count": the byte's eight bits, lowest weight first
unfoldable pub row_of : ℕ → Summary
row_of b = summary_of (bits (b ∷ []) 0 8)

-- number j of a row
abbrev pub part : ℕ → Summary → ℤ
part zero s = s.total
part (suc zero) s = s.least
part (suc (suc zero)) s = s.greatest
part (suc (suc (suc j))) s = s.count

-- "1,024 signed numbers, four to a row": the number at place k
abbrev pub number_at : ℕ → ℤ
number_at k = part (k % 4) (row_of (k / 4))

-- the rule's own list: f at each place from i on, n of them
abbrev pub listed : {A : Type 0} → (ℕ → A) → ℕ → ℕ → List A
listed f i zero = []
listed f i (suc n) = f i ∷ listed f (suc i) n

-- the whole table
unfoldable pub table_of : List ℤ
table_of = listed number_at 0 1024

-- the whole table, row by row. Its numbers, in order, are `table_of` (proofs/Row.antt)
unfoldable pub rows_of : List Summary
rows_of = listed row_of 0 256

-- the numbers of rows, one row after the other
abbrev pub numbers : List (List ℤ) → List ℤ
numbers [] = []
numbers (row ∷ rows) = row ++ numbers rows

-- whether a byte starts at bit i and ends by bit `to`. "An unfinished last byte is taken bit by bit."
unfoldable pub whole_at : ℕ → ℕ → Bool
whole_at i to = cond (eqb (i % 8) 0) (leb (i + 8) to) false
