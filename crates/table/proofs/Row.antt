-- The table against its rule. One comparison, which antt computes over all 256 rows, says that the code's rows are the rule's own; what stands here
-- reads a row off that list, and shows that its numbers are the rule's 1,024. Assumes nothing.
use mathlib.Core.Path.{◌≡◌, refl, ap, ap₂, ◌∙◌}
use mathlib.Core.List.{List, ◌∷◌, map}
use Prim.Native.Nat.{ℕ, zero, suc, ◌+◌, ◌*◌, ◌/◌, ◌%◌, ◌<◌}
use native.Mathlib.Omega.{arith}
use lib.ListN.{get_or}
use lib.IntN.{ℤ}
use Rattle.summary.specs.declared.Summary.{Summary}
use Rattle.summary.specs.Four.{four, of_four}
use Rattle.table.specs.Rows.{row_of, part, number_at, listed, table_of, rows_of, numbers}

four_at : (f : ℕ → Summary) (i n k : ℕ) (d : List ℤ) → k < n → get_or (map four (listed f i n)) k d ≡ four (f (i + k))
four_at f i zero k d h = absurd (omega arith)
four_at f i (suc n) zero d h = ap (λ k. four (f k)) (let e : i ≡ i + 0 = omega arith in e)
four_at f i (suc n) (suc k) d h =
    four_at f (suc i) n k d (omega arith) ∙ ap (λ k. four (f k)) (let e : suc i + k ≡ i + suc k = omega arith in e)

-- the row of byte b
pub row_is : (rows : List (List ℤ)) (b : ℕ) (d : List ℤ) → rows ≡ map four rows_of → b < 256 → of_four (get_or rows b d) ≡ row_of b
unfolding rows_of
row_is rows b d e h = let z : 0 + b ≡ b = omega arith in rw (e, four_at row_of 0 256 b d h, z) refl

-- four numbers from place 4b are row b
place : (b j k : ℕ) → k % 4 ≡ j → k / 4 ≡ b → part j (row_of b) ≡ number_at k
place b j k p q = rw (p, q)

rows_from : (i n k m : ℕ) → k ≡ 4 * i → m ≡ 4 * n → numbers (map four (listed row_of i n)) ≡ listed number_at k m
rows_from i zero k m p q = rw q
rows_from i (suc n) k m p q =
    let z : m ≡ suc (suc (suc (suc (4 * n)))) = omega arith in
    rw z (ap₂ ◌∷◌ (place i 0 k (omega arith) (omega arith))
    (ap₂ ◌∷◌ (place i 1 (suc k) (omega arith) (omega arith))
    (ap₂ ◌∷◌ (place i 2 (suc (suc k)) (omega arith) (omega arith))
    (ap₂ ◌∷◌ (place i 3 (suc (suc (suc k))) (omega arith) (omega arith))
    (rows_from (suc i) n (suc (suc (suc (suc k)))) (4 * n) (omega arith) refl)))))

-- "1,024 signed numbers, four to a row"
pub table_is : numbers (map four rows_of) ≡ table_of
unfolding rows_of table_of
table_is = rows_from 0 256 0 1024 refl refl
