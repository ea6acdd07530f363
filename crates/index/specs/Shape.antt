-- The shape of the index: blocks, leaves and height, and what entry k is, number for number.
use Rattle.std.specs.Prelude.{Bool, cond, List, [], ◌∷◌, ℕ, zero, suc, ◌+◌, ◌-◌, ◌*◌, ◌/◌, ◌%◌, ◌^◌, eqb, leb, take, drop, ℤ}
use Rattle.summary.specs.declared.Summary.{Summary}
use Rattle.summary.specs.Stretch.{summary_of}
use Rattle.summary.specs.Join.{join_of, empty_of}

-- "Blocks are 256 bits; the last may be shorter." Past the last, a block is empty
abbrev pub block : List Bool → ℕ → List Bool
block w b = take 256 (drop (256 * b) w)

-- "There are B = ceil(m/256) blocks."
abbrev pub blocks : ℕ → ℕ
blocks m = (m + 255) / 256

-- "L is the least power of two that is at least 1 and at least B; h is its exponent, the index's height." The exponents are tried from
-- 0 on; B of them are enough
unfoldable pub height_from : ℕ → ℕ → ℕ → ℕ
height_from zero h b = h
height_from (suc n) h b = cond (leb b (2 ^ h)) h (height_from n (suc h) b)

unfoldable pub height : ℕ → ℕ
height m = height_from (blocks m) 0 (blocks m)

-- "Entry L+b is block b's summary, empty for b ≥ B. Entry k below L joins 2k and 2k+1." The steps from entry k down to a leaf are at
-- most the height
unfoldable pub entry_by : ℕ → List Bool → ℕ → ℕ → Summary
entry_by zero w l k = summary_of (block w (k - l))
entry_by (suc n) w l k = cond (leb l k) (summary_of (block w (k - l))) (join_of (entry_by n w l (2 * k)) (entry_by n w l (2 * k + 1)))

-- "Entry 0 is four zeros."
unfoldable pub entry : ℕ → List Bool → ℕ → Summary
entry h w zero = empty_of
entry h w (suc k) = entry_by h w (2 ^ h) (suc k)

-- "Entry k takes four signed 32-bit numbers from place 4k.": n entries from entry k on
unfoldable pub index_from : ℕ → (ℕ → Summary) → ℕ → List ℤ
index_from zero e k = []
index_from (suc n) e k = (e k).total ∷ (e k).least ∷ (e k).greatest ∷ (e k).count ∷ index_from n e (suc k)

-- "The index is the first 8L numbers of the lent slice": 2L entries
unfoldable pub index : ℕ → List Bool → List ℤ
index h w = index_from (2 * 2 ^ h) (entry h w) 0

-- how many numbers the index of a word of m bits takes: 8L
unfoldable pub numbers_of : ℕ → ℕ
numbers_of m = 8 * 2 ^ height m

-- "at an even entry"
abbrev pub even : ℕ → Bool
even k = eqb (k % 2) 0
