-- Bits of the lent bytes, put together: a stretch and what follows it, and a byte's eight; and so the loop of `stretch`, a part at a time.
-- Assumes nothing.
use mathlib.Core.Path.{◌≡◌, refl, sym, ap, ap₂, ◌∙◌}
use mathlib.Core.Bool.{true}
use mathlib.Core.List.{List, [], ◌∷◌, ◌++◌, map}
use Prim.Native.Nat.{ℕ, zero, suc, ◌+◌, ◌*◌, ◌/◌, ◌%◌, ◌≤◌, ◌<◌}
use native.Mathlib.Omega.{arith}
use lib.Dec.{eqb, ltb}
use lib.ListN.{get_or, length, take, drop, length-take}
use lib.Seq.{get_or-take, get_or-drop}
use lib.IntN.{ℤ}
use borrow.Author.Tests.{eqb-true, leb-true, lt-ltb}
use Rattle.word.specs.Bits.{bit, bits}
use Rattle.word.proofs.Bits.{length_bits}
use Rattle.word.proofs.Signed.{by_test, true≢false}
use Rattle.summary.specs.declared.Summary.{Summary}
use Rattle.summary.specs.Four.{four, of_four}
use Rattle.summary.specs.Stretch.{summary_of}
use Rattle.summary.specs.Join.{join_of, empty_of}
use Rattle.summary.specs.Bound.{Bounded}
use Rattle.summary.proofs.Append.{summary_append, summary_empty}
use Rattle.summary.proofs.Bounds.{summary_bounded}
use Rattle.table.specs.Rows.{row_of, rows_of, whole_at}
use Rattle.table.proofs.Row.{row_is}

pub bits_append : (bytes : List ℕ) (i n k : ℕ) → bits bytes i (n + k) ≡ bits bytes i n ++ bits bytes (i + n) k
bits_append bytes i zero k = ap₂ (bits bytes) (let e : i ≡ i + 0 = omega arith in e) (let e : 0 + k ≡ k = omega arith in e)
bits_append bytes i (suc n) k =
    ap (bits bytes i) (let e : suc n + k ≡ suc (n + k) = omega arith in e)
    ∙ ap (bit bytes i ∷◌) (bits_append bytes (suc i) n k ∙ ap (λ j. bits bytes (suc i) n ++ bits bytes j k) (let e : suc i + n ≡ i + suc n = omega arith in e))

-- "Bit i is in byte i/8 and has weight 2^(i mod 8) there"
bits_within : (bytes : List ℕ) (q i j n : ℕ) → i ≡ 8 * q + j → j + n ≤ 8 → bits bytes i n ≡ bits (get_or bytes q 0 ∷ []) j n
bits_within bytes q i j zero e h = refl
bits_within bytes q i j (suc n) e h =
    ap₂ ◌∷◌ (let a : i / 8 ≡ q = omega arith in let b : i % 8 ≡ j = omega arith in let c : j / 8 ≡ 0 = omega arith in let d : j % 8 ≡ j = omega arith in rw (a, b, c, d))
    (bits_within bytes q (suc i) (suc j) n (omega arith) (omega arith))

row_bits : (bytes : List ℕ) (q : ℕ) → row_of (get_or bytes q 0) ≡ summary_of (bits bytes (8 * q) 8)
unfolding row_of
row_bits bytes q = sym (ap summary_of (bits_within bytes q (8 * q) 0 8 (omega arith) (omega arith)))

pub within : (bytes : List ℕ) (q n i : ℕ) → i < length (take n (drop q bytes)) → i < n
within bytes q n i h = omega (arith, length-take n (drop q bytes))

-- the row of byte i of the n bytes from place q on
pub row_at : (rows : List (List ℤ)) (bytes : List ℕ) (q n i : ℕ) (d : List ℤ) → rows ≡ map four rows_of → get_or bytes (q + i) 0 < 256
    → i < length (take n (drop q bytes))
    → of_four (get_or rows (get_or (take n (drop q bytes)) i 0) d) ≡ summary_of (bits bytes (8 * (q + i)) 8)
row_at rows bytes q n i d e l h =
    let z : get_or (take n (drop q bytes)) i 0 ≡ get_or bytes (q + i) 0 =
    get_or-take n (drop q bytes) i 0 (within bytes q n i h) ∙ get_or-drop q bytes i 0 in
    rw z (row_is rows (get_or bytes (q + i) 0) d e l ∙ row_bits bytes (q + i))

part_bounded : (bytes : List ℕ) (i n : ℕ) → n ≤ 4194304 → Bounded 4194304 (summary_of (bits bytes i n))
part_bounded bytes i n h = summary_bounded 4194304 (bits bytes i n) (omega (arith, length_bits bytes i n))

-- the empty stretch
pub starts : (bytes : List ℕ) (from n : ℕ) → n ≡ 0 → empty_of ≡ summary_of (bits bytes from n)
starts bytes from n e = rw e (sym summary_empty)

-- n bits from bit i on, and k more, which t sums up
module _ (bytes : List ℕ) (i n : ℕ) {s : Summary} (u : s ≡ summary_of (bits bytes i n)) where
  pub fits : n ≤ 4194304 → Bounded 4194304 s
  fits l = rw u (part_bounded bytes i n l)

  pub goes_on : (j k r : ℕ) {t : Summary} → t ≡ summary_of (bits bytes j k) → j ≡ i + n → r ≡ n + k
      → join_of s t ≡ summary_of (bits bytes i r)
  goes_on j k r e p q = rw (u, e, p, q, bits_append bytes i n k) (sym (summary_append (bits bytes i n) (bits bytes (i + n) k)))

-- ---- "An unfinished last byte is taken bit by bit."
pub starts_at : (q : ℕ) → 8 * q % 8 ≡ 0
starts_at q = omega arith

pub whole_fits : (i to : ℕ) → whole_at i to ≡ true → (i % 8 ≡ 0) × (i + 8 ≤ to)
unfolding whole_at
whole_fits i to e = by_test (eqb (i % 8) 0)
    (λ t. (eqb-true _ _ t, leb-true (i + 8) to (rw t at e)))
    (λ t. absurd (true≢false (sym (rw t at e))))

-- so the whole bytes end by bit `to`
pub ends_by : (to e : ℕ) → ((q : ℕ) → whole_at (8 * q) to ≡ ltb q e) → 8 * e ≤ to
ends_by to zero h = omega arith
ends_by to (suc q) h = omega (arith, whole_fits (8 * q) to (h q ∙ lt-ltb q (suc q) (omega arith)))
