-- The word that m bits of the lent bytes hold, and how D goes from bit to bit. Assumes nothing.
use mathlib.Core.Path.{◌≡◌, refl, ap, ap₂, ◌∙◌}
use mathlib.Core.Bool.{Bool, true, false}
use mathlib.Core.List.{List, [], ◌∷◌}
use Prim.Native.Nat.{ℕ, zero, suc, ◌+◌, ◌-◌, ◌<◌, min}
use native.Mathlib.Omega.{arith}
use lib.ListN.{length, take, drop, get_or}
use lib.IntN.{pos, suc_ℤ, pred_ℤ, neg_ℤ, ◌+ℤ◌, ◌-ℤ◌, suc_ℤ-+ℤ, +ℤ-pred_ℤ, neg_ℤ-suc_ℤ}
use Rattle.word.specs.Forest.{count, D}
use Rattle.word.specs.Bits.{bit, bits, word}

pub length_bits : (bytes : List ℕ) (i n : ℕ) → length (bits bytes i n) ≡ n
length_bits bytes i zero = refl
length_bits bytes i (suc n) = ap suc (length_bits bytes (suc i) n)

pub bit_bits : (bytes : List ℕ) (i n j : ℕ) (d : Bool) → j < n → get_or (bits bytes i n) j d ≡ bit bytes (i + j)
bit_bits bytes i zero j d h = absurd (omega arith)
bit_bits bytes i (suc n) zero d h = ap (bit bytes) (let e : i ≡ i + 0 = omega arith in e)
bit_bits bytes i (suc n) (suc j) d h =
    bit_bits bytes (suc i) n j d (omega arith) ∙ ap (bit bytes) (let e : suc i + j ≡ i + suc j = omega arith in e)

-- one bit further
pub opens : (w : List Bool) (p : ℕ) → get_or w p false ≡ true
    → (count true (take (suc p) w) ≡ suc (count true (take p w))) × (count false (take (suc p) w) ≡ count false (take p w))
opens [] p o = (cc, cc)
opens (true ∷ w) zero o = (refl, refl)
opens (false ∷ w) zero o = (cc, cc)
opens (true ∷ w) (suc p) o = (ap suc (opens w p o).0, (opens w p o).1)
opens (false ∷ w) (suc p) o = ((opens w p o).0, ap suc (opens w p o).1)

pub closes : (w : List Bool) (p : ℕ) → get_or w p true ≡ false
    → (count true (take (suc p) w) ≡ count true (take p w)) × (count false (take (suc p) w) ≡ suc (count false (take p w)))
closes [] p o = (cc, cc)
closes (true ∷ w) zero o = (cc, cc)
closes (false ∷ w) zero o = (refl, refl)
closes (true ∷ w) (suc p) o = (ap suc (closes w p o).0, (closes w p o).1)
closes (false ∷ w) (suc p) o = ((closes w p o).0, ap suc (closes w p o).1)

pub D_opens : (w : List Bool) (p : ℕ) → get_or w p false ≡ true → D w (suc p) ≡ suc_ℤ (D w p)
D_opens w p o =
    ap₂ (λ a b. pos a -ℤ pos b) (opens w p o).0 (opens w p o).1
    ∙ suc_ℤ-+ℤ (pos (count true (take p w))) (neg_ℤ (pos (count false (take p w))))

pub D_closes : (w : List Bool) (p : ℕ) → get_or w p true ≡ false → D w (suc p) ≡ pred_ℤ (D w p)
D_closes w p o = ap₂ (λ a b. pos a -ℤ pos b) (closes w p o).0 (closes w p o).1
    ∙ ap (pos (count true (take p w)) +ℤ◌) (neg_ℤ-suc_ℤ (pos (count false (take p w)))) ∙ +ℤ-pred_ℤ (pos (count true (take p w))) (neg_ℤ (pos (count false (take p w))))

-- the document's W
pub two_bytes : word (0x5B ∷ 0x04 ∷ []) 12 ≡ true ∷ true ∷ false ∷ true ∷ true ∷ false ∷ true ∷ false ∷ false ∷ false ∷ true ∷ false ∷ []
two_bytes = refl

pub take_bits : (bytes : List ℕ) (i n j : ℕ) → take j (bits bytes i n) ≡ bits bytes i (min j n)
take_bits bytes i zero zero = refl
take_bits bytes i zero (suc j) = let e : min (suc j) 0 ≡ 0 = omega arith in rw e
take_bits bytes i (suc n) zero = let e : min 0 (suc n) ≡ 0 = omega arith in rw e
take_bits bytes i (suc n) (suc j) = let e : min (suc j) (suc n) ≡ suc (min j n) = omega arith in rw e (ap (bit bytes i ∷◌) (take_bits bytes (suc i) n j))

pub drop_bits : (bytes : List ℕ) (i n j : ℕ) → drop j (bits bytes i n) ≡ bits bytes (i + j) (n - j)
drop_bits bytes i zero zero = refl
drop_bits bytes i zero (suc j) = let e : 0 - suc j ≡ 0 = omega arith in rw e
drop_bits bytes i (suc n) zero = let e : suc n - 0 ≡ suc n = omega arith in let d : i + 0 ≡ i = omega arith in rw (e, d)
drop_bits bytes i (suc n) (suc j) = let e : suc n - suc j ≡ n - j = omega arith in let d : i + suc j ≡ suc i + j = omega arith in rw (e, d) (drop_bits bytes (suc i) n j)

-- n bits from bit p of the word
pub part_bits : (bytes : List ℕ) (m p n : ℕ) → take n (drop p (word bytes m)) ≡ bits bytes p (min n (m - p))
part_bits bytes m p n = let e : 0 + p ≡ p = omega arith in rw (drop_bits bytes 0 m p, e, take_bits)
