-- How openings, closings and D run along a word, and that a walk finds at most one boundary. Assumes nothing.
use mathlib.Core.Path.{◌≡◌, sym, ap, ◌∙◌}
use mathlib.Core.Bool.{Bool, true, false, not}
use mathlib.Core.List.{List, [], ◌∷◌, ◌++◌}
use Prim.Native.Nat.{ℕ, zero, suc, ◌+◌, ◌-◌, ◌≤◌, ◌<◌}
use native.Mathlib.Omega.{arith}
use native.Mathlib.Decide.{dec_lt}
use lib.ListN.{length, take, drop, get_or}
use lib.Seq.{take-add, take-append-add, take-length, take-take}
use lib.IntN.{ℤ, pos, ◌+ℤ◌, ◌-ℤ◌, +ℤ_one, -ℤ_one}
use Rattle.word.specs.Forest.{count, D}
use Rattle.word.specs.Signed.{P, N}
use Rattle.word.specs.Depth.{Forward, Backward}
use Rattle.word.proofs.Tests.{true≢false}
use Rattle.word.proofs.Signed.{zarith, +law, -law}
use Rattle.word.proofs.Bits.{D_opens, D_closes}

-- a number written in another way, where `omega` shows that it is the same
pub eq : (a b : ℕ) → a ≡ b → a ≡ b
eq a b h = h

-- a bit that is not what is given for one past the word's end stands in the word
pub bit_in : (w : List Bool) (i : ℕ) (d : Bool) → get_or w i d ≡ not d → i < length w
bit_in [] i true e = absurd (true≢false e)
bit_in [] i false e = absurd (true≢false (sym e))
bit_in (b ∷ w) zero d e = omega arith
bit_in (b ∷ w) (suc i) d e = omega (arith, bit_in w i d e)

-- ---- openings and closings among the first bits

pub count_append : (b : Bool) (u v : List Bool) → count b (u ++ v) ≡ count b u + count b v
count_append true [] v = omega arith
count_append false [] v = omega arith
count_append true (true ∷ u) v = omega (arith, count_append true u v)
count_append true (false ∷ u) v = count_append true u v
count_append false (true ∷ u) v = count_append false u v
count_append false (false ∷ u) v = omega (arith, count_append false u v)

-- openings, or closings, among the first q bits
abbrev pub rank : Bool → List Bool → ℕ → ℕ
rank b w q = count b (take q w)

pub rank_add : (b : Bool) (w : List Bool) (p q : ℕ) → rank b w (p + q) ≡ rank b w p + rank b (drop p w) q
rank_add b w p q = ap (count b) (take-add p q w) ∙ count_append b (take p w) (take q (drop p w))

pub rank_past : (b : Bool) (u v : List Bool) (q : ℕ) → rank b (u ++ v) (length u + q) ≡ count b u + rank b v q
rank_past b u v q = ap (count b) (take-append-add u v q) ∙ count_append b u (take q v)

pub rank_mono : (b : Bool) (w : List Bool) (p q : ℕ) → p ≤ q → rank b w p ≤ rank b w q
rank_mono b w p q h = omega (arith, rank_add b w p (q - p), ap (rank b w) (eq (p + (q - p)) q (omega arith)))

-- each bit is one or the other
pub rank_sum : (w : List Bool) (q : ℕ) → q ≤ length w → rank true w q + rank false w q ≡ q
rank_sum w zero h = omega arith
rank_sum [] (suc q) h = absurd (omega arith)
rank_sum (true ∷ w) (suc q) h = omega (arith, rank_sum w q (omega arith))
rank_sum (false ∷ w) (suc q) h = omega (arith, rank_sum w q (omega arith))

-- ---- D

-- D is openings less closings, as `omega` reads it
pub D_law : (w : List Bool) (p : ℕ) → P (D w p) + rank false w p ≡ N (D w p) + rank true w p
D_law w p = omega (arith, -law (pos (rank true w p)) (pos (rank false w p)))

-- one bit further
pub D_up : (w : List Bool) (p : ℕ) → get_or w p false ≡ true → D w (suc p) ≡ D w p +ℤ pos 1
D_up w p o = D_opens w p o ∙ sym (+ℤ_one (D w p))

pub D_down : (w : List Bool) (p : ℕ) → get_or w p true ≡ false → D w (suc p) ≡ D w p -ℤ pos 1
D_down w p o = D_closes w p o ∙ sym (-ℤ_one (D w p))

-- q bits further
pub D_add : (w : List Bool) (p q : ℕ) → D w (p + q) ≡ D w p +ℤ D (drop p w) q
D_add w p q = omega (zarith, +law (D w p) (D (drop p w) q), D_law w (p + q), D_law w p, D_law (drop p w) q, rank_add true w p q, rank_add false w p q)

pub D_end : (w : List Bool) → P (D w (length w)) + count false w ≡ N (D w (length w)) + count true w
D_end w =
    ap (λ u. P (D w (length w)) + count false u) (sym (take-length w)) ∙ D_law w (length w)
    ∙ ap (λ u. N (D w (length w)) + count true u) (take-length w)

-- D of a stretch of n bits, from place p on
pub D_part : (w : List Bool) (p n q : ℕ) → q ≤ n → D w (p + q) ≡ D w p +ℤ D (take n (drop p w)) q
D_part w p n q h = D_add w p q ∙ ap (λ u. D w p +ℤ (pos (count true u) -ℤ pos (count false u))) (sym (take-take q n (drop p w) h))

-- ---- at most one boundary is found

module _ (w : List Bool) (p : ℕ) (t : ℤ) where
  pub forward_unique : (q r : ℕ) → Forward w p t q → Forward w p t r → q ≡ r
  forward_unique q r s u = go (dec_lt q r) (dec_lt r q)
    where
      go : Dec (q < r) → Dec (r < q) → q ≡ r
      go (yes l) k = absurd (u.first q s.later l s.there)
      go (no l) (yes k) = absurd (s.first r u.later k u.there)
      go (no l) (no k) = omega arith

  pub backward_unique : (q r : ℕ) → Backward w p t q → Backward w p t r → q ≡ r
  backward_unique q r s u = go (dec_lt q r) (dec_lt r q)
    where
      go : Dec (q < r) → Dec (r < q) → q ≡ r
      go (yes l) k = absurd (s.last r l u.earlier u.there)
      go (no l) (yes k) = absurd (u.last q k s.earlier s.there)
      go (no l) (no k) = omega arith
