-- The height: its leaves reach over the word, and it is at most 13. Assumes nothing.
use mathlib.Core.Path.{◌≡◌, refl, sym, ap, ◌∙◌}
use mathlib.Core.Bool.{false}
use Rattle.index.specs.Shape.{blocks, height_from, height, numbers_of}
use Prim.Native.Nat.{ℕ, zero, suc, ◌+◌, ◌*◌, ◌/◌, ◌%◌, ◌^◌, ◌≤◌, ◌<◌, min, max}
use Rattle.std.specs.Int.{IsPowerOfTwo}
use native.Mathlib.Omega.{arith}
use native.Mathlib.Nat.{two-pow-succ, pow-le-pow_right, one-le-pow}
use native.Mathlib.Decide.{dec_lt}
use lib.Dec.{leb, leb→le, le→leb}
use Rattle.word.proofs.Signed.{by_test, true_T, T_true, true≢false}

-- ---- laws of the height
more_than : (n : ℕ) → n < 2 ^ n
more_than zero = omega arith
more_than (suc n) = omega (arith, more_than n, two-pow-succ n)

reached : (n h b : ℕ) → b ≤ 2 ^ (h + n) → b ≤ 2 ^ height_from n h b
unfolding height_from
reached zero h b l = let e : h + 0 ≡ h = omega arith in rw e at l
reached (suc n) h b l = by_test (leb b (2 ^ h))
    (λ y. rw y (leb→le b (2 ^ h) (true_T y)))
    (λ y. rw y (reached n (suc h) b (let e : suc h + n ≡ h + suc n = omega arith in rw e l)))

no_more : (n h b H : ℕ) → b ≤ 2 ^ H → h ≤ H → height_from n h b ≤ H
unfolding height_from
no_more zero h b H l k = k
no_more (suc n) h b H l k = by_test (leb b (2 ^ h))
    (λ y. rw y k)
    (λ y. rw y (no_more n (suc h) b H l (over y (dec_lt h H))))
  where
    over : leb b (2 ^ h) ≡ false → Dec (h < H) → suc h ≤ H
    over y (yes z) = z
    over y (no z) = let e : h ≡ H = omega arith in absurd (true≢false (sym (T_true (leb b (2 ^ h)) (le→leb b (2 ^ h) (rw e l))) ∙ y))

-- "L is the least power of two that is at least 1 and at least B": its leaves are enough for the blocks, and no lower height has enough
pub height_enough : (m : ℕ) → blocks m ≤ 2 ^ height m
unfolding height
height_enough m =
    reached (blocks m) 0 (blocks m) (let e : 0 + blocks m ≡ blocks m = omega arith in rw e (omega (arith, more_than (blocks m))))

pub height_least : (m g : ℕ) → blocks m ≤ 2 ^ g → height m ≤ g
unfolding height
height_least m g l = no_more (blocks m) 0 (blocks m) g l (omega arith)

-- the blocks reach over the word
pub height_reaches : (m : ℕ) → m ≤ 256 * 2 ^ height m
height_reaches m = omega (arith, height_enough m)

pub height_small : (m : ℕ) → m ≤ 2097152 → height m ≤ 13
height_small m l = height_least m 13 (omega arith)

pub leaves_few : (m : ℕ) → m ≤ 2097152 → 2 ^ height m ≤ 8192
leaves_few m l = pow-le-pow_right (omega arith) (height_small m l)

pub few_leaves : (m l : ℕ) → m ≤ 2097152 → l ≡ 2 ^ height m → l ≤ 8192
few_leaves m l h e = omega (arith, e, leaves_few m h)

-- 8L numbers
pub numbers_are : (m : ℕ) → numbers_of m ≡ 8 * 2 ^ height m
unfolding numbers_of
numbers_are m = refl

-- "L is the least power of two that is at least 1 and at least B", as std has it: a power of two, no less than B, whose half is less
pub leaves_are : (m b l : ℕ) → b ≡ m / 256 + min 1 (m % 256) → IsPowerOfTwo l → b ≤ l → l / 2 < max 1 b → l ≡ 2 ^ height m
leaves_are m b l e p low high = p.1 ∙ ap (λ g. 2 ^ g) (by (dec_lt (height m) p.0))
  where
    by : Dec (height m < p.0) → p.0 ≡ height m
    by (yes z) = absurd (omega (arith, p.1, two-pow-succ (height m), pow-le-pow_right (let two : 1 ≤ 2 = omega arith in two) z, height_enough m, one-le-pow (height m) 2 (omega arith)))
    by (no z) = omega (arith, height_least m p.0 (omega (arith, p.1)))
