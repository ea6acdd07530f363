-- Every entry stands on some level; so each is what document 01 says of it, and its numbers are small. Assumes nothing.
use mathlib.Core.Path.{◌≡◌, refl, sym, ◌∙◌}
use mathlib.Core.Bool.{Bool}
use mathlib.Core.List.{List, []}
use Prim.Native.Nat.{ℕ, zero, suc, ◌+◌, ◌-◌, ◌*◌, ◌^◌, ◌≤◌, ◌<◌}
use native.Mathlib.Omega.{arith}
use native.Mathlib.Decide.{dec_lt}
use native.Mathlib.Nat.{two-pow-succ, one-le-pow}
use lib.ListN.{length, take, drop, get_or, length-take, length-drop}
use lib.IntN.{pos, nat_abs}
use mir.Syntax.{w32}
use mir.Val.{SFits}
use Rattle.word.proofs.Signed.{zarith, abs_law}
use Rattle.summary.specs.declared.Summary.{Summary}
use Rattle.summary.specs.Stretch.{summary_of}
use Rattle.summary.specs.Join.{join_of, empty_of}
use Rattle.summary.specs.Bound.{Bounded}
use Rattle.summary.proofs.Append.{summary_empty}
use Rattle.summary.proofs.Bounds.{summary_bounded}
use Rattle.index.specs.Shape.{block, entry, index_from, index}
use Rattle.index.proofs.Level.{Level, level_low, level_left, level_right, twice, leaf, both, entry_is}

-- the level of entry k, and the block a where its stretch starts
pub record Placed (h k : ℕ) : Type 0 where
  pub f : ℕ
  pub g : ℕ
  pub a : ℕ
  pub level : Level h f g k
  pub start : 2 ^ h + a ≡ k * 2 ^ g

place : (h f g k : ℕ) → Level h f g k → Placed h k
place h f g k l = record { f = f; g = g; a = k * 2 ^ g - 2 ^ h; level = l; start = omega (arith, level_low l) }

find : (h k : ℕ) → 1 ≤ k → k < 2 ^ suc h → (f : ℕ) × (g : ℕ) × Level h f g k
find zero k l u = (0, 0, record { levels = refl; low = omega arith; high = u })
find (suc h) k l u = go (dec_lt k (2 ^ suc h)) (find h k l)
  where
    go : Dec (k < 2 ^ suc h) → (k < 2 ^ suc h → (f : ℕ) × (g : ℕ) × Level h f g k) → (f : ℕ) × (g : ℕ) × Level (suc h) f g k
    go (yes o) below = let p = below o in (p.0, suc p.1, record { levels = omega (arith, p.2.levels); low = p.2.low; high = p.2.high })
    go (no o) below = (suc h, 0, record { levels = omega arith; low = omega arith; high = u })

pub placed : (h k : ℕ) → 1 ≤ k → k < 2 * 2 ^ h → Placed h k
placed h k l u = let p = find h k l (omega (arith, two-pow-succ h)) in place h p.0 p.1 k p.2

-- "Entry 0 is four zeros."
pub entry_zero : (h : ℕ) (w : List Bool) → entry h w 0 ≡ empty_of
unfolding entry
entry_zero h w = refl

-- "Entry L+b is block b's summary"
pub entry_leaf : (h k : ℕ) (w : List Bool) → 2 ^ h ≤ k → entry h w k ≡ summary_of (block w (k - 2 ^ h))
unfolding entry
entry_leaf h zero w l = absurd (omega (arith, one-le-pow h 2 (omega arith)))
entry_leaf h (suc k) w l = leaf h (2 ^ h) (suc k) w l

-- "Entry k below L joins 2k and 2k+1."
pub entry_joins : (h k : ℕ) (w : List Bool) → 1 ≤ k → k < 2 ^ h → entry h w k ≡ join_of (entry h w (2 * k)) (entry h w (2 * k + 1))
entry_joins h k w l u = let p = placed h k l (omega arith) in go p.f p.g p.a p.level p.start
  where
    go : (f g a : ℕ) → Level h f g k → 2 ^ h + a ≡ k * 2 ^ g → entry h w k ≡ join_of (entry h w (2 * k)) (entry h w (2 * k + 1))
    go f zero a v e = absurd (omega arith)
    go f (suc g) a v e = entry_is h f (suc g) k a w v e ∙ sym (both w g a (entry h w (2 * k)) (entry h w (2 * k + 1))
        (entry_is h (suc f) g (2 * k) a w (level_left v) (omega (arith, e, twice k g)))
        (entry_is h (suc f) g (2 * k + 1) (a + 2 ^ g) w (level_right v) (omega (arith, e, twice k g))))

-- the numbers of an entry are at most the word's length
pub entry_bounded : (m h k : ℕ) (w : List Bool) → length w ≤ m → k < 2 * 2 ^ h → Bounded m (entry h w k)
entry_bounded m h zero w l u = rw (entry_zero h w, ← summary_empty) (summary_bounded m [] (omega arith))
entry_bounded m h (suc k) w l u =
    let p = placed h (suc k) (omega arith) u in
    rw (entry_is h p.f p.g (suc k) p.a w p.level p.start)
    (summary_bounded m (take (256 * 2 ^ p.g) (drop (256 * p.a) w)) (omega (arith, length-take (256 * 2 ^ p.g) (drop (256 * p.a) w), length-drop (256 * p.a) w)))

numbers_small : (n : ℕ) (e : ℕ → Summary) (k m : ℕ) → ((j : ℕ) → k ≤ j → j < k + n → Bounded m (e j)) → (i : ℕ)
    → nat_abs (get_or (index_from n e k) i (pos 0)) ≤ m
unfolding index_from
numbers_small zero e k m b i = omega arith
numbers_small (suc n) e k m b zero = (b k (omega arith) (omega arith)).total
numbers_small (suc n) e k m b (suc zero) = (b k (omega arith) (omega arith)).least
numbers_small (suc n) e k m b (suc (suc zero)) = (b k (omega arith) (omega arith)).greatest
numbers_small (suc n) e k m b (suc (suc (suc zero))) = (b k (omega arith) (omega arith)).count
numbers_small (suc n) e k m b (suc (suc (suc (suc i)))) = numbers_small n e (suc k) m (λ j l u. b j (omega arith) (omega arith)) i

-- every number of the index fits 32 bits
pub index_fits : (h : ℕ) (w : List Bool) (i : ℕ) → length w ≤ 2097152 → SFits w32 (get_or (index h w) i (pos 0))
unfolding index
index_fits h w i l =
    let s : nat_abs (get_or (index_from (2 * 2 ^ h) (entry h w) 0) i (pos 0)) ≤ 2097152 =
    numbers_small (2 * 2 ^ h) (entry h w) 0 2097152 (λ j a b. entry_bounded 2097152 h j w l (omega arith)) i in
    omega (zarith, abs_law (get_or (index_from (2 * 2 ^ h) (entry h w) 0) i (pos 0)))
