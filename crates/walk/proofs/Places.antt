-- Where the entries that a walk meets stand, counted in blocks, and the stretches of the word that they sum up.
-- Places are equations, with no subtraction.
use mathlib.Core.Path.{◌≡◌, sym, ap}
use mathlib.Core.Bool.{Bool, true, false}
use mathlib.Core.List.{List, [], ◌∷◌}
use Prim.Native.Nat.{ℕ, zero, suc, ◌+◌, ◌-◌, ◌*◌, ◌/◌, ◌^◌, ◌≤◌, ◌<◌}
use native.Mathlib.Omega.{arith}
use native.Mathlib.Nat.{two-pow-succ, one-le-pow}
use lib.ListN.{take, drop}
use lib.Seq.{take-take, drop-drop, take-nil}
use Rattle.summary.specs.Stretch.{summary_of}
use Rattle.index.specs.Shape.{entry, even}
use Rattle.index.proofs.Level.{Level, twice, even_yes, even_no, level_before, level_low, entry_is}

-- 2 ^ g blocks from block a
abbrev pub stretch : List Bool → ℕ → ℕ → List Bool
stretch w g a = take (256 * 2 ^ g) (drop (256 * a) w)

pub drop_take : (n m : ℕ) (z : List Bool) → drop n (take (n + m) z) ≡ take m (drop n z)
drop_take zero m z = let e : 0 + m ≡ m = omega arith in rw e
drop_take (suc n) m [] = let e : suc n + m ≡ suc (n + m) = omega arith in rw e (sym (take-nil m))
drop_take (suc n) m (b ∷ z) = let e : suc n + m ≡ suc (n + m) = omega arith in rw e (drop_take n m z)

pub left_half : (w : List Bool) (g a : ℕ) → take (256 * 2 ^ g) (stretch w (suc g) a) ≡ stretch w g a
left_half w g a = take-take (256 * 2 ^ g) (256 * 2 ^ suc g) (drop (256 * a) w) (omega (arith, two-pow-succ g))

pub right_half : (w : List Bool) (g a : ℕ) → drop (256 * 2 ^ g) (stretch w (suc g) a) ≡ stretch w g (a + 2 ^ g)
right_half w g a =
    let e : 256 * 2 ^ suc g ≡ 256 * 2 ^ g + 256 * 2 ^ g = omega (arith, two-pow-succ g) in
    let d : 256 * (a + 2 ^ g) ≡ 256 * a + 256 * 2 ^ g = omega arith in
    rw (e, d, drop_take, drop-drop)

-- entry k, g levels above the leaves of an index of height h, starts at block a
pub record Starts (h g k a : ℕ) : Type 0 where
  pub at : 2 ^ h + a ≡ k * 2 ^ g

-- it ends before block a
pub record Ends (h g k a : ℕ) : Type 0 where
  pub at : 2 ^ h + a ≡ suc k * 2 ^ g

-- ---- the leaf of boundary p, and entry 1
pub leaf_level : (h m p : ℕ) → m ≤ 256 * 2 ^ h → p < m → Level h h 0 (2 ^ h + p / 256)
leaf_level h m p l b = record { levels = omega arith; low = omega arith; high = omega (arith, two-pow-succ h) }

pub leaf_starts : (h b : ℕ) → Starts h 0 (2 ^ h + b) b
leaf_starts h b = record { at = omega arith }

pub leaf_ends : (h b : ℕ) → Ends h 0 (2 ^ h + b) (suc b)
leaf_ends h b = record { at = omega arith }

pub root_level : (h : ℕ) → Level h 0 h 1
root_level h = record { levels = omega arith; low = omega arith; high = omega arith }

pub root_starts : (h : ℕ) → Starts h h 1 0
root_starts h = record { at = omega arith }

half_even : (k : ℕ) → even k ≡ true → k ≡ 2 * (k / 2)
half_even k v = omega (arith, even_yes k v)

half_odd : (k : ℕ) → even k ≡ false → k ≡ 2 * (k / 2) + 1
half_odd k v = omega (arith, even_no k v)

pub not_one : {h f g k : ℕ} → Level h (suc f) g k → k ≡ 1 → ⊥
not_one {h} {f} {g} {k} l e = omega (arith, l.low, two-pow-succ f, one-le-pow f 2 (omega arith))

-- the entry before an odd one starts 2 ^ g blocks earlier, at block b, and so does the one above
pub record Earlier (h g k a b : ℕ) : Type 0 where
  pub before : Starts h g (k - 1) b
  pub above : Starts h (suc g) (k / 2) b
  pub is : a ≡ b + 2 ^ g

module _ {h g k a : ℕ} where
  pub root_start : Level h 0 g k → Starts h g k a → a ≡ 0
  root_start l s =
      let z : g ≡ h = omega (arith, l.levels) in
      let o : k ≡ 1 = omega (arith, l.low, l.high) in
      omega (arith, s.at, ap (λ n. 2 ^ n) z, ap (λ j. j * 2 ^ g) o)

  -- ---- one level down
  pub left_starts : Starts h (suc g) k a → Starts h g (2 * k) a
  left_starts s = record { at = omega (arith, s.at, twice k g) }

  pub right_starts : Starts h (suc g) k a → Starts h g (2 * k + 1) (a + 2 ^ g)
  right_starts s = record { at = omega (arith, s.at, twice k g) }

  -- ---- beside
  pub next_starts : Ends h g k a → Starts h g (k + 1) a
  next_starts s = record { at = omega (arith, s.at) }

  -- ---- one level up: past the entry after an even one, the end is 2 ^ g blocks later; an odd one ends where the one above ends
  pub ends_even : even k ≡ true → Ends h g k a → Ends h (suc g) (k / 2) (a + 2 ^ g)
  ends_even v s = record { at = omega (arith, s.at, twice (suc (k / 2)) g, ap (λ j. j * 2 ^ g) (half_even k v)) }

  pub ends_odd : even k ≡ false → Ends h g k a → Ends h (suc g) (k / 2) a
  ends_odd v s = record { at = omega (arith, s.at, twice (suc (k / 2)) g, ap (λ j. j * 2 ^ g) (half_odd k v)) }

  -- an even entry starts where the one above starts
  pub starts_even : even k ≡ true → Starts h g k a → Starts h (suc g) (k / 2) a
  starts_even v s = record { at = omega (arith, s.at, twice (k / 2) g, ap (λ j. j * 2 ^ g) (half_even k v)) }

  pub starts_odd : {f : ℕ} → Level h (suc f) g k → even k ≡ false → Starts h g k a → Earlier h g k a (a - 2 ^ g)
  starts_odd {f} l v s = record {
    before = record { at = omega (arith, facts) };
    above = record { at = omega (arith, facts, twice (k / 2) g, ap (λ j. j * 2 ^ g) (half_odd k v)) };
    is = omega (arith, facts);
  }
    where
      facts : (2 ^ h + a ≡ k * 2 ^ g) × (2 ^ h ≤ (k - 1) * 2 ^ g) × (k * 2 ^ g ≡ ((k - 1) + 1) * 2 ^ g)
      facts = (
        s.at,
        level_low (level_before l (even_no k v)),
        ap (λ j. j * 2 ^ g) (let o : k ≡ (k - 1) + 1 = omega (arith, even_no k v) in o),
      )

-- "Entry k below L joins 2k and 2k+1": so an entry sums up the stretch over which it stands
pub stands : (h : ℕ) (w : List Bool) {f g k a : ℕ} → Level h f g k → Starts h g k a → entry h w k ≡ summary_of (stretch w g a)
stands h w {f} {g} {k} {a} l s = entry_is h f g k a w l s.at
