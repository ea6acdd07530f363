-- Where an entry stands in the index, and the stretch that it sums up. Assumes nothing.
use mathlib.Core.Path.{◌≡◌, refl, sym, ap, subst, ◌∙◌}
use mathlib.Core.Bool.{Bool, true, false}
use mathlib.Core.List.{List, ◌++◌}
use Prim.Native.Nat.{ℕ, zero, suc, ◌+◌, ◌-◌, ◌*◌, ◌/◌, ◌%◌, ◌^◌, ◌≤◌, ◌<◌}
use native.Mathlib.Omega.{arith}
use native.Mathlib.Nat.{two-pow-succ, one-le-pow, mul-le-mul_right, mul-le-mul_left}
use lib.Pow.{pow-add}
use lib.Dec.{T, eqb, eqb→eq, leb, le→leb, leb→le}
use lib.ListN.{take, drop}
use lib.Seq.{take-add, drop-drop}
use Rattle.summary.specs.declared.Summary.{Summary}
use Rattle.word.proofs.Signed.{T_true, true_T, not_true}
use Rattle.summary.specs.Stretch.{summary_of}
use Rattle.summary.specs.Join.{join_of}
use Rattle.summary.proofs.Append.{summary_append}
use Rattle.index.specs.Shape.{block, entry_by, entry}
use Rattle.index.specs.Shape.{even}

-- `omega` does not open a power that is a factor
pub twice : (k g : ℕ) → k * 2 ^ suc g ≡ 2 * (k * 2 ^ g)
twice k g = rw (two-pow-succ g) (omega arith)

-- entry k is f levels below entry 1 and g levels above the leaves
pub record Level (h f g k : ℕ) : Type 0 where
  pub levels : f + g ≡ h
  pub low : 2 ^ f ≤ k
  pub high : k < 2 ^ suc f

pub even_yes : (k : ℕ) → even k ≡ true → k % 2 ≡ 0
even_yes k e = eqb→eq (k % 2) 0 (true_T e)

pub even_no : (k : ℕ) → even k ≡ false → k % 2 ≡ 1
even_no k e = omega (arith, odd)
  where
    odd : k % 2 ≡ 0 → ⊥
    odd z = absurd (subst T (sym (T_true _ (subst (λ x. T (eqb x 0)) (sym z) tt)) ∙ e) tt)

module _ {h f g k : ℕ} where
  pub level_up : Level h (suc f) g k → Level h f (suc g) (k / 2)
  level_up l = record {
    levels = omega (arith, l.levels);
    low = omega (arith, two-pow-succ f, l.low);
    high = omega (arith, two-pow-succ (suc f), l.high);
  }

  pub level_next : Level h (suc f) g k → k % 2 ≡ 0 → Level h (suc f) g (k + 1)
  level_next l e = record { levels = l.levels; low = omega (arith, l.low); high = omega (arith, two-pow-succ (suc f), l.high) }

  pub level_before : Level h (suc f) g k → k % 2 ≡ 1 → Level h (suc f) g (k - 1)
  level_before l e = record { levels = l.levels; low = omega (arith, two-pow-succ f, l.low); high = omega (arith, l.high) }

  pub level_left : Level h f (suc g) k → Level h (suc f) g (2 * k)
  level_left l = record {
    levels = omega (arith, l.levels);
    low = omega (arith, two-pow-succ f, l.low);
    high = omega (arith, two-pow-succ (suc f), l.high);
  }

  pub level_right : Level h f (suc g) k → Level h (suc f) g (2 * k + 1)
  level_right l = record {
    levels = omega (arith, l.levels);
    low = omega (arith, two-pow-succ f, l.low);
    high = omega (arith, two-pow-succ (suc f), l.high);
  }

  pub level_low : Level h f g k → 2 ^ h ≤ k * 2 ^ g
  level_low l = omega (arith, mul-le-mul_right (2 ^ g) l.low, pow-add 2 f g, ap (λ n. 2 ^ n) l.levels)

  pub level_high : Level h f g k → suc k * 2 ^ g ≤ 2 * 2 ^ h
  level_high l = omega (arith, mul-le-mul_right (2 ^ g) l.high, rw (two-pow-succ f) at (mul-le-mul_right (2 ^ g) l.high), pow-add 2 f g, ap (λ n. 2 ^ n) l.levels)

-- a stretch of 2 ^ suc g blocks is two of 2 ^ g
pub halves : (g a : ℕ) (w : List Bool)
    → take (256 * 2 ^ suc g) (drop (256 * a) w) ≡ take (256 * 2 ^ g) (drop (256 * a) w) ++ take (256 * 2 ^ g) (drop (256 * (a + 2 ^ g)) w)
halves g a w =
    let e : 256 * 2 ^ suc g ≡ 256 * 2 ^ g + 256 * 2 ^ g = omega (arith, two-pow-succ g) in
    let d : 256 * (a + 2 ^ g) ≡ 256 * a + 256 * 2 ^ g = omega arith in
    rw (e, d, take-add, drop-drop)

-- "Entry L+b is block b's summary; entry k below L joins 2k and 2k+1": so an entry sums up a stretch of 2 ^ g blocks
pub leaf : (n l k : ℕ) (w : List Bool) → l ≤ k → entry_by n w l k ≡ summary_of (block w (k - l))
unfolding entry_by
leaf zero l k w o = refl
leaf (suc n) l k w o = rw (T_true (leb l k) (le→leb l k o))

inner : (n l k : ℕ) (w : List Bool) → k < l → entry_by (suc n) w l k ≡ join_of (entry_by n w l (2 * k)) (entry_by n w l (2 * k + 1))
unfolding entry_by
inner n l k w o = rw (not_true (leb l k) (λ z. omega (arith, leb→le l k (true_T z))))

pub below_leaves : {h f g k : ℕ} → Level h f (suc g) k → k < 2 ^ h
below_leaves {h} {f} {g} {k} l = omega (arith, level_high l, twice (suc k) g, mul-le-mul_left (suc k) (one-le-pow g 2 (omega arith)))

-- what entry k sums up
abbrev pub Sums : List Bool → ℕ → ℕ → Summary → Type 0
Sums w g a s = s ≡ summary_of (take (256 * 2 ^ g) (drop (256 * a) w))

pub both : (w : List Bool) (g a : ℕ) (x y : Summary) → Sums w g a x → Sums w g (a + 2 ^ g) y → Sums w (suc g) a (join_of x y)
both w g a x y p q = rw (p, q, halves g a w, summary_append)

at_leaf : (n h k a : ℕ) (w : List Bool) → 2 ^ h + a ≡ k * 2 ^ 0 → Sums w 0 a (entry_by n w (2 ^ h) k)
at_leaf n h k a w e = leaf n (2 ^ h) k w (omega arith) ∙ ap (λ b. summary_of (block w b)) (let d : k - 2 ^ h ≡ a = omega arith in d)

entry_by_lem : (g n h f k a : ℕ) (w : List Bool) → g ≤ n → Level h f g k → 2 ^ h + a ≡ k * 2 ^ g → Sums w g a (entry_by n w (2 ^ h) k)
entry_by_lem zero n h f k a w o l e = at_leaf n h k a w e
entry_by_lem (suc g) zero h f k a w o l e = absurd (omega arith)
entry_by_lem (suc g) (suc n) h f k a w o l e = inner n (2 ^ h) k w (below_leaves l) ∙ both w g a _ _
    (entry_by_lem g n h (suc f) (2 * k) a w (omega arith) (level_left l) (omega (arith, e, twice k g)))
    (entry_by_lem g n h (suc f) (2 * k + 1) (a + 2 ^ g) w (omega arith) (level_right l) (omega (arith, e, twice k g)))

pub entry_is : (h f g k a : ℕ) (w : List Bool) → Level h f g k → 2 ^ h + a ≡ k * 2 ^ g
    → entry h w k ≡ summary_of (take (256 * 2 ^ g) (drop (256 * a) w))
unfolding entry
entry_is h f g zero a w l e = absurd (omega (arith, l.low, one-le-pow f 2 (omega arith)))
entry_is h f g (suc k) a w l e = entry_by_lem g h h f (suc k) a w (omega (arith, l.levels)) l e
