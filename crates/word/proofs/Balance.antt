-- A word is balanced exactly when D is never negative at any boundary and ends at 0. Assumes nothing.
use mathlib.Core.Path.{◌≡◌, refl, subst}
use mathlib.Core.Logic.{◌↔◌}
use mathlib.Core.Bool.{Bool, true, false}
use mathlib.Core.List.{List, [], ◌∷◌}
use Prim.Native.Nat.{ℕ, zero, suc, ◌+◌, ◌≤◌}
use native.Mathlib.Omega.{arith}
use lib.ListN.{length}
use lib.IntN.{pos}
use lib.Signed.{◌≤ℤ◌}
use Rattle.word.specs.Forest.{Forest, encode, Balanced, count, D}
use Rattle.word.specs.Parse.{at_closing, at_opening, read, is_balanced}
use Rattle.word.specs.Signed.{P}
use Rattle.word.proofs.Signed.{zarith, parts}
use Rattle.word.proofs.Depth.{rank, D_law, D_end}
use Rattle.word.proofs.Parse.{one_left, is_balanced_iff}
use Rattle.word.proofs.Bridge.{even, never_below}

-- ---- a forest's word

module _ (f : Forest) where
  pub never_negative : (p : ℕ) → p ≤ length (encode f) → pos 0 ≤ℤ D (encode f) p
  never_negative p h = omega (zarith, D_law (encode f) p, never_below f p h)

  -- so D is the number of its positive part
  pub D_is_pos : (p : ℕ) → p ≤ length (encode f) → D (encode f) p ≡ pos (P (D (encode f) p))
  D_is_pos p h = omega (zarith, parts (D (encode f) p), never_negative p h)

  pub ends_at_0 : D (encode f) (length (encode f)) ≡ pos 0
  ends_at_0 = omega (zarith, D_end (encode f), even f)

-- ---- any word

-- read from its end, a word that has h closings too many, and never more than h, leaves h + 1 forests
read_length : (w : List Bool) (h : ℕ) → ((p : ℕ) → p ≤ length w → rank false w p ≤ h + rank true w p) → h + count true w ≡ count false w
    → length (read w) ≡ suc h
read_length [] zero low ends = refl
read_length [] (suc h) low ends = absurd (omega arith)
read_length (true ∷ w) h low ends = go (read w) (read_length w (suc h) (λ p l. omega (arith, low (suc p) (omega arith))) (omega arith))
  where
    go : (t : List Forest) → length t ≡ suc (suc h) → length (at_opening t) ≡ suc h
    go [] l = omega arith
    go (f ∷ []) l = omega arith
    go (f ∷ (g ∷ s)) l = omega arith
read_length (false ∷ w) zero low ends = absurd (omega (arith, low 1 (omega arith)))
read_length (false ∷ w) (suc h) low ends = go (read w) (read_length w h (λ p l. omega (arith, low (suc p) (omega arith))) (omega arith))
  where
    go : (t : List Forest) → length t ≡ suc h → length (at_closing t) ≡ suc (suc h)
    go [] l = omega arith
    go (f ∷ s) l = omega arith

pub balanced_iff : (w : List Bool) → Balanced w ↔ (((p : ℕ) → p ≤ length w → pos 0 ≤ℤ D w p) × (D w (length w) ≡ pos 0))
balanced_iff w = (
  (λ b. subst (λ u. ((p : ℕ) → p ≤ length u → pos 0 ≤ℤ D u p) × (D u (length u) ≡ pos 0)) b.1 (never_negative b.0, ends_at_0 b.0)),
  λ h. one_left w (read_length w 0 (λ p l. omega (zarith, D_law w p, h.0 p l)) (omega (zarith, D_end w, h.1))),
)

pub is_balanced_by : (w : List Bool) → (is_balanced w ≡ true) ↔ (((p : ℕ) → p ≤ length w → pos 0 ≤ℤ D w p) × (D w (length w) ≡ pos 0))
is_balanced_by w = ((λ e. (balanced_iff w).0 ((is_balanced_iff w).0 e)), λ h. (is_balanced_iff w).1 ((balanced_iff w).1 h))
