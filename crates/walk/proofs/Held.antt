-- The test of an entry, as the machine has it: each number is read back from its bits.
use mathlib.Core.Path.{◌≡◌}
use mathlib.Core.Bool.{false, cond}
use lib.IntN.{ℤ, pos}
use lib.Signed.{le_z}
use mir.Syntax.{w32, w64}
use mir.Val.{SFits, of_z}
use mir.Facts.{to_z-of_z, sfits_lit}
use Rattle.word.proofs.Signed.{of_z_eq, of_z_ne, eq→, →eq_z}
use Rattle.summary.specs.declared.Summary.{Summary}
use Rattle.summary.proofs.Machine.{rb}
use Rattle.walk.proofs.Signed64.{wb, widen}
use Rattle.walk.specs.Walk.{hit}

module _ (s : Summary) (want : ℤ) where
  pub empty_held : SFits w32 s.count → of_z w32 s.count ≡ 0 → false ≡ hit s want
  empty_held c e = rw (→eq_z s.count (pos 0) (eq→ s.count (pos 0) (of_z_eq s.count (pos 0) c (sfits_lit tt) e)))

  pub full_held : (l g : ℤ) → SFits w32 s.least → SFits w32 s.greatest → SFits w64 want → (of_z w32 s.count ≡ 0 → ⊥) → l ≡ rb s.least
      → g ≡ rb s.greatest
      → cond (le_z (wb l) (wb want)) (le_z (wb want) (wb g)) false ≡ hit s want
  full_held l g a b c f p q =
      rw (p, q, to_z-of_z a, to_z-of_z b, to_z-of_z (widen a), to_z-of_z (widen b), to_z-of_z c, of_z_ne s.count (pos 0) f)
