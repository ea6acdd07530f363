-- What holds of the state before every field, and that it goes on holding past a field without fault.
-- Assumes nothing.
use mathlib.Core.Path.{◌≡◌, refl}
use Prim.Native.Nat.{ℕ, ◌≤◌}
use mathlib.Core.List.{List}
use native.Mathlib.Omega.{arith}
use lib.ListN.{length}
use Rattle.word.specs.Bits.{bytes_of}
use Rattle.house.specs.declared.State.{State}
use Rattle.house.specs.declared.Stage.TheVariants.{First}
use Rattle.house.specs.Fields.{size, stretch, question}
use Rattle.house.specs.File.{start, sized, worded, questioned}
use Rattle.house.proofs.Fields.{Fits}

pub record Steady (s : State) : Type 0 where
  pub small : s.m ≤ 65536
  pub held : s.bytes ≤ bytes_of s.m
  pub few : s.asked ≤ 1024
  pub first : s.stage ≡ First → s.bytes ≡ 0

pub steady_start : Steady start
steady_start = record { small = omega arith; held = omega arith; few = omega arith; first = λ e. refl }

module _ (file : List ℕ) (s : State) (steady : Steady s) where
  pub steady_sized : (m : ℕ) → Fits file s (size m) → Steady (sized s m)
  steady_sized m b =
      record { small = b.1.1; held = omega (arith, steady.first b.1.0); few = steady.few; first = λ e. cc }

  pub steady_worded : (part : List ℕ) → Fits file s (stretch part) → Steady (worded s (length part))
  steady_worded part b = record { small = steady.small; held = b.1; few = steady.few; first = λ e. cc }

  pub steady_questioned : (part : List ℕ) → Fits file s (question part) → Steady (questioned s)
  steady_questioned part b = record { small = steady.small; held = steady.held; few = omega arith; first = λ e. cc }
