-- No second outcome fits the promise of this crate's public function. Assumes nothing.
use mathlib.Core.Path.{◌≡◌}
use mathlib.Core.Bool.{Bool}
use mathlib.Core.List.{List}
use Prim.Native.Nat.{ℕ}
use lib.IntN.{ℤ}
use Rattle.word.specs.Bits.{word}
use Rattle.word.specs.Settles.{Settles}
use Rattle.word.proofs.Settled.{by_equation}
use Rattle.index.specs.Shape.{height}
use Rattle.index.specs.Lent.{is_index}

pub same_settled : (bytes : List ℕ) (m : ℕ) (idx : List ℤ) → Settles {A = Bool} (λ r. r ≡ is_index (height m) (word bytes m) idx)
same_settled bytes m idx = by_equation (is_index (height m) (word bytes m) idx)
