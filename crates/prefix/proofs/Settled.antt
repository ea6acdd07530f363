-- No second outcome fits the promise of this crate's public function. Assumes nothing.
use mathlib.Core.Path.{◌≡◌}
use mathlib.Core.List.{List}
use Prim.Native.Nat.{ℕ}
use lib.IntN.{ℤ}
use Rattle.word.specs.Bits.{word}
use Rattle.word.specs.Settles.{Settles}
use Rattle.index.specs.Shape.{height}
use Rattle.walk.specs.declared.Counted.{Counted}
use Rattle.walk.specs.Walk.{told}
use Rattle.walk.specs.Prefix.{prefix}
use Rattle.walk.proofs.Settled.{told_settled}

pub prefix_settled : (bytes : List ℕ) (m p : ℕ) → Settles {A = Counted ℤ} (λ r. told r ≡ prefix (height m) (word bytes m) p)
prefix_settled bytes m p = told_settled (prefix (height m) (word bytes m) p)
