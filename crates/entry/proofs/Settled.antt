-- No second outcome fits the promise of this crate's public function. Assumes nothing.
use mathlib.Core.Path.{◌≡◌}
use mathlib.Core.List.{List}
use Prim.Native.Nat.{ℕ}
use Rattle.word.specs.Bits.{word}
use Rattle.word.specs.Settles.{Settles}
use Rattle.word.proofs.Settled.{by_equation}
use Rattle.summary.specs.declared.Summary.{Summary}
use Rattle.index.specs.Shape.{height, entry}

pub own_settled : (bytes : List ℕ) (m k : ℕ) → Settles {A = Summary} (λ r. r ≡ entry (height m) (word bytes m) k)
own_settled bytes m k = by_equation (entry (height m) (word bytes m) k)
