-- No second outcome fits the promise of this crate's public function. Assumes nothing.
use mathlib.Core.Path.{◌≡◌}
use mathlib.Core.List.{List}
use Prim.Native.Nat.{ℕ}
use Rattle.word.specs.Bits.{word}
use Rattle.word.specs.Settles.{Settles}
use Rattle.summary.specs.declared.Summary.{Summary}
use Rattle.index.specs.Shape.{height}
use Rattle.walk.specs.declared.Counted.{Counted}
use Rattle.walk.specs.Walk.{told}
use Rattle.walk.specs.Range.{range}
use Rattle.walk.proofs.Settled.{told_settled}

pub range_settled : (bytes : List ℕ) (m a b : ℕ) → Settles {A = Counted Summary} (λ r. told r ≡ range (height m) (word bytes m) a b)
range_settled bytes m a b = told_settled (range (height m) (word bytes m) a b)
