-- No second outcome fits the promise of this crate's public function. Assumes nothing.
use mathlib.Core.Path.{◌≡◌}
use mathlib.Core.List.{List}
use Prim.Native.Nat.{ℕ}
use lib.IntN.{ℤ}
use Rattle.word.specs.Bits.{word}
use Rattle.word.specs.Settles.{Settles}
use Rattle.index.specs.Shape.{height}
use Rattle.std.specs.Prelude as code
use Rattle.walk.specs.declared.Counted.{Counted}
use Rattle.walk.specs.Walk.{said}
use Rattle.walk.specs.Backward.{backward}
use Rattle.walk.proofs.Settled.{said_settled}

pub backward_settled : (bytes : List ℕ) (m p : ℕ) (want : ℤ)
    → Settles {A = Counted (code.Option ℕ)} (λ r. said r ≡ backward (height m) (word bytes m) p want)
backward_settled bytes m p want = said_settled (backward (height m) (word bytes m) p want)
