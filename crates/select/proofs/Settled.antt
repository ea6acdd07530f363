-- No second outcome fits the promise of this crate's public function. Assumes nothing.
use mathlib.Core.Path.{◌≡◌}
use mathlib.Core.List.{List}
use Prim.Native.Nat.{ℕ}
use Rattle.std.specs.Prelude as code
use Rattle.word.specs.Bits.{word}
use Rattle.word.specs.Settles.{Settles}
use Rattle.index.specs.Shape.{height}
use Rattle.walk.specs.declared.Counted.{Counted}
use Rattle.walk.specs.Walk.{said}
use Rattle.walk.specs.Select.{select}
use Rattle.walk.proofs.Settled.{said_settled}

pub select_settled : (bytes : List ℕ) (m r : ℕ) →
    Settles {A = Counted (code.Option ℕ)} (λ x. said x ≡ select (height m) (word bytes m) r)
select_settled bytes m r = said_settled (select (height m) (word bytes m) r)
