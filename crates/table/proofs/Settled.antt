-- No second outcome fits the promise of this crate's public function. Assumes nothing.
use mathlib.Core.Path.{◌≡◌}
use mathlib.Core.List.{List}
use Prim.Native.Nat.{ℕ, ◌-◌}
use Rattle.word.specs.Bits.{bits}
use Rattle.word.specs.Settles.{Settles}
use Rattle.word.proofs.Settled.{by_equation}
use Rattle.summary.specs.declared.Summary.{Summary}
use Rattle.summary.specs.Stretch.{summary_of}

pub stretch_settled : (bytes : List ℕ) (from to : ℕ) → Settles {A = Summary} (λ r. r ≡ summary_of (bits bytes from (to - from)))
stretch_settled bytes from to = by_equation (summary_of (bits bytes from (to - from)))
