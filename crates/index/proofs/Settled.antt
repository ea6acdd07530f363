-- No second outcome fits the promises of this crate's public functions. Assumes nothing.
use mathlib.Core.Path.{◌≡◌}
use mathlib.Core.List.{List}
use Prim.Native.Nat.{ℕ, ◌*◌, ◌^◌}
use lib.IntN.{ℤ}
use lib.Seq.{sets}
use Rattle.word.specs.Settles.{Settles}
use Rattle.word.proofs.Settled.{by_equation}
use Rattle.summary.specs.declared.Summary.{Summary}
use Rattle.index.specs.Shape.{height, numbers_of}
use Rattle.index.specs.Lent.{entry_at, four}

pub read_settled : (idx : List ℤ) (k : ℕ) → Settles {A = Summary} (λ r. r ≡ entry_at idx k)
read_settled idx k = by_equation (entry_at idx k)

-- every number of the lent slice
pub put_settled : (held : List ℤ) (k : ℕ) (s : Summary) → Settles {A = List ℤ} (λ left. left ≡ sets held (4 * k) (four s))
put_settled held k s = by_equation (sets held (4 * k) (four s))

pub leaves_settled : (m : ℕ) → Settles {A = ℕ} (λ r. r ≡ 2 ^ height m)
leaves_settled m = by_equation (2 ^ height m)

pub numbers_of_settled : (m : ℕ) → Settles {A = ℕ} (λ r. r ≡ numbers_of m)
numbers_of_settled m = by_equation (numbers_of m)
