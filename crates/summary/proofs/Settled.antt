-- No second outcome fits the promises of this crate's public functions. Assumes nothing.
use mathlib.Core.Path.{◌≡◌}
use mathlib.Core.Bool.{Bool}
use mathlib.Core.List.{List}
use lib.IntN.{ℤ}
use Rattle.word.specs.Settles.{Settles}
use Rattle.word.proofs.Settled.{by_equation}
use Rattle.summary.specs.declared.Summary.{Summary}
use Rattle.summary.specs.Four.{four, of_four}
use Rattle.summary.specs.Join.{empty_of, join_of}
use Rattle.summary.specs.Stretch.{step}

pub join_settled : (self other : Summary) → Settles {A = Summary} (λ r. r ≡ join_of self other)
join_settled self other = by_equation (join_of self other)

pub empty_settled : Settles {A = Summary} (λ r. r ≡ empty_of)
empty_settled = by_equation empty_of

-- a summary from its four numbers, and the four numbers of one
pub from_four_settled : (numbers : List ℤ) → Settles {A = Summary} (λ s. s ≡ of_four numbers)
from_four_settled numbers = by_equation (of_four numbers)

pub four_settled : (s : Summary) → Settles {A = List ℤ} (λ numbers. numbers ≡ four s)
four_settled s = by_equation (four s)

pub step_settled : (opens : Bool) → Settles {A = ℤ} (λ r. r ≡ step opens)
step_settled opens = by_equation (step opens)
