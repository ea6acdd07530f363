-- No two faults have one number, and no second number fits what `u32::from` a fault promises. Assumes nothing.
use mathlib.Core.Path.{◌≡◌, refl}
use mathlib.Core.Bool.{cond}
use Prim.Native.Nat.{ℕ}
use lib.Dec.{eqb}
use Rattle.word.specs.Settles.{Settles}
use Rattle.word.proofs.Settled.{by_equation}
use Rattle.judge.proofs.Numbered as any
use Rattle.house.specs.declared.fault.Fault.{Fault}
use Rattle.house.specs.declared.fault.Fault.TheVariants.{TooFewBytes, CutShort, UnknownTag, OutOfPlace, WrongLength, TooMuch}
use Rattle.house.specs.Faults.{number_of}

-- back from the number
fault_of : ℕ → Fault
fault_of n =
    cond (eqb n 2) TooFewBytes
    (cond (eqb n 31) CutShort
    (cond (eqb n 32) UnknownTag
    (cond (eqb n 33) OutOfPlace
    (cond (eqb n 34) WrongLength TooMuch))))

fault_is : (fault : Fault) → fault_of (number_of fault) ≡ fault
unfolding fault_of
fault_is TooFewBytes = refl
fault_is CutShort = refl
fault_is UnknownTag = refl
fault_is OutOfPlace = refl
fault_is WrongLength = refl
fault_is TooMuch = refl

pub number_apart : (f g : Fault) → number_of f ≡ number_of g → f ≡ g
number_apart = any.number_apart number_of fault_of fault_is

-- the number of a fault
pub from_settled : (f : Fault) → Settles {A = ℕ} (λ n. n ≡ number_of f)
from_settled f = by_equation (number_of f)
