-- No second outcome fits the promise of this crate's public functions. Assumes nothing.
use mathlib.Core.Path.{◌≡◌}
use mathlib.Core.List.{List}
use Prim.Native.Nat.{ℕ}
use Rattle.std.specs.Prelude.{Result}
use Rattle.word.specs.Bits.{word}
use Rattle.word.specs.Settles.{Settles}
use Rattle.word.proofs.Settled.{by_equation, by_telling}
use Rattle.judge.specs.Numbered.{numbered}
use Rattle.judge.proofs.Numbered.{numbered_apart}
use Rattle.question.specs.declared.Question.{Question}
use Rattle.question.specs.declared.fault.Fault.{Fault}
use Rattle.question.specs.Fault.{number_of}
use Rattle.question.specs.Decode.{decode_of}
use Rattle.question.proofs.Faults.{number_apart}

pub decode_settled : (bytes : List ℕ) (m kind a b : ℕ) →
    Settles {A = Result Question Fault} (λ r. numbered number_of r ≡ decode_of (word bytes m) kind a b)
decode_settled bytes m kind a b =
    by_telling (numbered number_of) (numbered_apart number_of number_apart) (decode_of (word bytes m) kind a b)

-- the number of a fault
pub from_settled : (f : Fault) → Settles {A = ℕ} (λ n. n ≡ number_of f)
from_settled f = by_equation (number_of f)
