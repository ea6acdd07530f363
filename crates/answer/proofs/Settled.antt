-- No second outcome fits the promise of this crate's public function. Assumes nothing.
use mathlib.Core.Path.{◌≡◌}
use mathlib.Core.List.{List}
use Prim.Native.Nat.{ℕ}
use Rattle.word.specs.Settles.{Settles}
use Rattle.word.proofs.Settled.{by_telling}
use Rattle.std.specs.Prelude.{Result}
use Rattle.walk.specs.declared.Counted.{Counted}
use Rattle.question.specs.declared.fault.Fault.{Fault}
use Rattle.question.specs.Answer.{answer_of}
use Rattle.question.proofs.Faults.{answered_apart}
use Rattle.answer.specs.Told.{told}

-- no two answers are told alike
told_apart : (r s : Counted (Result ℕ Fault)) → told r ≡ told s → r ≡ s
told_apart r s e = let z = answered_apart r.value s.value r.reads s.reads e in λ i. record { value = z.0 i; reads = z.1 i }

pub answer_settled : (bytes : List ℕ) (m kind a b : ℕ) → Settles {A = Counted (Result ℕ Fault)} (λ r. told r ≡ answer_of bytes m kind a b)
answer_settled bytes m kind a b = by_telling told told_apart (answer_of bytes m kind a b)
