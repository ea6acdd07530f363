-- The code's answer, as the definitions have it.
use Rattle.std.specs.Prelude.{ℕ, Result}
use Rattle.walk.specs.declared.Counted.{Counted}
use Rattle.question.specs.declared.fault.Fault.{Fault}
use Rattle.question.specs.Answer.{Answer, answered}

abbrev pub told : Counted (Result ℕ Fault) → Answer
told r = answered r.value r.reads
