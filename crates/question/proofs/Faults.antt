-- No two faults have one number, so that nothing is lost where a fault is told by it. Assumes nothing.
use mathlib.Core.Path.{◌≡◌, refl, sym, ap}
use mathlib.Core.Bool.{cond}
use Prim.Native.Nat.{ℕ}
use lib.Dec.{eqb}
use Rattle.std.specs.Prelude.{Result, Ok, Err}
use Rattle.judge.proofs.Numbered as any
use Rattle.question.specs.declared.fault.Fault.{Fault}
use Rattle.question.specs.declared.fault.Fault.TheVariants.{UnknownKind, NoPlace, NotOpening, NotClosing, Reversed, NoNode}
use Rattle.question.specs.Fault.{number_of}
use Rattle.question.specs.Answer.{Answer, answered}

-- the fault that has a number
abbrev fault_of : ℕ → Fault
fault_of n =
    cond (eqb n 11) UnknownKind
    (cond (eqb n 12) NoPlace
    (cond (eqb n 13) NotOpening
    (cond (eqb n 14) NotClosing
    (cond (eqb n 15) Reversed NoNode))))

there_and_back : (f : Fault) → fault_of (number_of f) ≡ f
there_and_back UnknownKind = refl
there_and_back NoPlace = refl
there_and_back NotOpening = refl
there_and_back NotClosing = refl
there_and_back Reversed = refl
there_and_back NoNode = refl

pub number_apart : (f g : Fault) → number_of f ≡ number_of g → f ≡ g
number_apart = any.number_apart number_of fault_of there_and_back

-- and none has 0, the code of a result
pub number_some : (f : Fault) → number_of f ≡ 0 → ⊥
number_some UnknownKind e = cc
number_some NoPlace e = cc
number_some NotOpening e = cc
number_some NotClosing e = cc
number_some Reversed e = cc
number_some NoNode e = cc

-- so an answer's code and result tell what was given back, and its reads are those beside it
code : {a b : Answer} → a ≡ b → a.code ≡ b.code
code e = ap (λ (a : Answer). a.code) e

reads : {a b : Answer} → a ≡ b → a.reads ≡ b.reads
reads e = ap (λ (a : Answer). a.reads) e

pub answered_apart : (r s : Result ℕ Fault) (n k : ℕ) → answered r n ≡ answered s k → (r ≡ s) × (n ≡ k)
answered_apart (Ok x) (Ok y) n k e = (ap Ok (ap (λ (a : Answer). a.result) e), reads e)
answered_apart (Ok x) (Err g) n k e = absurd (number_some g (sym (code e)))
answered_apart (Err f) (Ok y) n k e = absurd (number_some f (code e))
answered_apart (Err f) (Err g) n k e = (ap Err (number_apart f g (code e)), reads e)
