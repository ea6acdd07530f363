-- No second outcome fits the promises of this crate's public functions. Assumes nothing.
use mathlib.Core.Path.{◌≡◌, sym, ap, ◌∙◌}
use mathlib.Core.Bool.{Bool}
use mathlib.Core.List.{List}
use Prim.Native.Nat.{ℕ, ◌≤◌}
use Rattle.std.specs.Prelude.{⊤, Result, Ok, Err, IfOk}
use Rattle.word.specs.declared.row.Row.{Row}
use Rattle.word.specs.Bits.{word, bytes_of}
use Rattle.word.specs.Parse.{is_balanced}
use Rattle.word.specs.Settles.{Settles}
use Rattle.word.proofs.Settled.{by_equation, by_telling}
use Rattle.judge.specs.declared.refusal.Refusal.{Refusal}
use Rattle.judge.specs.declared.Outcome.{Outcome}
use Rattle.judge.specs.Judge.{unlent, judged}
use Rattle.judge.specs.Refusal.{number_of, code_of, outcome, verdict}
use Rattle.judge.proofs.Told.{one_to_one, never_0, verdict_apart}

pub bytes_of_settled : (m : ℕ) → Settles {A = ℕ} (λ r. r ≡ bytes_of m)
bytes_of_settled m = by_equation (bytes_of m)

pub balanced_settled : (bytes : List ℕ) (m : ℕ) → Settles {A = Bool} (λ r. r ≡ is_balanced (word bytes m))
balanced_settled bytes m = by_equation (is_balanced (word bytes m))

-- what a result with a row shows: the row's bytes and how many bits they are
abbrev pub shown : Result Row Refusal → Result (List ℕ × ℕ) Refusal
shown (Ok x) = Ok (x.bytes.now, x.m)
shown (Err r) = Err r

abbrev Fits : List ℕ → ℕ → Result Row Refusal → Type 0
Fits bytes m r = (code_of r ≡ unlent bytes m) × IfOk r (λ x. (x.bytes.now ≡ bytes) × (x.m ≡ m) × (m ≤ 2097152))

pub lent_settled : (bytes : List ℕ) (m : ℕ) (r s : Result Row Refusal) → Fits bytes m r → Fits bytes m s → shown r ≡ shown s
lent_settled bytes m (Ok x) (Ok y) p q = ap Ok (λ i. ((p.1.0 ∙ sym q.1.0) i, (p.1.1 ∙ sym q.1.1) i))
lent_settled bytes m (Ok x) (Err t) p q = absurd (never_0 t (q.0 ∙ sym p.0))
lent_settled bytes m (Err t) (Ok y) p q = absurd (never_0 t (p.0 ∙ sym q.0))
lent_settled bytes m (Err t) (Err u) p q = ap Err (one_to_one t u (p.0 ∙ sym q.0))

pub judge_settled : (bytes : List ℕ) (m : ℕ) → Settles {A = Result ⊤ Refusal} (λ r. verdict r ≡ judged bytes m)
judge_settled bytes m = by_telling verdict verdict_apart (judged bytes m)

-- the same over the C face's outcome
pub outcome_settled : (bytes : List ℕ) (m : ℕ) → Settles {A = Outcome} (λ r. r ≡ judged bytes m)
outcome_settled bytes m = by_equation (judged bytes m)

-- the three conversions
pub number_settled : (r : Refusal) → Settles {A = ℕ} (λ n. n ≡ number_of r)
number_settled r = by_equation (number_of r)

pub from_settled : (r : Result ℕ Refusal) → Settles {A = Outcome} (λ o. o ≡ outcome r)
from_settled r = by_equation (outcome r)

pub from_unit_settled : (r : Result ⊤ Refusal) → Settles {A = Outcome} (λ o. o ≡ verdict r)
from_unit_settled r = by_equation (verdict r)
