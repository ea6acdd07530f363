-- No two refusals have one number, and no two results of a call are told alike. Assumes nothing.
use mathlib.Core.Path.{◌≡◌, refl, sym, ap, ◌∙◌}
use mathlib.Core.Bool.{cond}
use Prim.Native.Nat.{ℕ}
use native.Mathlib.Omega.{arith}
use lib.Dec.{eqb}
use Rattle.std.specs.Prelude.{⊤, Result, Ok, Err}
use Rattle.judge.specs.declared.refusal.Refusal.{Refusal}
use Rattle.judge.specs.declared.refusal.Refusal.TheVariants.{TooLong, TooFewBytes, TooFewNumbers, NotThrees}
use Rattle.judge.specs.declared.refusal.Refusal.TheVariants.{TooLittleRoom, Unbalanced, Differs}
use Rattle.judge.specs.declared.Outcome.{Outcome}
use Rattle.judge.specs.Refusal.{number_of, outcome, verdict}
use Rattle.judge.proofs.Numbered.{number_apart}

-- from the number back to the refusal
abbrev back : ℕ → Refusal
back n =
    cond (eqb n 1) TooLong
    (cond (eqb n 2) TooFewBytes
    (cond (eqb n 3) TooFewNumbers
    (cond (eqb n 4) NotThrees
    (cond (eqb n 5) TooLittleRoom
    (cond (eqb n 6) Unbalanced Differs)))))

back_number : (r : Refusal) → back (number_of r) ≡ r
back_number TooLong = refl
back_number TooFewBytes = refl
back_number TooFewNumbers = refl
back_number NotThrees = refl
back_number TooLittleRoom = refl
back_number Unbalanced = refl
back_number Differs = refl

pub one_to_one : (r s : Refusal) → number_of r ≡ number_of s → r ≡ s
one_to_one = number_apart number_of back back_number

-- 0 is no refusal's number
pub never_0 : (r : Refusal) → number_of r ≡ 0 → ⊥
never_0 r e = let z : r ≡ Differs = sym (back_number r) ∙ ap back e in omega (arith, ap number_of z)

code : {o p : Outcome} → o ≡ p → o.code ≡ p.code
code e = ap (λ (o : Outcome). o.code) e

pub outcome_apart : (r s : Result ℕ Refusal) → outcome r ≡ outcome s → r ≡ s
outcome_apart (Ok m) (Ok n) e = ap Ok (ap (λ (o : Outcome). o.value) e)
outcome_apart (Ok m) (Err s) e = absurd (never_0 s (sym (code e)))
outcome_apart (Err r) (Ok n) e = absurd (never_0 r (code e))
outcome_apart (Err r) (Err s) e = ap Err (one_to_one r s (code e))

pub verdict_apart : (r s : Result ⊤ Refusal) → verdict r ≡ verdict s → r ≡ s
verdict_apart (Ok m) (Ok n) e = refl
verdict_apart (Ok m) (Err s) e = absurd (never_0 s (sym (code e)))
verdict_apart (Err r) (Ok n) e = absurd (never_0 r (code e))
verdict_apart (Err r) (Err s) e = ap Err (one_to_one r s (code e))
