-- What a walk gives back, the state in which it stands, and the test that every walk makes of an entry.
use Rattle.std.specs.Prelude.{None, Some, Bool, false, cond, ℕ, ℤ, pos}
use Rattle.std.specs.Prelude as code
use Rattle.std.proofs.Math.Option.{Option, none, some}
use Rattle.std.specs.Int.Signed.{le_z}
use Rattle.word.specs.Signed.{eq_z}
use Rattle.summary.specs.declared.Summary.{Summary}
use Rattle.walk.specs.declared.Walk.{Walk}
use Rattle.walk.specs.declared.Counted.{Counted}

-- what a walk finds, and how many entries it read
abbrev pub Reach : Type 0
Reach = Option ℕ × ℕ

-- what was counted for, and the reads
abbrev pub told : {A : Type 0} → Counted A → A × ℕ
told r = (r.value, r.reads)

-- the code's `Option`, as the definitions have it
abbrev pub there : code.Option ℕ → Option ℕ
there None = none
there (Some q) = some q

-- the code's answer, as what was found and the reads
abbrev pub said : Counted (code.Option ℕ) → Reach
said r = (there r.value, r.reads)

-- "the walk's state (entry, amount wanted, reads)"
abbrev pub walk : ℕ → ℤ → ℕ → Walk
walk k t n = record { entry = k; want = t; reads = n }

-- an entry that was read, and the reads with it
abbrev pub seen : Summary → ℕ → Counted Summary
seen s n = record { value = s; reads = n }

-- "if its count isn't 0 and least ≤ t ≤ greatest": so an empty entry is never hit
abbrev pub hit : Summary → ℤ → Bool
hit s t = cond (eq_z s.count (pos 0)) false (cond (le_z s.least t) (le_z t s.greatest) false)
