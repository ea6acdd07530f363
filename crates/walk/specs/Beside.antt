-- The entry beside another, on the side to which a climb goes, and only where the rule reads it.
-- Elsewhere nothing is read, and the empty summary stands for what was seen.
use Rattle.std.specs.Prelude.{cond, ℕ, ◌+◌, ◌-◌}
use Rattle.summary.specs.declared.Summary.{Summary}
use Rattle.summary.specs.Join.{empty_of}
use Rattle.index.specs.Shape.{even}
use Rattle.walk.specs.declared.Counted.{Counted}
use Rattle.walk.specs.Walk.{seen}

-- "at an even entry k read k+1": entry k is read by e; n entries are read so far
abbrev pub after_of : (ℕ → Summary) → ℕ → ℕ → Counted Summary
after_of e k n = cond (even k) (seen (e (k + 1)) (n + 1)) (seen empty_of n)

-- "at an odd entry read k-1"
abbrev pub before_of : (ℕ → Summary) → ℕ → ℕ → Counted Summary
before_of e k n = cond (even k) (seen empty_of n) (seen (e (k - 1)) (n + 1))
