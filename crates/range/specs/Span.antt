-- The climb's state in code: what a step asks of the state, and what it gives, over whatever reads an entry.
use Rattle.std.specs.Prelude.{List, ℕ, ◌+◌, ◌*◌, ◌/◌, ◌≤◌, ◌<◌, length, ℤ}
use Rattle.summary.specs.declared.Summary.{Summary}
use Rattle.summary.specs.Bound.{Bounded}
use Rattle.summary.specs.Join.{join_of}
use Rattle.index.specs.Lent.{entry_at}
use Rattle.walk.specs.declared.Counted.{Counted}
use Rattle.walk.specs.Beside.{after_of, before_of}
use Rattle.range.specs.declared.Span.{Span}

abbrev pub span : ℕ → ℕ → Summary → Summary → ℕ → Span
span k r x y n = record { k = k; r = r; left = x; right = y; reads = n }

-- "read k+1 if k is even and r-1 if r is odd, then halve both."
abbrev pub joined : (ℕ → Summary) → Span → Span
joined e v = let s : Counted Summary = after_of e v.k v.reads in let t : Counted Summary = before_of e v.r s.reads in
    span (v.k / 2) (v.r / 2) (join_of v.left s.value) (join_of t.value v.right) t.reads

-- the entries read are lent, and the sums of the joins have room
pub record Joins (idx : List ℤ) (v : Span) : Type 0 where
  pub long : 8 * (v.k / 2) + 7 < length idx
  pub longer : 4 * v.r ≤ length idx
  pub count : v.reads ≤ 1000
  pub left : Bounded 4194304 v.left
  pub right : Bounded 4194304 v.right
  pub after : (n : ℕ) → Bounded 4194304 (after_of (entry_at idx) v.k n).value
  pub before : (n : ℕ) → Bounded 4194304 (before_of (entry_at idx) v.r n).value
