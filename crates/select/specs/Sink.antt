-- One step of the way down, in code.
-- What it asks of the state, and what it gives.
use Rattle.std.specs.Prelude.{cond, List, ℕ, ◌+◌, ◌-◌, ◌*◌, ◌/◌, ◌≤◌, ◌<◌, min, ltb, length, ℤ, pos, ◌+ℤ◌, ◌≤ℤ◌}
use Rattle.word.specs.Signed.{P}
use Rattle.index.specs.Lent.{entry_at}
use Rattle.select.specs.declared.Sink.{Sink}

abbrev pub sink : ℕ → ℕ → ℕ → ℕ → ℕ → Sink
sink k a b r n = record { entry = k; block = a; width = b; number = r; reads = n }

-- the sum of the length and the total of the left child, which stands over half as many blocks: its length is cut at m
abbrev pub sum_of : List ℤ → ℕ → Sink → ℤ
sum_of idx m v = pos (min (256 * (v.width / 2)) (m - 256 * v.block)) +ℤ (entry_at idx (2 * v.entry)).total

-- "If r is below them go left, else take them off r and go right unread."
abbrev pub sunk : List ℤ → ℕ → Sink → Sink
sunk idx m v = cond (ltb v.number (P (sum_of idx m v) / 2))
    (sink (2 * v.entry) v.block (v.width / 2) v.number (v.reads + 1))
    (sink (2 * v.entry + 1) (v.block + v.width / 2) (v.width / 2) (v.number - P (sum_of idx m v) / 2) (v.reads + 1))

-- the left child is lent, it has no more closings than bits, and the numbers have room
pub record Over (idx : List ℤ) (m : ℕ) (v : Sink) : Type 0 where
  pub inside : 8 * v.entry + 3 < length idx
  pub small : m ≤ 2097152
  pub near : v.entry ≤ 8192
  pub start : v.block ≤ 8192
  pub wide : v.width ≤ 8192
  pub count : v.reads ≤ 1073741824
  pub sum : pos 0 ≤ℤ sum_of idx m v
