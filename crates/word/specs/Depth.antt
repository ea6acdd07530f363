-- What the walks look for: a boundary by its running depth D, and the least D of a stretch of boundaries. t and l are signed.
use Rattle.std.specs.Prelude.{◌≡◌, ◌≢◌, Bool, List, ℕ, ◌≤◌, ◌<◌, length, ℤ, ◌+ℤ◌, ◌-ℤ◌, ◌≤ℤ◌}
use Rattle.word.specs.Forest.{D}

-- "Forward from boundary p by t: the first q > p with D(q) = D(p)+t."
pub record Forward (w : List Bool) (p : ℕ) (t : ℤ) (q : ℕ) : Type 0 where
  pub later : p < q
  pub within : q ≤ length w
  pub there : D w q ≡ D w p +ℤ t
  pub first : (j : ℕ) → p < j → j < q → D w j ≢ D w p +ℤ t

-- there is none
pub record NoForward (w : List Bool) (p : ℕ) (t : ℤ) : Type 0 where
  pub nowhere : (j : ℕ) → p < j → j ≤ length w → D w j ≢ D w p +ℤ t

-- "Backward from p by t: the last q < p with D(q) = D(p)+t."
pub record Backward (w : List Bool) (p : ℕ) (t : ℤ) (q : ℕ) : Type 0 where
  pub earlier : q < p
  pub there : D w q ≡ D w p +ℤ t
  pub last : (j : ℕ) → q < j → j < p → D w j ≢ D w p +ℤ t

-- there is none
pub record NoBackward (w : List Bool) (p : ℕ) (t : ℤ) : Type 0 where
  pub nowhere : (j : ℕ) → j < p → D w j ≢ D w p +ℤ t

-- l is "the least .. of D(p)-D(a) for p from a+1 to b": none is less, and one has it
pub record Least (w : List Bool) (a b : ℕ) (l : ℤ) : Type 0 where
  pub low : (j : ℕ) → a < j → j ≤ b → l ≤ℤ (D w j -ℤ D w a)
  pub reached : (j : ℕ) × (a < j) × (j ≤ b) × (D w j -ℤ D w a ≡ l)
