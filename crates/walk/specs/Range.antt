-- The range walk: "Range of boundaries a+1 to b, a < b: the summary of bits a up to b."
use Rattle.std.specs.Prelude.{Bool, cond, List, ℕ, zero, suc, ◌+◌, ◌-◌, ◌/◌, ◌^◌, eqb, take, drop}
use Rattle.summary.specs.declared.Summary.{Summary}
use Rattle.summary.specs.Stretch.{summary_of}
use Rattle.summary.specs.Join.{join_of}
use Rattle.index.specs.Shape.{entry, even}
use Rattle.walk.specs.Scan.{ahead, up_to}

-- "from leaves k (block a/256) and r (block (b-1)/256), while k/2 ≠ r/2, read k+1 if k is even and r-1 if r is odd, then halve both.":
-- x is the summary on the left, y that on the right, n the entries read so far
unfoldable pub range_up : (ℕ → Summary) → ℕ → ℕ → ℕ → Summary → Summary → ℕ → Summary × ℕ
range_up e zero k r x y n = (join_of x y, n)
range_up e (suc s) k r x y n = cond (eqb (k / 2) (r / 2)) (join_of x y, n) (range_up e s (k / 2) (r / 2)
    (cond (even k) (join_of x (e (k + 1))) x)
    (cond (even r) y (join_of (e (r - 1)) y))
    (n + (cond (even k) 1 0 + cond (even r) 0 1)))

-- "Within one block, scan. Else scan the ends"
unfoldable pub range : ℕ → List Bool → ℕ → ℕ → Summary × ℕ
range h w a b = cond (eqb (a / 256) ((b - 1) / 256)) (summary_of (take (b - a) (drop a w)), 0)
    (range_up (entry h w) h (2 ^ h + a / 256) (2 ^ h + (b - 1) / 256) (summary_of (ahead w a)) (summary_of (up_to w (b - 1))) 0)
