-- The prefix walk: "Prefix at p < m: D(p)."
use Rattle.std.specs.Prelude.{Bool, cond, List, ℕ, zero, suc, ◌+◌, ◌-◌, ◌/◌, ◌^◌, eqb, ℤ, ◌+ℤ◌}
use Rattle.summary.specs.declared.Summary.{Summary}
use Rattle.summary.specs.Stretch.{depth_of}
use Rattle.index.specs.Shape.{entry, even}
use Rattle.walk.specs.Scan.{behind}

-- "Climb from block p/256, reading k-1 at each odd entry above 1.": d is the depth from the start of entry k, n the entries read so far
unfoldable pub prefix_up : (ℕ → Summary) → ℕ → ℕ → ℤ → ℕ → ℤ × ℕ
prefix_up e zero k d n = (d, n)
prefix_up e (suc s) k d n = cond (eqb k 1) (d, n) (cond (even k)
    (prefix_up e s (k / 2) d n)
    (prefix_up e s (k / 2) (d +ℤ (e (k - 1)).total) (n + 1)))

unfoldable pub prefix : ℕ → List Bool → ℕ → ℤ × ℕ
prefix h w p = prefix_up (entry h w) h (2 ^ h + p / 256) (depth_of (behind w p)) 0
