-- The forward walk: "Forward from boundary p by t: the first q > p with D(q) = D(p)+t."
use Rattle.std.specs.Prelude.{Bool, cond, List, ℕ, zero, suc, ◌+◌, ◌-◌, ◌*◌, ◌/◌, ◌^◌, eqb, leb, ℤ, ◌-ℤ◌}
use Rattle.std.proofs.Math.Option.{none}
use Rattle.summary.specs.declared.Summary.{Summary}
use Rattle.summary.specs.Stretch.{depth_of}
use Rattle.index.specs.Shape.{block, entry, even}
use Rattle.walk.specs.declared.Walk.{Walk}
use Rattle.walk.specs.declared.Climb.{Climb}
use Rattle.walk.specs.declared.Climb.TheVariants.{Enter, Top}
use Rattle.walk.specs.Walk.{Reach, walk, hit}
use Rattle.walk.specs.Scan.{first, ahead, either}

-- "Climb from that leaf: at an even entry k read k+1; if its count isn't 0 and least ≤ t ≤ greatest, go down into it, else take its total
-- off t; then halve k." Entry k is read by e; s steps are enough to come to entry 1; n entries are read so far
unfoldable pub climb : (ℕ → Summary) → ℕ → ℕ → ℤ → ℕ → Climb
climb e zero k t n = Top (walk k t n)
climb e (suc s) k t n = cond (eqb k 1) (Top (walk k t n)) (cond (even k)
    (cond (hit (e (k + 1)) t) (Enter (walk (k + 1) t (n + 1))) (climb e s (k / 2) (t -ℤ (e (k + 1)).total) (n + 1)))
    (climb e s (k / 2) t n))

-- "Going down, read the left child; enter it on the same test, else take its total off t and enter the right one unread.", as far as a
-- leaf: an entry from l on
unfoldable pub descend : (ℕ → Summary) → ℕ → ℕ → ℕ → ℤ → ℕ → Walk
descend e l zero k t n = walk k t n
descend e l (suc s) k t n = cond (leb l k) (walk k t n)
    (cond (hit (e (2 * k)) t) (descend e l s (2 * k) t (n + 1)) (descend e l s (2 * k + 1) (t -ℤ (e (2 * k)).total) (n + 1)))

-- "Scan the leaf reached."
abbrev pub leaf_scan : ℕ → List Bool → Walk → Reach
leaf_scan l w v = (first (256 * (v.entry - l)) (block w (v.entry - l)) v.want, v.reads)

-- "At entry 1 there is none."
abbrev pub landed : ℕ → List Bool → Climb → Reach
landed h w (Top v) = (none, v.reads)
landed h w (Enter v) = leaf_scan (2 ^ h) w (descend (entry h w) (2 ^ h) h v.entry v.want v.reads)

-- "Scan to the end of block p/256. Failing that, let t be the amount still wanted from there. Climb from that leaf"
unfoldable pub forward : ℕ → List Bool → ℕ → ℤ → Reach
forward h w p t = either (first p (ahead w p) t) (landed h w (climb (entry h w) h (2 ^ h + p / 256) (t -ℤ depth_of (ahead w p)) 0))
