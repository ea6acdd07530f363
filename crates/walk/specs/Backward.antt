-- The backward walk: "Backward from p by t: the last q < p with D(q) = D(p)+t."
use Rattle.std.specs.Prelude.{Bool, cond, List, ℕ, zero, suc, ◌+◌, ◌-◌, ◌*◌, ◌/◌, ◌^◌, eqb, leb, ℤ, pos, ◌+ℤ◌}
use Rattle.std.proofs.Math.Option.{none, some}
use Rattle.word.specs.Signed.{eq_z}
use Rattle.summary.specs.declared.Summary.{Summary}
use Rattle.summary.specs.Stretch.{depth_of}
use Rattle.index.specs.Shape.{block, entry, even}
use Rattle.walk.specs.declared.Walk.{Walk}
use Rattle.walk.specs.declared.Climb.{Climb}
use Rattle.walk.specs.declared.Climb.TheVariants.{Enter, Top}
use Rattle.walk.specs.Walk.{Reach, walk, hit}
use Rattle.walk.specs.Scan.{final, behind, up_to, either}

-- "enter it if least ≤ t+total ≤ greatest": t is wanted from the entry's end
abbrev pub hit_back : Summary → ℤ → Bool
hit_back s t = hit s (t +ℤ s.total)

-- "at an odd entry read k-1; enter it if least ≤ t+total ≤ greatest, else add its total to t.", with t wanted from the start of entry k
unfoldable pub climb_back : (ℕ → Summary) → ℕ → ℕ → ℤ → ℕ → Climb
climb_back e zero k t n = Top (walk k t n)
climb_back e (suc s) k t n = cond (eqb k 1) (Top (walk k t n)) (cond (even k)
    (climb_back e s (k / 2) t n)
    (cond (hit_back (e (k - 1)) t) (Enter (walk (k - 1) t (n + 1))) (climb_back e s (k / 2) (t +ℤ (e (k - 1)).total) (n + 1))))

-- "Going down, read the right child first, by the same rule.", with t wanted from the end of entry k
unfoldable pub descend_back : (ℕ → Summary) → ℕ → ℕ → ℕ → ℤ → ℕ → Walk
descend_back e l zero k t n = walk k t n
descend_back e l (suc s) k t n = cond (leb l k) (walk k t n)
    (cond (hit_back (e (2 * k + 1)) t)
    (descend_back e l s (2 * k + 1) t (n + 1))
    (descend_back e l s (2 * k) (t +ℤ (e (2 * k + 1)).total) (n + 1)))

-- the scan of the leaf reached, from its end boundary down
abbrev pub leaf_back : ℕ → List Bool → Walk → Reach
leaf_back l w v = (final (256 * (v.entry - l)) (block w (v.entry - l)) (v.want +ℤ depth_of (block w (v.entry - l))), v.reads)

-- "At entry 1 the answer is boundary 0 if t is 0, else none."
abbrev pub landed_back : ℕ → List Bool → Climb → Reach
landed_back h w (Top v) = (cond (eq_z v.want (pos 0)) (some 0) none, v.reads)
landed_back h w (Enter v) = leaf_back (2 ^ h) w (descend_back (entry h w) (2 ^ h) h v.entry v.want v.reads)

-- the amount wanted from the start of the block that holds bit p, where t is wanted from boundary p + 1
abbrev pub from_start : List Bool → ℕ → ℤ → ℤ
from_start w p t = t +ℤ depth_of (up_to w p)

-- "For p = 0 there is none. Scan down to the first boundary after the start of block (p-1)/256, then climb, with t now the amount wanted
-- from that start"
unfoldable pub backward : ℕ → List Bool → ℕ → ℤ → Reach
backward h w zero t = (none, 0)
backward h w (suc p) t =
    either (final (256 * (p / 256)) (behind w p) (from_start w p t))
    (landed_back h w (climb_back (entry h w) h (2 ^ h + p / 256) (from_start w p t) 0))
