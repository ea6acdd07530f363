-- The select walk: "Select r < n: the opening with number r."
use Rattle.std.specs.Prelude.{Bool, cond, List, ℕ, zero, suc, ◌+◌, ◌-◌, ◌*◌, ◌/◌, ◌^◌, min, ltb, length, pos, ◌+ℤ◌}
use Rattle.word.specs.Signed.{P}
use Rattle.summary.specs.declared.Summary.{Summary}
use Rattle.index.specs.Shape.{block, entry}
use Rattle.walk.specs.Walk.{Reach}
use Rattle.walk.specs.Scan.{nth}

-- where the way down ends: the entry, the first block that it stands over, the number sought from there, and the reads
pub record Seek : Type 0 where
  pub entry : ℕ
  pub block : ℕ
  pub number : ℕ
  pub reads : ℕ

abbrev pub seek : ℕ → ℕ → ℕ → ℕ → Seek
seek k a r n = record { entry = k; block = a; number = r; reads = n }

-- "its openings are half of the sum of its length and its total": of an entry over 2 ^ g blocks from block a of m bits. Its length is
-- cut at m
abbrev pub openings : ℕ → ℕ → ℕ → Summary → ℕ
openings m g a s = P (pos (min (256 * 2 ^ g) (m - 256 * a)) +ℤ s.total) / 2

-- "From entry 1 down, read the left child; its openings are half of the sum of its length and its total. If r is below them go left, else
-- take them off r and go right unread.": g steps are left to a leaf
unfoldable pub select_down : (ℕ → Summary) → ℕ → ℕ → ℕ → ℕ → ℕ → ℕ → Seek
select_down e m zero k a r n = seek k a r n
select_down e m (suc g) k a r n =
    let o : ℕ = openings m g a (e (2 * k)) in
    cond (ltb r o) (select_down e m g (2 * k) a r (n + 1)) (select_down e m g (2 * k + 1) (a + 2 ^ g) (r - o) (n + 1))

-- the scan of the leaf reached
abbrev pub leaf_nth : List Bool → Seek → Reach
leaf_nth w v = (nth (256 * v.block) (block w v.block) v.number, v.reads)

unfoldable pub select : ℕ → List Bool → ℕ → Reach
select h w r = leaf_nth w (select_down (entry h w) (length w) h 1 0 r 0)
