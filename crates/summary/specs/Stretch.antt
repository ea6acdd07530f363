-- The summary of a stretch of bits: four numbers, from the running depths within it.
use Rattle.std.specs.Prelude.{Bool, true, false, cond, List, [], ◌∷◌, map, ℕ, ◌+◌, ℤ, pos, negsuc, ◌+ℤ◌}
use Rattle.summary.specs.declared.Summary.{Summary}
use Rattle.word.specs.Signed.{min_z, max_z, eq_z}

-- an opening goes one up, a closing one down
abbrev pub step : Bool → ℤ
step true = pos 1
step false = negsuc 0

-- "openings less closings", of a stretch from a to b: D(b)-D(a)
unfoldable pub depth_of : List Bool → ℤ
depth_of [] = pos 0
depth_of (b ∷ w) = step b +ℤ depth_of w

-- "D(p)-D(a) for p from a+1 to b", in order: `depth_of` of each front that is not empty, the shortest first
unfoldable pub depths : List Bool → List ℤ
depths [] = []
depths (b ∷ w) = step b ∷ map (λ (d : ℤ). step b +ℤ d) (depths w)

unfoldable pub least_of : List ℤ → ℤ
least_of [] = pos 0
least_of (x ∷ []) = x
least_of (x ∷ y ∷ l) = min_z x (least_of (y ∷ l))

unfoldable pub greatest_of : List ℤ → ℤ
greatest_of [] = pos 0
greatest_of (x ∷ []) = x
greatest_of (x ∷ y ∷ l) = max_z x (greatest_of (y ∷ l))

unfoldable pub how_many : ℤ → List ℤ → ℕ
how_many m [] = 0
how_many m (x ∷ l) = cond (eq_z x m) 1 0 + how_many m l

-- "The summary of a non-empty stretch of bits from a up to but not including b is four numbers: total D(b)-D(a); the least and the greatest
-- of D(p)-D(a) for p from a+1 to b; and how many such p reach the least. An empty stretch has 0, 0, 0, 0."
unfoldable pub summary_of : List Bool → Summary
summary_of w = record { total = depth_of w; least = least_of (depths w); greatest = greatest_of (depths w); count = pos (how_many (least_of (depths w)) (depths w)) }
