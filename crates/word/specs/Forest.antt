-- The ordered forest, the balanced word that encodes it, and the running depth D.
use Rattle.std.specs.Prelude.{◌≡◌, Bool, true, false, List, [], ◌∷◌, ◌++◌, ℕ, zero, suc, take, ℤ, pos, ◌-ℤ◌}

-- An ordered forest is empty, or a first tree, which is a root and the forest of its kids, and the rest of the forest.
pub data Forest : Type 0 where
  empty : Forest
  tree : Forest → Forest → Forest

-- "A balanced word is empty, or an opening, a balanced word, a closing, and a balanced word. It encodes an ordered forest": the kids' word
-- stands between a root's two bits, the rest's after them
abbrev pub encode : Forest → List Bool
encode empty = []
encode (tree kids rest) = true ∷ encode kids ++ false ∷ encode rest

-- a word is balanced where a forest encodes to it
abbrev pub Balanced : List Bool → Type 0
Balanced w = (f : Forest) × (encode f ≡ w)

-- how many openings (true) or closings (false) a word has
abbrev pub count : Bool → List Bool → ℕ
count b [] = zero
count true (true ∷ w) = suc (count true w)
count true (false ∷ w) = count true w
count false (true ∷ w) = count false w
count false (false ∷ w) = suc (count false w)

-- "D(p), for p from 0 to m, is openings less closings among the first p bits. p is called a boundary."
abbrev pub D : List Bool → ℕ → ℤ
D w p = pos (count true (take p w)) -ℤ pos (count false (take p w))
