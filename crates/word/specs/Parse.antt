-- The forest that a word encodes, found by reading the word; and so whether a word is balanced. That it is found whenever there is one,
-- and that there is no other, is shown in proofs/Parse.antt.
use Rattle.std.specs.Prelude.{Bool, true, false, List, [], ◌∷◌}
use Rattle.std.proofs.Math.Option.{Option, none, some}
use Rattle.word.specs.Forest.{Forest, empty, tree}

-- The word is read from its end. What has been read is a row of forests; between each two stands a closing whose opening is still to come.
-- A closing puts an empty forest in front. An opening takes the first for its kids and the second for the rest: "an opening, a balanced
-- word, a closing, and a balanced word". Where there is no second, nothing closes it, and no forest is left
abbrev pub at_closing : List Forest → List Forest
at_closing [] = []
at_closing (f ∷ s) = empty ∷ f ∷ s

abbrev pub at_opening : List Forest → List Forest
at_opening [] = []
at_opening (kids ∷ []) = []
at_opening (kids ∷ (rest ∷ s)) = tree kids rest ∷ s

abbrev pub read : List Bool → List Forest
read [] = empty ∷ []
read (true ∷ w) = at_opening (read w)
read (false ∷ w) = at_closing (read w)

-- a balanced word leaves one forest, and no closing whose opening does not come
abbrev pub only : List Forest → Option Forest
only [] = none
only (f ∷ []) = some f
only (f ∷ (g ∷ s)) = none

-- the forest that encodes to the word: parse w is some f exactly when encode f is w
unfoldable pub parse : List Bool → Option Forest
parse w = only (read w)

abbrev pub is_some : Option Forest → Bool
is_some none = false
is_some (some f) = true

-- "word not balanced" is number 6: a word is balanced where some forest encodes to it
unfoldable pub is_balanced : List Bool → Bool
is_balanced w = is_some (parse w)

abbrev pub or_empty : Option Forest → Forest
or_empty none = empty
or_empty (some f) = f

-- the forest of a balanced word
unfoldable pub forest_of : List Bool → Forest
forest_of w = or_empty (parse w)
