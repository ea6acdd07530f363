-- Document 01's examples of the index, shown of the definitions. Assumes nothing.
use mathlib.Core.Path.{◌≡◌, refl}
use mathlib.Core.Bool.{Bool, true, false}
use mathlib.Core.List.{List, [], ◌∷◌, ◌++◌}
use lib.ListN.{replicate}
use lib.IntN.{pos, negsuc}
use Rattle.word.specs.Bits.{word}
use Rattle.word.specs.Signed.{min_z, max_z, eq_z}
use Rattle.summary.specs.Stretch.{depth_of, depths, least_of, greatest_of, how_many, summary_of}
use Rattle.summary.specs.Join.{at, joined, join_of, empty_of}
use Rattle.index.specs.Shape.{height_from, height, entry_by, entry, index_from, index, numbers_of}
use Rattle.index.specs.Lent.{four}

-- "W is `(()(()()))()`: m = 12, bytes 5B 04, index 0 0 0 0 0 0 3 2."
pub of_W : index (height 12) (word (0x5B ∷ 0x04 ∷ []) 12) ≡ pos 0 ∷ pos 0 ∷ pos 0 ∷ pos 0 ∷ pos 0 ∷ pos 0 ∷ pos 3 ∷ pos 2 ∷ []
unfolding height_from height entry_by entry index_from index summary_of depth_of depths least_of greatest_of how_many empty_of eq_z min_z max_z
of_W = refl

-- "m = 0: .. eight zeros"
pub of_nothing : index (height 0) [] ≡ replicate 8 (pos 0)
unfolding height_from height entry_by entry index_from index summary_of depth_of depths least_of greatest_of how_many empty_of eq_z
of_nothing = refl

-- "m = 256 needs 8 index numbers, 258 needs 16."
pub of_256 : numbers_of 256 ≡ 8
unfolding height_from height numbers_of
of_256 = refl

pub of_258 : numbers_of 258 ≡ 16
unfolding height_from height numbers_of
of_258 = refl

-- "V is 256 openings and 256 closings: entries 1 to 3 are (0, 0, 256, 1), (256, 1, 256, 1), (-256, -256, -1, 1)."
abbrev V_word : List Bool
V_word = replicate 256 true ++ replicate 256 false

pub of_V : (four (entry 1 V_word 1) ≡ pos 0 ∷ pos 0 ∷ pos 256 ∷ pos 1 ∷ [])
    × (four (entry 1 V_word 2) ≡ pos 256 ∷ pos 1 ∷ pos 256 ∷ pos 1 ∷ [])
    × (four (entry 1 V_word 3) ≡ negsuc 255 ∷ negsuc 255 ∷ negsuc 0 ∷ pos 1 ∷ [])
unfolding entry_by entry summary_of depth_of depths least_of greatest_of how_many at joined join_of eq_z min_z max_z
of_V = (refl, refl, refl)

pub of_512 : height 512 ≡ 1
unfolding height_from height
of_512 = refl
