-- Document 01's V, 256 openings and 256 closings: three of its walks, computed from the definitions.
-- With h = 1 the first two read 2h - 1 entries: the bound of forward and backward is reached.
use mathlib.Core.Path.{◌≡◌, refl}
use mathlib.Core.Bool.{Bool, true, false}
use mathlib.Core.List.{List, ◌++◌}
use mathlib.Core.Option.{some}
use lib.ListN.{replicate}
use lib.IntN.{pos, negsuc}
use Rattle.word.specs.Signed.{eq_z, min_z, max_z}
use Rattle.summary.specs.Stretch.{depth_of, depths, least_of, greatest_of, how_many, summary_of}
use Rattle.index.specs.Shape.{entry, entry_by}
use Rattle.walk.specs.Scan.{first, final}
use Rattle.walk.specs.Forward.{climb, descend, forward}
use Rattle.walk.specs.Backward.{climb_back, descend_back, backward}

unfoldable pub vee : List Bool
vee = replicate 256 true ++ replicate 256 false

-- "4 of 0: 511, one read."
pub closing_0 : forward 1 vee 0 (pos 0) ≡ (some 512, 1)
unfolding vee entry entry_by summary_of depth_of depths least_of greatest_of how_many min_z max_z eq_z first climb descend forward
closing_0 = refl

-- "5 of 511: 0, one read."
pub opening_511 : backward 1 vee 512 (pos 0) ≡ (some 0, 1)
unfolding vee entry entry_by summary_of depth_of depths least_of greatest_of how_many min_z max_z eq_z final climb_back descend_back
    backward
opening_511 = refl

-- "6 of 255: 254, none."
pub parent_255 : backward 1 vee 255 (negsuc 0) ≡ (some 254, 0)
unfolding vee entry entry_by summary_of depth_of depths least_of greatest_of how_many min_z max_z eq_z final climb_back descend_back
    backward
parent_255 = refl
