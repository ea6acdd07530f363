-- A balanced word is the brackets of its forest, so that what holds of the one holds of the other; and its index is high enough.
-- Assumes nothing.
use mathlib.Core.Path.{◌≡◌, sym, subst}
use mathlib.Core.Bool.{Bool, true, false}
use mathlib.Core.List.{List}
use Prim.Native.Nat.{ℕ, ◌*◌, ◌^◌, ◌≤◌}
use lib.ListN.{length, get_or}
use Rattle.word.specs.Forest.{encode}
use Rattle.word.specs.Parse.{is_balanced, forest_of}
use Rattle.word.proofs.Parse.{encode_forest_of}
use Rattle.index.specs.Shape.{height}
use Rattle.index.proofs.Height.{height_reaches}

pub over : (w : List Bool) → length w ≤ 256 * 2 ^ height (length w)
over w = height_reaches (length w)

module _ (w : List Bool) (balanced : is_balanced w ≡ true) where
  pub forest_is : encode (forest_of w) ≡ w
  forest_is = encode_forest_of w balanced

  pub on_forest : (P : List Bool → Type 0) → P w → P (encode (forest_of w))
  on_forest P = subst P (sym forest_is)

  pub node_on : (a : ℕ) → get_or w a false ≡ true → get_or (encode (forest_of w)) a false ≡ true
  node_on a = on_forest (λ u. get_or u a false ≡ true)
