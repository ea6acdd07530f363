-- Where a row that is not balanced breaks: at its first closing that has no partner, or else at its first opening that is never closed.
use Rattle.std.specs.Prelude.{◌≡◌, Bool, true, false, List, [], ◌∷◌, ℕ, zero, suc, ◌+◌, ◌<◌, take, drop, get_or}
use Rattle.std.proofs.Math.Option.{Option, none, some}
use Rattle.word.specs.Forest.{Balanced}

-- "an opening, a balanced word, a closing": the opening at place a and the closing at place c = a + 1 + n are partners
pub record Partners (w : List Bool) (a c : ℕ) : Type 0 where
  pub n : ℕ
  pub apart : c ≡ suc (a + n)
  pub opening : get_or w a false ≡ true
  pub between : Balanced (take n (drop (suc a) w))
  pub closing : get_or w c true ≡ false

-- which fault, and its place
pub data Break : Type 0 where
  closing_alone : ℕ → Break
  opening_alone : ℕ → Break

-- "a closing that has no partner, with the place of the first such closing"
pub record ClosingAlone (w : List Bool) (i : ℕ) : Type 0 where
  pub closing : get_or w i true ≡ false
  pub alone : (a : ℕ) → Partners w a i → ⊥
  pub first : (c : ℕ) → c < i → get_or w c true ≡ false → (a : ℕ) × Partners w a c

-- "openings left over at the end, with the place of the first one that is never closed", where no closing is without a partner
pub record OpeningAlone (w : List Bool) (i : ℕ) : Type 0 where
  pub closings : (c : ℕ) → get_or w c true ≡ false → (a : ℕ) × Partners w a c
  pub opening : get_or w i false ≡ true
  pub alone : (c : ℕ) → Partners w i c → ⊥
  pub first : (a : ℕ) → a < i → get_or w a false ≡ true → (c : ℕ) × Partners w a c

-- Found by reading the row from place i on. `waiting` are the places of the openings that wait for their closing, the last one first; a
-- closing takes the last one for its partner
abbrev pub earliest : ℕ → List ℕ → ℕ
earliest p [] = p
earliest p (q ∷ waiting) = earliest q waiting

abbrev pub breaks_from : ℕ → List ℕ → List Bool → Option Break
breaks_from i [] [] = none
breaks_from i (p ∷ waiting) [] = some (opening_alone (earliest p waiting))
breaks_from i waiting (true ∷ w) = breaks_from (suc i) (i ∷ waiting) w
breaks_from i [] (false ∷ w) = some (closing_alone i)
breaks_from i (p ∷ waiting) (false ∷ w) = breaks_from (suc i) waiting w

-- where a row breaks, none if it is balanced (proofs/Breaks.antt: it is as `ClosingAlone` and `OpeningAlone` say)
unfoldable pub breaks : List Bool → Option Break
breaks w = breaks_from zero [] w
