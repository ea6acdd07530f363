-- What building gives back and writes, from the arguments alone.
use Rattle.std.specs.Prelude.{◌≡◌, List, [], ◌∷◌, ℕ, ◌/◌, ℤ, length}
use Rattle.std.proofs.lemmas.List.Edits.{sets}
use Rattle.word.specs.Bits.{word}
use Rattle.judge.specs.declared.Outcome.{Outcome}
use Rattle.judge.specs.First.{first_of}
use Rattle.judge.specs.Judge.{too_long, too_few_bytes, unbalanced, outcome_of, written}
use Rattle.index.specs.Shape.{height, index}
use Rattle.index.specs.Lent.{too_few_numbers}

-- "Building checks 1, 2, 3, 6"
unfoldable pub refusal : List ℕ → ℕ → ℕ → ℕ
refusal bytes m room = first_of ((too_long m, 1) ∷ (too_few_bytes bytes m, 2) ∷ (too_few_numbers m room, 3) ∷ (unbalanced bytes m, 6) ∷ [])

-- "returns a code with n", "an ordered forest of n = m/2 nodes"
unfoldable pub built_outcome : List ℕ → ℕ → List ℤ → Outcome
built_outcome bytes m held = outcome_of (refusal bytes m (length held)) (m / 2)

-- the index, written over the first 8L numbers of what the slice held; "later ones are neither read nor written"
unfoldable pub built_index : List ℕ → ℕ → List ℤ → List ℤ
built_index bytes m held = written (refusal bytes m (length held)) (sets held 0 (index (height m) (word bytes m))) held

-- the promise of building
pub record Built (bytes : List ℕ) (m : ℕ) (held : List ℤ) (r : Outcome) (left : List ℤ) : Type 0 where
  pub outcome_is : r ≡ built_outcome bytes m held
  pub index_is : left ≡ built_index bytes m held
