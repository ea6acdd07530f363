-- The index as a lent slice of numbers: entry k read from it, and when the numbers are a word's index.
use Rattle.std.specs.Prelude.{◌≡◌, Bool, true, false, cond, List, [], ◌∷◌, ℕ, ◌+◌, ◌*◌, ◌^◌, ◌≤◌, ◌<◌, ltb, length, get_or, ℤ, pos}
use Rattle.word.specs.Signed.{eq_z}
use Rattle.summary.specs.declared.Summary.{Summary}
pub use Rattle.summary.specs.Four.{four}
use Rattle.index.specs.Shape.{entry, index, numbers_of}

-- "Entry k takes four signed 32-bit numbers from place 4k."
abbrev pub entry_at : List ℤ → ℕ → Summary
entry_at idx k = record {
  total = get_or idx (4 * k) (pos 0);
  least = get_or idx (4 * k + 1) (pos 0);
  greatest = get_or idx (4 * k + 2) (pos 0);
  count = get_or idx (4 * k + 3) (pos 0);
}

-- the numbers lent are the index, of height h, of the word: each entry read is the word's own
pub record Indexed (h : ℕ) (w : List Bool) (idx : List ℤ) : Type 0 where
  pub long : 8 * 2 ^ h ≤ length idx
  pub reads : (k : ℕ) → k < 2 * 2 ^ h → entry_at idx k ≡ entry h w k

-- 3, "fewer than 8L index numbers lent"
abbrev pub too_few_numbers : ℕ → ℕ → Bool
too_few_numbers m room = ltb room (numbers_of m)

-- the numbers begin with these
unfoldable pub begins : List ℤ → List ℤ → Bool
begins [] l = true
begins (x ∷ xs) [] = false
begins (x ∷ xs) (y ∷ l) = cond (eq_z x y) (begins xs l) false

-- not 7, "one of the 8L index numbers differs". Later ones may be anything
unfoldable pub is_index : ℕ → List Bool → List ℤ → Bool
is_index h w idx = begins (index h w) idx
