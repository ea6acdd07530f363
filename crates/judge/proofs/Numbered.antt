-- Nothing is lost where a fault is told by its number: of any faults, by numbers that have a way back. Assumes nothing.
use mathlib.Core.Path.{◌≡◌, sym, ap, ◌∙◌}
use Prim.Native.Nat.{ℕ}
use Rattle.std.specs.Prelude.{Result, Ok, Err}
use Rattle.judge.specs.Numbered.{numbered}

module _ {F : Type 0} (number_of : F → ℕ) where
  -- no two faults have one number, where each number leads back to its fault
  pub number_apart : (back : ℕ → F) → ((f : F) → back (number_of f) ≡ f) → (f g : F) → number_of f ≡ number_of g → f ≡ g
  number_apart back there f g e = sym (there f) ∙ ap back e ∙ there g

  -- and where no two have one, no two results are told alike
  pub numbered_apart : ((f g : F) → number_of f ≡ number_of g → f ≡ g) →
      {A : Type 0} (r s : Result A F) → numbered number_of r ≡ numbered number_of s → r ≡ s
  numbered_apart apart (Ok x) (Ok y) e = cc
  numbered_apart apart (Ok x) (Err g) e = cc
  numbered_apart apart (Err f) (Ok y) e = cc
  numbered_apart apart (Err f) (Err g) e = let d : number_of f ≡ number_of g = cc in ap Err (apart f g d)
