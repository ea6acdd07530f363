-- No second outcome fits: of promises that are equations, once for every crate; and of reading one parenthesis. Assumes nothing.
use mathlib.Core.Path.{◌≡◌, sym, ◌∙◌}
use mathlib.Core.Bool.{Bool}
use mathlib.Core.List.{List}
use Prim.Native.Nat.{ℕ}
use Rattle.word.specs.Bits.{bit}
use Rattle.word.specs.Settles.{Settles}

-- an outcome that is equal to something
pub by_equation : {A : Type 0} (z : A) → Settles {A = A} (λ r. r ≡ z)
by_equation z r s p q = p ∙ sym q

-- an outcome that is told as something, where no two are told alike
pub by_telling : {A B : Type 0} (told : A → B) → ((r s : A) → told r ≡ told s → r ≡ s) → (z : B) → Settles {A = A} (λ r. told r ≡ z)
by_telling told apart z r s p q = apart r s (p ∙ sym q)

pub opens_settled : (bytes : List ℕ) (i : ℕ) → Settles {A = Bool} (λ r. r ≡ bit bytes i)
opens_settled bytes i = by_equation (bit bytes i)
