-- What a scan found, and what comes after it: laws of `or_else` and `either`.
-- A walk tries its own block first, and counts reads only after that.
use mathlib.Core.Path.{◌≡◌, refl, sym, ◌∙◌}
use mathlib.Core.Bool.{Bool, true, false, cond}
use mathlib.Core.Option.{Option, none, some, none-ne-some}
use Prim.Native.Nat.{ℕ, ◌≤◌, ◌<◌}
use native.Mathlib.Omega.{arith}
use Rattle.walk.specs.Walk.{Reach}
use Rattle.walk.specs.Scan.{or_else, either}

pub or_else_cond : (b : Bool) (x : Option ℕ) (i : ℕ) (o : Option ℕ) → or_else (cond b (some i) x) o ≡ cond b (some i) (or_else x o)
or_else_cond true x i o = refl
or_else_cond false x i o = refl

pub or_else_none : (x : Option ℕ) → or_else x none ≡ x
or_else_none none = refl
or_else_none (some q) = refl

pub or_else_assoc : (x y z : Option ℕ) → or_else (or_else x y) z ≡ or_else x (or_else y z)
or_else_assoc none y z = refl
or_else_assoc (some q) y z = refl

pub by_option : {A : Type 0} (o : Option ℕ) → (o ≡ none → A) → ((q : ℕ) → o ≡ some q → A) → A
by_option none f g = f refl
by_option (some q) f g = g q refl

pub some_is : {x : Option ℕ} {a b : ℕ} → x ≡ some a → x ≡ some b → b ≡ a
some_is p q = cc

pub none_some : {x : Option ℕ} {a : ℕ} → x ≡ none → x ≡ some a → ⊥
none_some {x} {a} p q = none-ne-some a (sym p ∙ q)

pub found_or_not : (o : Option ℕ) → ((q : ℕ) → o ≡ some q → ⊥) → o ≡ none
found_or_not none f = refl
found_or_not (some q) f = absurd (f q refl)

pub there_or_not : (o : Option ℕ) → (o ≡ none → ⊥) → (q : ℕ) × (o ≡ some q)
there_or_not none f = absurd (f refl)
there_or_not (some q) f = (q, refl)

pub either_is : (o : Option ℕ) (r : Reach) → (either o r).0 ≡ or_else o r.0
either_is none r = refl
either_is (some q) r = refl

pub either_reads : (o : Option ℕ) (r : Reach) (b : ℕ) → r.1 ≤ b → (either o r).1 ≤ b
either_reads none r b h = h
either_reads (some q) r b h = omega arith

pub only : (a b : ℕ) → (a < b → ⊥) → (b < a → ⊥) → a ≡ b
only a b f g = omega arith
