-- Tests, that is values of Bool, and the facts that they stand for. Assumes nothing.
use mathlib.Core.Path.{◌≡◌, refl, sym, subst}
use mathlib.Core.Logic.{◌≢◌, ◌↔◌}
use mathlib.Core.Bool.{Bool, true, false, cond}
use Prim.Native.Nat.{ℕ}
use lib.Dec.{T, eqb, eqb_refl, eqb→eq}

pub T_true : (b : Bool) → T b → b ≡ true
T_true true t = refl
T_true false t = absurd t

pub true_T : {b : Bool} → b ≡ true → T b
true_T e = subst T (sym e) tt

pub true≢false : true ≡ false → ⊥
true≢false e = subst T e tt

pub not_true : (b : Bool) → (b ≡ true → ⊥) → b ≡ false
not_true true f = absurd (f refl)
not_true false f = refl

-- go by a test: `by_test (le_z a b) (λ e. ..) (λ e. ..)`
pub by_test {ℓ} : {A : Type ℓ} (b : Bool) → (b ≡ true → A) → (b ≡ false → A) → A
by_test true f g = f refl
by_test false f g = g refl

-- two tests that hold together are the same
pub same_test : (b c : Bool) → (b ≡ true) ↔ (c ≡ true) → b ≡ c
same_test true c h = sym (h.0 refl)
same_test false c h = sym (not_true c (λ e. true≢false (sym (h.1 e))))

-- what holds of both outcomes holds of the one chosen
pub cond_all : {A : Type 0} (P : A → Type 0) (b : Bool) {x y : A} → P x → P y → P (cond b x y)
cond_all P true p q = p
cond_all P false p q = q

pub eqb_same : (a : ℕ) → eqb a a ≡ true
eqb_same a = T_true (eqb a a) (eqb_refl a)

pub eqb_eq : (a b : ℕ) → eqb a b ≡ true → a ≡ b
eqb_eq a b e = eqb→eq a b (true_T e)

pub eqb_ne : (a b : ℕ) → a ≢ b → eqb a b ≡ false
eqb_ne a b n = not_true (eqb a b) (λ e. n (eqb_eq a b e))
