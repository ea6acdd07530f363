-- The signed kit: `omega zarith` reads every ≤ℤ, <ℤ, ≡ and test of signed numbers in scope and in the goal, by their two parts. A sum, a
-- difference, a smaller or larger of two is listed by its law: `omega (zarith, +law a b)`. Worked uses: SignedUses.antt.
use mathlib.Core.Path.{◌≡◌, refl, sym, ◌∙◌, ap, subst}
use mathlib.Core.Bool.{Bool, true, false, not, cond}
use Prim.Native.Nat.{ℕ, zero, suc, ◌+◌, ◌-◌, ◌<◌, ◌≤◌, min, max}
use native.Mathlib.Omega.{arith}
use mathlib.Core.Logic.{◌≢◌}
use lib.Dec.{T, eqb, eqb_refl, eqb→eq, ltb, ltb→lt, nltb→le, leb→le, le→leb, lt→ltb, nleb→lt}
use lib.IntN.{ℤ, pos, negsuc, ◌+ℤ◌, ◌-ℤ◌, neg_ℤ, sub_ℕ, nat_abs}
use lib.Signed.{◌≤ℤ◌, ◌<ℤ◌, le_z, lt_z, le_z_yes, lt_z_yes, lt_z_no, mag, non_neg}
use mir.Syntax.{w32}
use mir.Val.{SFits, to_z, of_z}
use mir.Facts.{to_z-of_z}
use Rattle.word.specs.Signed.{P, N, min_z, max_z, eq_z}
pub use Rattle.word.proofs.Tests.{T_true, true_T, true≢false, not_true, by_test}

-- only where a goal names `P z` or `N z` by itself: one of the two is 0
pub parts : (z : ℤ) → min (P z) (N z) ≡ 0
parts (pos n) = omega arith
parts (negsuc n) = omega arith

-- ---- rules: a fact of ℤ is a fact of ℕ
pub le→ : (a b : ℤ) → a ≤ℤ b → P a + N b ≤ P b + N a
le→ (pos a) (pos b) h = omega (arith, leb→le a b h.le)
le→ (pos a) (negsuc b) h = absurd h.le
le→ (negsuc a) (pos b) h = omega arith
le→ (negsuc a) (negsuc b) h = omega (arith, leb→le b a h.le)

pub →le : (a b : ℤ) → P a + N b ≤ P b + N a → a ≤ℤ b
→le (pos a) (pos b) h = record { le = le→leb a b (omega arith) }
→le (pos a) (negsuc b) h = absurd (omega arith)
→le (negsuc a) (pos b) h = record { le = tt }
→le (negsuc a) (negsuc b) h = record { le = le→leb b a (omega arith) }

pub lt→ : (a b : ℤ) → a <ℤ b → P a + N b < P b + N a
lt→ (pos a) (pos b) h = omega (arith, ltb→lt a b h.lt)
lt→ (pos a) (negsuc b) h = absurd h.lt
lt→ (negsuc a) (pos b) h = omega arith
lt→ (negsuc a) (negsuc b) h = omega (arith, ltb→lt b a h.lt)

pub →lt : (a b : ℤ) → P a + N b < P b + N a → a <ℤ b
→lt (pos a) (pos b) h = record { lt = lt→ltb a b (omega arith) }
→lt (pos a) (negsuc b) h = absurd (omega arith)
→lt (negsuc a) (pos b) h = record { lt = tt }
→lt (negsuc a) (negsuc b) h = record { lt = lt→ltb b a (omega arith) }

pub eq→ : (a b : ℤ) → a ≡ b → P a + N b ≡ P b + N a
eq→ a b e = subst (λ (x : ℤ). P a + N x ≡ P x + N a) e refl

pub →eq : (a b : ℤ) → P a + N b ≡ P b + N a → a ≡ b
→eq (pos a) (pos b) h = ap pos (omega arith)
→eq (pos a) (negsuc b) h = absurd (omega arith)
→eq (negsuc a) (pos b) h = absurd (omega arith)
→eq (negsuc a) (negsuc b) h = ap negsuc (omega arith)

-- this one is listed where it is wanted: `ne→ a b h`
pub ne→ : (a b : ℤ) → a ≢ b → P a + N b ≢ P b + N a
ne→ a b n e = n (→eq a b e)

-- ---- tests
pub le_z→ : (a b : ℤ) → T (le_z a b) → P a + N b ≤ P b + N a
le_z→ a b t = le→ a b (le_z_yes t)

pub →le_z : (a b : ℤ) → P a + N b ≤ P b + N a → T (le_z a b)
→le_z a b h = (→le a b h).le

pub lt_z→ : (a b : ℤ) → T (lt_z a b) → P a + N b < P b + N a
lt_z→ a b t = lt→ a b (lt_z_yes t)

pub →lt_z : (a b : ℤ) → P a + N b < P b + N a → T (lt_z a b)
→lt_z a b h = (→lt a b h).lt

-- ---- laws of the operations
sub_laws : (a b : ℕ) (c : Bool) → (T c → a < b) → (T (not c) → b ≤ a)
    → (P (cond c (negsuc (b - suc a)) (pos (a - b))) ≡ a - b) × (N (cond c (negsuc (b - suc a)) (pos (a - b))) ≡ b - a)
sub_laws a b true f g = let h : a < b = f tt in omega arith
sub_laws a b false f g = let h : b ≤ a = g tt in omega arith

pub P_sub : (a b : ℕ) → P (sub_ℕ a b) ≡ a - b
P_sub a b = (sub_laws a b (ltb a b) (ltb→lt a b) (nltb→le a b)).0

pub N_sub : (a b : ℕ) → N (sub_ℕ a b) ≡ b - a
N_sub a b = (sub_laws a b (ltb a b) (ltb→lt a b) (nltb→le a b)).1

pub P_add : (x y : ℤ) → P (x +ℤ y) ≡ (P x + P y) - (N x + N y)
P_add (pos a) (pos b) = omega arith
P_add (pos a) (negsuc b) = omega (arith, P_sub a (suc b))
P_add (negsuc a) (pos b) = omega (arith, P_sub b (suc a))
P_add (negsuc a) (negsuc b) = omega arith

pub N_add : (x y : ℤ) → N (x +ℤ y) ≡ (N x + N y) - (P x + P y)
N_add (pos a) (pos b) = omega arith
N_add (pos a) (negsuc b) = omega (arith, N_sub a (suc b))
N_add (negsuc a) (pos b) = omega (arith, N_sub b (suc a))
N_add (negsuc a) (negsuc b) = omega arith

-- the law that is linear, and enough for orders, equations and ranges
pub +law : (x y : ℤ) → P (x +ℤ y) + N x + N y ≡ N (x +ℤ y) + P x + P y
+law x y = omega (arith, P_add x y, N_add x y)

pub P_neg : (x : ℤ) → P (neg_ℤ x) ≡ N x
P_neg (pos zero) = refl
P_neg (pos (suc n)) = refl
P_neg (negsuc n) = refl

pub N_neg : (x : ℤ) → N (neg_ℤ x) ≡ P x
N_neg (pos zero) = refl
N_neg (pos (suc n)) = refl
N_neg (negsuc n) = refl

pub -law : (x y : ℤ) → P (x -ℤ y) + N x + P y ≡ N (x -ℤ y) + P x + N y
-law x y = omega (arith, +law x (neg_ℤ y), P_neg y, N_neg y)

-- ---- the smaller and the larger
nle_z→ : (a b : ℤ) → T (not (le_z a b)) → P b + N a < P a + N b
nle_z→ (pos a) (pos b) t = omega (arith, nleb→lt a b t)
nle_z→ (pos a) (negsuc b) t = omega arith
nle_z→ (negsuc a) (pos b) t = absurd t
nle_z→ (negsuc a) (negsuc b) t = omega (arith, nleb→lt b a t)

pick : (a b : ℤ) (c : Bool) → (T c → P a + N b ≤ P b + N a) → (T (not c) → P b + N a < P a + N b)
    → (P (cond c a b) + N a + N b ≡ N (cond c a b) + min (P a + N b) (P b + N a))
    × (P (cond c b a) + N a + N b ≡ N (cond c b a) + max (P a + N b) (P b + N a))
pick a b true f g = let h : P a + N b ≤ P b + N a = f tt in omega arith
pick a b false f g = let h : P b + N a < P a + N b = g tt in omega arith

pub min_law : (a b : ℤ) → P (min_z a b) + N a + N b ≡ N (min_z a b) + min (P a + N b) (P b + N a)
unfolding min_z
min_law a b = (pick a b (le_z a b) (le_z→ a b) (nle_z→ a b)).0

pub max_law : (a b : ℤ) → P (max_z a b) + N a + N b ≡ N (max_z a b) + max (P a + N b) (P b + N a)
unfolding max_z
max_law a b = (pick a b (le_z a b) (le_z→ a b) (nle_z→ a b)).1

-- a test's outcome, as a branch leaves it
pub le_z_t→ : (a b : ℤ) → le_z a b ≡ true → P a + N b ≤ P b + N a
le_z_t→ a b e = le_z→ a b (true_T e)

pub le_z_f→ : (a b : ℤ) → le_z a b ≡ false → P b + N a < P a + N b
le_z_f→ a b e = nle_z→ a b (subst (λ (c : Bool). T (not c)) (sym e) tt)

pub lt_z_t→ : (a b : ℤ) → lt_z a b ≡ true → P a + N b < P b + N a
lt_z_t→ a b e = lt_z→ a b (true_T e)

pub lt_z_f→ : (a b : ℤ) → lt_z a b ≡ false → P b + N a ≤ P a + N b
lt_z_f→ a b e = le→ b a (lt_z_no (subst (λ (c : Bool). T (not c)) (sym e) tt))

pub →le_z_t : (a b : ℤ) → P a + N b ≤ P b + N a → le_z a b ≡ true
→le_z_t a b h = T_true (le_z a b) (→le_z a b h)

pub →le_z_f : (a b : ℤ) → P b + N a < P a + N b → le_z a b ≡ false
→le_z_f a b h = not_true (le_z a b) (λ e. omega (arith, le_z_t→ a b e))

pub →lt_z_t : (a b : ℤ) → P a + N b < P b + N a → lt_z a b ≡ true
→lt_z_t a b h = T_true (lt_z a b) (→lt_z a b h)

pub →lt_z_f : (a b : ℤ) → P b + N a ≤ P a + N b → lt_z a b ≡ false
→lt_z_f a b h = not_true (lt_z a b) (λ e. omega (arith, lt_z_t→ a b e))

-- a cast to unsigned asks that the number is not negative
pub →non_neg : (z : ℤ) → N z ≤ P z → T (non_neg z)
→non_neg (pos n) h = tt
→non_neg (negsuc n) h = absurd (omega arith)

pub non_neg→ : (z : ℤ) → T (non_neg z) → N z ≡ 0
non_neg→ (pos n) h = refl
non_neg→ (negsuc n) h = absurd h

-- ---- ranges of i32
pub abs_law : (z : ℤ) → nat_abs z ≡ P z + N z
abs_law (pos n) = omega arith
abs_law (negsuc n) = omega arith

-- a hypothesis `SFits w32 z` is read as `mag z < 2 ^ 31`, its field; this law ties `mag z` to the parts
pub mag_law : (z : ℤ) → (P z ≤ mag z) × (N z ≤ suc (mag z))
mag_law (pos n) = omega arith
mag_law (negsuc n) = omega arith

-- both bounds in one statement, since a rule has one premise: P z < 2^31 + N z and N z ≤ 2^31 + P z
pub →fits : (z : ℤ) → max (suc (P z + P z)) (N z + N z) ≤ 2147483648 + P z + N z → SFits w32 z
→fits (pos n) h = record { sfits = omega arith }
→fits (negsuc n) h = record { sfits = omega arith }

-- ---- equality, as a test
pub eq_z_refl : (a : ℤ) → eq_z a a ≡ true
unfolding eq_z
eq_z_refl (pos a) = T_true (eqb a a) (eqb_refl a)
eq_z_refl (negsuc a) = T_true (eqb a a) (eqb_refl a)

T→eq_z : (a b : ℤ) → T (eq_z a b) → a ≡ b
unfolding eq_z
T→eq_z (pos a) (pos b) t = ap pos (eqb→eq a b t)
T→eq_z (pos a) (negsuc b) t = absurd t
T→eq_z (negsuc a) (pos b) t = absurd t
T→eq_z (negsuc a) (negsuc b) t = ap negsuc (eqb→eq a b t)

pub eq_z→ : (a b : ℤ) → eq_z a b ≡ true → P a + N b ≡ P b + N a
eq_z→ a b e = eq→ a b (T→eq_z a b (true_T e))

pub neq_z→ : (a b : ℤ) → eq_z a b ≡ false → P a + N b ≢ P b + N a
neq_z→ a b e q = true≢false (sym (subst (λ (x : ℤ). eq_z a x ≡ true) (→eq a b q) (eq_z_refl a)) ∙ e)

pub →eq_z : (a b : ℤ) → P a + N b ≡ P b + N a → eq_z a b ≡ true
→eq_z a b q = subst (λ (x : ℤ). eq_z a x ≡ true) (→eq a b q) (eq_z_refl a)

pub →neq_z : (a b : ℤ) → P a + N b ≢ P b + N a → eq_z a b ≡ false
→neq_z a b f = not_true (eq_z a b) (λ e. f (eq_z→ a b e))

-- ---- bits: a signed local holds `of_z w32 z`, and what is read back is `to_z w32 (of_z w32 z)`.
-- `i32 c.fits.x` in omega's list says of the parameter x its range, and that it is read back
pub record I32 (z : ℤ) : Type 0 where
  pub back : to_z w32 (of_z w32 z) ≡ z
  pub upper : P z < 2147483648
  pub lower : N z ≤ 2147483648

pub i32 : {z : ℤ} → SFits w32 z → I32 z
i32 {z} f = record { back = to_z-of_z f; upper = omega (arith, mag_law z, f.sfits); lower = omega (arith, mag_law z, f.sfits) }

pub ruleset zarith = (arith, le→, →le, lt→, →lt, eq→, →eq, le_z→, →le_z, lt_z→, →lt_z, le_z_t→, le_z_f→, lt_z_t→, lt_z_f→, →le_z_t, →le_z_f, →lt_z_t, →lt_z_f, eq_z→, neq_z→, →eq_z, →neq_z, →non_neg, non_neg→, →fits)

-- `==` compares bits: a test that held, a test that failed, and the flag itself. A literal's `SFits` is `sfits_lit tt`
pub of_z_eq : (a b : ℤ) → SFits w32 a → SFits w32 b → of_z w32 a ≡ of_z w32 b → a ≡ b
of_z_eq a b f g e = sym (to_z-of_z f) ∙ ap (to_z w32) e ∙ to_z-of_z g

pub of_z_ne : (a b : ℤ) → (of_z w32 a ≡ of_z w32 b → ⊥) → eq_z a b ≡ false
of_z_ne a b f = not_true (eq_z a b) (λ e. f (ap (of_z w32) (→eq a b (eq_z→ a b e))))
