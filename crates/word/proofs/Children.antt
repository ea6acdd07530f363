-- A forest's roots, and so a node's children, are how often D comes back to where their word starts. Assumes nothing.
use mathlib.Core.Path.{◌≡◌, refl, sym, ap, ap₂, ◌∙◌}
use mathlib.Core.Bool.{Bool, false, cond}
use mathlib.Core.List.{List, ◌∷◌}
use Prim.Native.Nat.{ℕ, zero, suc, ◌+◌, ◌≤◌, ◌<◌}
use native.Mathlib.Omega.{arith}
use lib.ListN.{length, take, drop, length-append}
use lib.Seq.{drop-append-add}
use lib.IntN.{pos, ◌+ℤ◌}
use Rattle.word.specs.Forest.{Forest, empty, tree, encode, D}
use Rattle.word.specs.Signed.{eq_z}
use Rattle.word.specs.Questions.{roots}
use Rattle.word.proofs.Signed.{zarith, +law, →eq_z, →neq_z}
use Rattle.word.proofs.Tests.{same_test}
use Rattle.word.proofs.Depth.{eq, D_add, D_part}
use Rattle.word.proofs.Bridge.{Span, bridge}

-- how many of 1 to n pass
abbrev pub tally : (ℕ → Bool) → ℕ → ℕ
tally t zero = zero
tally t (suc n) = cond (t 1) 1 0 + tally (λ j. t (suc j)) n

pub tally_ext : (t u : ℕ → Bool) (n : ℕ) → ((j : ℕ) → 0 < j → j ≤ n → t j ≡ u j) → tally t n ≡ tally u n
tally_ext t u zero h = refl
tally_ext t u (suc n) h = ap₂ (λ b m. cond b 1 0 + m) (h 1 (omega arith) (omega arith)) (tally_ext (λ j. t (suc j)) (λ j. u (suc j)) n (λ j l k. h (suc j) (omega arith) (omega arith)))

tally_add : (t : ℕ → Bool) (m n : ℕ) → tally t (m + n) ≡ tally t m + tally (λ j. t (m + j)) n
tally_add t zero n =
    omega (arith, ap (tally t) (eq (0 + n) n (omega arith)) ∙ tally_ext t (λ j. t (0 + j)) n (λ j l k. ap t (eq j (0 + j) (omega arith))))
tally_add t (suc m) n =
    ap (tally t) (eq (suc m + n) (suc (m + n)) (omega arith))
    ∙ omega (arith, tally_add (λ j. t (suc j)) m n, tally_ext (λ j. t (suc (m + j))) (λ j. t (suc m + j)) n (λ j l k. ap t (eq (suc (m + j)) (suc m + j) (omega arith))))

tally_none : (t : ℕ → Bool) (n : ℕ) → ((j : ℕ) → 0 < j → j ≤ n → t j ≡ false) → tally t n ≡ 0
tally_none t zero h = refl
tally_none t (suc n) h = omega (arith, ap {B = ℕ} (λ b. cond b 1 0) (h 1 (omega arith) (omega arith)), tally_none (λ j. t (suc j)) n (λ j l k. h (suc j) (omega arith) (omega arith)))

-- how many boundaries of a forest's word, after the first, have D = 0
abbrev at_zero : List Bool → ℕ → Bool
at_zero w j = eq_z (D w j) (pos 0)

-- the first tree's word is e + 1 long, and only its last boundary is at 0
roots_tree : (w v : List Bool) (e : ℕ) → Span w 0 e 0 → drop (suc e) w ≡ v → (n : ℕ)
    → tally (at_zero w) (suc e + n) ≡ suc (tally (at_zero v) n)
roots_tree w v e s d n = omega (
  arith,
  tally_add (at_zero w) (suc e) n,
  ap (tally (at_zero w)) (eq (suc e) (e + 1) (omega arith)) ∙ tally_add (at_zero w) e 1,
  tally_none (at_zero w) e (λ j l k. →neq_z (D w j) (pos 0) (λ i. omega (zarith, s.inside j l k))),
  ap {B = ℕ} (λ b. cond b 1 0) (ap (at_zero w) (eq (e + 1) (suc e) (omega arith)) ∙ →eq_z (D w (suc e)) (pos 0) (omega (zarith, s.after))),
  tally_ext (λ j. at_zero w (suc e + j)) (at_zero v) n (λ j l k. ap (λ z. eq_z z (pos 0))
      (D_add w (suc e) j ∙ omega (zarith, s.after, +law (D w (suc e)) (D (drop (suc e) w) j), ap (λ u. D u j) d))),
)

pub roots_tally : (f : Forest) → roots f ≡ tally (λ j. eq_z (D (encode f) j) (pos 0)) (length (encode f))
roots_tally empty = refl
roots_tally (tree k r) =
    let w : List Bool = encode (tree k r) in
    let e : ℕ = suc (length (encode k)) in
    let s : Span w 0 (suc (0 + length (encode k))) 0 = (bridge (tree k r)).0.upward.0 in
    let i : suc (0 + length (encode k)) ≡ e = omega arith in
    ap suc (roots_tally r)
    ∙ sym (roots_tree w (encode r) e (rw i at s) (ap (λ n. drop n w) (eq (suc e) (suc (length (encode k) + 1)) (omega arith)) ∙ drop-append-add (encode k) (false ∷ encode r) 1) (length (encode r)))
    ∙ ap (tally (at_zero w)) (eq (suc e + length (encode r)) (length w) (omega (arith, length-append (encode k) (false ∷ encode r))))

-- the same, where that word is n bits of a longer one, from place p on
pub roots_part : (w : List Bool) (p n : ℕ) (k : Forest) → take n (drop p w) ≡ encode k → n ≡ length (encode k)
    → roots k ≡ tally (λ j. eq_z (D w (p + j)) (D w p)) n
roots_part w p n k b i =
    roots_tally k ∙ ap (tally (at_zero (encode k))) (sym i)
    ∙ tally_ext (at_zero (encode k)) (λ j. eq_z (D w (p + j)) (D w p)) n (λ j l h. same j (D_part w p n j h))
  where
    same : (j : ℕ) → D w (p + j) ≡ D w p +ℤ D (take n (drop p w)) j → eq_z (D (encode k) j) (pos 0) ≡ eq_z (D w (p + j)) (D w p)
    same j e =
        let u : List Bool = take n (drop p w) in
        ap (λ v. eq_z (D v j) (pos 0)) (sym b) ∙ same_test (eq_z (D u j) (pos 0)) (eq_z (D w (p + j)) (D w p)) ((λ t. omega (zarith, +law (D w p) (D u j))), λ t. omega (zarith, +law (D w p) (D u j)))
