-- Entries laid over the numbers lent, from the last to the first, and what is read back. Assumes nothing.
use mathlib.Core.Path.{◌≡◌, refl, sym, ap, ◌∙◌}
use mathlib.Core.List.{List, [], ◌∷◌, ◌++◌}
use Prim.Native.Nat.{ℕ, suc, ◌+◌, ◌*◌, ◌≤◌, ◌<◌}
use native.Mathlib.Omega.{arith}
use lib.ListN.{length, set, get_or, take, drop, length-append, length-take, get_or-append}
use lib.Seq.{sets, sets-eq, set_comm, get_or-append-add}
use lib.IntN.{ℤ, pos}
use Rattle.summary.specs.declared.Summary.{Summary}
use Rattle.index.specs.Shape.{index_from}
use Rattle.index.specs.Lent.{entry_at, four}
use Rattle.index.proofs.Numbers.{length_index, entry_same, entries}

-- ---- writing over a list, the later part first
module _ {A : Type 0} where
  set_sets : (l : List A) (i j : ℕ) (a : A) (vs : List A) → i < j → sets (set l i a) j vs ≡ set (sets l j vs) i a
  set_sets l i j a [] h = refl
  set_sets l i j a (v ∷ vs) h =
      ap (λ r. sets r (suc j) vs) (set_comm l i j a v (λ e. omega arith)) ∙ set_sets (set l j v) i (suc j) a vs (omega arith)

  sets_before : (l : List A) (i : ℕ) (xs ys : List A) → sets (sets l (i + length xs) ys) i xs ≡ sets l i (xs ++ ys)
  sets_before l i [] ys = ap (λ n. sets l n ys) (let e : i + 0 ≡ i = omega arith in e)
  sets_before l i (x ∷ xs) ys =
      ap (λ r. sets r (suc i) xs) (sym (set_sets l i (i + suc (length xs)) x ys (omega arith)))
      ∙ ap (λ n. sets (sets (set l i x) n ys) (suc i) xs) (let e : i + suc (length xs) ≡ suc i + length xs = omega arith in e)
      ∙ sets_before (set l i x) (suc i) xs ys

  get_d_sets : (l : List A) (i j : ℕ) (vs : List A) (d : A) → i + length vs ≤ length l → j < length vs
      → get_or (sets l i vs) (i + j) d ≡ get_or vs j d
  get_d_sets l i j vs d h k =
      let n : length (take i l) ≡ i = omega (arith, length-take i l) in
      ap (λ r. get_or r (i + j) d) (sets-eq vs l i h)
      ∙ get_or-append (take i l ++ vs) (drop (i + length vs) l) d (i + j) (omega (arith, length-append (take i l) vs))
      ∙ ap (λ x. get_or (take i l ++ vs) (x + j) d) (sym n)
      ∙ get_or-append-add (take i l) vs j d

-- ---- entries from k on
pub laid_next : (l : List ℤ) (n : ℕ) (e : ℕ → Summary) (k : ℕ)
    → sets (sets l (4 * suc k) (index_from n e (suc k))) (4 * k) (four (e k)) ≡ sets l (4 * k) (index_from (suc n) e k)
unfolding index_from
laid_next l n e k =
    ap (λ i. sets (sets l i (index_from n e (suc k))) (4 * k) (four (e k))) (let z : 4 * suc k ≡ 4 * k + 4 = omega arith in z)
    ∙ sets_before l (4 * k) (four (e k)) (index_from n e (suc k))

pub laid_reads : (l : List ℤ) (n : ℕ) (e : ℕ → Summary) (k i : ℕ) → 4 * (k + n) ≤ length l → i < n
    → entry_at (sets l (4 * k) (index_from n e k)) (k + i) ≡ e (k + i)
laid_reads l n e k i h o = entry_same (sets l (4 * k) (index_from n e k)) (index_from n e k) (k + i) i at ∙ entries n e k i o
  where
    at : (c : ℕ) → c < 4
        → get_or (sets l (4 * k) (index_from n e k)) (4 * (k + i) + c) (pos 0) ≡ get_or (index_from n e k) (4 * i + c) (pos 0)
    at c b =
        ap (λ x. get_or (sets l (4 * k) (index_from n e k)) x (pos 0)) (let z : 4 * (k + i) + c ≡ 4 * k + (4 * i + c) = omega arith in z)
        ∙ get_d_sets l (4 * k) (4 * i + c) (index_from n e k) (pos 0) (omega (arith, length_index n e k)) (omega (arith, length_index n e k))
