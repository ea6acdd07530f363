-- The numbers lent are the word's index exactly where reading them gives its entries. Assumes nothing.
use mathlib.Core.Path.{◌≡◌, refl, sym, ap, ap₂, ◌∙◌}
use mathlib.Core.Bool.{Bool, true}
use mathlib.Core.List.{List, [], ◌∷◌}
use Prim.Native.Nat.{ℕ, zero, suc, ◌+◌, ◌*◌, ◌^◌, ◌≤◌, ◌<◌}
use native.Mathlib.Omega.{arith}
use mathlib.Core.Logic.{◌↔◌}
use Rattle.word.specs.Signed.{eq_z}
use Rattle.word.proofs.Signed.{zarith, true≢false, by_test, eq_z_refl}
use lib.ListN.{length, take, get_or, length-take}
use lib.Seq.{get_or-take}
use lib.IntN.{ℤ, pos}
use Rattle.summary.specs.declared.Summary.{Summary}
use Rattle.summary.proofs.Join.{same}
use Rattle.index.specs.Shape.{entry, index_from, index}
use Rattle.index.specs.Lent.{entry_at, Indexed, begins, is_index}

pub length_index : (n : ℕ) (e : ℕ → Summary) (k : ℕ) → length (index_from n e k) ≡ 4 * n
unfolding index_from
length_index zero e k = omega arith
length_index (suc n) e k = omega (arith, length_index n e (suc k))

-- lists that agree at an entry's four places have the same entry there
pub entry_same : (x y : List ℤ) (j k : ℕ) → ((c : ℕ) → c < 4 → get_or x (4 * j + c) (pos 0) ≡ get_or y (4 * k + c) (pos 0))
    → entry_at x j ≡ entry_at y k
entry_same x y j k f = same (rw (plain j, plain k) at (f 0 (omega arith))) (f 1 (omega arith)) (f 2 (omega arith)) (f 3 (omega arith))
  where
    plain : (j : ℕ) → 4 * j + 0 ≡ 4 * j
    plain j = omega arith

four_on : (a b c d : ℤ) (l : List ℤ) (i : ℕ) → entry_at (a ∷ b ∷ c ∷ d ∷ l) (suc i) ≡ entry_at l i
four_on a b c d l i =
    entry_same (a ∷ b ∷ c ∷ d ∷ l) l (suc i) i (λ j h. let e : 4 * suc i + j ≡ suc (suc (suc (suc (4 * i + j)))) = omega arith in rw e)

pub entries : (n : ℕ) (e : ℕ → Summary) (k i : ℕ) → i < n → entry_at (index_from n e k) i ≡ e (k + i)
unfolding index_from
entries zero e k i l = absurd (omega arith)
entries (suc n) e k zero l = let z : k + 0 ≡ k = omega arith in rw z
entries (suc n) e k (suc i) l =
    four_on _ _ _ _ (index_from n e (suc k)) i ∙ entries n e (suc k) i (omega arith)
    ∙ ap e (let z : suc k + i ≡ k + suc i = omega arith in z)

front : (idx : List ℤ) (n k : ℕ) → k < n → entry_at idx k ≡ entry_at (take (4 * n) idx) k
front idx n k l = entry_same idx (take (4 * n) idx) k k (λ c h. sym (get_or-take (4 * n) idx (4 * k + c) (pos 0) (omega arith)))

-- numbers that read as the entries from k on are those entries' numbers
gather : (n : ℕ) (e : ℕ → Summary) (k : ℕ) (l : List ℤ) → 4 * n ≤ length l → ((i : ℕ) → i < n → entry_at l i ≡ e (k + i))
    → take (4 * n) l ≡ index_from n e k
unfolding index_from
gather zero e k l h f = refl
gather (suc n) e k [] h f = absurd (omega arith)
gather (suc n) e k (a ∷ []) h f = absurd (omega arith)
gather (suc n) e k (a ∷ b ∷ []) h f = absurd (omega arith)
gather (suc n) e k (a ∷ b ∷ c ∷ []) h f = absurd (omega arith)
gather (suc n) e k (a ∷ b ∷ c ∷ d ∷ l) h f =
    let z : 4 * suc n ≡ suc (suc (suc (suc (4 * n)))) = omega arith in
    let s : e k ≡ record {
      total =
          a;
      least = b;
      greatest = c;
      count = d;
    } = (let p : k + 0 ≡ k = omega arith in rw p at (sym (f 0 (omega arith)))) in
    rw (z, s) (ap (λ r. a ∷ b ∷ c ∷ d ∷ r) (gather n e (suc k) l (omega arith) (λ i o. sym (four_on a b c d l i) ∙ f (suc i) (omega arith) ∙ ap e (let p : k + suc i ≡ suc k + i = omega arith in p))))

-- "The index is the first 8L numbers of the lent slice"
pub indexed : (h : ℕ) (w : List Bool) (idx : List ℤ) → take (8 * 2 ^ h) idx ≡ index h w → Indexed h w idx
unfolding index
indexed h w idx e = record {
  long = omega (arith, length-take (8 * 2 ^ h) idx, ap length e, length_index (2 * 2 ^ h) (entry h w) 0);
  reads =
      λ k l. front idx (2 * 2 ^ h) k l
      ∙ ap (λ (s : List ℤ). entry_at s k) (ap (λ (n : ℕ). take n idx) (let d : 4 * (2 * 2 ^ h) ≡ 8 * 2 ^ h = omega arith in d) ∙ e)
      ∙ entries (2 * 2 ^ h) (entry h w) 0 k l ∙ ap (entry h w) (let z : 0 + k ≡ k = omega arith in z);
}

pub whole : (h : ℕ) (w : List Bool) (idx : List ℤ) → Indexed h w idx → take (8 * 2 ^ h) idx ≡ index h w
unfolding index
whole h w idx d = ap (λ (n : ℕ). take n idx) (let z : 8 * 2 ^ h ≡ 4 * (2 * 2 ^ h) = omega arith in z)
    ∙ gather (2 * 2 ^ h) (entry h w) 0 idx (omega (arith, d.long)) (λ i o. d.reads i o ∙ ap (entry h w) (let z : i ≡ 0 + i =
    omega arith in z))

-- ---- the test
begins_yes : (xs l : List ℤ) → begins xs l ≡ true → take (length xs) l ≡ xs
unfolding begins
begins_yes [] l e = refl
begins_yes (x ∷ xs) [] e = absurd (true≢false (sym e))
begins_yes (x ∷ xs) (y ∷ l) e =
    by_test (eq_z x y) (λ z. ap₂ ◌∷◌ (omega zarith) (begins_yes xs l (rw z at e))) (λ z. absurd (true≢false (sym (rw z at e))))

begins_no : (xs l : List ℤ) → take (length xs) l ≡ xs → begins xs l ≡ true
unfolding begins
begins_no [] l e = refl
begins_no (x ∷ xs) [] e = absurd (omega (arith, ap length e))
begins_no (x ∷ xs) (y ∷ l) e = let z : y ≡ x = cc in rw (z, eq_z_refl x) (begins_no xs l (cc))

pub index_long : (h : ℕ) (w : List Bool) → length (index h w) ≡ 8 * 2 ^ h
unfolding index
index_long h w = omega (arith, length_index (2 * 2 ^ h) (entry h w) 0)

-- the test is passed exactly by a slice that begins with the index
pub is_index_lem : (h : ℕ) (w : List Bool) (idx : List ℤ) → (is_index h w idx ≡ true) ↔ (take (8 * 2 ^ h) idx ≡ index h w)
unfolding is_index
is_index_lem h w idx = (λ e. rw (index_long h w) at (begins_yes (index h w) idx e), λ e. begins_no (index h w) idx (rw (index_long h w) e))

-- so each entry read from a slice that passes is the word's own
pub tested : (h : ℕ) (w : List Bool) (idx : List ℤ) → is_index h w idx ≡ true → Indexed h w idx
tested h w idx e = indexed h w idx ((is_index_lem h w idx).0 e)
