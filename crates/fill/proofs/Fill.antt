-- Writing one list over a part of another: `sets l i vs` is l with vs over it from place i on.
-- These are the laws that lib.Seq lacks; each crate that fills a lent slice cites them. Assumes nothing.
use mathlib.Core.Path.{◌≡◌, sym, ap, ◌∙◌}
use mathlib.Core.List.{List, [], ◌∷◌, ◌++◌, append_assoc}
use Prim.Native.Nat.{ℕ, suc, ◌+◌, ◌<◌, ◌≤◌}
use native.Mathlib.Omega.{arith}
use lib.ListN.{length, set, get_or, take, drop}
use lib.Seq.{sets, sets-eq, take_at, drop-cons, drop-drop}
use borrow.Rule.Slice.PartMut.{put_mid}

module _ {A : Type 0} where
  -- in two goes
  pub sets_append : (l : List A) (i : ℕ) (xs ys : List A) → sets l i (xs ++ ys) ≡ sets (sets l i xs) (i + length xs) ys
  sets_append l i [] ys = ap (λ n. sets l n ys) (let e : i ≡ i + 0 = omega arith in e)
  sets_append l i (x ∷ xs) ys =
      sets_append (set l i x) (suc i) xs ys
      ∙ ap (λ n. sets (sets (set l i x) (suc i) xs) n ys) (let e : suc i + length xs ≡ i + suc (length xs) = omega arith in e)

  -- a list written over the k elements from place i on
  pub put_sets : (l vs : List A) (i k : ℕ) → k ≡ length vs → i + k ≤ length l → put_mid i k l vs ≡ sets l i vs
  put_sets l vs i k e h = rw (e, sets-eq vs l i (omega arith), append_assoc, drop-drop)

  -- what was written from the front stands at the front
  pub sets_front : (l vs : List A) (n : ℕ) → n ≡ length vs → length vs ≤ length l → take n (sets l 0 vs) ≡ vs
  sets_front l vs n e h = ap (take n) (sets-eq vs l 0 (omega arith)) ∙ take_at vs (drop (0 + length vs) l) n (sym e)

  -- a list taken three elements at a time
  pub drop_three : (l : List A) (i : ℕ) (d : A) → i + 3 ≤ length l
      → drop i l ≡ get_or l i d ∷ (get_or l (i + 1) d ∷ (get_or l (i + 2) d ∷ drop (i + 3) l))
  drop_three l i d h =
      next i (i + 1) (omega arith) (omega arith)
      ∙ ap (get_or l i d ∷◌) (next (i + 1) (i + 2) (omega arith) (omega arith)
      ∙ ap (get_or l (i + 1) d ∷◌) (next (i + 2) (i + 3) (omega arith) (omega arith)))
    where
      next : (i j : ℕ) → suc i ≡ j → i < length l → drop i l ≡ get_or l i d ∷ drop j l
      next i j e k = drop-cons l i d k ∙ ap (λ x. get_or l i d ∷ drop x l) e

-- no second outcome fits what `copy` promises
pub settled : {A : Type 0} (src dst left left₂ : List A) (to : ℕ) → left ≡ sets dst to src → left₂ ≡ sets dst to src → left ≡ left₂
settled src dst left left₂ to p q = p ∙ sym q
