-- What decoding has checked: the places that each question carries stand for what it asks about; and a fault's number is 11 to 15, so
-- that none is taken for a 16. Assumes nothing.
use mathlib.Core.Path.{◌≡◌, refl}
use mathlib.Core.Bool.{Bool, true, false, cond, not}
use mathlib.Core.List.{List, [], ◌∷◌}
use Prim.Native.Nat.{ℕ, suc, ◌≤◌}
use native.Mathlib.Omega.{arith}
use borrow.Author.Tests.{ltb-true, ltb-false}
use lib.Dec.{ltb, eqb}
use lib.ListN.{length, get_or}
use Rattle.std.specs.Prelude.{Result, Ok, Err, MatchResult}
use Rattle.std.proofs.lemmas.Result.{MatchResult-at_ok, MatchResult-at_err}
use Rattle.question.specs.declared.Question.{Question}
use Rattle.question.specs.declared.Question.TheVariants.{Depth, Number, Closing, Opening, Parent, Ancestor, Branch}
use Rattle.question.specs.declared.Question.TheVariants.{Children, FirstChild, NextSibling, Nearest, Lowest, Holds}
use Rattle.question.specs.Places.{IsNode, IsClosing, Sound}
use Rattle.question.specs.Decode.{Checks, node, closing, boundaries, unless, decode_of}

abbrev Early : ℕ → Type 0
Early c = (11 ≤ c) × (c ≤ 15)

not_not : (b : Bool) → not b ≡ false → b ≡ true
not_not true e = refl
not_not false e = cc

module _ (w : List Bool) where
  abbrev Decoded : Result Question ℕ → Type 0
  Decoded d = MatchResult d (Sound w) Early

  -- a check that holds refuses, and one that fails is known to have failed
  by_check : (t : Bool) (c : ℕ) (rest : Checks) (q : Question) → Early (suc c) → (t ≡ false → Decoded (unless rest q)) →
      Decoded (unless ((t, suc c) ∷ rest) q)
  by_check true c rest q l k = l
  by_check false c rest q l k = k refl

  by_node : (a : ℕ) (rest : Checks) (q : Question) → (IsNode w a → Decoded (unless rest q)) → Decoded (unless (node w a rest) q)
  by_node a rest q k =
      by_check (not (ltb a (length w))) 11 ((not (get_or w a false), 13) ∷ rest) q (omega arith, omega arith) λ e.
      by_check (not (get_or w a false)) 12 rest q (omega arith, omega arith) λ d.
      k (record { below = ltb-true a (length w) (not_not (ltb a (length w)) e); opens = not_not (get_or w a false) d })

  by_closing : (a : ℕ) (q : Question) → (IsClosing w a → Sound w q) → Decoded (unless (closing w a) q)
  by_closing a q k =
      by_check (not (ltb a (length w))) 11 ((get_or w a true, 14) ∷ []) q (omega arith, omega arith) λ e.
      by_check (get_or w a true) 13 [] q (omega arith, omega arith) λ d.
      k (record { below = ltb-true a (length w) (not_not (ltb a (length w)) e); closes = d })

  by_boundaries : (a b : ℕ) → Decoded (unless (boundaries w a b) (Lowest a b))
  by_boundaries a b =
      by_check (ltb (length w) a) 11 ((ltb (length w) b, 12) ∷ (ltb b a, 15) ∷ []) (Lowest a b) (omega arith, omega arith) λ e.
      by_check (ltb (length w) b) 11 ((ltb b a, 15) ∷ []) (Lowest a b) (omega arith, omega arith) λ d.
      by_check (ltb b a) 14 [] (Lowest a b) (omega arith, omega arith) λ c. (ltb-false b a c, ltb-false (length w) b d)

  either : (t : Bool) (x y : Result Question ℕ) → Decoded x → Decoded y → Decoded (cond t x y)
  either true x y p q = p
  either false x y p q = q

  module _ (kind a b : ℕ) where
    decoded : Decoded (decode_of w kind a b)
    unfolding decode_of
    decoded =
        let one : (q : Question) → (IsNode w a → Sound w q) → Decoded (unless (node w a []) q) = by_node a [] in
        let two : (q : Question) → (IsNode w a → IsNode w b → Sound w q) → Decoded (unless (node w a (node w b [])) q) =
        λ q k. by_node a (node w b []) q (λ n. by_node b [] q (k n)) in
        either (eqb kind 1) _ _ (one (Depth a) (λ n. n))
        (either (eqb kind 2) _ _ (one (Number a) (λ n. n))
        (either (eqb kind 3) _ _ tt
        (either (eqb kind 4) _ _ (one (Closing a) (λ n. n))
        (either (eqb kind 5) _ _ (by_closing a (Opening a) (λ n. n))
        (either (eqb kind 6) _ _ (one (Parent a) (λ n. n))
        (either (eqb kind 7) _ _ (one (Ancestor a b) (λ n. n))
        (either (eqb kind 8) _ _ (one (Branch a) (λ n. n))
        (either (eqb kind 9) _ _ (one (Children a) (λ n. n))
        (either (eqb kind 10) _ _ (one (FirstChild a) (λ n. n))
        (either (eqb kind 11) _ _ (one (NextSibling a) (λ n. n))
        (either (eqb kind 12) _ _ (two (Nearest a b) (λ n k. (n, k)))
        (either (eqb kind 13) _ _ (by_boundaries a b)
        (either (eqb kind 14) _ _ (two (Holds a b) (λ n k. (n, k))) (omega arith, omega arith))))))))))))))

    pub decode_sound : {q : Question} → decode_of w kind a b ≡ Ok q → Sound w q
    decode_sound {q} e = MatchResult-at_ok (Sound w) Early q e decoded

    pub decode_early : {c : ℕ} → decode_of w kind a b ≡ Err c → (11 ≤ c) × (c ≤ 15)
    decode_early {c} e = MatchResult-at_err (Sound w) Early c e decoded
