-- Which question three numbers ask, after the checks of its places; or the number of the first check that fails.
use Rattle.std.specs.Prelude.{Bool, true, false, cond, not, List, [], ◌∷◌, ℕ, zero, suc, ltb, eqb, length, get_or, Result, Ok, Err}
use Rattle.judge.specs.First.{first_of}
use Rattle.question.specs.declared.Question.{Question}
use Rattle.question.specs.declared.Question.TheVariants.{Depth, Number, WithNumber, Closing, Opening, Parent, Ancestor}
use Rattle.question.specs.declared.Question.TheVariants.{Branch, Children, FirstChild, NextSibling, Nearest, Lowest, Holds}

-- a check that fails, and its number
abbrev pub Checks : Type 0
Checks = List (Bool × ℕ)

-- "12: place a or b not below m"; "13: place isn't an opening (all kinds of node)"
abbrev pub node : List Bool → ℕ → Checks → Checks
node w a rest = (not (ltb a (length w)), 12) ∷ (not (get_or w a false), 13) ∷ rest

-- "14: place isn't a closing (kind 5)"
abbrev pub closing : List Bool → ℕ → Checks
closing w a = (not (ltb a (length w)), 12) ∷ (get_or w a true, 14) ∷ []

-- "for kind 13, a boundary above m"; "15: kind 13 with a > b"
abbrev pub boundaries : List Bool → ℕ → ℕ → Checks
boundaries w a b = (ltb (length w) a, 12) ∷ (ltb (length w) b, 12) ∷ (ltb b a, 15) ∷ []

-- "A question checks 11 to 16 in order, but argument a wholly (12 to 14) before b."
abbrev pub refusing : {A : Type 0} → ℕ → A → Result A ℕ
refusing zero q = Ok q
refusing (suc c) q = Err (suc c)

abbrev pub unless : {A : Type 0} → Checks → A → Result A ℕ
unless cs q = refusing (first_of cs) q

-- "11: kind not 1 to 14"
unfoldable pub decode_of : List Bool → ℕ → ℕ → ℕ → Result Question ℕ
decode_of w kind a b =
    cond (eqb kind 1) (unless (node w a []) (Depth a))
    (cond (eqb kind 2) (unless (node w a []) (Number a))
    (cond (eqb kind 3) (Ok (WithNumber a))
    (cond (eqb kind 4) (unless (node w a []) (Closing a))
    (cond (eqb kind 5) (unless (closing w a) (Opening a))
    (cond (eqb kind 6) (unless (node w a []) (Parent a))
    (cond (eqb kind 7) (unless (node w a []) (Ancestor a b))
    (cond (eqb kind 8) (unless (node w a []) (Branch a))
    (cond (eqb kind 9) (unless (node w a []) (Children a))
    (cond (eqb kind 10) (unless (node w a []) (FirstChild a))
    (cond (eqb kind 11) (unless (node w a []) (NextSibling a))
    (cond (eqb kind 12) (unless (node w a (node w b [])) (Nearest a b))
    (cond (eqb kind 13) (unless (boundaries w a b) (Lowest a b))
    (cond (eqb kind 14) (unless (node w a (node w b [])) (Holds a b)) (Err 11))))))))))))))
