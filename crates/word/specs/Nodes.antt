-- The nodes of a forest, in preorder, with their places; and how one is looked up.
use Rattle.std.specs.Prelude.{Bool, true, false, cond, List, [], ◌∷◌, ◌++◌, ℕ, zero, suc, ◌+◌, eqb, length}
use Rattle.std.proofs.Math.Option.{Option, none, some}
use Rattle.word.specs.Forest.{Forest, empty, tree, encode}

-- "A node is named by the place of its opening bit." Beside its place it has the places of its parent, of its parent's parent and so on
-- up to a root; the forest of its kids; and the rest of the forest that it begins: its siblings to the right, with all below them
pub record Node : Type 0 where
  pub place : ℕ
  pub above : List ℕ
  pub kids : Forest
  pub rest : Forest

-- "an opening, a balanced word, a closing": the word of its kids stands between its opening and its closing
abbrev pub closing : Node → ℕ
closing x = suc (x.place + length (encode x.kids))

-- the nodes, in preorder, of a forest whose word starts at place `at` and whose roots have the nodes at the places `above` above them
abbrev pub nodes : ℕ → List ℕ → Forest → List Node
nodes at above empty = []
nodes at above (tree kids rest) =
    let x : Node = record { place = at; above = above; kids = kids; rest = rest } in
    x ∷ nodes (suc at) (at ∷ above) kids ++ nodes (suc (closing x)) above rest

-- all nodes of a forest: the first stands at place 0, and nothing is above a root
abbrev pub table : Forest → List Node
table f = nodes zero [] f

-- the first node that passes a test
abbrev pub find : (Node → Bool) → List Node → Option Node
find t [] = none
find t (x ∷ xs) = cond (t x) (some x) (find t xs)

-- how many nodes stand before the first that passes it
abbrev pub before : (Node → Bool) → List Node → ℕ
before t [] = zero
before t (x ∷ xs) = cond (t x) zero (suc (before t xs))

abbrev pub stands_at : ℕ → Node → Bool
stands_at a x = eqb x.place a

abbrev pub closes_at : ℕ → Node → Bool
closes_at a x = eqb (closing x) a

-- the node at a place
abbrev pub at : Forest → ℕ → Option Node
at f a = find (stands_at a) (table f)

-- what is asked of a node; where there is no node there is no answer
abbrev pub ask : Option Node → (Node → Option ℕ) → Option ℕ
ask none k = none
ask (some x) k = k x

abbrev pub chain_of : Option Node → List ℕ
chain_of none = []
chain_of (some x) = x.place ∷ x.above

-- a's chain: the places of a, of its parent, and so on up to its root
abbrev pub chain : Forest → ℕ → List ℕ
chain f a = chain_of (at f a)

-- whether a place is in a list
abbrev pub on : List ℕ → ℕ → Bool
on [] a = false
on (p ∷ ps) a = cond (eqb p a) true (on ps a)
