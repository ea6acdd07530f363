-- What each of the fourteen kinds asks, as a function of the forest or of D. `none` is "no such node".
use Rattle.std.specs.Prelude.{Bool, cond, List, [], ◌∷◌, ℕ, zero, suc, ◌+◌, length}
use Rattle.std.proofs.Math.Option.{Option, none, some}
use Rattle.std.proofs.Math.ListN.{get_elem?}
use Rattle.std.specs.Int.Signed.{lt_z}
use Rattle.word.specs.Forest.{Forest, empty, tree, D}
use Rattle.word.specs.Nodes.{closing, table, find, before, stands_at, closes_at, at, ask, chain, on}

-- kind 1, "depth of node a"; "A root has depth 0."
unfoldable pub depth : Forest → ℕ → Option ℕ
depth f a = ask (at f a) (λ x. some (length x.above))

-- kind 2, "number of node a"; "Its number is its place in preorder, from 0."
unfoldable pub number : Forest → ℕ → Option ℕ
number f a = ask (at f a) (λ x. some (before (stands_at a) (table f)))

-- kind 3, "node with number a"
unfoldable pub with_number : Forest → ℕ → Option ℕ
with_number f r = ask (get_elem? (table f) r) (λ x. some x.place)

-- kind 4, "closing place of node a"
unfoldable pub closing_of : Forest → ℕ → Option ℕ
closing_of f a = ask (at f a) (λ x. some (closing x))

-- kind 5, "opening place of the closing at a"
unfoldable pub opening_of : Forest → ℕ → Option ℕ
opening_of f a = ask (find (closes_at a) (table f)) (λ x. some x.place)

-- kind 7, "ancestor b levels above a; a itself for 0"
unfoldable pub ancestor : Forest → ℕ → ℕ → Option ℕ
ancestor f a b = get_elem? (chain f a) b

-- kind 6, "parent of a"
unfoldable pub parent : Forest → ℕ → Option ℕ
parent f a = ancestor f a 1

-- how many nodes a forest has
abbrev pub size : Forest → ℕ
size empty = zero
size (tree kids rest) = suc (size kids + size rest)

-- kind 8, "nodes in a's branch, a included"
unfoldable pub branch : Forest → ℕ → Option ℕ
branch f a = ask (at f a) (λ x. some (suc (size x.kids)))

-- how many roots a forest has
abbrev pub roots : Forest → ℕ
roots empty = zero
roots (tree kids rest) = suc (roots rest)

-- kind 9, "number of children"
unfoldable pub children : Forest → ℕ → Option ℕ
children f a = ask (at f a) (λ x. some (roots x.kids))

-- the first root of a forest whose word starts at place p
abbrev pub first_root : Forest → ℕ → Option ℕ
first_root empty p = none
first_root (tree kids rest) p = some p

-- kind 10, "first child"
unfoldable pub first_child : Forest → ℕ → Option ℕ
first_child f a = ask (at f a) (λ x. first_root x.kids (suc a))

-- kind 11, "next sibling; roots are siblings of each other, in order"
unfoldable pub next_sibling : Forest → ℕ → Option ℕ
next_sibling f a = ask (at f a) (λ x. first_root x.rest (suc (closing x)))

-- going up the first chain, the first node that the second has too
abbrev pub shared : List ℕ → List ℕ → Option ℕ
shared [] qs = none
shared (p ∷ ps) qs = cond (on qs p) (some p) (shared ps qs)

-- kind 12, "deepest node whose branch holds both a and b": the nodes whose branches hold a are those of a's chain, the deepest first
unfoldable pub nearest : Forest → ℕ → ℕ → Option ℕ
nearest f a b = shared (chain f a) (chain f b)

-- kind 13, "leftmost boundary from a to b with the least D", b = a + n: one boundary further, that one only where its D is less
unfoldable pub lowest : List Bool → ℕ → ℕ → ℕ
lowest w a zero = a
lowest w a (suc n) = let r = lowest w a n in cond (lt_z (D w (a + suc n)) (D w r)) (a + suc n) r

-- kind 14, "1 if b is in a's branch (a included), else 0": whether a stands on b's chain
unfoldable pub holds : Forest → ℕ → ℕ → Bool
holds f a b = on (chain f b) a
