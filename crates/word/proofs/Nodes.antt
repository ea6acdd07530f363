-- The table of nodes, in preorder: each opening is a node, whose number is how many openings stand before it; each closing closes a node.
-- Assumes nothing.
use mathlib.Core.Path.{◌≡◌, refl, sym, ap, ap₂, subst, ◌∙◌}
use mathlib.Core.Logic.{◌⊎◌, inl, inr}
use mathlib.Core.Bool.{Bool, true, false, cond}
use mathlib.Core.List.{List, [], ◌∷◌, ◌++◌}
use mathlib.Core.Option.{Option, none, some, none-ne-some}
use Prim.Native.Nat.{ℕ, zero, suc, ◌+◌, ◌-◌, ◌≤◌, ◌<◌}
use native.Mathlib.Omega.{arith}
use native.Mathlib.Decide.{dec_lt}
use lib.Dec.{eqb}
use lib.ListN.{length, get_or, get_elem?, get_or-append}
use lib.Seq.{get_or-append-add}
use Rattle.word.specs.Forest.{Forest, empty, tree, encode, count}
use Rattle.word.specs.Nodes.{Node, closing, nodes, table, find, before, stands_at, closes_at, at, ask}
use Rattle.word.specs.Questions.{number, with_number}
use Rattle.word.proofs.Tests.{true≢false, eqb_same, eqb_eq, eqb_ne}
use Rattle.word.proofs.Depth.{eq, rank}
use Rattle.word.proofs.Bridge.{Placed, All, Chain, bridge}

-- ---- what is found in a list

-- it passes the test, and what holds of the whole list holds of it
find_all : (P : Node → Type 0) (t : Node → Bool) (xs : List Node) (x : Node) → All P xs → find t xs ≡ some x → P x × (t x ≡ true)
find_all P t [] x g e = absurd (none-ne-some x e)
find_all P t (y ∷ xs) x g e = go (t y) refl e (find_all P t xs x g.1)
  where
    go : (b : Bool) → t y ≡ b → cond b (some y) (find t xs) ≡ some x → (find t xs ≡ some x → P x × (t x ≡ true)) → P x × (t x ≡ true)
    go true p e ih = let i : y ≡ x = cc in (subst P i g.0, ap t (sym i) ∙ p)
    go false p e ih = ih e

find_nth : (t : Node → Bool) (xs : List Node) → find t xs ≡ get_elem? xs (before t xs)
find_nth t [] = refl
find_nth t (x ∷ xs) = go (t x) (find_nth t xs)
  where
    go : (b : Bool) → find t xs ≡ get_elem? xs (before t xs)
        → cond b (some x) (find t xs) ≡ get_elem? (x ∷ xs) (cond b zero (suc (before t xs)))
    go true ih = refl
    go false ih = ih

-- ---- the table's nodes stand where the word's openings do

-- the places of the openings of a word whose first bit stands at place `at`
abbrev openings : ℕ → List Bool → List ℕ
openings at [] = []
openings at (true ∷ w) = at ∷ openings (suc at) w
openings at (false ∷ w) = openings (suc at) w

openings_append : (at : ℕ) (u v : List Bool) → openings at (u ++ v) ≡ openings at u ++ openings (at + length u) v
openings_append at [] v = ap (λ n. openings n v) (eq at (at + 0) (omega arith))
openings_append at (true ∷ u) v = ap (at ∷◌) (openings_append (suc at) u v ∙ ap (λ n. openings (suc at) u ++ openings n v) (eq (suc at + length u) (at + suc (length u)) (omega arith)))
openings_append at (false ∷ u) v =
    openings_append (suc at) u v
    ∙ ap (λ n. openings (suc at) u ++ openings n v) (eq (suc at + length u) (at + suc (length u)) (omega arith))

abbrev places : List Node → List ℕ
places [] = []
places (x ∷ xs) = x.place ∷ places xs

places_append : (xs ys : List Node) → places (xs ++ ys) ≡ places xs ++ places ys
places_append [] ys = refl
places_append (x ∷ xs) ys = ap (x.place ∷◌) (places_append xs ys)

places_nodes : (f : Forest) (at : ℕ) (ps : List ℕ) → places (nodes at ps f) ≡ openings at (encode f)
places_nodes empty at ps = refl
places_nodes (tree k r) at ps =
    let e : ℕ = suc (at + length (encode k)) in
    ap (at ∷◌) (places_append (nodes (suc at) (at ∷ ps) k) (nodes (suc e) ps r) ∙ ap₂ ◌++◌ (places_nodes k (suc at) (at ∷ ps)) (places_nodes r (suc e) ps)
    ∙ sym (openings_append (suc at) (encode k) (false ∷ encode r) ∙ ap (λ n. openings (suc at) (encode k) ++ openings (suc n) (encode r)) (eq (suc at + length (encode k)) e (omega arith))))

-- so the node at bit i has as many before it as there are openings among the first i bits, and is the one that has so many before it
before_rank : (w : List Bool) (at i : ℕ) (xs : List Node) → places xs ≡ openings at w → get_or w i false ≡ true
    → (before (stands_at (at + i)) xs ≡ rank true w i) × (ask (get_elem? xs (rank true w i)) (λ x. some x.place) ≡ some (at + i))
before_rank [] at i xs s o = absurd (true≢false (sym o))
before_rank (true ∷ w) at i [] s o = (cc, cc)
before_rank (true ∷ w) at zero (x ∷ xs) s o =
    let e : x.place ≡ at + 0 = (let h : x.place ≡ at = cc in omega arith) in
    (ap (λ t. cond t zero (suc (before (stands_at (at + 0)) xs))) (ap (λ n. eqb n (at + 0)) e ∙ eqb_same (at + 0)), ap some e)
before_rank (true ∷ w) at (suc i) (x ∷ xs) s o =
    let h : x.place ≡ at = cc in
    let r = before_rank w (suc at) i xs (let t : places xs ≡ openings (suc at) w = cc in t) o in
    let e : suc at + i ≡ at + suc i = omega arith in (
      ap (λ t. cond t zero (suc (before (stands_at (at + suc i)) xs))) (eqb_ne x.place (at + suc i) (omega arith)) ∙ ap suc (ap (λ n. before (stands_at n) xs) (sym e) ∙ r.0),
      r.1 ∙ ap some e,
    )
before_rank (false ∷ w) at zero xs s o = absurd (true≢false (sym o))
before_rank (false ∷ w) at (suc i) xs s o =
    let r = before_rank w (suc at) i xs s o in
    let e : suc at + i ≡ at + suc i = omega arith in
    (ap (λ n. before (stands_at n) xs) (sym e) ∙ r.0, r.1 ∙ ap some e)

nth_past : (w : List Bool) (at r : ℕ) (xs : List Node) → places xs ≡ openings at w → count true w ≤ r → get_elem? xs r ≡ none
nth_past w at r [] s l = refl
nth_past [] at r (x ∷ xs) s l = cc
nth_past (true ∷ w) at zero (x ∷ xs) s l = absurd (omega arith)
nth_past (true ∷ w) at (suc r) (x ∷ xs) s l = nth_past w (suc at) r xs (let t : places xs ≡ openings (suc at) w = cc in t) (omega arith)
nth_past (false ∷ w) at r (x ∷ xs) s l = nth_past w (suc at) r (x ∷ xs) s l

-- for each number below their count there is an opening with so many before it
pub record Opening (w : List Bool) (r : ℕ) : Type 0 where
  pub place : ℕ
  pub opened : get_or w place false ≡ true
  pub number : rank true w place ≡ r

pub opening_of_lem : (w : List Bool) (r : ℕ) → r < count true w → Opening w r
opening_of_lem [] r l = absurd (omega arith)
opening_of_lem (true ∷ w) zero l = record { place = 0; opened = refl; number = refl }
opening_of_lem (true ∷ w) (suc r) l = let o = opening_of_lem w r (omega arith) in record { place = suc o.place; opened = o.opened; number = ap suc o.number }
opening_of_lem (false ∷ w) r l = let o = opening_of_lem w r l in record { place = suc o.place; opened = o.opened; number = o.number }

-- ---- each opening is a node

-- the node at place a
pub record At (f : Forest) (a : ℕ) : Type 0 where
  pub x : Node
  pub found : at f a ≡ some x
  pub here : x.place ≡ a
  pub placed : Placed (encode f) x
  pub upward : Chain (encode f) a (closing x) x.above

module _ (f : Forest) where
  pub found_at : (a : ℕ) (x : Node) → at f a ≡ some x → At f a
  found_at a x e =
      let g = find_all (Placed (encode f)) (stands_at a) (table f) x (bridge f) e in
      let h : x.place ≡ a = eqb_eq x.place a g.1 in
      record { x = x; found = e; here = h; placed = g.0; upward = subst (λ n. Chain (encode f) n (closing x) x.above) h g.0.upward }

  module _ (a : ℕ) (o : get_or (encode f) a false ≡ true) where
    pub with_rank : with_number f (rank true (encode f) a) ≡ some a
    unfolding with_number
    with_rank = (before_rank (encode f) 0 a (table f) (places_nodes f 0 []) o).1 ∙ ap some (eq (0 + a) a (omega arith))

    before_at : before (stands_at a) (table f) ≡ rank true (encode f) a
    before_at =
        ap (λ n. before (stands_at n) (table f)) (eq a (0 + a) (omega arith))
        ∙ (before_rank (encode f) 0 a (table f) (places_nodes f 0 []) o).0

    pub node_at : At f a
    unfolding with_number
    node_at = go (at f a) refl (ap (λ n. ask n (λ x. some x.place)) (find_nth (stands_at a) (table f) ∙ ap (get_elem? (table f)) before_at) ∙ with_rank)
      where
        go : (n : Option Node) → at f a ≡ n → ask (at f a) (λ x. some x.place) ≡ some a → At f a
        go none e h = absurd (none-ne-some a (ap (λ n. ask n (λ x. some x.place)) (sym e) ∙ h))
        go (some x) e h = found_at a x e

    pub number_rank : number f a ≡ some (rank true (encode f) a)
    unfolding number
    number_rank = ap (λ n. ask n (λ x. some (before (stands_at a) (table f)))) node_at.found ∙ ap some before_at

  pub with_none : (r : ℕ) → count true (encode f) ≤ r → with_number f r ≡ none
  unfolding with_number
  with_none r l = ap (λ n. ask n (λ x. some x.place)) (nth_past (encode f) 0 r (table f) (places_nodes f 0 []) l)

-- ---- each closing closes a node

abbrev Has : (Node → Bool) → List Node → Type 0
Has t [] = ⊥
Has t (x ∷ xs) = (t x ≡ true) ⊎ Has t xs

has_left : (t : Node → Bool) (xs ys : List Node) → Has t xs → Has t (xs ++ ys)
has_left t [] ys h = absurd h
has_left t (x ∷ xs) ys (inl p) = inl p
has_left t (x ∷ xs) ys (inr h) = inr (has_left t xs ys h)

has_right : (t : Node → Bool) (xs ys : List Node) → Has t ys → Has t (xs ++ ys)
has_right t [] ys h = h
has_right t (x ∷ xs) ys h = inr (has_right t xs ys h)

has_find : (t : Node → Bool) (xs : List Node) → Has t xs → (x : Node) × (find t xs ≡ some x)
has_find t [] h = absurd h
has_find t (x ∷ xs) (inl p) = (x, ap (λ b. cond b (some x) (find t xs)) p)
has_find t (x ∷ xs) (inr h) = go (t x) (has_find t xs h)
  where
    go : (b : Bool) → (y : Node) × (find t xs ≡ some y) → (y : Node) × (cond b (some x) (find t xs) ≡ some y)
    go true r = (x, refl)
    go false r = r

closes_has : (f : Forest) (at : ℕ) (ps : List ℕ) (i : ℕ) → get_or (encode f) i true ≡ false → Has (closes_at (at + i)) (nodes at ps f)
closes_has empty at ps i e = absurd (true≢false e)
closes_has (tree k r) at ps zero e = absurd (true≢false e)
closes_has (tree k r) at ps (suc j) e =
    go (dec_lt j m) (dec_lt m j) (closes_has k (suc at) (at ∷ ps) j) (closes_has r (suc c) ps (j - suc m))
  where
    m : ℕ
    m = length (encode k)

    c : ℕ
    c = suc (at + length (encode k))

    ks : List Node
    ks = nodes (suc at) (at ∷ ps) k

    rs : List Node
    rs = nodes (suc c) ps r

    go : Dec (j < m) → Dec (m < j) → (get_or (encode k) j true ≡ false → Has (closes_at (suc at + j)) ks)
        → (get_or (encode r) (j - suc m) true ≡ false → Has (closes_at (suc c + (j - suc m))) rs) → Has (closes_at (at + suc j)) (nodes at ps (tree k r))
    go (yes l) q ihk ihr = inr (has_left (closes_at (at + suc j)) ks rs (subst (λ p. Has (closes_at p) ks) (eq (suc at + j) (at + suc j) (omega arith)) (ihk (sym (get_or-append (encode k) (false ∷ encode r) true j l) ∙ e))))
    go (no l) (yes q) ihk ihr = inr (has_right (closes_at (at + suc j)) ks rs (subst (λ p. Has (closes_at p) rs) (eq (suc c + (j - suc m)) (at + suc j) (omega arith))
        (ihr (sym (get_or-append-add (encode k) (false ∷ encode r) (suc (j - suc m)) true) ∙ ap (λ p. get_or (encode k ++ false ∷ encode r) p true) (eq (m + suc (j - suc m)) j (omega arith)) ∙ e))))
    go (no l) (no q) ihk ihr = inl (ap (eqb c) (eq (at + suc j) c (omega arith)) ∙ eqb_same c)

-- the node that the closing at place a closes
pub record ClosedAt (f : Forest) (a : ℕ) : Type 0 where
  pub x : Node
  pub found : find (closes_at a) (table f) ≡ some x
  pub here : closing x ≡ a
  pub placed : Placed (encode f) x

pub closed_at : (f : Forest) (a : ℕ) → get_or (encode f) a true ≡ false → ClosedAt f a
closed_at f a o =
    let n = has_find (closes_at a) (table f) (subst (λ q. Has (closes_at q) (table f)) (eq (0 + a) a (omega arith)) (closes_has f 0 [] a o)) in
    let g = find_all (Placed (encode f)) (closes_at a) (table f) n.0 (bridge f) n.1 in
    record { x = n.0; found = n.1; here = eqb_eq (closing n.0) a g.1; placed = g.0 }
