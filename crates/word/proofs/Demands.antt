-- Demand 3 over the forest's answers: climbing; the nearest shared node of two or three; and that to stand on the chain, to be the nearest
-- shared node, and to have a number in the branch's run are one thing. Assumes nothing.
use mathlib.Core.Path.{◌≡◌, refl, sym, ap, ◌∙◌}
use mathlib.Core.Logic.{◌⊎◌, inl, inr, ◌↔◌}
use mathlib.Core.Bool.{Bool, true, false, cond}
use mathlib.Core.List.{List, [], ◌∷◌}
use mathlib.Core.Option.{Option, none, some, none-ne-some}
use Prim.Native.Nat.{ℕ, zero, suc, ◌+◌, ◌≤◌, ◌<◌}
use native.Mathlib.Omega.{arith}
use native.Mathlib.Decide.{dec_le}
use lib.ListN.{drop, get_or, get_elem?}
use Rattle.word.specs.Forest.{Forest, encode}
use Rattle.word.specs.Nodes.{Node, closing, at, ask, chain_of, chain, on}
use Rattle.word.specs.Questions.{shared, ancestor, nearest, holds, size, number, branch}
use Rattle.word.proofs.Tests.{true≢false}
use Rattle.word.proofs.Signed.{zarith}
use Rattle.word.proofs.Bits.{opens}
use Rattle.word.proofs.Depth.{eq, rank, rank_sum, rank_mono, D_law}
use Rattle.word.proofs.Nodes.{found_at, node_at, number_rank}
use Rattle.word.proofs.Chains.{on_here, on_up, on_cases, chain_up, same_chain}
use Rattle.word.proofs.Answers.{size_length, chain_is, between}

-- ---- the places of a chain

get_elem_drop : {A : Type 0} (l : List A) (j k : ℕ) → get_elem? (drop j l) k ≡ get_elem? l (j + k)
get_elem_drop l zero k = ap (get_elem? l) (eq k (0 + k) (omega arith))
get_elem_drop [] (suc j) k = refl
get_elem_drop (x ∷ l) (suc j) k = get_elem_drop l j k ∙ ap (get_elem? (x ∷ l)) (eq (suc (j + k)) (suc j + k) (omega arith))

get_elem_past : {A : Type 0} (l : List A) (j k : ℕ) → get_elem? l j ≡ none → get_elem? l (j + k) ≡ none
get_elem_past [] j k e = refl
get_elem_past (x ∷ l) zero k e = absurd (none-ne-some x (sym e))
get_elem_past (x ∷ l) (suc j) k e = ap (get_elem? (x ∷ l)) (eq (suc j + k) (suc (j + k)) (omega arith)) ∙ get_elem_past l j k e

on_nth : (l : List ℕ) (q : ℕ) → on l q ≡ true → (j : ℕ) × (get_elem? l j ≡ some q)
on_nth [] q o = absurd (true≢false (sym o))
on_nth (p ∷ l) q o = go (on_cases p q l o) (on_nth l q)
  where
    go : (p ≡ q) ⊎ (on l q ≡ true) → (on l q ≡ true → (j : ℕ) × (get_elem? l j ≡ some q)) → (j : ℕ) × (get_elem? (p ∷ l) j ≡ some q)
    go (inl e) ih = (0, ap some e)
    go (inr o) ih = (suc (ih o).0, (ih o).1)

nth_on : (l : List ℕ) (j q : ℕ) → get_elem? l j ≡ some q → on l q ≡ true
nth_on [] j q e = absurd (none-ne-some q e)
nth_on (p ∷ l) zero q e = on_here p q l cc
nth_on (p ∷ l) (suc j) q e = on_up p q l (nth_on l j q e)

-- what `shared` finds is on both chains, and whatever else is on both comes after it
record Shared (c d : List ℕ) (p : ℕ) : Type 0 where
  j : ℕ
  first : get_elem? c j ≡ some p
  second : on d p ≡ true
  deepest : (q : ℕ) → on c q ≡ true → on d q ≡ true → on (drop j c) q ≡ true

shared_some : (c d : List ℕ) (p : ℕ) → shared c d ≡ some p → Shared c d p
shared_some [] d p e = absurd (none-ne-some p e)
shared_some (r ∷ c) d p e = go (on d r) refl e (shared_some c d p)
  where
    go : (b : Bool) → on d r ≡ b → cond b (some r) (shared c d) ≡ some p → (shared c d ≡ some p → Shared c d p) → Shared (r ∷ c) d p
    go true o e ih = let i : r ≡ p = cc in record { j = 0; first = e; second = ap (on d) (sym i) ∙ o; deepest = λ q m n. m }
    go false o e ih = let s = ih e in record { j = suc s.j; first = s.first; second = s.second; deepest = λ q m n. low (on_cases r q c m) n (s.deepest q) }
      where
        low : {q : ℕ} {B : Type 0} → (r ≡ q) ⊎ (on c q ≡ true) → on d q ≡ true → (on c q ≡ true → on d q ≡ true → B) → B
        low (inl e) n k = absurd (true≢false (sym n ∙ ap (on d) (sym e) ∙ o))
        low (inr m) n k = k m n

shared_none : (c d : List ℕ) → shared c d ≡ none → (q : ℕ) → on c q ≡ true → on d q ≡ true → ⊥
shared_none [] d e q m n = true≢false (sym m)
shared_none (r ∷ c) d e q m n = go (on d r) refl e (on_cases r q c m) (λ e' m'. shared_none c d e' q m' n)
  where
    go : (b : Bool) → on d r ≡ b → cond b (some r) (shared c d) ≡ none → (r ≡ q) ⊎ (on c q ≡ true)
        → (shared c d ≡ none → on c q ≡ true → ⊥) → ⊥
    go true o e m ih = none-ne-some r (sym e)
    go false o e (inl i) ih = true≢false (sym n ∙ ap (on d) (sym i) ∙ o)
    go false o e (inr m) ih = ih e m

-- ---- "none" passed on

abbrev pub and_then : Option ℕ → (ℕ → Option ℕ) → Option ℕ
and_then none k = none
and_then (some a) k = k a

-- the nearest shared node of what two answers name
abbrev pub meet : Forest → Option ℕ → Option ℕ → Option ℕ
meet f x y = and_then x (λ a. and_then y (λ b. nearest f a b))

module _ (f : Forest) where
  -- ---- climbing

  -- an ancestor's chain is what is left of the chain
  upward : (a j p : ℕ) → ancestor f a j ≡ some p → (chain f p ≡ drop j (chain f a)) × (p ≤ a) × (get_or (encode f) p false ≡ true)
  unfolding ancestor
  upward a j p e = go (at f a) refl
    where
      go : (n : Option Node) → at f a ≡ n → (chain f p ≡ drop j (chain f a)) × (p ≤ a) × (get_or (encode f) p false ≡ true)
      go none h = absurd (none-ne-some p (ap (λ n. get_elem? (chain_of n) j) (sym h) ∙ e))
      go (some x) h =
          let n = found_at f a x h in
          let l : chain f a ≡ a ∷ n.x.above = ap chain_of n.found ∙ ap (◌∷ n.x.above) n.here in
          let u = chain_up (encode f) j a (closing n.x) n.x.above p n.upward (ap (λ l. get_elem? l j) (sym l) ∙ e) in
          let o : get_or (encode f) p false ≡ true = u.upward.0.opened in
          let m = node_at f p o in (
            chain_is f p o ∙ ap (p ∷◌) (same_chain (encode f) p (closing m.x) u.c m.x.above u.qs m.upward u.upward) ∙ sym u.rest ∙ ap (drop j) (sym l),
            omega (arith, u.left),
            o,
          )

  -- climbing j and then k ends where climbing j + k ends, or neither way finds a node
  pub climb_climb : (a j k : ℕ) → and_then (ancestor f a j) (λ p. ancestor f p k) ≡ ancestor f a (j + k)
  unfolding ancestor
  climb_climb a j k = go (ancestor f a j) refl
    where
      go : (o : Option ℕ) → ancestor f a j ≡ o → and_then o (λ p. ancestor f p k) ≡ ancestor f a (j + k)
      go none e = sym (get_elem_past (chain f a) j k e)
      go (some p) e = ap (λ l. get_elem? l k) (upward a j p e).0 ∙ get_elem_drop (chain f a) j k

  -- ---- the order of nodes: whose branch holds whom

  abbrev pub IsNode : ℕ → Type 0
  IsNode a = get_or (encode f) a false ≡ true

  pub ancestor_node : (a j p : ℕ) → ancestor f a j ≡ some p → IsNode p
  ancestor_node a j p e = (upward a j p e).2

  abbrev Holds : ℕ → ℕ → Type 0
  Holds q a = holds f q a ≡ true

  holds_self : (a : ℕ) → IsNode a → Holds a a
  unfolding holds
  holds_self a o = nth_on (chain f a) 0 a (ap (λ l. get_elem? l 0) (chain_is f a o))

  holds_le : (q a : ℕ) → Holds q a → (q ≤ a) × IsNode q
  unfolding holds ancestor
  holds_le q a o = let n = on_nth (chain f a) q o in let u = upward a n.0 q n.1 in (u.1, u.2)

  holds_trans : (q p a : ℕ) → Holds q p → Holds p a → Holds q a
  unfolding holds ancestor
  holds_trans q p a o h =
      let n = on_nth (chain f a) p h in
      let m = on_nth (chain f p) q o in
      nth_on (chain f a) (n.0 + m.0) q (sym (get_elem_drop (chain f a) n.0 m.0) ∙ ap (λ l. get_elem? l m.0) (sym (upward a n.0 p n.1).0) ∙ m.1)

  -- "deepest node whose branch holds both a and b": its branch holds both, and a node whose branch holds both holds it
  pub nearest_deepest : (a b p : ℕ) → nearest f a b ≡ some p
      → (holds f p a ≡ true) × (holds f p b ≡ true) × ((q : ℕ) → holds f q a ≡ true → holds f q b ≡ true → holds f q p ≡ true)
  unfolding nearest holds ancestor
  nearest_deepest a b p e =
      let s = shared_some (chain f a) (chain f b) p e in
      (nth_on (chain f a) s.j p s.first, s.second, λ q m n. ap (λ l. on l q) (upward a s.j p s.first).0 ∙ s.deepest q m n)

  pub nearest_node : (a b p : ℕ) → nearest f a b ≡ some p → IsNode p
  nearest_node a b p e = (holds_le p a (nearest_deepest a b p e).0).1

  -- and where there is none, no branch holds both
  pub nearest_no_other : (a b : ℕ) → nearest f a b ≡ none → (q : ℕ) → holds f q a ≡ true → holds f q b ≡ true → ⊥
  unfolding nearest holds
  nearest_no_other a b e = shared_none (chain f a) (chain f b) e

  -- ---- the laws of the nearest shared node. Both sides of each hold the same nodes above them, and so are the same

  abbrev Over : ℕ → Option ℕ → Type 0
  Over q none = ⊥
  Over q (some a) = Holds q a

  abbrev Node? : Option ℕ → Type 0
  Node? none = Unit {0}
  Node? (some a) = IsNode a

  over_meet : (x y : Option ℕ) (q : ℕ) → Over q (meet f x y) ↔ (Over q x × Over q y)
  over_meet none y q = (λ h. absurd h, λ h. h.0)
  over_meet (some a) none q = (λ h. absurd h, λ h. h.1)
  over_meet (some a) (some b) q = go (nearest f a b) refl
    where
      go : (o : Option ℕ) → nearest f a b ≡ o → Over q o ↔ (Holds q a × Holds q b)
      go none e = (λ h. absurd h, λ h. nearest_no_other a b e q h.0 h.1)
      go (some p) e = let n = nearest_deepest a b p e in (λ h. (holds_trans q p a h n.0, holds_trans q p b h n.1), λ h. n.2 q h.0 h.1)

  meet_node : (x y : Option ℕ) → Node? (meet f x y)
  meet_node none y = tt
  meet_node (some a) none = tt
  meet_node (some a) (some b) = go (nearest f a b) refl
    where
      go : (o : Option ℕ) → nearest f a b ≡ o → Node? o
      go none e = tt
      go (some p) e = nearest_node a b p e

  same_over : (x y : Option ℕ) → Node? x → Node? y → ((q : ℕ) → Over q x ↔ Over q y) → x ≡ y
  same_over none none h k b = refl
  same_over none (some c) h k b = absurd ((b c).1 (holds_self c k))
  same_over (some a) none h k b = absurd ((b a).0 (holds_self a h))
  same_over (some a) (some c) h k b =
      ap some (omega (arith, holds_le a c ((b a).0 (holds_self a h)), holds_le c a ((b c).1 (holds_self c k))))

  pub meet_comm : (x y : Option ℕ) → meet f x y ≡ meet f y x
  meet_comm x y = same_over (meet f x y) (meet f y x) (meet_node x y) (meet_node y x) λ q. (
    λ h. let n =
        (over_meet x y q).0 h in (over_meet y x q).1 (n.1, n.0),
    λ h. let n = (over_meet y x q).0 h in (over_meet x y q).1 (n.1, n.0),
  )

  pub meet_assoc : (x y z : Option ℕ) → meet f (meet f x y) z ≡ meet f x (meet f y z)
  meet_assoc x y z = same_over (meet f (meet f x y) z) (meet f x (meet f y z)) (meet_node (meet f x y) z) (meet_node x (meet f y z)) λ q. (
    (λ h. let n = (over_meet (meet f x y) z q).0 h in let m = (over_meet x y q).0 n.0 in (over_meet x (meet f y z) q).1 (m.0, (over_meet y z q).1 (m.1, n.1))),
    (λ h. let n = (over_meet x (meet f y z) q).0 h in let m = (over_meet y z q).0 n.1 in (over_meet (meet f x y) z q).1 ((over_meet x y q).1 (n.0, m.0), m.1)),
  )

  pub nearest_comm : (a b : ℕ) → nearest f a b ≡ nearest f b a
  nearest_comm a b = meet_comm (some a) (some b)

  -- a node paired with itself
  pub nearest_self : (a : ℕ) → IsNode a → nearest f a a ≡ some a
  nearest_self a o = same_over (nearest f a a) (some a) (meet_node (some a) (some a)) o λ q. (λ h. ((over_meet (some a) (some a) q).0 h).0, λ h. (over_meet (some a) (some a) q).1 (h, h))

  -- ---- on the chain

  -- a stands on b's chain exactly where it is the nearest shared node of the two
  pub holds_nearest : (a b : ℕ) → IsNode a → (holds f a b ≡ true) ↔ (nearest f a b ≡ some a)
  holds_nearest a b o = (
    (λ h. same_over (nearest f a b) (some a) (meet_node (some a) (some b)) o λ q.
        (λ l. ((over_meet (some a) (some b) q).0 l).0, λ l. (over_meet (some a) (some b) q).1 (l, holds_trans q a b l h))),
    λ e. (nearest_deepest a b a e).1,
  )

  -- and exactly where b's number lies in the run that starts at a's number and is as long as a's branch
  module _ (a b i j n : ℕ) (oa : IsNode a) (ob : IsNode b) (ea : number f a ≡ some i) (eb : number f b ≡ some j) (en : branch f a ≡ some n) where
    ranked : (c r : ℕ) → IsNode c → number f c ≡ some r → rank true (encode f) c ≡ r
    ranked c r o e = let h : some (rank true (encode f) c) ≡ some r = sym (number_rank f c o) ∙ e in cc

    -- the openings up to the end of a's branch
    run_ends : (c : ℕ) → closing (node_at f a oa).x ≡ c → rank true (encode f) (suc c) ≡ i + n
    unfolding branch
    run_ends c e =
        let x = node_at f a oa in
        let s = x.upward.0 in
        let k : suc (size x.x.kids) ≡ n =
        (let h : some (suc (size x.x.kids)) ≡ some n = ap (λ y. ask y (λ z. some (suc (size z.kids)))) (sym x.found) ∙ en in cc) in
        rw (← e) (omega (
          zarith,
          x.here,
          s.before,
          s.after,
          ranked a i oa ea,
          size_length x.x.kids,
          D_law (encode f) a,
          D_law (encode f) (suc (closing x.x)),
          rank_sum (encode f) a (omega (arith, s.within, s.proper)),
          rank_sum (encode f) (suc (closing x.x)) s.within,
        ))

    later : rank true (encode f) (suc b) ≡ suc j
    later = omega (arith, opens (encode f) b ob, ranked b j ob eb)

    in_run : (c : ℕ) → rank true (encode f) (suc c) ≡ i + n → Dec (a ≤ b) → Dec (b ≤ c) → (i ≤ j) × (j < i + n) → (a ≤ b) × (b ≤ c)
    in_run c e (yes p) (yes q) h = (p, q)
    in_run c e (yes p) (no q) h = absurd (omega (arith, ranked b j ob eb, rank_mono true (encode f) (suc c) b (omega arith)))
    in_run c e (no p) q h = absurd (omega (arith, ranked a i oa ea, later, rank_mono true (encode f) (suc b) a (omega arith)))

    pub holds_run : (holds f a b ≡ true) ↔ ((i ≤ j) × (j < i + n))
    holds_run =
        let c : ℕ = closing (node_at f a oa).x in
        let e : rank true (encode f) (suc c) ≡ i + n = run_ends c refl in
        let t = between f a b oa ob in (
          (λ h. let l = t.0 h in (
            omega (arith, ranked a i oa ea, ranked b j ob eb, rank_mono true (encode f) a b l.0),
            omega (arith, later, rank_mono true (encode f) (suc b) (suc c) (omega (arith, l))),
          )),
          λ h. t.1 (in_run c e (dec_le a b) (dec_le b c) h),
        )
