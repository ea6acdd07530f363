-- Each kind's answer by what its walk finds in the word, in D: what the crates that walk cite. f is the forest, `encode f` its word, and a
-- place is a node's where the word opens there. Assumes nothing.
use mathlib.Core.Path.{◌≡◌, refl, sym, ap, ap₂, subst, ◌∙◌}
use mathlib.Core.Logic.{◌↔◌}
use mathlib.Core.Bool.{Bool, true, false, cond, ◌&&◌, and-eq-true_iff}
use mathlib.Core.List.{List, ◌∷◌}
use mathlib.Core.Option.{Option, none, some, none-ne-some}
use Prim.Native.Nat.{ℕ, suc, pred, ◌+◌, ◌-◌, ◌*◌, ◌/◌, ◌≤◌, ◌<◌}
use native.Mathlib.Omega.{arith}
use native.Mathlib.Decide.{dec_lt}
use lib.Dec.{leb, ltb, leb→le, le→leb, ltb→lt, lt→ltb}
use lib.ListN.{length, take, drop, get_or, get_elem?, length-append}
use lib.IntN.{ℤ, pos, neg_ℤ, ◌+ℤ◌, ◌-ℤ◌}
use lib.Signed.{◌≤ℤ◌, ◌<ℤ◌}
use Rattle.word.specs.Forest.{Forest, empty, tree, encode, count, D}
use Rattle.word.specs.Depth.{Forward, NoForward, Backward, NoBackward, Least}
use Rattle.word.specs.Nodes.{Node, closing, at, ask, chain_of, chain, on}
use Rattle.word.specs.Questions.{shared, size, roots, first_root}
use Rattle.word.specs.Questions.{depth, number, with_number, closing_of, opening_of, ancestor, parent, branch, children, first_child}
use Rattle.word.specs.Questions.{next_sibling, nearest, lowest, holds}
use Rattle.word.specs.Signed.{P, eq_z}
use Rattle.word.proofs.Tests.{T_true, true_T, same_test}
use Rattle.word.proofs.Signed.{zarith, parts, ne→, +law, -law, P_neg, N_neg}
use Rattle.word.proofs.Depth.{eq, bit_in, count_append, rank_sum, D_law, forward_unique, backward_unique}
use Rattle.word.proofs.Bridge.{any}
use Rattle.word.proofs.Balance.{never_negative, D_is_pos}
use Rattle.word.proofs.Nodes.{At, node_at, number_rank, with_rank, with_none, opening_of_lem, closed_at}
use Rattle.word.proofs.Chains.{Floor, span_forward, span_backward, up_backward, up_none, between_on, on_between, climb}
use Rattle.word.proofs.Children.{tally, roots_part}
use Rattle.word.proofs.Lowest.{lowest_unique, lowest_is}

-- "n = m/2 nodes", one for each opening
pub size_length : (f : Forest) → 2 * size f ≡ length (encode f)
size_length empty = refl
size_length (tree k r) = omega (arith, size_length k, size_length r, length-append (encode k) (false ∷ encode r))

pub size_openings : (f : Forest) → size f ≡ count true (encode f)
size_openings empty = refl
size_openings (tree k r) = omega (arith, size_openings k, size_openings r, count_append true (encode k) (false ∷ encode r))

first_root_lem : (k : Forest) (p : ℕ) → first_root k p ≡ cond (any k) (some p) none
first_root_lem empty p = refl
first_root_lem (tree k r) p = refl

no_bits : (k : Forest) → length (encode k) ≡ 0 → k ≡ empty
no_bits empty e = refl
no_bits (tree k r) e = absurd (omega arith)

-- between a's opening and its closing, the place before q, stands the word of its kids; and they are none where a is a leaf
pub record Kids (f : Forest) (a q : ℕ) : Type 0 where
  pub kids : Forest
  pub answer : children f a ≡ some (roots kids)
  pub long : pred q ≡ suc a + length (encode kids)
  pub bits : take (pred q - suc a) (drop (suc a) (encode f)) ≡ encode kids
  pub leaf : (kids ≡ empty) ↔ (q ≡ a + 2)

module _ (f : Forest) (a : ℕ) (o : get_or (encode f) a false ≡ true) where
  abbrev n : At f a
  n = node_at f a o

  asked : (k : Node → Option ℕ) → ask (at f a) k ≡ k n.x
  asked k = ap (λ y. ask y k) n.found

  pub chain_is : chain f a ≡ a ∷ (node_at f a o).x.above
  chain_is = ap chain_of n.found ∙ ap (◌∷ n.x.above) n.here

  -- ---- kinds 1 to 3, by D before the node's opening

  pub depth_by : (d : ℕ) → pos d ≡ D (encode f) a → depth f a ≡ some d
  unfolding depth
  depth_by d e = asked (λ x. some (length x.above)) ∙ ap some (omega (zarith, n.upward.0.before))

  -- openings less closings, and openings and closings together
  twice_number : pos (2 * count true (take a (encode f))) ≡ pos a +ℤ D (encode f) a
  twice_number = omega (zarith, rank_sum (encode f) a (omega (arith, bit_in (encode f) a false o)), D_law (encode f) a, +law (pos a) (D (encode f) a))

  pub number_by : (r : ℕ) → pos (2 * r) ≡ pos a +ℤ D (encode f) a → number f a ≡ some r
  number_by r e = number_rank f a o ∙ ap some (omega (zarith, twice_number))

  pub number_half : number f a ≡ some (P (pos a +ℤ D (encode f) a) / 2)
  number_half = number_rank f a o ∙ ap some (omega (arith, ap P twice_number))

  pub with_number_by : (r : ℕ) → count true (take a (encode f)) ≡ r → with_number f r ≡ some a
  with_number_by r e = ap (with_number f) (sym e) ∙ with_rank f a o

  -- ---- kinds 4, 8, 9, 11 and 14: forward from the node by 0

  -- the walk always finds a boundary, the one after the node's closing
  pub forward_found : Forward (encode f) a (pos 0) (suc (closing (node_at f a o).x))
  forward_found = span_forward (encode f) a (closing n.x) (length n.x.above) n.upward.0

  pub forward_some : NoForward (encode f) a (pos 0) → ⊥
  forward_some h = h.nowhere (suc (closing n.x)) forward_found.later forward_found.within forward_found.there

  returns : (q : ℕ) → Forward (encode f) a (pos 0) q → suc (closing n.x) ≡ q
  returns q h = forward_unique (encode f) a (pos 0) (suc (closing n.x)) q forward_found h

  pub closing_by : (q : ℕ) → Forward (encode f) a (pos 0) q → closing_of f a ≡ some (pred q)
  unfolding closing_of
  closing_by q h = asked (λ x. some (closing x)) ∙ ap (λ r. some (pred r)) (returns q h)

  pub branch_by : (q : ℕ) → Forward (encode f) a (pos 0) q → branch f a ≡ some ((q - a) / 2)
  unfolding branch
  branch_by q h = asked (λ x. some (suc (size x.kids))) ∙ ap some (omega (arith, n.here, size_length n.x.kids, returns q h))

  pub next_sibling_by : (q : ℕ) → Forward (encode f) a (pos 0) q → next_sibling f a ≡ cond (get_or (encode f) q false) (some q) none
  unfolding next_sibling
  next_sibling_by q h = asked (λ x. first_root x.rest (suc (closing x))) ∙ first_root_lem n.x.rest (suc (closing n.x))
      ∙ ap (λ b. cond b (some (suc (closing n.x))) none) (sym n.placed.sibling) ∙ ap (λ p. cond (get_or (encode f) p false) (some p) none) (returns q h)

  pub first_child_by : first_child f a ≡ cond (get_or (encode f) (suc a) false) (some (suc a)) none
  unfolding first_child
  first_child_by = asked (λ x. first_root x.kids (suc a)) ∙ first_root_lem n.x.kids (suc a)
      ∙ ap (λ b. cond b (some (suc a)) none) (sym n.placed.child ∙ ap (λ p. get_or (encode f) (suc p) false) n.here)

  -- ---- kinds 6 and 7: backward from the node

  pub ancestor_self : ancestor f a 0 ≡ some a
  unfolding ancestor
  ancestor_self = ap (λ l. get_elem? l 0) chain_is

  pub ancestor_by : (b p : ℕ) → 0 < b → Backward (encode f) a (neg_ℤ (pos b)) p → ancestor f a b ≡ some p
  unfolding ancestor
  ancestor_by b p l h = ap (λ l. get_elem? l b) chain_is ∙ go (get_elem? (a ∷ n.x.above) b) refl
    where
      go : (r : Option ℕ) → get_elem? (a ∷ n.x.above) b ≡ r → get_elem? (a ∷ n.x.above) b ≡ some p
      go none e = absurd (up_none (encode f) b a (closing n.x) n.x.above n.upward e (P (D (encode f) p))
          (sym (D_is_pos f p (omega (arith, h.earlier, bit_in (encode f) a false o))) ∙ h.there))
      go (some q) e = e ∙ ap some (backward_unique (encode f) a (neg_ℤ (pos b)) q p (up_backward (encode f) b a (closing n.x) n.x.above q n.upward l e) h)

  pub ancestor_none : (b : ℕ) → 0 < b → NoBackward (encode f) a (neg_ℤ (pos b)) → ancestor f a b ≡ none
  unfolding ancestor
  ancestor_none b l h = ap (λ l. get_elem? l b) chain_is ∙ go (get_elem? (a ∷ n.x.above) b) refl
    where
      go : (r : Option ℕ) → get_elem? (a ∷ n.x.above) b ≡ r → get_elem? (a ∷ n.x.above) b ≡ none
      go none e = e
      go (some q) e = let s = up_backward (encode f) b a (closing n.x) n.x.above q n.upward l e in absurd (h.nowhere q s.earlier s.there)

  pub parent_by : (p : ℕ) → Backward (encode f) a (neg_ℤ (pos 1)) p → parent f a ≡ some p
  unfolding parent
  parent_by p h = ancestor_by 1 p (omega arith) h

  pub parent_none : NoBackward (encode f) a (neg_ℤ (pos 1)) → parent f a ≡ none
  unfolding parent
  parent_none h = ancestor_none 1 (omega arith) h

  -- ---- kind 9: forward from the node by 0, then the range of its kids' word

  pub children_by : (q : ℕ) → Forward (encode f) a (pos 0) q → Kids f a q
  unfolding children
  children_by q h =
      let k : Forest = n.x.kids in
      let l : pred q ≡ suc a + length (encode k) = omega (arith, n.here, returns q h) in
      record {
        kids = k;
        answer = asked (λ x. some (roots x.kids));
        long = l;
        leaf = ((λ e. omega (arith, h.later, ap (λ i. length (encode i)) e)), λ e. no_bits k (omega arith));
        bits =
            ap₂ (λ i p. take i (drop (suc p) (encode f))) (eq (pred q - suc a) (length (encode k)) (omega arith)) (sym n.here)
            ∙ n.placed.below;
      }

  -- how many boundaries from a + 2 to the closing are one deeper than a, which is the least there
  pub children_tally : (q : ℕ) → Forward (encode f) a (pos 0) q
      → children f a ≡ some (tally (λ j. eq_z (D (encode f) (suc a + j)) (D (encode f) (suc a))) (pred q - suc a))
  children_tally q h =
      let c = children_by q h in
      c.answer ∙ ap some (roots_part (encode f) (suc a) (pred q - suc a) c.kids c.bits (omega (arith, c.long)))

-- ---- kind 3 past the last node

pub with_number_none : (f : Forest) (r : ℕ) → (with_number f r ≡ none) ↔ (count true (encode f) ≤ r)
with_number_none f r = (back (dec_lt r (count true (encode f))), with_none f r)
  where
    back : Dec (r < count true (encode f)) → with_number f r ≡ none → count true (encode f) ≤ r
    back (yes l) e = let p = opening_of_lem (encode f) r l in absurd (none-ne-some p.place (sym e ∙ with_number_by f p.place p.opened r p.number))
    back (no l) e = omega arith

-- ---- kind 5: backward by 0 from the boundary after the closing

module _ (f : Forest) (a : ℕ) (o : get_or (encode f) a true ≡ false) where
  -- the walk always finds a boundary
  pub backward_found : Backward (encode f) (suc a) (pos 0) (closed_at f a o).x.place
  backward_found =
      let c = closed_at f a o in
      subst (λ q. Backward (encode f) (suc q) (pos 0) c.x.place) c.here (span_backward (encode f) c.x.place (closing c.x) (length c.x.above) c.placed.upward.0)

  pub backward_some : NoBackward (encode f) (suc a) (pos 0) → ⊥
  backward_some h = h.nowhere (closed_at f a o).x.place backward_found.earlier backward_found.there

  pub opening_by : (p : ℕ) → Backward (encode f) (suc a) (pos 0) p → opening_of f a ≡ some p
  unfolding opening_of
  opening_by p h = ap (λ y. ask y (λ x. some x.place)) (closed_at f a o).found
      ∙ ap some (backward_unique (encode f) (suc a) (pos 0) (closed_at f a o).x.place p backward_found h)

-- ---- kinds 12 and 14: two nodes

module _ (f : Forest) (a b : ℕ) (oa : get_or (encode f) a false ≡ true) (ob : get_or (encode f) b false ≡ true) where
  -- b is in a's branch exactly where it stands between a and a's closing
  pub between : (holds f a b ≡ true) ↔ ((a ≤ b) × (b ≤ closing (node_at f a oa).x))
  unfolding holds
  between =
      let x = n f a oa in
      let y = n f b ob in (
        (λ h. let r = on_between (encode f) a (closing x.x) (length x.x.above) b (closing y.x) y.x.above x.upward.0 y.upward (ap (λ l. on l a) (sym (chain_is f b ob)) ∙ h) in
            (r.0, omega (arith, r, y.upward.0.proper))),
        λ h. ap (λ l. on l a) (chain_is f b ob) ∙ between_on (encode f) a (closing x.x) (length x.x.above) b (closing y.x) y.x.above x.upward.0 y.upward h.0 h.1,
      )

  pub holds_by : (q : ℕ) → Forward (encode f) a (pos 0) q → holds f a b ≡ (leb a b && ltb b q)
  holds_by q h = same_test (holds f a b) (leb a b && ltb b q) (
    (λ t. (and-eq-true_iff (leb a b) (ltb b q)).1
        (T_true (leb a b) (le→leb a b (between.0 t).0), T_true (ltb b q) (lt→ltb b q (omega (arith, returns f a oa q h, between.0 t))))),
    λ t.
        let i : (leb a b ≡ true) × (ltb b q ≡ true) = (and-eq-true_iff (leb a b) (ltb b q)).0 t in
        between.1 (leb→le a b (true_T i.0), omega (arith, returns f a oa q h, ltb→lt b q (true_T i.1))),
  )

  -- the earlier node and the later: up from the earlier by its depth plus one less the least D after it up to the later
  nearest_up : (m : ℕ) → a < b → Floor (encode f) a b m → nearest f a b ≡ ancestor f a (suc (P (D (encode f) a)) - m)
  unfolding nearest ancestor
  nearest_up m l h =
      let x = n f a oa in
      let y = n f b ob in
      ap₂ shared (chain_is f a oa) (chain_is f b ob)
      ∙ climb (encode f) a b (closing y.x) m y.x.above y.upward l h a (closing x.x) x.x.above x.upward (omega arith) (omega (arith, x.upward.0.proper))
      ∙ ap₂ get_elem? (sym (chain_is f a oa)) (eq (suc (length x.x.above) - m) (suc (P (D (encode f) a)) - m) (ap (λ i. suc i - m) (sym (ap P x.upward.0.before))))

  module _ (l : ℤ) (ab : a < b) (h : Least (encode f) a b l) where
    -- the least D itself, as a number
    abbrev m : ℕ
    m = P (D (encode f) a +ℤ l)

    m_is : D (encode f) a +ℤ l ≡ pos m
    m_is =
        let r = h.reached in
        omega (
          zarith,
          parts (D (encode f) a +ℤ l),
          r.3,
          never_negative f r.0 (omega (arith, r, bit_in (encode f) b false ob)),
          +law (D (encode f) a) l,
          -law (D (encode f) r.0) (D (encode f) a),
        )

    floor : Floor (encode f) a b m
    floor =
        let r = h.reached in
        record {
          low = λ j u v. omega (zarith, m_is, h.low j u v, +law (D (encode f) a) l, -law (D (encode f) j) (D (encode f) a));
          reached = (r.0, r.1, r.2, omega (zarith, m_is, r.3, +law (D (encode f) a) l, -law (D (encode f) r.0) (D (encode f) a)));
        }

    abbrev steps : ℕ
    steps = suc (P (D (encode f) a)) - m

    up : nearest f a b ≡ ancestor f a steps
    up = nearest_up m ab floor

    positive : D (encode f) a ≡ pos (P (D (encode f) a))
    positive = D_is_pos f a (omega (arith, bit_in (encode f) a false oa))

    pub nearest_earlier : pos 1 ≤ℤ l → nearest f a b ≡ some a
    nearest_earlier k = up ∙ ap (ancestor f a) (eq steps 0 (omega (zarith, m_is, positive, +law (D (encode f) a) l))) ∙ ancestor_self f a oa

    module _ (k : l ≤ℤ pos 0) where
      -- so many levels up is back by the least less 1
      back : neg_ℤ (pos steps) ≡ l -ℤ pos 1
      back = omega (zarith, m_is, positive, +law (D (encode f) a) l, P_neg (pos steps), N_neg (pos steps), -law l (pos 1))

      pub nearest_by : (p : ℕ) → Backward (encode f) a (l -ℤ pos 1) p → nearest f a b ≡ some p
      nearest_by p g = up ∙ ancestor_by f a oa steps p (omega (zarith, m_is, positive, +law (D (encode f) a) l)) (subst (λ t. Backward (encode f) a t p) (sym back) g)

      pub nearest_none : NoBackward (encode f) a (l -ℤ pos 1) → nearest f a b ≡ none
      nearest_none g = up ∙ ancestor_none f a oa steps (omega (zarith, m_is, positive, +law (D (encode f) a) l)) (subst (λ t. NoBackward (encode f) a t) (sym back) g)

-- ---- kind 13: two boundaries of any word

pub lowest_here : (w : List Bool) (a : ℕ) → lowest w a 0 ≡ a
unfolding lowest
lowest_here w a = refl

module _ (w : List Bool) (a n : ℕ) (l : ℤ) (h : Least w a (a + n) l) where
  from_a : (P : ℕ → Type 0) → P a → ((j : ℕ) → a < j → j ≤ a + n → P j) → (j : ℕ) → a ≤ j → j ≤ a + n → P j
  from_a P z s j u v = go (dec_lt a j)
    where
      go : Dec (a < j) → P j
      go (yes k) = s j k v
      go (no k) = subst P (eq a j (omega arith)) z

  pub lowest_self : pos 0 ≤ℤ l → lowest w a n ≡ a
  lowest_self k = lowest_unique w a n (lowest w a n) a (lowest_is w a n) (record {
    from = omega arith;
    to = omega arith;
    low = from_a (λ j. D w a ≤ℤ D w j) (omega zarith) (λ j u v. omega (zarith, h.low j u v, -law (D w j) (D w a)));
    left = λ j u v. absurd (omega arith);
  })

  module _ (k : l <ℤ pos 0) where
    pub lowest_by : (q : ℕ) → Forward w a l q → lowest w a n ≡ q
    lowest_by q g =
        let to : q ≤ a + n = go (dec_lt h.reached.0 q) in
        lowest_unique w a n (lowest w a n) q (lowest_is w a n) (record {
          from = omega (arith, g.later);
          to = to;
          low = from_a (λ j. D w q ≤ℤ D w j) (omega (zarith, g.there, +law (D w a) l)) (λ j u v. omega (zarith, g.there, h.low j u v, +law (D w a) l, -law (D w j) (D w a)));
          left = λ j u v. from_a (λ i. i < q → D w q <ℤ D w i) (λ i. omega (zarith, g.there, +law (D w a) l))
              (λ i x y z. omega (zarith, g.there, h.low i x y, ne→ (D w i) (D w a +ℤ l) (g.first i x z), +law (D w a) l, -law (D w i) (D w a))) j u (omega (arith, to)) v;
        })
      where
        go : Dec (h.reached.0 < q) → q ≤ a + n
        go (yes i) = let r = h.reached in absurd (g.first r.0 r.1 i (omega (zarith, r.3, +law (D w a) l, -law (D w r.0) (D w a))))
        go (no i) = omega (arith, h.reached)

    -- the walk finds one
    pub lowest_some : a + n ≤ length w → NoForward w a l → ⊥
    lowest_some b g = let r = h.reached in g.nowhere r.0 r.1 (omega (arith, r)) (omega (zarith, r.3, +law (D w a) l, -law (D w r.0) (D w a)))
