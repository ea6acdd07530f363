-- From what the code's walks gave to the answer that the definition gives, over plain values. Assumes nothing.
use mathlib.Core.Path.{◌≡◌, refl, sym, ap, ◌∙◌}
use mathlib.Core.Bool.{Bool, true, false, cond, ◌&&◌}
use mathlib.Core.List.{List}
use mathlib.Core.Option.{none, some}
use Prim.Native.Nat.{ℕ, suc, pred, ◌+◌, ◌-◌, ◌/◌, ◌≤◌, ◌<◌}
use native.Mathlib.Numerals.{add-one}
use native.Mathlib.Omega.{arith}
use borrow.Author.Tests.{lt-ltb, le-leb, leb-true, ltb-true}
use lib.Dec.{T, leb, ltb}
use lib.IntN.{ℤ, pos, negsuc, neg_ℤ, nat_abs, ◌-ℤ◌}
use lib.ListN.{length, get_or, get_or-eq_default}
use lib.Signed.{le_z, non_neg, ◌≤ℤ◌}
use mir.Syntax.{w64}
use mir.Val.{Fits, to_z, of_z}
use Rattle.word.specs.Bits.{bit, word}
use Rattle.word.specs.Signed.{P}
use Rattle.word.proofs.Bits.{bit_bits}
use Rattle.word.proofs.Signed.{zarith, abs_law, by_test}
use Rattle.summary.specs.declared.Summary.{Summary}
use Rattle.index.specs.Shape.{height}
use Rattle.std.specs.Prelude as code
use Rattle.std.specs.Prelude.{None, Some}
use Rattle.walk.specs.declared.Counted.{Counted}
use Rattle.walk.specs.Walk.{Reach, there}
use Rattle.walk.specs.Forward.{forward}
use Rattle.walk.specs.Backward.{backward}
use Rattle.walk.specs.Prefix.{prefix}
use Rattle.walk.specs.Select.{select}
use Rattle.walk.specs.Range.{range}
use Rattle.question.specs.declared.Question.TheVariants.{Depth, Number, WithNumber, Closing, Opening, Parent, Ancestor}
use Rattle.question.specs.declared.Question.TheVariants.{Branch, Children, FirstChild, NextSibling, Nearest, Lowest, Holds}
use Rattle.question.specs.Places.{IsNode, IsClosing}
use Rattle.question.specs.Reply.{gives, refused, found}
use Rattle.question.specs.Answer.{answer_to}
use Rattle.question.proofs.Answers as by_walk
use Rattle.question.proofs.Children as by_kids
use Rattle.question.proofs.Ranges as by_range
use Rattle.answer.specs.Ready.{Row, Ends, replied, reached_of}
use Rattle.answer.proofs.Casts.{back_64, cast_fits, part_is}
use Rattle.answer.proofs.Walked.{at, long, node_in, forward_near, prefix_near}

-- what the code needs of the depth that a prefix walk gave
pub record Deep (d : ℤ) : Type 0 where
  pub sign : pos 0 ≤ℤ d
  pub back : to_z w64 (of_z w64 d) ≡ d
  pub low : P d ≤ 2097152
  pub fits : T (non_neg d) × Fits w64 (nat_abs d)
  pub cast : nat_abs (to_z w64 (of_z w64 d)) ≡ P d

-- one walk alone: no entry was read before it
alone : (x : Reach) → reached_of x 0 ≡ replied (found x.0) x.1
alone x = ap (replied (found x.0)) (let z : 0 + x.1 ≡ x.1 = omega arith in z)

module _ {bytes : List ℕ} {m : ℕ} (r : Row bytes m) where
  abbrev w : List Bool
  w = word bytes m

  -- a promise of a walk, at the height of the word's length
  to : {A : Type 0} (f : ℕ → A) (x : A) → x ≡ f (height m) → f (height (length w)) ≡ x
  to = at r

  len : length w ≡ m
  len = long r

  -- the bit at a place, as it was read
  bit_is : (i : ℕ) → i < m → (b d : Bool) → b ≡ bit bytes i → get_or w i d ≡ b
  bit_is i l b d e = bit_bits bytes 0 m i d l ∙ ap (bit bytes) (let z : 0 + i ≡ i = omega arith in z) ∙ sym e

  module _ {a : ℕ} (node : IsNode (word bytes m) a) where
    -- ---- the bit after a node's opening is one of the word
    after : suc a < m
    after = omega (arith, len, by_kids.next_inside w r.balanced a node.opens)

    pub next_in : a + 1 < m
    next_in = omega (arith, after)

    next_is : (b d : Bool) → b ≡ bit bytes (a + 1) → get_or w (suc a) d ≡ b
    next_is b d e = bit_is (suc a) after b d (e ∙ ap (bit bytes) (add-one a))

    -- kind 10
    child : (b : Bool) → get_or w (suc a) false ≡ b → replied (found (cond b (some (suc a)) none)) 0 ≡ answer_to w (FirstChild a)
    child b d = ap (λ t. replied (found (cond t (some (suc a)) none)) 0) (sym d) ∙ by_walk.first_child_is w r.balanced a node.opens

    pub child_told : {b : Bool} → b ≡ bit bytes (a + 1) → b ≡ true → replied (gives (a + 1)) 0 ≡ answer_to w (FirstChild a)
    child_told {b} e t = ap (λ p. replied (gives p) 0) (add-one a) ∙ child true (next_is b false e ∙ t)

    pub no_child : {b : Bool} → b ≡ bit bytes (a + 1) → b ≡ false → replied (refused 16) 0 ≡ answer_to w (FirstChild a)
    no_child {b} e t = child false (next_is b false e ∙ t)

    -- ---- where a branch ends
    abbrev end : ℕ → Reach
    end k = forward k w a (pos 0)

    -- the walk finds it, always
    pub ends_found : (o : code.Option ℕ) (n : ℕ) → (there o, n) ≡ end (height m) → code.IsSome o
    ends_found None n e = absurd (by_walk.ends_some w r.balanced a node.opens (ap (λ (y : Reach). y.0) (to end (none, n) e)))
    ends_found (Some q) n e = refl

    -- and what it found is the branch's end
    pub end_at : {o : code.Option ℕ} {n q : ℕ} → (there o, n) ≡ end (height m) → o ≡ Some q →
        Ends bytes m a (record { value = q; reads = n })
    end_at e is = record { past = ap (λ (y : Reach). y.0) (sym e) ∙ ap there is; reads = ap (λ (y : Reach). y.1) (sym e) }

    module _ {e : Counted ℕ} (ends : Ends bytes m a e) where
      past : (end (height (length w))).0 ≡ some e.value
      past = to (λ k. (end k).0) (some e.value) (sym ends.past)

      reads : (end (height (length w))).1 ≡ e.reads
      reads = to (λ k. (end k).1) e.reads (sym ends.reads)

      pub end_after : a < e.value
      end_after = by_walk.later w r.balanced a node.opens e.value e.reads past reads

      pub end_within : e.value ≤ m
      end_within = omega (arith, len, by_walk.within w r.balanced a node.opens e.value e.reads past reads)

      pub end_few : e.reads ≤ 1073741824
      end_few = omega (arith, ends.reads, (forward_near r a (pos 0) {x = end (height m)} (node_in r node) refl).few)

      -- kinds 4 and 8
      pub closing_told : replied (gives (e.value - 1)) e.reads ≡ answer_to w (Closing a)
      closing_told = ap (λ q. replied (gives q) e.reads) (let z : e.value - 1 ≡ pred e.value = omega arith in z)
          ∙ by_walk.closing_is w r.balanced a node.opens e.value e.reads past reads

      pub branch_told : replied (gives ((e.value - a) / 2)) e.reads ≡ answer_to w (Branch a)
      branch_told = by_walk.branch_is w r.balanced a node.opens e.value e.reads past reads

      -- kind 11
      sibling : (b : Bool) → get_or w e.value false ≡ b → replied (found (cond b (some e.value) none)) e.reads ≡ answer_to w (NextSibling a)
      sibling b d = ap (λ t. replied (found (cond t (some e.value) none)) e.reads) (sym d)
          ∙ by_walk.next_sibling_is w r.balanced a node.opens e.value e.reads past reads

      pub sibling_told : {b : Bool} → e.value < m → b ≡ bit bytes e.value → b ≡ true →
          replied (gives e.value) e.reads ≡ answer_to w (NextSibling a)
      sibling_told {b} l d t = sibling true (bit_is e.value l b false d ∙ t)

      pub no_sibling : {b : Bool} → e.value < m → b ≡ bit bytes e.value → b ≡ false →
          replied (refused 16) e.reads ≡ answer_to w (NextSibling a)
      no_sibling {b} l d t = sibling false (bit_is e.value l b false d ∙ t)

      pub last_told : m ≤ e.value → replied (refused 16) e.reads ≡ answer_to w (NextSibling a)
      last_told l = sibling false (get_or-eq_default w false (omega (arith, len)))

      -- kind 14
      module _ {b : ℕ} (other : IsNode (word bytes m) b) where
        holds : (t : Bool) → (leb a b && ltb b e.value) ≡ t → replied (gives (cond t 1 0)) e.reads ≡ answer_to w (Holds a b)
        holds t d = ap (λ x. replied (gives (cond x 1 0)) e.reads) (sym d)
            ∙ by_walk.holds_is w r.balanced a node.opens e.value e.reads past reads b other.opens

        pub held_told : a ≤ b → b < e.value → replied (gives 1) e.reads ≡ answer_to w (Holds a b)
        held_told l k = holds true (rw (le-leb a b l, lt-ltb b e.value k))

        pub beside_told : (a ≤ b → b < e.value → ⊥) → replied (gives 0) e.reads ≡ answer_to w (Holds a b)
        beside_told f = holds false (by_test (leb a b)
            (λ l. by_test (ltb b e.value) (λ k. absurd (f (leb-true a b l) (ltb-true b e.value k))) (λ k. rw (l, k)))
            (λ l. rw l))

      -- kind 9: the bit after the opening tells a leaf, else the range to the closing counts
      pub childless_told : {b : Bool} → b ≡ bit bytes (a + 1) → b ≡ false → replied (gives 0) e.reads ≡ answer_to w (Children a)
      childless_told {b} d t = by_kids.children_none w r.balanced a e.value e.reads node.opens past reads (next_is b true d ∙ t)

      module _ (inner : bit bytes (a + 1) ≡ true) where
        opens : get_or w (suc a) false ≡ true
        opens = next_is true false (sym inner)

        pub kids_between : (a + 1 < e.value - 1) × (e.value - 1 ≤ m)
        kids_between =
            let z = by_kids.between w r.balanced a e.value e.reads node.opens past reads opens in
            (omega (arith, z.0), omega (arith, len, z.1))

        pub children_told : {s : Summary} {n : ℕ} → (s, n) ≡ range (height m) w (a + 1) (e.value - 1) →
            replied (gives (P s.count)) (e.reads + n) ≡ answer_to w (Children a)
        children_told {s} {n} d = by_kids.children_some w r.balanced a e.value e.reads node.opens past reads opens s n
            (to (λ k. range k w (suc a) (e.value - 1)) (s, n) (rw add-one at d))

    -- ---- kinds 1 and 2
    module _ {d : ℤ} {n : ℕ} (e : (d, n) ≡ prefix (height m) (word bytes m) a) where
      walked : prefix (height (length w)) w a ≡ (d, n)
      walked = to (λ k. prefix k w a) (d, n) e

      pub deep : Deep d
      deep =
          let near = prefix_near r a (node_in r node) e in
          let z = by_range.depth_nat w r.balanced a node.opens d n walked in
          let sign : pos 0 ≤ℤ d = omega zarith in
          let low : P d ≤ 2097152 = omega (zarith, abs_law d) in
          let back = back_64 d (omega arith) in
          record { sign = sign; back = back; low = low; fits = cast_fits d sign (omega arith); cast = ap nat_abs back ∙ part_is d sign }

      pub depth_told : replied (gives (P d)) n ≡ answer_to w (Depth a)
      depth_told = by_range.depth_is w r.balanced a node.opens d n walked

      pub number_told : replied (gives ((a + P d) / 2)) n ≡ answer_to w (Number a)
      number_told = by_range.number_is w r.balanced a node.opens d n walked

    -- ---- kinds 6 and 7
    pub self_told : {b : ℕ} → b ≡ 0 → replied (gives a) 0 ≡ answer_to w (Ancestor a b)
    self_told z = by_walk.ancestor_self_is w r.balanced a node.opens ∙ ap (λ i. answer_to w (Ancestor a i)) (sym z)

    pub parent_told : {x : Reach} → x ≡ backward (height m) w a (negsuc 0) → reached_of x 0 ≡ answer_to w (Parent a)
    parent_told {x} e = alone x ∙ by_walk.parent_is w r.balanced a node.opens x (to (λ k. backward k w a (negsuc 0)) x e)

    pub ancestor_told : (b : ℕ) → (b ≡ 0 → ⊥) → {x : Reach} → x ≡ backward (height m) w a (neg_ℤ (pos b)) →
        reached_of x 0 ≡ answer_to w (Ancestor a b)
    ancestor_told b z {x} e = alone x
        ∙ by_walk.ancestor_is w r.balanced a node.opens b z x (to (λ k. backward k w a (neg_ℤ (pos b))) x e)

  -- kind 5
  pub opening_told : {a : ℕ} → IsClosing (word bytes m) a → {x : Reach} → x ≡ backward (height m) w (a + 1) (pos 0) →
      reached_of x 0 ≡ answer_to w (Opening a)
  opening_told {a} c {x} e = alone x
      ∙ by_walk.opening_is w r.balanced a c.below c.closes x (to (λ k. backward k w (suc a) (pos 0)) x (rw add-one at e))

  -- kind 3
  pub past_told : {i : ℕ} → m / 2 ≤ i → replied (refused 16) 0 ≡ answer_to w (WithNumber i)
  past_told {i} l = by_range.with_number_past w r.balanced i (omega (arith, len))

  pub number_at : {i : ℕ} → i < m / 2 → {x : Reach} → x ≡ select (height m) w i → reached_of x 0 ≡ answer_to w (WithNumber i)
  number_at {i} l {x} e = alone x ∙ by_range.with_number_is w r.balanced i (omega (arith, len)) x (to (λ k. select k w i) x e)

  -- kinds 12 and 13
  module _ {a b : ℕ} (l : a < b) (k : b ≤ m) {s : Summary} {n : ℕ} (e : (s, n) ≡ range (height m) (word bytes m) a b) where
    inside : b ≤ length w
    inside = omega (arith, len)

    ranged : range (height (length w)) w a b ≡ (s, n)
    ranged = to (λ k. range k w a b) (s, n) e

    pub lowest_here : le_z (pos 0) s.least ≡ true → replied (gives a) n ≡ answer_to w (Lowest a b)
    lowest_here t = by_range.lowest_self_is w r.balanced a b l inside s n ranged t

    pub lowest_told : le_z (pos 0) s.least ≡ false → {x : Reach} → x ≡ forward (height m) w a s.least →
        reached_of x n ≡ answer_to w (Lowest a b)
    lowest_told t {x} d = by_range.lowest_is w r.balanced a b l inside s n ranged t x (to (λ k. forward k w a s.least) x d)

    module _ (na : IsNode (word bytes m) a) (nb : IsNode (word bytes m) b) where
      pub nearest_here : le_z (pos 1) s.least ≡ true → replied (gives a) n ≡ answer_to w (Nearest a b)
      nearest_here t = by_range.nearest_self_is w r.balanced a b l inside s n ranged na.opens nb.opens t

      pub nearest_told : le_z (pos 1) s.least ≡ false → {x : Reach} → x ≡ backward (height m) w a (s.least -ℤ pos 1) →
          reached_of x n ≡ answer_to w (Nearest a b)
      nearest_told t {x} d = by_range.nearest_is w r.balanced a b l inside s n ranged na.opens nb.opens t x
          (to (λ k. backward k w a (s.least -ℤ pos 1)) x d)

  pub nearest_same : {a b : ℕ} → IsNode (word bytes m) a → a ≡ b → replied (gives a) 0 ≡ answer_to w (Nearest a b)
  nearest_same {a} n e = by_range.nearest_itself w r.balanced a n.opens ∙ ap (λ i. answer_to w (Nearest a i)) e

  pub nearest_turned : (a b : ℕ) → (a ≡ b → ⊥) → answer_to w (Nearest a b) ≡ answer_to w (Nearest b a)
  nearest_turned = by_range.nearest_swap w r.balanced

  pub lowest_same : {a b : ℕ} → a ≡ b → replied (gives a) 0 ≡ answer_to w (Lowest a b)
  lowest_same {a} e = by_range.lowest_itself w r.balanced a ∙ ap (λ i. answer_to w (Lowest a i)) e
