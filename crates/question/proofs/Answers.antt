-- Each question's answer, from what its walks find and read in a balanced word. Assumes nothing.
use mathlib.Core.Path.{◌≡◌, refl, sym, ap, ap₂, subst, ◌∙◌}
use mathlib.Core.Bool.{Bool, true, false, cond, ◌&&◌}
use mathlib.Core.List.{List}
use mathlib.Core.Option.{Option, none, some}
use Prim.Native.Nat.{ℕ, suc, pred, ◌-◌, ◌/◌, ◌≤◌, ◌<◌}
use native.Mathlib.Omega.{arith}
use borrow.Author.Tests.{ne_eqb}
use lib.Dec.{leb, ltb}
use lib.ListN.{length, get_or}
use lib.IntN.{pos, negsuc, neg_ℤ}
use Rattle.word.specs.Forest.{Forest, encode}
use Rattle.word.specs.Parse.{is_balanced, forest_of}
use Rattle.word.specs.Depth.{Forward, NoForward, Backward, NoBackward}
use Rattle.word.specs.Questions.{opening_of, parent, ancestor}
use Rattle.word.proofs.Depth.{bit_in}
use Rattle.word.proofs.Answers as answers
use Rattle.index.specs.Shape.{height}
use Rattle.walk.specs.Walk.{Reach}
use Rattle.walk.specs.Forward.{forward}
use Rattle.walk.specs.Backward.{backward}
use Rattle.walk.proofs.Forward.{forward_some, forward_none}
use Rattle.walk.proofs.Backward.{backward_some, backward_none}
use Rattle.question.specs.declared.Question.{Question}
use Rattle.question.specs.declared.Question.TheVariants.{Closing, Opening, Parent, Ancestor, Branch, FirstChild, NextSibling, Holds}
use Rattle.question.specs.Reply.{Reply, gives, found, reply_of}
use Rattle.question.specs.Reads.{reads_of}
use Rattle.question.specs.Answer.{Answer, answer_to}
use Rattle.question.proofs.Word.{over, forest_is, on_forest, node_on}

abbrev pub answer : Reply → ℕ → Answer
answer r n = record { code = r.code; result = r.result; reads = n }

-- an answer is its reply and its reads
pub answer_is : (w : List Bool) (q : Question) (r : Reply) (n : ℕ) →
    reply_of w (forest_of w) q ≡ r → reads_of (height (length w)) w q ≡ n → answer r n ≡ answer_to w q
unfolding answer_to
answer_is w q r n e d = sym (ap₂ answer e d)

module _ (w : List Bool) (balanced : is_balanced w ≡ true) where
  abbrev f : Forest
  f = forest_of w

  abbrev h : ℕ
  h = height (length w)

  -- ---- kinds 4, 8, 9, 11 and 14: the forward walk by 0 from a node
  module _ (a : ℕ) (opens : get_or w a false ≡ true) where
    opens' : get_or (encode f) a false ≡ true
    opens' = node_on w balanced a opens

    inside : a < length w
    inside = bit_in w a false opens

    -- it always finds the boundary where the branch ends
    pub ends_some : (forward h w a (pos 0)).0 ≡ none → ⊥
    ends_some e = answers.forward_some f a opens'
        (on_forest w balanced (λ u. NoForward u a (pos 0)) (forward_none h w (over w) a (pos 0) inside e))

    module _ (q n : ℕ) (past : (forward h w a (pos 0)).0 ≡ some q) (reads : (forward h w a (pos 0)).1 ≡ n) where
      ends : Forward (encode f) a (pos 0) q
      ends = on_forest w balanced (λ u. Forward u a (pos 0) q) (forward_some h w (over w) a (pos 0) inside q past)

      pub later : a < q
      later = ends.later

      pub within : q ≤ length w
      within = subst (λ u. q ≤ length u) (forest_is w balanced) ends.within

      pub closing_is : answer (gives (pred q)) n ≡ answer_to w (Closing a)
      unfolding reply_of reads_of
      closing_is = answer_is w (Closing a) (gives (pred q)) n (ap found (answers.closing_by f a opens' q ends)) reads

      pub branch_is : answer (gives ((q - a) / 2)) n ≡ answer_to w (Branch a)
      unfolding reply_of reads_of
      branch_is = answer_is w (Branch a) (gives ((q - a) / 2)) n (ap found (answers.branch_by f a opens' q ends)) reads

      pub next_sibling_is : answer (found (cond (get_or w q false) (some q) none)) n ≡ answer_to w (NextSibling a)
      unfolding reply_of reads_of
      next_sibling_is = answer_is w (NextSibling a) (found (cond (get_or w q false) (some q) none)) n
          (ap found (answers.next_sibling_by f a opens' q ends
          ∙ ap (λ u. cond (get_or u q false) (some q) none) (forest_is w balanced))) reads

      pub holds_is : (b : ℕ) → get_or w b false ≡ true → answer (gives (cond (leb a b && ltb b q) 1 0)) n ≡ answer_to w (Holds a b)
      unfolding reply_of reads_of
      holds_is b ob = answer_is w (Holds a b) (gives (cond (leb a b && ltb b q) 1 0)) n
          (ap (λ t. gives (cond t 1 0)) (answers.holds_by f a b opens' (node_on w balanced b ob) q ends)) reads

    -- kind 10
    pub first_child_is : answer (found (cond (get_or w (suc a) false) (some (suc a)) none)) 0 ≡ answer_to w (FirstChild a)
    unfolding reply_of reads_of
    first_child_is = answer_is w (FirstChild a) (found (cond (get_or w (suc a) false) (some (suc a)) none)) 0
        (ap found (answers.first_child_by f a opens'
        ∙ ap (λ u. cond (get_or u (suc a) false) (some (suc a)) none) (forest_is w balanced))) refl

    -- ---- kinds 6 and 7: the backward walk from a node
    pub ancestor_self_is : answer (gives a) 0 ≡ answer_to w (Ancestor a 0)
    unfolding reply_of reads_of
    ancestor_self_is = answer_is w (Ancestor a 0) (gives a) 0 (ap found (answers.ancestor_self f a opens')) refl

    up : (b : ℕ) → 0 < b → (o : Option ℕ) → (backward h w a (neg_ℤ (pos b))).0 ≡ o → ancestor f a b ≡ o
    up b l none e = answers.ancestor_none f a opens' b l
        (on_forest w balanced (λ u. NoBackward u a (neg_ℤ (pos b)))
        (backward_none h w (over w) a (neg_ℤ (pos b)) (omega (arith, inside)) e))
    up b l (some p) e = answers.ancestor_by f a opens' b p l
        (on_forest w balanced (λ u. Backward u a (neg_ℤ (pos b)) p)
        (backward_some h w (over w) a (neg_ℤ (pos b)) (omega (arith, inside)) p e))

    pub parent_is : (r : Reach) → backward h w a (negsuc 0) ≡ r → answer (found r.0) r.1 ≡ answer_to w (Parent a)
    unfolding reply_of reads_of parent
    parent_is r e = answer_is w (Parent a) (found r.0) r.1
        (ap found (up 1 (omega arith) r.0 (ap (λ (x : Reach). x.0) e))) (ap (λ (x : Reach). x.1) e)

    pub ancestor_is : (b : ℕ) → (b ≡ 0 → ⊥) → (r : Reach) → backward h w a (neg_ℤ (pos b)) ≡ r →
        answer (found r.0) r.1 ≡ answer_to w (Ancestor a b)
    unfolding reply_of reads_of
    ancestor_is b l r e = answer_is w (Ancestor a b) (found r.0) r.1 (ap found (up b (omega (arith, l)) r.0 (ap (λ (x : Reach). x.0) e)))
        (ap (λ t. cond t 0 (backward h w a (neg_ℤ (pos b))).1) (ne_eqb b 0 l) ∙ ap (λ (x : Reach). x.1) e)

  -- ---- kind 5: the backward walk by 0 from the boundary after a closing
  module _ (a : ℕ) (inside : a < length w) (closes : get_or w a true ≡ false) where
    closes' : get_or (encode f) a true ≡ false
    closes' = on_forest w balanced (λ u. get_or u a true ≡ false) closes

    opened : (o : Option ℕ) → (backward h w (suc a) (pos 0)).0 ≡ o → opening_of f a ≡ o
    opened none e = absurd (answers.backward_some f a closes'
        (on_forest w balanced (λ u. NoBackward u (suc a) (pos 0)) (backward_none h w (over w) (suc a) (pos 0) (omega arith) e)))
    opened (some p) e = answers.opening_by f a closes' p
        (on_forest w balanced (λ u. Backward u (suc a) (pos 0) p) (backward_some h w (over w) (suc a) (pos 0) (omega arith) p e))

    pub opening_is : (r : Reach) → backward h w (suc a) (pos 0) ≡ r → answer (found r.0) r.1 ≡ answer_to w (Opening a)
    unfolding reply_of reads_of
    opening_is r e = answer_is w (Opening a) (found r.0) r.1 (ap found (opened r.0 (ap (λ (x : Reach). x.0) e))) (ap (λ (x : Reach). x.1) e)
