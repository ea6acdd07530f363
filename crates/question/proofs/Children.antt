-- Kind 9: the range between a node's opening and its closing counts the node's children. Assumes nothing.
use mathlib.Core.Path.{◌≡◌, refl, sym, ap, ap₂, subst, ◌∙◌}
use mathlib.Core.Bool.{Bool, true, false, cond}
use mathlib.Core.List.{List}
use mathlib.Core.Option.{some}
use Prim.Native.Nat.{ℕ, suc, pred, ◌+◌, ◌-◌, ◌≤◌, ◌<◌}
use native.Mathlib.Omega.{arith}
use lib.ListN.{length, take, drop, get_or}
use lib.IntN.{pos, ◌+ℤ◌}
use Rattle.word.specs.Forest.{Forest, empty, tree, encode, D}
use Rattle.word.specs.Parse.{is_balanced, forest_of}
use Rattle.word.specs.Signed.{P}
use Rattle.word.specs.Depth.{Forward}
use Rattle.word.specs.Questions.{roots}
use Rattle.word.proofs.Signed.{zarith, +law, -law}
use Rattle.word.proofs.Depth.{D_up, D_down, bit_in}
use Rattle.word.proofs.Answers.{Kids, forward_found, children_by}
use Rattle.summary.specs.declared.Summary.{Summary}
use Rattle.summary.specs.Stretch.{summary_of}
use Rattle.summary.proofs.Balanced.{roots_summary}
use Rattle.index.specs.Shape.{height}
use Rattle.walk.specs.Forward.{forward}
use Rattle.walk.specs.Range.{range}
use Rattle.walk.proofs.Forward.{forward_some}
use Rattle.walk.proofs.Range.{range_is}
use Rattle.question.specs.declared.Question.TheVariants.{Children}
use Rattle.question.specs.Reply.{gives, found, reply_of}
use Rattle.question.specs.Reads.{or_zero, reads_of}
use Rattle.question.specs.Answer.{answer_to}
use Rattle.question.proofs.Answers.{answer, answer_is}
use Rattle.question.proofs.Word.{over, forest_is, on_forest, node_on}

-- the bit after a node's opening tells a leaf: it opens exactly where the branch is longer than two bits
module _ (w : List Bool) (a q : ℕ) (opens : get_or w a false ≡ true) (ends : Forward w a (pos 0) q) where
  past_one : a + 2 ≤ q
  past_one = omega (arith, ends.later, not_next)
    where
      not_next : q ≡ suc a → ⊥
      not_next e = let d : D w (suc a) ≡ D w a +ℤ pos 0 = subst (λ i. D w i ≡ D w a +ℤ pos 0) e ends.there in
          omega (zarith, d, D_up w a opens, +law (D w a) (pos 0), +law (D w a) (pos 1))

  pub opens_longer : get_or w (suc a) false ≡ true → a + 3 ≤ q
  opens_longer o = omega (arith, past_one, not_two)
    where
      not_two : q ≡ suc (suc a) → ⊥
      not_two e = let d : D w (suc (suc a)) ≡ D w a +ℤ pos 0 = subst (λ i. D w i ≡ D w a +ℤ pos 0) e ends.there in
          omega (zarith, d, D_up w a opens, D_up w (suc a) o, +law (D w a) (pos 0), +law (D w a) (pos 1), +law (D w (suc a)) (pos 1))

  pub closes_two : get_or w (suc a) true ≡ false → q ≡ a + 2
  closes_two o = omega (arith, past_one, not_past)
    where
      not_past : suc (suc a) < q → ⊥
      not_past l = ends.first (suc (suc a)) (omega arith) l
          (let d : D w (suc (suc a)) ≡ D w a +ℤ pos 0 =
          omega (zarith, D_up w a opens, D_down w (suc a) o, +law (D w a) (pos 0), +law (D w a) (pos 1), -law (D w (suc a)) (pos 1)) in d)

-- so a node's opening is never the last bit
pub next_inside : (w : List Bool) → is_balanced w ≡ true → (a : ℕ) → get_or w a false ≡ true → suc a < length w
next_inside w balanced a o =
    let o' = node_on w balanced a o in
    let e = forward_found (forest_of w) a o' in
    subst (λ u. suc a < length u) (forest_is w balanced) (omega (arith, past_one (encode (forest_of w)) a _ o' e, e.within))

-- the summary of the kids' word counts its roots
rooted : (k : Forest) → (k ≡ empty → ⊥) → P (summary_of (encode k)).count ≡ roots k
rooted empty h = absurd (h refl)
rooted (tree k r) h = ap P (roots_summary k r).1

module _ (w : List Bool) (balanced : is_balanced w ≡ true) (a q n : ℕ) (opens : get_or w a false ≡ true) where
  abbrev f : Forest
  f = forest_of w

  abbrev h : ℕ
  h = height (length w)

  module _ (past : (forward h w a (pos 0)).0 ≡ some q) (reads : (forward h w a (pos 0)).1 ≡ n) where
    ends : Forward w a (pos 0) q
    ends = forward_some h w (over w) a (pos 0) (bit_in w a false opens) q past

    kids : Kids f a q
    kids = children_by f a (node_on w balanced a opens) q (on_forest w balanced (λ u. Forward u a (pos 0) q) ends)

    pub children_none : get_or w (suc a) true ≡ false → answer (gives 0) n ≡ answer_to w (Children a)
    unfolding reply_of reads_of
    children_none o = answer_is w (Children a) (gives 0) n
        (ap found (kids.answer ∙ ap (λ k. some (roots k)) (kids.leaf.1 (closes_two w a q opens ends o))))
        (ap₂ (λ i t. i + cond t (range h w (suc a) (or_zero (forward h w a (pos 0)).0 - 1)).1 0) reads (shut (get_or w (suc a) false) refl)
        ∙ (let z : n + 0 ≡ n = omega arith in z))
      where
        shut : (t : Bool) → get_or w (suc a) false ≡ t → get_or w (suc a) false ≡ false
        shut false e = e
        shut true e = absurd (omega (arith, opens_longer w a q opens ends e, closes_two w a q opens ends o))

    module _ (o : get_or w (suc a) false ≡ true) where
      pub between : (suc a < q - 1) × (q - 1 ≤ length w)
      between = (omega (arith, opens_longer w a q opens ends o), omega (arith, ends.within))

      pub children_some : (s : Summary) (k : ℕ) → range h w (suc a) (q - 1) ≡ (s, k) →
          answer (gives (P s.count)) (n + k) ≡ answer_to w (Children a)
      unfolding reply_of reads_of
      children_some s k e = answer_is w (Children a) (gives (P s.count)) (n + k)
          (ap found (kids.answer ∙ ap some (sym (counts s (ap (λ (x : Summary × ℕ). x.0) e)))))
          (ap₂ (λ i t. i + cond t (range h w (suc a) (or_zero (forward h w a (pos 0)).0 - 1)).1 0) reads o
          ∙ ap (λ x. n + (range h w (suc a) (or_zero x - 1)).1) past ∙ ap (λ (x : Summary × ℕ). n + x.1) e)
        where
          counts : (s : Summary) → (range h w (suc a) (q - 1)).0 ≡ s → P s.count ≡ roots kids.kids
          counts s d =
              ap (λ (x : Summary). P x.count) (sym d ∙ range_is h w (over w) (suc a) (q - 1) between.0 between.1 ∙ ap summary_of bits)
              ∙ rooted kids.kids (λ z. omega (arith, opens_longer w a q opens ends o, kids.leaf.0 z))
            where
              bits : take (q - 1 - suc a) (drop (suc a) w) ≡ encode kids.kids
              bits = ap₂ (λ i u. take (i - suc a) (drop (suc a) u)) (let z : q - 1 ≡ pred q = omega arith in z) (sym (forest_is w balanced))
                  ∙ kids.bits
