-- The answers of kinds 1, 2 and 3 by the prefix and select walks, and of kinds 9, 12 and 13 by the range walk. Assumes nothing.
use mathlib.Core.Path.{◌≡◌, refl, sym, ap, ap₂, subst, ◌∙◌}
use mathlib.Core.Bool.{Bool, true, false, cond}
use mathlib.Core.List.{List}
use mathlib.Core.Option.{Option, none, some}
use Prim.Native.Nat.{ℕ, ◌+◌, ◌-◌, ◌/◌, ◌≤◌, ◌<◌, min, max}
use native.Mathlib.Omega.{arith}
use borrow.Author.Tests.{ne_eqb, eq-eqb, lt-ltb, le-ltb}
use lib.Dec.{eqb}
use lib.ListN.{length, take, get_or}
use lib.IntN.{ℤ, pos, ◌+ℤ◌, ◌-ℤ◌}
use lib.Signed.{le_z}
use Rattle.word.specs.Forest.{Forest, encode, count, D}
use Rattle.word.specs.Parse.{is_balanced, forest_of}
use Rattle.word.specs.Signed.{P}
use Rattle.word.specs.Depth.{Backward, NoBackward, Least}
use Rattle.word.specs.Questions.{with_number, nearest, lowest}
use Rattle.word.proofs.Signed.{zarith}
use lib.Seq.{take-length}
use Rattle.word.proofs.Depth.{bit_in, rank_sum}
use Rattle.word.proofs.Bridge.{even}
use Rattle.word.proofs.Balance.{D_is_pos}
use Rattle.word.proofs.Demands.{nearest_comm, nearest_self}
use Rattle.word.proofs.Answers as answers
use Rattle.summary.specs.declared.Summary.{Summary}
use Rattle.index.specs.Shape.{height}
use Rattle.walk.specs.Walk.{Reach}
use Rattle.walk.specs.Forward.{forward}
use Rattle.walk.specs.Backward.{backward}
use Rattle.walk.specs.Prefix.{prefix}
use Rattle.walk.specs.Select.{select}
use Rattle.walk.specs.Range.{range}
use Rattle.walk.proofs.Forward.{forward_some, forward_none}
use Rattle.walk.proofs.Backward.{backward_some, backward_none}
use Rattle.walk.proofs.Prefix.{prefix_is}
use Rattle.walk.proofs.Select.{select_some, select_none}
use Rattle.walk.proofs.Range.{range_is}
use Rattle.question.specs.declared.Question.TheVariants.{Depth, Number, WithNumber, Nearest, Lowest}
use Rattle.question.specs.Reply.{gives, refused, found, reply_of}
use Rattle.question.specs.Reads.{reads_of, nearest_reads}
use Rattle.question.specs.Answer.{answer_to}
use Rattle.question.proofs.Answers.{answer, answer_is}
use Rattle.question.proofs.Least.{least_is}
use Rattle.question.proofs.Word.{over, forest_is, on_forest, node_on}

module _ (w : List Bool) (balanced : is_balanced w ≡ true) where
  abbrev f : Forest
  f = forest_of w

  abbrev h : ℕ
  h = height (length w)

  -- ---- kinds 1 and 2: D(a)
  module _ (a : ℕ) (opens : get_or w a false ≡ true) (d : ℤ) (n : ℕ) (walked : prefix h w a ≡ (d, n)) where
    opens' : get_or (encode f) a false ≡ true
    opens' = node_on w balanced a opens

    inside : a < length w
    inside = bit_in w a false opens

    D_is : D w a ≡ d
    D_is = sym (prefix_is h w (over w) a inside) ∙ ap (λ (x : ℤ × ℕ). x.0) walked

    pub depth_nat : d ≡ pos (P d)
    depth_nat = subst (λ z. z ≡ pos (P z)) (ap (λ u. D u a) (forest_is w balanced) ∙ D_is)
        (D_is_pos f a (on_forest w balanced (λ u. a ≤ length u) (omega (arith, inside))))

    D_of : D (encode f) a ≡ pos (P d)
    D_of = ap (λ u. D u a) (forest_is w balanced) ∙ D_is ∙ depth_nat

    reads : (prefix h w a).1 ≡ n
    reads = ap (λ (x : ℤ × ℕ). x.1) walked

    pub depth_is : answer (gives (P d)) n ≡ answer_to w (Depth a)
    unfolding reply_of reads_of
    depth_is = answer_is w (Depth a) (gives (P d)) n (ap found (answers.depth_by f a opens' (P d) (sym D_of))) reads

    pub number_is : answer (gives ((a + P d) / 2)) n ≡ answer_to w (Number a)
    unfolding reply_of reads_of
    number_is = answer_is w (Number a) (gives ((a + P d) / 2)) n
        (ap found (answers.number_half f a opens' ∙ ap (λ (z : ℤ). some (P (pos a +ℤ z) / 2)) D_of)) reads

  -- ---- kind 3
  half : count true w ≡ length w / 2
  half = subst (λ u. count true u ≡ length u / 2) (forest_is w balanced)
      (omega (
        arith,
        even f,
        ap (count true) (take-length (encode f)),
        ap (count false) (take-length (encode f)),
        rank_sum (encode f) (length (encode f)) (omega arith),
      ))

  pub with_number_past : (r : ℕ) → length w / 2 ≤ r → answer (refused 16) 0 ≡ answer_to w (WithNumber r)
  unfolding reply_of reads_of
  with_number_past r l = answer_is w (WithNumber r) (refused 16) 0
      (ap found ((answers.with_number_none f r).1 (on_forest w balanced (λ u. count true u ≤ r) (omega (arith, half)))))
      (rw (le-ltb r (length w / 2) l))

  module _ (r : ℕ) (l : r < length w / 2) where
    sought : (o : Option ℕ) → (select h w r).0 ≡ o → with_number f r ≡ o
    sought none e = absurd (omega (arith, half, select_none h w (over w) r e))
    sought (some q) e = let s = select_some h w (over w) r q e in
        answers.with_number_by f q (node_on w balanced q s.0) r (on_forest w balanced (λ u. count true (take q u) ≡ r) s.1)

    pub with_number_is : (x : Reach) → select h w r ≡ x → answer (found x.0) x.1 ≡ answer_to w (WithNumber r)
    unfolding reply_of reads_of
    with_number_is x e = answer_is w (WithNumber r) (found x.0) x.1 (ap found (sought x.0 (ap (λ (y : Reach). y.0) e)))
        (rw (lt-ltb r (length w / 2) l) (ap (λ (y : Reach). y.1) e))

  -- ---- kinds 12 and 13: the range from the earlier to the later, and the walk by its least
  module _ (a b : ℕ) (l : a < b) (within : b ≤ length w) (s : Summary) (n : ℕ) (ranged : range h w a b ≡ (s, n)) where
    summary_is : (range h w a b).0 ≡ s
    summary_is = ap (λ (x : Summary × ℕ). x.0) ranged

    reads_are : (range h w a b).1 ≡ n
    reads_are = ap (λ (x : Summary × ℕ). x.1) ranged

    least : Least w a b s.least
    least = subst (λ (x : Summary). Least w a b x.least) (sym (range_is h w (over w) a b l within) ∙ summary_is) (least_is w a b l within)

    apart : eqb a b ≡ false
    apart = ne_eqb a b (λ e. omega arith)

    -- the reads, where the range is enough and where a walk of k reads follows
    module _ (next : Summary → ℕ) (enough : Summary → Bool) where
      abbrev both : Summary → ℕ → ℕ
      both x m = m + cond (enough x) 0 (next x)

      settles : enough s ≡ true → both (range h w a b).0 (range h w a b).1 ≡ n
      settles e = ap₂ both summary_is reads_are ∙ ap (λ t. n + cond t 0 (next s)) e ∙ (let z : n + 0 ≡ n = omega arith in z)

      walks : enough s ≡ false → (k : ℕ) → next s ≡ k → both (range h w a b).0 (range h w a b).1 ≡ n + k
      walks e k d = ap₂ both summary_is reads_are ∙ ap (λ t. n + cond t 0 (next s)) e ∙ ap (λ i. n + i) d

    fell : Least w a (a + (b - a)) s.least
    fell = subst (λ j. Least w a j s.least) (let z : b ≡ a + (b - a) = omega arith in z) least

    module _ (low : le_z (pos 0) s.least ≡ true) where
      pub lowest_self_is : answer (gives a) n ≡ answer_to w (Lowest a b)
      unfolding reply_of reads_of
      lowest_self_is = answer_is w (Lowest a b) (gives a) n
          (ap gives (answers.lowest_self w a (b - a) s.least fell (omega zarith)))
          (rw apart (settles (λ x. (forward h w a x.least).1) (λ x. le_z (pos 0) x.least) low))

    module _ (low : le_z (pos 0) s.least ≡ false) where
      lowest_at : (o : Option ℕ) → (forward h w a s.least).0 ≡ o → found o ≡ gives (lowest w a (b - a))
      lowest_at none e = absurd (answers.lowest_some w a (b - a) s.least fell (omega zarith) (omega arith)
          (forward_none h w (over w) a s.least (omega arith) e))
      lowest_at (some q) e = ap gives (sym (answers.lowest_by w a (b - a) s.least fell (omega zarith) q
          (forward_some h w (over w) a s.least (omega arith) q e)))

      pub lowest_is : (x : Reach) → forward h w a s.least ≡ x → answer (found x.0) (n + x.1) ≡ answer_to w (Lowest a b)
      unfolding reply_of reads_of
      lowest_is x e = answer_is w (Lowest a b) (found x.0) (n + x.1) (sym (lowest_at x.0 (ap (λ (y : Reach). y.0) e)))
          (rw apart (walks (λ x. (forward h w a x.least).1) (λ x. le_z (pos 0) x.least) low x.1 (ap (λ (y : Reach). y.1) e)))

    -- the earlier node and the later, in either order
    module _ (oa : get_or w a false ≡ true) (ob : get_or w b false ≡ true) where
      oa' : get_or (encode f) a false ≡ true
      oa' = node_on w balanced a oa

      ob' : get_or (encode f) b false ≡ true
      ob' = node_on w balanced b ob

      least' : Least (encode f) a b s.least
      least' = on_forest w balanced (λ u. Least u a b s.least) least

      in_order : reads_of h w (Nearest a b) ≡ nearest_reads h w a b
      unfolding reads_of
      in_order = rw (apart, low_is, high_is)
        where
          low_is : min a b ≡ a
          low_is = omega arith

          high_is : max a b ≡ b
          high_is = omega arith

      module _ (above : le_z (pos 1) s.least ≡ true) where
        earlier : nearest f a b ≡ some a
        earlier = answers.nearest_earlier f a b oa' ob' s.least l least' (omega zarith)

        pub nearest_self_is : answer (gives a) n ≡ answer_to w (Nearest a b)
        unfolding reply_of reads_of
        nearest_self_is = answer_is w (Nearest a b) (gives a) n (ap found earlier)
            (in_order ∙ settles (λ x. (backward h w a (x.least -ℤ pos 1)).1) (λ x. le_z (pos 1) x.least) above)

      module _ (above : le_z (pos 1) s.least ≡ false) where
        nearest_at : (o : Option ℕ) → (backward h w a (s.least -ℤ pos 1)).0 ≡ o → nearest f a b ≡ o
        nearest_at none e = answers.nearest_none f a b oa' ob' s.least l least' (omega zarith)
            (on_forest w balanced (λ u. NoBackward u a (s.least -ℤ pos 1))
            (backward_none h w (over w) a (s.least -ℤ pos 1) (omega arith) e))
        nearest_at (some p) e = answers.nearest_by f a b oa' ob' s.least l least' (omega zarith) p
            (on_forest w balanced (λ u. Backward u a (s.least -ℤ pos 1) p)
            (backward_some h w (over w) a (s.least -ℤ pos 1) (omega arith) p e))

        pub nearest_is : (x : Reach) → backward h w a (s.least -ℤ pos 1) ≡ x → answer (found x.0) (n + x.1) ≡ answer_to w (Nearest a b)
        unfolding reply_of reads_of
        nearest_is x e = answer_is w (Nearest a b) (found x.0) (n + x.1) (ap found (nearest_at x.0 (ap (λ (y : Reach). y.0) e)))
            (in_order ∙ walks (λ x. (backward h w a (x.least -ℤ pos 1)).1) (λ x. le_z (pos 1) x.least)
            above x.1 (ap (λ (y : Reach). y.1) e))

  -- kind 12 is the same in either order, and a node's with itself is the node
  pub nearest_swap : (a b : ℕ) → (a ≡ b → ⊥) → answer_to w (Nearest a b) ≡ answer_to w (Nearest b a)
  unfolding answer_to reply_of reads_of
  nearest_swap a b d = ap₂ answer (ap found (nearest_comm f a b)) (rw (ne_eqb a b d, ne_eqb b a (λ e. d (sym e)), low_is, high_is))
    where
      low_is : min a b ≡ min b a
      low_is = omega arith

      high_is : max a b ≡ max b a
      high_is = omega arith

  pub nearest_itself : (a : ℕ) → get_or w a false ≡ true → answer (gives a) 0 ≡ answer_to w (Nearest a a)
  unfolding reply_of reads_of
  nearest_itself a o = answer_is w (Nearest a a) (gives a) 0 (ap found (nearest_self f a (node_on w balanced a o))) (rw (eq-eqb a a refl))

  pub lowest_itself : (a : ℕ) → answer (gives a) 0 ≡ answer_to w (Lowest a a)
  unfolding reply_of reads_of lowest
  lowest_itself a = answer_is w (Lowest a a) (gives a) 0 (ap (λ i. gives (lowest w a i)) (let z : a - a ≡ 0 = omega arith in z))
      (rw (eq-eqb a a refl))
