-- No question reads more than four times the index's height. Assumes nothing.
use mathlib.Core.Path.{◌≡◌, refl}
use mathlib.Core.Bool.{Bool, true, false, cond}
use mathlib.Core.List.{List}
use mathlib.Core.Option.{Option, none, some}
use Prim.Native.Nat.{ℕ, suc, ◌+◌, ◌-◌, ◌*◌, ◌/◌, ◌^◌, ◌≤◌, ◌<◌, min, max}
use native.Mathlib.Omega.{arith}
use native.Mathlib.Decide.{ℕ_discrete}
use borrow.Author.Tests.{eq-eqb, ne_eqb}
use lib.Dec.{eqb, ltb}
use lib.ListN.{length, get_or}
use lib.IntN.{ℤ, pos, negsuc, neg_ℤ, ◌-ℤ◌}
use lib.Signed.{le_z}
use Rattle.std.specs.Prelude.{Result, Ok, Err}
use Rattle.word.specs.Parse.{is_balanced}
use Rattle.index.specs.Shape.{height}
use Rattle.index.proofs.Height.{height_reaches}
use Rattle.walk.specs.Forward.{forward}
use Rattle.walk.specs.Backward.{backward}
use Rattle.walk.specs.Range.{range}
use Rattle.walk.specs.Select.{select}
use Rattle.walk.proofs.Forward.{forward_some, forward_reads}
use Rattle.walk.proofs.Backward.{backward_reads}
use Rattle.walk.proofs.Prefix.{prefix_reads}
use Rattle.walk.proofs.Select.{select_reads}
use Rattle.walk.proofs.Range.{range_reads}
use Rattle.question.specs.declared.Question.{Question}
use Rattle.question.specs.declared.Question.TheVariants.{Depth, Number, WithNumber, Closing, Opening, Parent, Ancestor}
use Rattle.question.specs.declared.Question.TheVariants.{Branch, Children, FirstChild, NextSibling, Nearest, Lowest, Holds}
use Rattle.question.specs.Decode.{decode_of}
use Rattle.question.specs.Reads.{or_zero, reads_of, reads_to, nearest_reads, lowest_reads}
use Rattle.question.specs.Places.{IsNode, Sound}
use Rattle.question.proofs.Sound.{decode_sound}
use Rattle.question.proofs.Answers.{ends_some}
use Rattle.question.proofs.Children.{opens_longer}

at_most : (t : Bool) (x y m : ℕ) → x ≤ m → y ≤ m → cond t x y ≤ m
at_most true x y m p q = p
at_most false x y m p q = q

module _ (w : List Bool) (balanced : is_balanced w ≡ true) where
  abbrev h : ℕ
  h = height (length w)

  over : length w ≤ 256 * 2 ^ h
  over = height_reaches (length w)

  -- the walk that follows a range makes up the four
  children_few : (a : ℕ) → IsNode w a → (o : Option ℕ) → (forward h w a (pos 0)).0 ≡ o → (t : Bool) → get_or w (suc a) false ≡ t
      → (forward h w a (pos 0)).1 + cond t (range h w (suc a) (or_zero o - 1)).1 0 ≤ 4 * h
  children_few a n o e false d = omega (arith, forward_reads h w over a (pos 0) n.below)
  children_few a n none e true d = absurd (ends_some w balanced a n.opens e)
  children_few a n (some q) e true d =
      let s = forward_some h w over a (pos 0) n.below q e in
      omega (
        arith,
        forward_reads h w over a (pos 0) n.below,
        range_reads h w over (suc a) (q - 1) (omega (arith, opens_longer w a q n.opens s d)) (omega (arith, s.within)),
      )

  pub reads_few : (q : Question) → Sound w q → reads_of h w q ≤ 4 * h
  unfolding reads_of
  reads_few (Depth a) n = omega (arith, prefix_reads h w over a n.below)
  reads_few (Number a) n = omega (arith, prefix_reads h w over a n.below)
  reads_few (WithNumber r) n = at_most (ltb r (length w / 2)) (select h w r).1 0 (4 * h)
      (omega (arith, select_reads h w over r)) (omega arith)
  reads_few (Closing a) n = omega (arith, forward_reads h w over a (pos 0) n.below)
  reads_few (Opening a) n = omega (arith, backward_reads h w over (suc a) (pos 0) n.below)
  reads_few (Parent a) n = omega (arith, backward_reads h w over a (negsuc 0) (omega (arith, n.below)))
  reads_few (Ancestor a b) n = at_most (eqb b 0) 0 (backward h w a (neg_ℤ (pos b))).1 (4 * h) (omega arith)
      (omega (arith, backward_reads h w over a (neg_ℤ (pos b)) (omega (arith, n.below))))
  reads_few (Branch a) n = omega (arith, forward_reads h w over a (pos 0) n.below)
  reads_few (Children a) n = children_few a n (forward h w a (pos 0)).0 refl (get_or w (suc a) false) refl
  reads_few (FirstChild a) n = omega arith
  reads_few (NextSibling a) n = omega (arith, forward_reads h w over a (pos 0) n.below)
  reads_few (Nearest a b) n = apart (ℕ_discrete a b)
    where
      walks : (l : ℤ) (k : ℕ) → k ≤ 2 * h - 2 → k + cond (le_z (pos 1) l) 0 (backward h w (min a b) (l -ℤ pos 1)).1 ≤ 4 * h
      walks l k m =
          let few = backward_reads h w over (min a b) (l -ℤ pos 1) (omega (arith, n.0.below)) in
          let z = at_most (le_z (pos 1) l) 0 (backward h w (min a b) (l -ℤ pos 1)).1 (2 * h - 1) (omega arith) few in omega arith

      apart : Dec (a ≡ b) → cond (eqb a b) 0 (nearest_reads h w (min a b) (max a b)) ≤ 4 * h
      apart (yes e) = rw (eq-eqb a b e) (omega arith)
      apart (no d) = rw (ne_eqb a b d)
          (walks (range h w (min a b) (max a b)).0.least (range h w (min a b) (max a b)).1
          (range_reads h w over (min a b) (max a b) (omega (arith, d)) (omega (arith, n.0.below, n.1.below))))
  reads_few (Lowest a b) n = apart (ℕ_discrete a b)
    where
      walks : a < b → (l : ℤ) (k : ℕ) → k ≤ 2 * h - 2 → k + cond (le_z (pos 0) l) 0 (forward h w a l).1 ≤ 4 * h
      walks d l k m =
          let few = forward_reads h w over a l (omega (arith, n)) in
          let z = at_most (le_z (pos 0) l) 0 (forward h w a l).1 (2 * h - 1) (omega arith) few in omega arith

      apart : Dec (a ≡ b) → cond (eqb a b) 0 (lowest_reads h w a b) ≤ 4 * h
      apart (yes e) = rw (eq-eqb a b e) (omega arith)
      apart (no d) = rw (ne_eqb a b d)
          (walks (omega (arith, d, n)) (range h w a b).0.least (range h w a b).1 (range_reads h w over a b (omega (arith, d, n)) n.1))
  reads_few (Holds a b) n = omega (arith, forward_reads h w over a (pos 0) n.0.below)

  -- "never over four times the index's height"
  pub decoded_few : (kind a b : ℕ) → reads_to h w (decode_of w kind a b) ≤ 4 * h
  decoded_few kind a b = few (decode_of w kind a b) refl
    where
      few : (d : Result Question ℕ) → decode_of w kind a b ≡ d → reads_to h w d ≤ 4 * h
      few (Ok q) e = reads_few q (decode_sound w kind a b e)
      few (Err c) e = omega arith
