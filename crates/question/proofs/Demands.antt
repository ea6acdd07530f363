-- Demand 3 over the answers themselves: code and result of questions on one accepted word. Assumes nothing.
use mathlib.Core.Path.{◌≡◌, refl, sym, ap, subst, ◌∙◌}
use mathlib.Core.Logic.{◌↔◌}
use mathlib.Core.Bool.{Bool, true, false, cond}
use mathlib.Core.List.{List, []}
use mathlib.Core.Option.{Option, none, some}
use Prim.Native.Nat.{ℕ, ◌+◌, ◌≤◌, ◌<◌}
use native.Mathlib.Omega.{arith}
use borrow.Author.Tests.{lt-ltb}
use lib.Dec.{eqb}
use lib.ListN.{length, get_or}
use Rattle.std.specs.Prelude.{Ok}
use Rattle.word.specs.Forest.{Forest, encode}
use Rattle.word.specs.Parse.{is_balanced, forest_of}
use Rattle.word.specs.Questions.{number, ancestor, branch, nearest, holds}
use Rattle.word.proofs.Depth.{bit_in}
use Rattle.word.proofs.Demands.{and_then, meet, climb_climb, ancestor_node, nearest_node}
use Rattle.word.proofs.Demands.{meet_assoc, nearest_comm, nearest_self, holds_nearest, holds_run}
use Rattle.question.specs.declared.Question.{Question}
use Rattle.question.specs.declared.Question.TheVariants.{Number, Ancestor, Branch, Nearest, Holds}
use Rattle.question.specs.Decode.{node, unless, decode_of}
use Rattle.question.specs.Reply.{Reply, gives, found, reply_of, reply_to}
use Rattle.question.proofs.Word.{forest_is, node_on}

-- code and result that a question gets
abbrev pub asked : List Bool → ℕ → ℕ → ℕ → Reply
asked w kind a b = reply_to w (decode_of w kind a b)

-- the next question, asked of what the first one gave; a refusal is passed on as it is
abbrev pub next : Reply → (ℕ → Reply) → Reply
next r k = cond (eqb r.code 0) (k r.result) r

gives_result : (x y : ℕ) → gives x ≡ gives y → x ≡ y
gives_result x y e = ap (λ (r : Reply). r.result) e

found_some : (o : Option ℕ) (r : ℕ) → found o ≡ gives r → o ≡ some r
found_some none r e = let z : ◌≡◌ {A = ℕ} 16 0 = ap (λ (x : Reply). x.code) e in absurd (omega arith)
found_some (some q) r e = ap some (gives_result q r e)

module _ (w : List Bool) (balanced : is_balanced w ≡ true) where
  abbrev f : Forest
  f = forest_of w

  -- a place of the accepted word that stands for a node
  abbrev pub Node : ℕ → Type 0
  Node a = get_or w a false ≡ true

  node_of : (a : ℕ) → Node a → get_or (encode f) a false ≡ true
  node_of = node_on w balanced

  node_to : (a : ℕ) → get_or (encode f) a false ≡ true → Node a
  node_to a o = subst (λ u. get_or u a false ≡ true) (forest_is w balanced) o

  passes : (a : ℕ) (q : Question) → Node a → unless (node w a []) q ≡ Ok q
  passes a q o = rw (lt-ltb a (length w) (bit_in w a false o), o)

  pass : (a b : ℕ) (q : Question) → Node a → Node b → unless (node w a (node w b [])) q ≡ Ok q
  pass a b q o p = rw (lt-ltb a (length w) (bit_in w a false o), o, lt-ltb b (length w) (bit_in w b false p), p)

  -- what the kinds of demand 3 give of nodes
  number_of : (a b : ℕ) → Node a → asked w 2 a b ≡ found (number f a)
  unfolding decode_of reply_of
  number_of a b o = ap (reply_to w) (passes a (Number a) o)

  ancestor_of : (a b : ℕ) → Node a → asked w 7 a b ≡ found (ancestor f a b)
  unfolding decode_of reply_of
  ancestor_of a b o = ap (reply_to w) (passes a (Ancestor a b) o)

  branch_of : (a b : ℕ) → Node a → asked w 8 a b ≡ found (branch f a)
  unfolding decode_of reply_of
  branch_of a b o = ap (reply_to w) (passes a (Branch a) o)

  nearest_of : (a b : ℕ) → Node a → Node b → asked w 12 a b ≡ found (nearest f a b)
  unfolding decode_of reply_of
  nearest_of a b o p = ap (reply_to w) (pass a b (Nearest a b) o p)

  holds_of : (a b : ℕ) → Node a → Node b → asked w 14 a b ≡ gives (cond (holds f a b) 1 0)
  unfolding decode_of reply_of
  holds_of a b o p = ap (reply_to w) (pass a b (Holds a b) o p)

  -- "climbing j and then k ends where climbing j+k ends, or neither way finds a node"
  pub climbing : (a j k : ℕ) → Node a → next (asked w 7 a j) (λ p. asked w 7 p k) ≡ asked w 7 a (j + k)
  climbing a j k o = ap (λ r. next r (λ p. asked w 7 p k)) (ancestor_of a j o) ∙ go (ancestor f a j) refl ∙ sym (ancestor_of a (j + k) o)
    where
      go : (x : Option ℕ) → ancestor f a j ≡ x → next (found x) (λ p. asked w 7 p k) ≡ found (ancestor f a (j + k))
      go none e = ap found (ap (λ y. and_then y (λ p. ancestor f p k)) (sym e) ∙ climb_climb f a j k)
      go (some p) e = ancestor_of p k (node_to p (ancestor_node f a j p e))
          ∙ ap found (ap (λ y. and_then y (λ p. ancestor f p k)) (sym e) ∙ climb_climb f a j k)

  -- "The nearest shared reference of three nodes comes out the same in any pairing and order, with "none" passed on as "none""
  pub sharing_order : (a b : ℕ) → Node a → Node b → asked w 12 a b ≡ asked w 12 b a
  sharing_order a b o p = nearest_of a b o p ∙ ap found (nearest_comm f a b) ∙ sym (nearest_of b a p o)

  pub sharing_pairs : (a b c : ℕ) → Node a → Node b → Node c →
      next (asked w 12 a b) (λ x. asked w 12 x c) ≡ next (asked w 12 b c) (λ y. asked w 12 a y)
  sharing_pairs a b c o p q =
      ap (λ r. next r (λ x. asked w 12 x c)) (nearest_of a b o p) ∙ left (nearest f a b) refl
      ∙ ap found (meet_assoc f (some a) (some b) (some c))
      ∙ sym (ap (λ r. next r (λ y. asked w 12 a y)) (nearest_of b c p q) ∙ right (nearest f b c) refl)
    where
      left : (x : Option ℕ) → nearest f a b ≡ x → next (found x) (λ y. asked w 12 y c) ≡ found (meet f (nearest f a b) (some c))
      left none e = ap (λ y. found (meet f y (some c))) (sym e)
      left (some x) e = nearest_of x c (node_to x (nearest_node f a b x e)) q ∙ ap (λ y. found (meet f y (some c))) (sym e)

      right : (y : Option ℕ) → nearest f b c ≡ y → next (found y) (λ z. asked w 12 a z) ≡ found (meet f (some a) (nearest f b c))
      right none e = ap (λ z. found (meet f (some a) z)) (sym e)
      right (some y) e = nearest_of a y o (node_to y (nearest_node f b c y e)) ∙ ap (λ z. found (meet f (some a) z)) (sym e)

  -- "a node paired with itself gives itself"
  pub sharing_itself : (a : ℕ) → Node a → asked w 12 a a ≡ gives a
  sharing_itself a o = nearest_of a a o o ∙ ap found (nearest_self f a (node_of a o))

  -- "A reference stands on a probe's chain, itself counted, exactly when it is their nearest shared reference"
  flag : (t : Bool) → (gives (cond t 1 0) ≡ gives 1) ↔ (t ≡ true)
  flag true = ((λ e. refl), λ e. refl)
  flag false = ((λ e. let z : ◌≡◌ {A = ℕ} 0 1 = gives_result 0 1 e in absurd (omega arith)), λ e. cc)

  pub chain_sharing : (a b : ℕ) → Node a → Node b → (asked w 14 a b ≡ gives 1) ↔ (asked w 12 a b ≡ gives a)
  chain_sharing a b o p = (
    (λ e. nearest_of a b o p ∙ ap found ((holds_nearest f a b (node_of a o)).0 ((flag (holds f a b)).0 (sym (holds_of a b o p) ∙ e)))),
    λ e. holds_of a b o p ∙ (flag (holds f a b)).1 ((holds_nearest f a b (node_of a o)).1
        (found_some (nearest f a b) a (sym (nearest_of a b o p) ∙ e))),
  )

  -- "and exactly when the probe's number lies in the run that starts at the reference's number and is as long as its branch"
  pub chain_run : (a b i j n : ℕ) → Node a → Node b → asked w 2 a 0 ≡ gives i → asked w 2 b 0 ≡ gives j → asked w 8 a 0 ≡ gives n
      → (asked w 14 a b ≡ gives 1) ↔ ((i ≤ j) × (j < i + n))
  chain_run a b i j n o p ei ej en =
      let r = holds_run f a b i j n (node_of a o) (node_of b p)
      (found_some (number f a) i (sym (number_of a 0 o) ∙ ei))
      (found_some (number f b) j (sym (number_of b 0 p) ∙ ej))
      (found_some (branch f a) n (sym (branch_of a 0 o) ∙ en)) in (
        (λ e. r.0 ((flag (holds f a b)).0 (sym (holds_of a b o p) ∙ e))),
        λ h. holds_of a b o p ∙ (flag (holds f a b)).1 (r.1 h),
      )
