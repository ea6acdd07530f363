-- What the promise of building settles: everything; and the index that is checked is the one that is built. Assumes nothing.
use mathlib.Core.Path.{◌≡◌, refl, sym, ap, ◌∙◌}
use mathlib.Core.Logic.{◌↔◌}
use mathlib.Core.Bool.{true}
use mathlib.Core.List.{List, ◌++◌}
use Prim.Native.Nat.{ℕ, ◌+◌, ◌/◌}
use native.Mathlib.Omega.{arith}
use lib.IntN.{ℤ}
use lib.ListN.{length, take, drop, take-append-drop}
use lib.Seq.{sets-eq, take_at, length-sets}
use Rattle.word.specs.Bits.{word}
use Rattle.word.specs.Parse.{forest_of}
use Rattle.word.specs.Questions.{size}
use Rattle.word.proofs.Bits.{length_bits}
use Rattle.word.proofs.Answers.{size_length}
use Rattle.word.proofs.Parse.{encode_forest_of}
use Rattle.std.specs.Prelude.{Result}
use Rattle.judge.specs.declared.refusal.Refusal.{Refusal}
use Rattle.judge.specs.declared.Outcome.{Outcome}
use Rattle.judge.specs.Refusal.{outcome}
use Rattle.judge.proofs.Told.{outcome_apart}
use Rattle.index.specs.Shape.{height, numbers_of, index}
use Rattle.index.specs.Lent.{is_index}
use Rattle.index.proofs.Height.{numbers_are}
use Rattle.index.proofs.Numbers.{index_long, is_index_lem}
use Rattle.build.specs.Build.{refusal, built_index, Built}
use Rattle.build.proofs.Refusal.{accepted, ends_refused}

-- no second outcome fits
pub outcome_settled : (bytes : List ℕ) (m : ℕ) (held : List ℤ) (r r' : Outcome) (left left' : List ℤ) → Built bytes m held r left
    → Built bytes m held r' left' → (r ≡ r') × (left ≡ left')
outcome_settled bytes m held r r' left left' p q = (p.outcome_is ∙ sym q.outcome_is, p.index_is ∙ sym q.index_is)

-- and no second result
pub settled : (bytes : List ℕ) (m : ℕ) (held : List ℤ) (r r' : Result ℕ Refusal) (left left' : List ℤ)
    → Built bytes m held (outcome r) left → Built bytes m held (outcome r') left'
    → (r ≡ r') × (left ≡ left')
settled bytes m held r r' left left' p q = let s = outcome_settled bytes m held (outcome r) (outcome r') left left' p q in (outcome_apart r r' s.0, s.1)

-- "Refusals 1 to 7 return 0 beside the code and write nothing."
pub refused_whole : (bytes : List ℕ) (m : ℕ) (held : List ℤ) (r : Outcome) (left : List ℤ) → Built bytes m held r left
    → (refusal bytes m (length held) ≡ 0 → ⊥)
    → (r ≡ record { code = refusal bytes m (length held); value = 0 }) × (left ≡ held)
refused_whole bytes m held r left p some_refusal =
    outcome_settled bytes m held r (record { code = refusal bytes m (length held); value = 0 }) left held p (ends_refused bytes m held (refusal bytes m (length held)) refl some_refusal)

module _ (bytes : List ℕ) (m : ℕ) (held : List ℤ) (ok : refusal bytes m (length held) ≡ 0) where
  -- the first 8L numbers are the index, and later ones are kept
  pub built_is : built_index bytes m held ≡ index (height m) (word bytes m) ++ drop (numbers_of m) held
  unfolding built_index
  built_is =
      let n : 0 + length (index (height m) (word bytes m)) ≡ numbers_of m =
      omega (arith, index_long (height m) (word bytes m), numbers_are m) in
      rw ok (sets-eq (index (height m) (word bytes m)) held 0 (omega (arith, (accepted bytes m held ok).0.index_lent)) ∙ ap (λ n. index (height m) (word bytes m) ++ drop n held) n)

  pub built_long : length (built_index bytes m held) ≡ length held
  unfolding built_index
  built_long = rw ok (length-sets held 0 (index (height m) (word bytes m)))

  long : length (index (height m) (word bytes m)) ≡ numbers_of m
  long = omega (arith, index_long (height m) (word bytes m), numbers_are m)

  first : (l : List ℤ) → (is_index (height m) (word bytes m) l ≡ true) ↔ (take (numbers_of m) l ≡ index (height m) (word bytes m))
  first l = rw (numbers_are m) (is_index_lem (height m) (word bytes m) l)

  -- what is built passes the check
  pub built_checked : is_index (height m) (word bytes m) (built_index bytes m held) ≡ true
  built_checked = (first (built_index bytes m held)).1 (ap (take (numbers_of m)) built_is ∙ take_at (index (height m) (word bytes m)) (drop (numbers_of m) held) (numbers_of m) long)

  -- what passes the check is what is built: building over it changes nothing
  pub checked_built : (is_index (height m) (word bytes m) held ≡ true) ↔ (built_index bytes m held ≡ held)
  checked_built = (
    (λ e. built_is ∙ ap (◌++ drop (numbers_of m) held) (sym ((first held).0 e)) ∙ take-append-drop (numbers_of m) held),
    λ e. ap (is_index (height m) (word bytes m)) (sym e) ∙ built_checked,
  )

  -- the number beside code 0 is that of the forest's nodes
  pub built_nodes : size (forest_of (word bytes m)) ≡ m / 2
  built_nodes = omega (arith, size_length (forest_of (word bytes m)), ap length (encode_forest_of (word bytes m) (accepted bytes m held ok).1), length_bits bytes 0 m)
