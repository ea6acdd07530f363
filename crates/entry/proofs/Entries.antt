-- Entry k worked out from the entries past it. Assumes nothing.
use mathlib.Core.Path.{◌≡◌, sym, ap, ap₂, ◌∙◌}
use mathlib.Core.List.{List}
use Prim.Native.Nat.{ℕ, ◌+◌, ◌-◌, ◌*◌, ◌≤◌, ◌<◌}
use native.Mathlib.Omega.{arith}
use lib.ListN.{length}
use lib.IntN.{ℤ}
use Rattle.word.specs.Bits.{word}
use Rattle.word.proofs.Bits.{length_bits}
use Rattle.summary.specs.declared.Summary.{Summary}
use Rattle.summary.specs.Stretch.{summary_of}
use Rattle.summary.specs.Join.{join_of, empty_of}
use Rattle.summary.specs.Bound.{Bounded}
use Rattle.index.specs.Shape.{block, height, entry}
use Rattle.index.specs.Lent.{entry_at}
use Rattle.index.proofs.Height.{few_leaves, numbers_are}
use Rattle.index.proofs.Entry.{entry_zero, entry_leaf, entry_joins, entry_bounded}
use Rattle.entry.specs.Known.{Known}

module _ (bytes : List ℕ) (m l : ℕ) (idx : List ℤ) (k : ℕ) (known : Known bytes m l idx k) where
  pub few : l ≤ 8192
  few = few_leaves m l known.lent.size known.leaves

  pub room : 8 * l ≤ length idx
  room = omega (arith, known.leaves, numbers_are m, known.lent.index_lent)

  pub read_bounded : (j : ℕ) (s : Summary) → k ≤ j → j < 2 * l → s ≡ entry_at idx j → Bounded 4194304 s
  read_bounded j s a b e =
      rw (e ∙ known.reads j a b) (entry_bounded 4194304 (height m) j (word bytes m) (omega (arith, length_bits bytes 0 m, known.lent.size)) (omega (arith, known.leaves)))

-- what is worked out for entry k, by where it stands
module _ (bytes : List ℕ) (m l : ℕ) (idx : List ℤ) (k : ℕ) (known : Known bytes m l idx (k + 1)) where
  pub own_leaf : (r : Summary) → l ≤ k → r ≡ summary_of (block (word bytes m) (k - l)) → r ≡ entry (height m) (word bytes m) k
  own_leaf r h e =
      e ∙ ap (λ x. summary_of (block (word bytes m) (k - x))) known.leaves
      ∙ sym (entry_leaf (height m) k (word bytes m) (omega (arith, known.leaves)))

  pub own_joins : (x y r : Summary) → (k ≡ 0 → ⊥) → k < l → x ≡ entry_at idx (2 * k) → y ≡ entry_at idx (2 * k + 1) → r ≡ join_of x y
      → r ≡ entry (height m) (word bytes m) k
  own_joins x y r h u ex ey e =
      e ∙ ap₂ join_of (ex ∙ known.reads (2 * k) (omega arith) (omega arith)) (ey ∙ known.reads (2 * k + 1) (omega arith) (omega arith))
      ∙ sym (entry_joins (height m) k (word bytes m) (omega arith) (omega (arith, known.leaves)))

pub own_zero : (bytes : List ℕ) (m k : ℕ) → k ≡ 0 → empty_of ≡ entry (height m) (word bytes m) k
own_zero bytes m k e = rw e (sym (entry_zero (height m) (word bytes m)))
