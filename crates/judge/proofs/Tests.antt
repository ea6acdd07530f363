-- The judge's two tests of a word's summary, total and least, as the machine makes them. Assumes nothing.
use mathlib.Core.Path.{◌≡◌, sym, ap, ◌∙◌}
use mathlib.Core.List.{List}
use Prim.Native.Nat.{ℕ, ◌-◌, ◌≤◌}
use native.Mathlib.Omega.{arith}
use lib.Dec.{eqb}
use lib.IntN.{pos}
use lib.Signed.{le_z}
use mir.Syntax.{w32}
use mir.Val.{of_z}
use mir.Facts.{to_z-of_z, sfits_lit}
use borrow.Author.Tests.{ne_eqb}
use Rattle.word.specs.Bits.{bits, word}
use Rattle.word.specs.Parse.{is_balanced}
use Rattle.word.proofs.Bits.{length_bits}
use Rattle.word.proofs.Signed.{zarith, of_z_eq, not_true, by_test}
use Rattle.summary.specs.declared.Summary.{Summary}
use Rattle.summary.specs.Bound.{Bounded}
use Rattle.summary.specs.Stretch.{summary_of}
use Rattle.summary.proofs.Machine.{rb, small}
use Rattle.summary.proofs.Bounds.{summary_bounded}
use Rattle.summary.proofs.Balanced.{is_balanced_summary}

-- s is what `table::stretch` gives of the bits from 0 up to m
module _ (bytes : List ℕ) (m : ℕ) (s : Summary) (h : m ≤ 2097152) (e : s ≡ summary_of (bits bytes 0 (m - 0))) where
  whole : s ≡ summary_of (word bytes m)
  whole = e ∙ ap (λ n. summary_of (bits bytes 0 n)) (let d : m - 0 ≡ m = omega arith in d)

  bounded : Bounded 4194304 s
  bounded = rw whole (summary_bounded 4194304 (word bytes m) (omega (arith, length_bits bytes 0 m)))

  -- D ends at 0: the least decides
  pub by_least : of_z w32 s.total ≡ 0 → le_z (pos 0) (rb s.least) ≡ is_balanced (word bytes m)
  by_least t =
      let total : (summary_of (word bytes m)).total ≡ pos 0 =
      ap (λ (x : Summary). x.total) (sym whole) ∙ of_z_eq s.total (pos 0) (small s.total bounded.total) (sfits_lit tt) t in
      let least : rb s.least ≡ (summary_of (word bytes m)).least =
      to_z-of_z (small s.least bounded.least) ∙ ap (λ (x : Summary). x.least) whole in
      rw least (by_test (le_z (pos 0) (summary_of (word bytes m)).least)
      (λ y. y ∙ sym ((is_balanced_summary (word bytes m)).1 (total, omega zarith)))
      (λ n. n ∙ sym (not_true (is_balanced (word bytes m)) (λ b. omega (zarith, ((is_balanced_summary (word bytes m)).0 b).1)))))

  -- D ends elsewhere
  pub by_total : (of_z w32 s.total ≡ 0 → ⊥) → eqb (of_z w32 s.total) 0 ≡ is_balanced (word bytes m)
  by_total n = ne_eqb (of_z w32 s.total) 0 n
      ∙ sym (not_true (is_balanced (word bytes m))
      (λ b. n (ap (of_z w32) (ap (λ (x : Summary). x.total) whole ∙ ((is_balanced_summary (word bytes m)).0 b).0))))
