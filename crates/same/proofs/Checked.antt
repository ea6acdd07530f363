-- The entries from k on have been found right; one more agrees or differs. Assumes nothing.
use mathlib.Core.Path.{◌≡◌, sym, ap, ◌∙◌}
use mathlib.Core.Bool.{Bool, true, false, not, ◌&&◌}
use mathlib.Core.List.{List}
use Prim.Native.Nat.{ℕ, ◌-◌, ◌*◌, ◌^◌, ◌≤◌, ◌<◌}
use native.Mathlib.Decide.{dec_le}
use native.Mathlib.Omega.{arith}
use lib.IntN.{ℤ}
use borrow.Author.Tests.{not-false}
use Rattle.std.specs.Ordering.{int_eq}
use Rattle.std.specs.Bool.{Decides}
use Rattle.std.proofs.lemmas.Bool.Decides.{Decides-like, Decides-and, Decides-int_eq}
use Rattle.word.specs.Bits.{word}
use Rattle.word.proofs.Signed.{not_true, true≢false}
use Rattle.summary.specs.declared.Summary.{Summary}
use Rattle.summary.proofs.Join.{same}
use Rattle.index.specs.Shape.{height, entry}
use Rattle.index.specs.Lent.{entry_at, is_index}
use Rattle.index.proofs.Height.{numbers_are}
use Rattle.index.proofs.Numbers.{whole, is_index_lem, tested}
use Rattle.entry.specs.Known.{Lent, Known}

-- what `==` answers on two summaries
abbrev pub alike : Summary → Summary → Bool
alike x y = int_eq x.total y.total && (int_eq x.least y.least && (int_eq x.greatest y.greatest && int_eq x.count y.count))

alike_tells : (x y : Summary) → Decides (alike x y) (x ≡ y)
alike_tells x y =
    Decides-like (alike x y)
    (λ h. same h.0 h.1.0 h.1.1.0 h.1.1.1)
    (λ e. (ap (λ (s : Summary). s.total) e, (ap (λ (s : Summary). s.least) e, (ap (λ (s : Summary). s.greatest) e, ap (λ (s : Summary). s.count) e))))
    (Decides-and _ _ (Decides-int_eq _ _) (Decides-and _ _ (Decides-int_eq _ _) (Decides-and _ _ (Decides-int_eq _ _) (Decides-int_eq _ _))))

module _ (bytes : List ℕ) (m l : ℕ) (idx : List ℤ) where
  pub same_none : (k : ℕ) → Lent bytes m idx → l ≡ 2 ^ height m → k ≡ 2 * l → Known bytes m l idx k
  same_none k h e z = record { lent = h; leaves = e; inside = omega arith; reads = λ j a b. absurd (omega arith) }

  module _ (k : ℕ) (x s : Summary) (known : Known bytes m l idx k) (more : 0 < k) (is : s ≡ entry (height m) (word bytes m) (k - 1)) (read : x ≡ entry_at idx (k - 1)) where
    pub same_next : not (alike x s) ≡ false → Known bytes m l idx (k - 1)
    same_next e = record {
      lent = known.lent;
      leaves = known.leaves;
      inside = omega (arith, known.inside);
      reads = λ j a b. by j a b (dec_le k j);
    }
      where
        by : (j : ℕ) → k - 1 ≤ j → j < 2 * l → Dec (k ≤ j) → entry_at idx j ≡ entry (height m) (word bytes m) j
        by j a b (yes z) = known.reads j z b
        by j a b (no z) = let y : k - 1 ≡ j = omega arith in rw (← y) (sym read ∙ (alike_tells x s).0 (not-false _ e) ∙ is)

    pub same_not : not (alike x s) ≡ true → false ≡ is_index (height m) (word bytes m) idx
    same_not e = sym (not_true _ (λ t.
        let a = (alike_tells x s).1 (read ∙ (tested (height m) (word bytes m) idx t).reads (k - 1) (omega (arith, known.inside, known.leaves)) ∙ sym is) in
        true≢false (sym e ∙ ap not a)))

  pub same_all : (k : ℕ) → Known bytes m l idx k → k ≤ 0 → true ≡ is_index (height m) (word bytes m) idx
  same_all k known h = sym ((is_index_lem (height m) (word bytes m) idx).1 (whole (height m) (word bytes m) idx (record {
    long = omega (arith, numbers_are m, known.lent.index_lent);
    reads = λ j a. known.reads j (omega arith) (omega (arith, known.leaves));
  })))
