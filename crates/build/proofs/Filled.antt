-- The slice while it is filled: what it held, with the entries from k on laid over it. Assumes nothing.
use mathlib.Core.Path.{◌≡◌, ap, ap₂, ◌∙◌}
use mathlib.Core.List.{List}
use Prim.Native.Nat.{ℕ, suc, ◌+◌, ◌-◌, ◌*◌, ◌^◌, ◌≤◌, ◌<◌}
use native.Mathlib.Omega.{arith}
use lib.ListN.{length}
use lib.Seq.{sets, length-sets}
use lib.IntN.{ℤ}
use Rattle.word.specs.Bits.{word}
use Rattle.summary.specs.declared.Summary.{Summary}
use Rattle.index.specs.Shape.{height, entry, index_from, index}
use Rattle.index.specs.Lent.{entry_at, four}
use Rattle.index.proofs.Height.{numbers_are}
use Rattle.index.proofs.Laid.{laid_next, laid_reads}
use Rattle.entry.specs.Known.{Lent, Known}

pub record Filled (bytes : List ℕ) (m l : ℕ) (held now : List ℤ) (k : ℕ) : Type 0 where
  pub lent : Lent bytes m held
  pub leaves : l ≡ 2 ^ height m
  pub inside : k ≤ 2 * l
  pub is : now ≡ sets held (4 * k) (index_from (2 * l - k) (entry (height m) (word bytes m)) k)

module _ (bytes : List ℕ) (m l : ℕ) (held : List ℤ) where
  pub fill_none : Lent bytes m held → l ≡ 2 ^ height m → Filled bytes m l held held (2 * l)
  unfolding index_from
  fill_none h e = record { lent = h; leaves = e; inside = omega arith; is = let z : 2 * l - 2 * l ≡ 0 = omega arith in rw z }

  module _ (now : List ℤ) (k : ℕ) (f : Filled bytes m l held now k) where
    pub fill_long : length now ≡ length held
    fill_long = ap length f.is ∙ length-sets held (4 * k) (index_from (2 * l - k) (entry (height m) (word bytes m)) k)

    pub fill_known : Known bytes m l now k
    fill_known = record {
      lent = record { size = f.lent.size; bytes_lent = f.lent.bytes_lent; index_lent = omega (arith, fill_long, f.lent.index_lent) };
      leaves = f.leaves;
      inside = f.inside;
      reads = λ j a b. reads j a b;
    }
      where
        reads : (j : ℕ) → k ≤ j → j < 2 * l → entry_at now j ≡ entry (height m) (word bytes m) j
        reads j a b =
            let z : k + (j - k) ≡ j = omega arith in
            rw f.is (rw z at (laid_reads held (2 * l - k) (entry (height m) (word bytes m)) k (j - k) (omega (arith, f.inside, f.leaves, numbers_are m, f.lent.index_lent)) (omega arith)))

  pub fill_next : (now after : List ℤ) (k : ℕ) (s : Summary) → Filled bytes m l held now k → 0 < k
      → s ≡ entry (height m) (word bytes m) (k - 1) → after ≡ sets now (4 * (k - 1)) (four s) → Filled bytes m l held after (k - 1)
  fill_next now after k s f h e z =
      let y : suc (k - 1) ≡ k = omega arith in
      let x : suc (2 * l - k) ≡ 2 * l - (k - 1) = omega (arith, f.inside) in
      let n : sets (sets held (4 * k) (index_from (2 * l - k) (entry (height m) (word bytes m)) k)) (4 * (k - 1)) (four (entry (height m) (word bytes m) (k - 1)))
      ≡ sets held (4 * (k - 1)) (index_from (2 * l - (k - 1)) (entry (height m) (word bytes m)) (k - 1)) =
      rw (y, x) at (laid_next held (2 * l - k) (entry (height m) (word bytes m)) (k - 1)) in
      record {
        lent =
            f.lent;
        leaves = f.leaves;
        inside = omega (arith, f.inside);
        is = z ∙ ap₂ (λ r t. sets r (4 * (k - 1)) (four t)) f.is e ∙ n;
      }

  pub fill_all : (now : List ℤ) (k : ℕ) → Filled bytes m l held now k → k ≤ 0 → now ≡ sets held 0 (index (height m) (word bytes m))
  unfolding index
  fill_all now k f h =
      let z : k ≡ 0 = omega arith in
      f.is ∙ ap (λ x. sets held (4 * x) (index_from (2 * l - x) (entry (height m) (word bytes m)) x)) z
      ∙ ap (λ n. sets held 0 (index_from n (entry (height m) (word bytes m)) 0)) (let y : 2 * l - 0 ≡ 2 * 2 ^ height m =
      omega (arith, f.leaves) in y)
