-- A block of the word, as bits of the lent bytes. Assumes nothing.
use mathlib.Core.Path.{◌≡◌, sym, ap, ◌∙◌}
use mathlib.Core.List.{List}
use Prim.Native.Nat.{ℕ, ◌-◌, ◌*◌, ◌≤◌, min}
use native.Mathlib.Omega.{arith}
use Rattle.word.specs.Bits.{bits, word}
use Rattle.word.proofs.Bits.{part_bits}
use Rattle.summary.specs.Stretch.{summary_of}
use Rattle.summary.specs.Join.{empty_of}
use Rattle.summary.proofs.Append.{summary_empty}
use Rattle.index.specs.Shape.{block}

-- block b ends at bit `to`: after 256 bits, or where the word ends
pub block_to : (bytes : List ℕ) (m b to : ℕ) → min 256 (m - 256 * b) ≡ to - 256 * b
    → block (word bytes m) b ≡ bits bytes (256 * b) (to - 256 * b)
block_to bytes m b to e = part_bits bytes m (256 * b) 256 ∙ ap (bits bytes (256 * b)) e

pub block_past : (bytes : List ℕ) (m b : ℕ) → m ≤ 256 * b → empty_of ≡ summary_of (block (word bytes m) b)
block_past bytes m b h = sym (ap summary_of (part_bits bytes m (256 * b) 256 ∙ ap (bits bytes (256 * b)) (let e : min 256 (m - 256 * b) ≡ 0 = omega arith in e)) ∙ summary_empty)
