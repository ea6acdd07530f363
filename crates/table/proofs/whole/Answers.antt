-- Byte q starts at bit 8q, so it is whole where it ends by bit `to`. Assumes nothing.
use native.Mathlib.Omega.{arith}
use borrow.Author.Tests.{leb-true, le-leb, ltb-true, lt-ltb}
use Rattle.word.proofs.Tests.{same_test}
use Rattle.table.specs.Rows.{whole_at}
use Rattle.table.proofs.Part.{starts_at}
use Rattle.table.proofs.whole.Goals as goal

pub returns : goal.returns
unfolding whole_at
returns c q =
    rw starts_at (same_test _ _ (λ t. lt-ltb _ _ (omega (arith, leb-true _ _ t)), λ t. le-leb _ _ (omega (arith, ltb-true _ _ t))))
