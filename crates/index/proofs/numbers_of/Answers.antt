-- `numbers_of` meets its contract. Assumes nothing.
use native.Mathlib.Omega.{arith}
use Rattle.index.proofs.Height.{few_leaves, numbers_are}
use Rattle.index.proofs.numbers_of.Goals as goal

pub overflow_mul-result : goal.overflow_mul-result
overflow_mul-result c = omega (arith, few_leaves _ _ c.requires c.leaves.ensures)

pub returns : goal.returns
returns c = omega (arith, numbers_are c.args.m)
