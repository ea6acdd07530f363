-- `own` meets its contract: entry 0, a leaf, or the join of two entries that are known. Assumes nothing.
use native.Mathlib.Omega.{arith}
use Rattle.summary.specs.Join.{empty_of}
use Rattle.entry.proofs.Entries.{few, room, read_bounded, own_zero, own_leaf, own_joins}
use Rattle.entry.proofs.own.Goals as goal

pub returns-then-k-eq0 : goal.returns-then-k-eq0
unfolding empty_of
returns-then-k-eq0 c = own_zero _ _ _ c.if-k-eq0.true

pub block-requires : goal.block-requires
block-requires c = let p = c.requires in (p.lent.size, omega (arith, p.inside, few _ _ _ _ _ p))

pub returns-then-l-k : goal.returns-then-l-k
returns-then-l-k c = own_leaf _ _ _ _ _ c.requires _ c.if-l-k.true c.block.ensures

pub overflow_mul-k : goal.overflow_mul-k
overflow_mul-k c = omega (arith, few _ _ _ _ _ c.requires)

pub read-left-requires : goal.read-left-requires
read-left-requires c = omega (arith, room _ _ _ _ _ c.requires)

pub overflow_mul-k-2 : goal.overflow_mul-k-2
overflow_mul-k-2 c = omega (arith, few _ _ _ _ _ c.requires)

pub overflow_add-k : goal.overflow_add-k
overflow_add-k c = omega (arith, few _ _ _ _ _ c.requires)

pub read-right-requires : goal.read-right-requires
read-right-requires c = omega (arith, room _ _ _ _ _ c.requires)

pub join-requires : goal.join-requires
join-requires c =
    let p = c.requires in
    (read_bounded _ _ _ _ _ p _ _ (omega arith) (omega arith) c.read-left.ensures, read_bounded _ _ _ _ _ p _ _ (omega arith) (omega arith) c.read-right.ensures)

pub returns : goal.returns
returns c =
    own_joins _ _ _ _ _ c.requires _ _ _ c.if-k-eq0.false c.if-l-k.false
    c.read-left.ensures c.read-right.ensures c.join.ensures
