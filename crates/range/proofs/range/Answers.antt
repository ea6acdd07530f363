-- `range` meets its contract.
use native.Mathlib.Omega.{arith}
use Rattle.range.proofs.Climb.{near, kept_start, bounded_left, bounded_right, kept_end, joins, kept_on}
use Rattle.range.proofs.range.Goals as goal

pub returns-then-i-j : goal.returns-then-i-j
returns-then-i-j c = let a = c.args in near a.lineage.now a.a a.b c.requires.0 c.requires.1 c.stretch.result (omega arith) c.stretch.ensures

pub loop-v-init : goal.loop-v-init
loop-v-init c = let a = c.args in
    kept_start a.lineage.now a.a a.b c.requires.0 c.requires.1 c.stretch-2.result c.stretch-3.result
    (omega arith) c.stretch-2.ensures c.stretch-3.ensures

pub up-v-requires : goal.up-v-requires
up-v-requires c = let a = c.args in joins a.lineage.now a.a a.b c.loop-v.v c.loop-v.invariant

pub loop-v-preserved : goal.loop-v-preserved
loop-v-preserved c =
    let a = c.args in kept_on a.lineage.now a.a a.b c.loop-v.v c.loop-v.invariant (omega arith) c.up-v.result c.up-v.ensures

pub join-requires : goal.join-requires
join-requires c = let a = c.args in
    (bounded_left a.lineage.now a.a a.b c.loop-v.v c.loop-v.invariant, bounded_right a.lineage.now a.a a.b c.loop-v.v c.loop-v.invariant)

pub returns : goal.returns
returns c = let a = c.args in rw c.join.ensures (kept_end a.lineage.now a.a a.b c.loop-v.v c.loop-v.invariant (omega arith))
