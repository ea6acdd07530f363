-- `select` meets its contract.
use Rattle.word.proofs.Signed.{zarith}
use Rattle.select.proofs.Descent.{block_near, kept_end, over, kept_on}
use Rattle.select.proofs.select.Goals as goal

pub down-v-requires : goal.down-v-requires
down-v-requires c = over c.args.lineage.now c.args.r c.loop-v.v c.loop-v.invariant (omega zarith)

pub loop-v-preserved : goal.loop-v-preserved
loop-v-preserved c = kept_on c.args.lineage.now c.args.r c.loop-v.v c.loop-v.invariant (omega zarith) c.down-v.result c.down-v.ensures

pub end_of-requires : goal.end_of-requires
end_of-requires c = omega (zarith, block_near c.args.lineage.now c.args.r c.loop-v.v c.loop-v.invariant)

pub overflow_mul-b : goal.overflow_mul-b
overflow_mul-b c = omega (zarith, block_near c.args.lineage.now c.args.r c.loop-v.v c.loop-v.invariant)

pub returns : goal.returns
returns c = rw c.scan.ensures
    (kept_end c.args.lineage.now c.args.r c.loop-v.v c.loop-v.invariant (omega zarith) c.end_of.result c.end_of.ensures)
