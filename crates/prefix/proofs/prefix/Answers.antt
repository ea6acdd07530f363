-- `prefix` meets its contract.
use Rattle.std.proofs.Common.{rules}
use Rattle.word.proofs.Signed.{zarith}
use Rattle.prefix.proofs.Climb.{kept_start, kept_end, kept_on}
use Rattle.prefix.proofs.prefix.Goals as goal

pub loop-w-init : goal.loop-w-init
loop-w-init c = kept_start c.args.lineage.now c.args.p c.depth_of.result c.requires c.depth_of.type_inv c.depth_of.ensures

pub loop-w-preserved : goal.loop-w-preserved
loop-w-preserved c = let l = c.loop-w in
    let on = kept_on c.args.lineage.now c.args.p l.w l.invariant (omega zarith) c.before-in-loop-w.result c.before-in-loop-w.ensures in
    search (rules, on)

pub returns : goal.returns
returns c = kept_end c.args.lineage.now c.args.p c.loop-w.w c.loop-w.invariant (omega zarith)
