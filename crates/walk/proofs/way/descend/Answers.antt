-- `descend` meets its contract: what is left of the way down gives what the whole gives.
use Rattle.walk.proofs.Room.{sunk, sink_on}
use Rattle.walk.proofs.way.descend.Goals as goal

pub loop-w-preserved : goal.loop-w-preserved
loop-w-preserved g c =
    sink_on _ c.args.lineage.now.l c.args.start c.loop-w.w c.loop-w.invariant c.loop-w-test.true c.down-w.result c.down-w.ensures

pub returns : goal.returns
returns g c = sunk _ c.args.lineage.now.l c.args.start c.loop-w.w c.loop-w.invariant c.loop-w-test.false
    (λ s. g.W.Way.laws.bottom _ c.args.lineage.now.l s c.loop-w.w c.loop-w-test.false)
