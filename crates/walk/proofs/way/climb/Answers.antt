-- `climb` meets its contract: what is left of the climb gives what the whole gives.
use Rattle.walk.proofs.Room.{climbed_top, climbed_enter, climb_on}
use Rattle.walk.proofs.way.climb.Goals as goal

pub loop-w-preserved : goal.loop-w-preserved
loop-w-preserved g c = climb_on _ c.args.start c.loop-w.w c.loop-w.invariant c.if-w-eq1.false c.in-Continue.next c.in-Continue.ensures

pub returns-in-Break : goal.returns-in-Break
returns-in-Break g c = climbed_enter _ c.args.start c.loop-w.w c.loop-w.invariant c.if-w-eq1.false c.in-Break.beside c.in-Break.ensures

pub returns-then-w-eq1 : goal.returns-then-w-eq1
returns-then-w-eq1 g c = climbed_top _ c.args.start c.loop-w.w c.loop-w.invariant (λ s. g.W.Way.laws.root _ s c.loop-w.w c.if-w-eq1.true)
