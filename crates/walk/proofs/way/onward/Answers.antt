-- `onward` meets its contract.
use mathlib.Core.Path.{◌∙◌}
use Rattle.walk.proofs.Room.{footing}
use Rattle.walk.proofs.Whole.{held, leaf_there, landing, entered}
use Rattle.walk.proofs.way.onward.Goals as goal

pub climb-requires : goal.climb-requires
climb-requires g c = footing _ _ _ _ c.args.start c.args.lineage.now.lent c.requires

pub descend-w-requires : goal.descend-w-requires
descend-w-requires g c =
    held g.W.Way.laws _ _ _ _ c.args.start c.args.lineage.now.lent c.requires c.climb.result c.climb.ensures _ c.in-Enter.is

pub leaf-requires : goal.leaf-requires
leaf-requires g c = leaf_there g.W.Way.laws _ _ _ _ c.args.start c.args.lineage.now.lent c.requires c.climb.result c.climb.ensures _
    c.in-Enter.is c.descend-w.result c.descend-w.ensures

pub returns-in-Top : goal.returns-in-Top
returns-in-Top g c = c.top.ensures _ _
    ∙ landing g.W.Way.laws _ _ _ _ c.args.start c.args.lineage.now.lent c.requires c.climb.result c.climb.ensures _ c.in-Top.is

pub returns-in-Enter : goal.returns-in-Enter
returns-in-Enter g c = c.leaf.ensures
    ∙ entered g.W.Way.laws _ _ _ _ c.args.start c.args.lineage.now.lent c.requires c.climb.result c.climb.ensures _ c.in-Enter.is
    c.descend-w.result c.descend-w.ensures
