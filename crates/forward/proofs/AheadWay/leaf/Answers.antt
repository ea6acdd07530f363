-- `leaf` meets its contract.
use mathlib.Core.Path.{◌∙◌}
use Rattle.walk.proofs.Machine.{small_back}
use Rattle.forward.proofs.Ends.{leaf_is}
use Rattle.forward.proofs.AheadWay.leaf.Goals as goal

pub returns : goal.returns
returns c = let a = c.args in let row = a.lineage.now.row in
    c.met.ensures ∙ leaf_is row.bytes.now row.m a.lineage.now.l a.w c.end_of.result c.scan-s.result c.end_of.ensures
    (rw (small_back a.w.want c.requires.2) at c.scan-s.ensures)
