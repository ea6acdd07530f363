-- `forward` meets its contract.
use mathlib.Core.Path.{◌∙◌}
use mir.Facts.{to_z-of_z}
use Rattle.std.proofs.Common.{rules}
use Rattle.walk.proofs.Machine.{back64}
use Rattle.forward.proofs.Whole.{begin, found_near, found_far}
use Rattle.forward.proofs.forward.Goals as goal

pub onward-requires : goal.onward-requires
onward-requires c = let a = c.args in
    begin a.lineage.now.row.bytes.now a.lineage.now.index.now a.lineage.now.row.m a.lineage.now.l a.p a.want a.lineage.now.lent c.requires.0
    c.requires.1 c.end_of.result c.end_of.ensures c.scan.result
    (rw (to_z-of_z c.ranges.want) at c.scan.ensures) _ _ c.in-Err.is
    (search (rules, back64))

pub returns-in-Ok : goal.returns-in-Ok
returns-in-Ok c = let a = c.args in
    found_near a.lineage.now.row.bytes.now a.lineage.now.index.now a.lineage.now.row.m a.lineage.now.l a.p a.want a.lineage.now.lent
    c.requires.0 c.requires.1 c.end_of.result c.end_of.ensures c.scan.result
    (rw (to_z-of_z c.ranges.want) at c.scan.ensures) _ c.in-Ok.is

pub returns-in-Err : goal.returns-in-Err
returns-in-Err c = let a = c.args in
    c.onward.ensures ∙ found_far a.lineage.now.row.bytes.now a.lineage.now.index.now a.lineage.now.row.m a.lineage.now.l a.p a.want
    a.lineage.now.lent c.requires.0 c.requires.1 c.end_of.result c.end_of.ensures c.scan.result
    (rw (to_z-of_z c.ranges.want) at c.scan.ensures) _ _ c.in-Err.is
    (search (rules, back64))
