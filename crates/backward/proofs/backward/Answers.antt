-- `backward` meets its contract.
use mathlib.Core.Path.{ap, ◌∙◌}
use Prim.Native.Nat.{◌-◌}
use mir.Facts.{to_z-of_z}
use Rattle.std.proofs.Common.{rules}
use Rattle.word.specs.Bits.{bit, word}
use Rattle.word.proofs.Signed.{zarith}
use Rattle.summary.specs.Stretch.{step}
use Rattle.index.specs.Shape.{height}
use Rattle.walk.proofs.Machine.{back64, more_step}
use Rattle.backward.proofs.Whole.{none_before, found_near, begin, found_far}
use Rattle.backward.proofs.backward.Goals as goal

pub returns-then-p-eq0 : goal.returns-then-p-eq0
returns-then-p-eq0 c =
    let row = c.args.lineage.now.row in none_before (height row.m) (word row.bytes.now row.m) c.args.p c.args.want c.if-p-eq0.true

pub onward-requires : goal.onward-requires
onward-requires c = let a = c.args in let row = a.lineage.now.row in
    let u = more_step a.want c.from.result c.step.result (bit row.bytes.now (a.p - 1)) (omega zarith) c.from.ensures
    (c.step.ensures ∙ ap step c.opens.ensures) in
    begin row.bytes.now a.lineage.now.index.now row.m a.lineage.now.l a.p a.want a.lineage.now.lent c.requires.0 c.if-p-eq0.false
    c.requires.1 _ u c.scan_down.result (rw (to_z-of_z c.ranges.want) at c.scan_down.ensures) _ _ c.in-Err.is (search (rules, back64))

pub returns-in-Ok : goal.returns-in-Ok
returns-in-Ok c = let a = c.args in let row = a.lineage.now.row in
    let u = more_step a.want c.from.result c.step.result (bit row.bytes.now (a.p - 1)) (omega zarith) c.from.ensures
    (c.step.ensures ∙ ap step c.opens.ensures) in
    found_near row.bytes.now a.lineage.now.index.now row.m a.lineage.now.l a.p a.want a.lineage.now.lent c.requires.0 c.if-p-eq0.false
    c.requires.1 _ u c.scan_down.result (rw (to_z-of_z c.ranges.want) at c.scan_down.ensures) _ c.in-Ok.is

pub returns-in-Err : goal.returns-in-Err
returns-in-Err c = let a = c.args in let row = a.lineage.now.row in
    let u = more_step a.want c.from.result c.step.result (bit row.bytes.now (a.p - 1)) (omega zarith) c.from.ensures
    (c.step.ensures ∙ ap step c.opens.ensures) in
    c.onward.ensures
    ∙ found_far row.bytes.now a.lineage.now.index.now row.m a.lineage.now.l a.p a.want a.lineage.now.lent c.requires.0 c.if-p-eq0.false
    c.requires.1 _ u c.scan_down.result (rw (to_z-of_z c.ranges.want) at c.scan_down.ensures) _ _ c.in-Err.is (search (rules, back64))
