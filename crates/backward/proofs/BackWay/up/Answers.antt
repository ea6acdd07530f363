-- `up` meets its contract.
use mathlib.Core.Path.{sym, ◌∙◌}
use Rattle.std.proofs.Common.{rules, arith}
use Rattle.walk.specs.Way.{entries}
use Rattle.walk.proofs.Machine.{small_back}
use Rattle.walk.proofs.Beside.{before_own}
use Rattle.backward.proofs.Climbing.{into, past}
use Rattle.backward.proofs.BackWay.up.Goals as goal

pub returns-then-ends_well : goal.returns-then-ends_well
returns-then-ends_well c = let w = c.args.w in
    let own = c.before-s.ensures ∙ before_own _ _ _ _ c.args.lineage.now.lent w.entry w.reads (omega arith) in
    let h = into (entries c.args.lineage.now.row) w (omega arith) c.before-s.result own
    (rw (small_back w.want (omega arith)) at (sym c.ends_well.ensures ∙ c.if-ends_well.true)) in search (rules, h)

pub returns-else-ends_well : goal.returns-else-ends_well
returns-else-ends_well c = let w = c.args.w in
    let own = c.before-s.ensures ∙ before_own _ _ _ _ c.args.lineage.now.lent w.entry w.reads (omega arith) in
    let h = past (entries c.args.lineage.now.row) w (omega arith) c.before-s.result own
    (rw (small_back w.want (omega arith)) at (sym c.ends_well.ensures ∙ c.if-ends_well.false)) in search (rules, h)
