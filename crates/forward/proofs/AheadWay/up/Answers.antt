-- `up` meets its contract.
use mathlib.Core.Path.{sym, ◌∙◌}
use Rattle.std.proofs.Common.{rules, arith}
use Rattle.walk.specs.Way.{entries}
use Rattle.walk.proofs.Machine.{small_back}
use Rattle.walk.proofs.Beside.{after_own}
use Rattle.forward.proofs.Climbing.{into, past}
use Rattle.forward.proofs.AheadWay.up.Goals as goal

pub returns-then-holds : goal.returns-then-holds
returns-then-holds c = let w = c.args.w in
    let own = c.after-s.ensures ∙ after_own _ _ _ _ c.args.lineage.now.lent w.entry w.reads (omega arith) in
    let h = into (entries c.args.lineage.now.row) w (omega arith) c.after-s.result own
    (rw (small_back w.want (omega arith)) at (sym c.holds.ensures ∙ c.if-holds.true)) in search (rules, h)

pub returns-else-holds : goal.returns-else-holds
returns-else-holds c = let w = c.args.w in
    let own = c.after-s.ensures ∙ after_own _ _ _ _ c.args.lineage.now.lent w.entry w.reads (omega arith) in
    let h = past (entries c.args.lineage.now.row) w (omega arith) c.after-s.result own
    (rw (small_back w.want (omega arith)) at (sym c.holds.ensures ∙ c.if-holds.false)) in search (rules, h)
