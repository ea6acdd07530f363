-- `down` meets its contract.
use mathlib.Core.Path.{sym, ◌∙◌}
use Prim.Native.Nat.{◌+◌, ◌*◌}
use Rattle.std.proofs.Common.{rules, arith}
use Rattle.walk.specs.Way.{entries}
use Rattle.walk.proofs.Machine.{small_back}
use Rattle.walk.proofs.Beside.{read_own}
use Rattle.forward.proofs.Sinking.{left, right}
use Rattle.forward.proofs.AheadWay.down.Goals as goal

pub returns-then-holds : goal.returns-then-holds
returns-then-holds c = let w = c.args.w in
    let own = c.read-left.ensures ∙ read_own _ _ _ _ c.args.lineage.now.lent (2 * w.entry) (w.reads + 1) (omega arith) in
    let h = left (entries c.args.lineage.now.row) c.args.lineage.now.l w c.requires.0 c.read-left.result own
    (rw (small_back w.want (omega arith)) at (sym c.holds.ensures ∙ c.if-holds.true)) in search (rules, h)

pub returns-else-holds : goal.returns-else-holds
returns-else-holds c = let w = c.args.w in
    let own = c.read-left.ensures ∙ read_own _ _ _ _ c.args.lineage.now.lent (2 * w.entry) (w.reads + 1) (omega arith) in
    let h = right (entries c.args.lineage.now.row) c.args.lineage.now.l w c.requires.0 c.read-left.result own
    (rw (small_back w.want (omega arith)) at (sym c.holds.ensures ∙ c.if-holds.false)) in search (rules, h)
