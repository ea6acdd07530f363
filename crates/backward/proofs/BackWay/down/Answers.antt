-- `down` meets its contract.
use mathlib.Core.Path.{sym, ◌∙◌}
use Prim.Native.Nat.{◌+◌, ◌*◌}
use Rattle.std.proofs.Common.{rules, arith}
use Rattle.walk.specs.Way.{entries}
use Rattle.walk.proofs.Machine.{small_back}
use Rattle.walk.proofs.Beside.{read_own}
use Rattle.backward.proofs.Sinking.{right, left}
use Rattle.backward.proofs.BackWay.down.Goals as goal

pub returns-then-ends_well : goal.returns-then-ends_well
returns-then-ends_well c = let w = c.args.w in
    let own = c.read-right.ensures ∙ read_own _ _ _ _ c.args.lineage.now.lent (2 * w.entry + 1) (w.reads + 1) (omega arith) in
    let h = right (entries c.args.lineage.now.row) c.args.lineage.now.l w c.requires.0 c.read-right.result own
    (rw (small_back w.want (omega arith)) at (sym c.ends_well.ensures ∙ c.if-ends_well.true)) in search (rules, h)

pub returns-else-ends_well : goal.returns-else-ends_well
returns-else-ends_well c = let w = c.args.w in
    let own = c.read-right.ensures ∙ read_own _ _ _ _ c.args.lineage.now.lent (2 * w.entry + 1) (w.reads + 1) (omega arith) in
    let h = left (entries c.args.lineage.now.row) c.args.lineage.now.l w c.requires.0 c.read-right.result own
    (rw (small_back w.want (omega arith)) at (sym c.ends_well.ensures ∙ c.if-ends_well.false)) in search (rules, h)
