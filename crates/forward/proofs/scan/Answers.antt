-- `scan` meets its contract.
use mathlib.Core.Path.{sym, ◌∙◌}
use Prim.Native.Nat.{◌-◌}
use mir.Syntax.{w64}
use mir.Val.{to_z}
use mir.Facts.{to_z-of_z}
use Rattle.word.proofs.Signed.{zarith}
use Rattle.forward.proofs.Turns.{scan_end, turn_met, turn_next, turn_near}
use Rattle.forward.proofs.scan.Goals as goal

pub returns-then-t-eq0 : goal.returns-then-t-eq0
returns-then-t-eq0 c = let a = c.args in let at = c.loop-i in
    turn_met a.bytes.now a.to at.i (to_z w64 at.t-bits) c.from-t.result c.step.result _ (omega zarith)
    (omega zarith) c.from-t.ensures c.step.ensures c.opens.ensures c.if-t-eq0.true
    ∙ rw (to_z-of_z c.ranges.want) at at.invariant.2

pub loop-i-preserved : goal.loop-i-preserved
loop-i-preserved c = let a = c.args in let at = c.loop-i in (
  omega zarith,
  turn_near a.bytes.now a.to at.i (to_z w64 at.t-bits) c.from-t.result c.step.result _ (omega zarith)
      (omega zarith) c.from-t.ensures c.step.ensures c.opens.ensures _ _ at.invariant.1 (omega zarith),
  turn_next a.bytes.now a.to at.i (to_z w64 at.t-bits) c.from-t.result c.step.result _ (omega zarith)
      (omega zarith) c.from-t.ensures c.step.ensures c.opens.ensures c.if-t-eq0.false ∙ at.invariant.2,
)

pub returns : goal.returns
returns c = sym (scan_end c.args.bytes.now c.loop-i.i (c.args.to - c.loop-i.i) (to_z w64 c.loop-i.t-bits) (omega zarith))
    ∙ rw (to_z-of_z c.ranges.want) at c.loop-i.invariant.2
