-- `scan_down` meets its contract: what is left of the scan gives what the whole gives.
use mathlib.Core.Path.{sym, ◌∙◌}
use Prim.Native.Nat.{◌-◌}
use mir.Syntax.{w64}
use mir.Val.{to_z}
use mir.Facts.{to_z-of_z}
use Rattle.word.proofs.Signed.{zarith}
use Rattle.walk.proofs.Machine.{zero_wanted, other_wanted}
use Rattle.backward.proofs.Scan.{scan_end, turn_met, turn_next, turn_near}
use Rattle.backward.proofs.scan_down.Goals as goal

pub returns-then-t-eq0 : goal.returns-then-t-eq0
returns-then-t-eq0 c = turn_met c.args.bytes.now c.args.from c.loop-i.i _ (omega zarith) (zero_wanted c.if-t-eq0.true)
    ∙ rw (to_z-of_z c.ranges.want) at c.loop-i.invariant.2

pub loop-i-preserved : goal.loop-i-preserved
loop-i-preserved c = let a = c.args in let at = c.loop-i in (
  omega zarith,
  turn_near a.bytes.now a.from at.i (to_z w64 at.t-bits) (omega zarith) c.from-t.result c.step.result _
      (omega zarith) c.from-t.ensures c.step.ensures c.opens.ensures _ _ at.invariant.1 (omega zarith),
  turn_next a.bytes.now a.from at.i (to_z w64 at.t-bits) (omega zarith) c.from-t.result c.step.result _
      (omega zarith) c.from-t.ensures c.step.ensures c.opens.ensures (other_wanted at.auto.t c.if-t-eq0.false) ∙ at.invariant.2,
)

pub returns : goal.returns
returns c = sym (scan_end c.args.bytes.now c.args.from (c.loop-i.i - c.args.from) (to_z w64 c.loop-i.t-bits) (omega zarith))
    ∙ rw (to_z-of_z c.ranges.want) at c.loop-i.invariant.2
