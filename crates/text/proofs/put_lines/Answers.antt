-- `text::put_lines` meets its contract: one answer further, its line is put and the others are still to come. Assumes nothing.
use mathlib.Core.Path.{◌≡◌, ◌∙◌, ap}
use Prim.Native.Nat.{◌+◌}
use native.Mathlib.Omega.{arith}
use lib.ListN.{length, length-append}
use Rattle.text.proofs.Put.{writes_long, left_step}
use Rattle.text.proofs.Lines.{lines_step, line_few}
use Rattle.text.proofs.put_lines.Goals as goal

pub loop-a-preserved : goal.loop-a-preserved
loop-a-preserved c =
    let l = c.loop-a in
    let i = l.invariant in
    let p = c.line.ensures in
    let a = c.in-Some.a.now in
    let rest = c.next.new.self.rest.now in
    let step = c.in-Some.ensures.steps in
    let three : length a ≡ 3 = step.1.1 ∙ i.threes in
    let shorter : length l.a-iterator.rest.now ≡ 3 + length rest = omega (arith, three, ap length step.1.0, length-append a rest) in
    record {
      threes = step.0 ∙ i.threes;
      thirds = omega arith;
      room = omega (arith, p.put.end_is, line_few);
      long = writes_long _ _ _ p ∙ i.long;
      same = p.same ∙ i.same;
      left = left_step _ _ _ _ _ _ _ _ (rw (step.1.0, lines_step a rest three) at i.left) p.put;
    }
