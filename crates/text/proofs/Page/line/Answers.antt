-- `line` meets its contract: three numbers, one after the other. Assumes nothing.
use Rattle.std.proofs.Common.{arith}
use Rattle.text.proofs.Numbers.{number_few}
use Rattle.text.proofs.Put.{writes_long, writes_append}
use Rattle.text.proofs.Page.line.Goals as goal

pub number-requires-3 : goal.number-requires-3
number-requires-3 c =
    let p = c.number.ensures in
    let q = c.number-2.ensures in
    omega (arith, p.put.end_is, q.put.end_is, writes_long _ _ _ p, writes_long _ _ _ q, number_few c.args.code 32, number_few c.args.res 32)

pub returns : goal.returns
returns c = writes_append _ _ _ _ _ c.number.ensures (writes_append _ _ _ _ _ c.number-2.ensures c.number-3.ensures)
