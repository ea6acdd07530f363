-- `both` joins as the rule says: each sum fits, and each number is read back. Assumes nothing.
use Rattle.summary.proofs.Machine.{held, made, back_small, add_small, count_small}
use Rattle.std.proofs.Common.{rules}
use Rattle.summary.proofs.both.Goals as goal

pub overflow_add-result-2 : goal.overflow_add-result-2
overflow_add-result-2 c =
    let here = c.counted-here in
    let there = c.counted-there in
    add_small here.result there.result (count_small _ _ _ _ here.ensures (search (rules, back_small))) (count_small _ _ _ _ there.ensures (search (rules, back_small)))

pub returns : goal.returns
returns c =
    let least = c.min-least in
    let greatest = c.max in
    made c.args.x c.args.y c.requires.0 c.requires.1 least.result c.counted-here.result c.counted-there.result greatest.result
    (held least.type_inv least.ensures.value)
    c.counted-here.ensures
    c.counted-there.ensures
    (held greatest.type_inv greatest.ensures.value)
