-- `holds` meets its contract.
use Rattle.std.proofs.Common.{rules}
use Rattle.walk.proofs.Held.{empty_held, full_held}
use Rattle.walk.proofs.holds.Goals as goal

pub returns-then-s-eq0 : goal.returns-then-s-eq0
returns-then-s-eq0 c = search (rules, empty_held)

pub returns-then-from-want : goal.returns-then-from-want
returns-then-from-want c =
    let h = full_held c.args.s c.args.want c.from.result c.from-then-from-want.result in let t = c.if-from-want.true in search (rules, h)
