-- `depth_of` meets its contract.
use Rattle.std.proofs.Common.{rules}
use Rattle.summary.proofs.Meaning.{total_is}
use Rattle.prefix.proofs.depth_of.Goals as goal

pub returns : goal.returns
returns c = search (rules, total_is)
