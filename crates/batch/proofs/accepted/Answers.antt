-- `accepted` meets its contract: past the refusals, what is lent is a row and its own index. Assumes nothing.
use Rattle.std.proofs.Common.{rules}
use Rattle.batch.proofs.Refusals.{lent_of}
use Rattle.batch.proofs.accepted.Goals as goal

pub invariant_of-lineage : goal.invariant_of-lineage
invariant_of-lineage c = record { lent = lent_of _ _ _ _ (search rules) (search rules) c.leaves-l.ensures (search rules) }
