-- `same` meets its contract: at each turn the entries from k on have been found right. Assumes nothing.
use Rattle.entry.specs.Known.{Known}
use Rattle.same.proofs.same.Given as goal

abbrev pub invariant-loop-k : goal.invariant-loop-k
invariant-loop-k l = Known l.row.bytes.now l.row.m l.l l.index l.k
