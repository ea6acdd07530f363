-- `fill` meets its contract: at each turn the entries from k on are laid over what the slice held. Assumes nothing.
use Rattle.build.proofs.Filled.{Filled}
use Rattle.build.proofs.fill.Given as goal

abbrev pub invariant-loop-k : goal.invariant-loop-k
invariant-loop-k l = Filled l.row.bytes.now l.row.m l.l l.initial.index l.index l.k
