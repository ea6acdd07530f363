-- `same` meets its contract: at each turn the entries from k on have been found right. Assumes nothing.
use mathlib.Core.Path.{sym, ◌∙◌}
use native.Mathlib.Omega.{arith}
use Rattle.index.proofs.Height.{few_leaves}
use Rattle.entry.proofs.Entries.{room}
use Rattle.same.proofs.Checked.{same_next, same_not, same_all}
use Rattle.same.proofs.same.Goals as goal

pub overflow_step-k : goal.overflow_step-k
overflow_step-k c = omega (arith, few_leaves _ _ c.requires.size c.leaves-l.ensures)

pub read-requires : goal.read-requires
read-requires c = let l = c.loop-k in omega (arith, room _ _ _ _ _ l.invariant, l.invariant.inside)

pub returns-then-ne : goal.returns-then-ne
returns-then-ne c = same_not _ _ _ _ _ _ _ c.loop-k.invariant (omega arith) c.own-s.ensures c.read.ensures (sym c.ne.ensures ∙ c.if-ne.true)

pub loop-k-preserved : goal.loop-k-preserved
loop-k-preserved c =
    same_next _ _ _ _ _ _ _ c.loop-k.invariant (omega arith) c.own-s.ensures c.read.ensures (sym c.ne.ensures ∙ c.if-ne.false)

pub returns : goal.returns
returns c = same_all _ _ _ _ _ c.loop-k.invariant (omega arith)
