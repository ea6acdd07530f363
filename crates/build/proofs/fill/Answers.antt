-- `fill` meets its contract: at each turn the entries from k on are laid over what the slice held. Assumes nothing.
use mathlib.Core.Path.{◌≡◌}
use Prim.Native.Nat.{◌+◌, ◌-◌}
use native.Mathlib.Omega.{arith}
use Rattle.index.proofs.Height.{few_leaves}
use Rattle.entry.proofs.Entries.{room}
use Rattle.build.proofs.Filled.{fill_none, fill_known, fill_next, fill_all}
use Rattle.build.proofs.fill.Goals as goal

pub overflow_step-k : goal.overflow_step-k
overflow_step-k c = omega (arith, few_leaves _ _ c.requires.size c.leaves-l.ensures)

pub loop-k-init : goal.loop-k-init
loop-k-init c = fill_none _ _ _ _ c.requires c.leaves-l.ensures

pub own-s-requires : goal.own-s-requires
own-s-requires c = let l = c.loop-k in let e : l.k - 1 + 1 ≡ l.k = omega arith in rw e (fill_known _ _ _ _ _ _ l.invariant)

pub put-requires : goal.put-requires
put-requires c = let l = c.loop-k in omega (arith, room _ _ _ _ _ (fill_known _ _ _ _ _ _ l.invariant), l.invariant.inside)

pub loop-k-preserved : goal.loop-k-preserved
loop-k-preserved c =
    fill_next _ _ _ _ _ _ _ _ c.loop-k.invariant (omega arith) c.own-s.ensures c.put.ensures

pub returns : goal.returns
returns c = fill_all _ _ _ _ _ _ c.loop-k.invariant (omega arith)
