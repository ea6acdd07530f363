-- The loop of `bits_of`: one bit more. Assumes nothing.
use mathlib.Core.Path.{ap, ◌∙◌}
use mathlib.Core.List.{[], ◌∷◌}
use Prim.Native.Nat.{◌-◌}
use native.Mathlib.Omega.{arith}
use Rattle.summary.specs.Stretch.{summary_of}
use Rattle.summary.specs.Join.{empty_of}
use Rattle.table.proofs.Part.{starts, fits, goes_on}
use Rattle.table.proofs.bits_of.Goals as goal

pub loop-i-init : goal.loop-i-init
unfolding empty_of
loop-i-init c = starts c.args.bytes.now c.args.from (c.args.from - c.args.from) (omega arith)

pub join-s-requires : goal.join-s-requires
join-s-requires c =
    let a = c.args in
    let l = c.loop-i in
    (fits a.bytes.now a.from (l.i - a.from) l.invariant (omega arith), fits a.bytes.now l.i 1 (c.of_bit.ensures ∙ ap (λ b. summary_of (b ∷ [])) c.opens.ensures) (omega arith))

pub loop-i-preserved : goal.loop-i-preserved
loop-i-preserved c =
    let a = c.args in
    let l = c.loop-i in
    c.join-s.ensures ∙ goes_on a.bytes.now a.from (l.i - a.from) l.invariant l.i 1 _ (c.of_bit.ensures ∙ ap (λ b. summary_of (b ∷ [])) c.opens.ensures) (omega arith) (omega arith)
