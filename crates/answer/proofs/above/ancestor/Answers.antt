-- `ancestor` meets its contract.
use mathlib.Core.Path.{ap, ◌∙◌}
use native.Mathlib.Omega.{arith}
use Rattle.word.specs.Row.{word_of}
use Rattle.index.specs.Shape.{height}
use Rattle.walk.specs.Backward.{backward}
use Rattle.answer.proofs.Walked.{row, node_in, backward_near}
use Rattle.answer.proofs.Told.{self_told, ancestor_told}
use Rattle.answer.proofs.Casts.{back_near, back_is, through}
use Rattle.answer.proofs.above.ancestor.Goals as goal

pub answered-requires : goal.answered-requires
answered-requires c =
    let r = row c.args.of.now in
    omega (arith, node_in r c.requires)

pub returns-then-b-eq0 : goal.returns-then-b-eq0
returns-then-b-eq0 c =
    let r = row c.args.of.now in
    c.answered.ensures ∙ self_told r c.requires c.if-b-eq0.true

pub backward-requires : goal.backward-requires
backward-requires c =
    let r = row c.args.of.now in
    let near = back_near c.args.b c.ranges.b in
    (omega (arith, node_in r c.requires), rw (through near (back_is c.args.b c.ranges.b c.from.ensures)) near)

pub reached-requires : goal.reached-requires
reached-requires c =
    let r = row c.args.of.now in
    (backward_near r _ _ (omega (arith, node_in r c.requires)) c.backward.ensures, omega arith)

pub returns : goal.returns
returns c =
    let r = row c.args.of.now in
    let a = c.args in
    let x = a.of.now.lineage.row in
    let by = through (back_near a.b c.ranges.b) (back_is a.b c.ranges.b c.from.ensures) in
    c.reached.ensures ∙ ancestor_told r c.requires a.b c.if-b-eq0.false (c.backward.ensures ∙ ap (backward (height x.m) (word_of x) a.a) by)
