-- `lower` meets its contract.
use mathlib.Core.Path.{sym, ap, ◌∙◌}
use native.Mathlib.Omega.{arith}
use Rattle.word.specs.Row.{word_of}
use Rattle.index.specs.Shape.{height}
use Rattle.word.proofs.Signed.{zarith}
use Rattle.walk.specs.Forward.{forward}
use Rattle.answer.proofs.Walked.{row, range_near, forward_near}
use Rattle.answer.proofs.Told.{lowest_here, lowest_told}
use Rattle.answer.proofs.Casts.{through}
use Rattle.answer.proofs.pairs.lower.Goals as goal

pub returns-then-at_least : goal.returns-then-at_least
returns-then-at_least c =
    let r = row c.args.of.now in
    let t = range_near r _ _ c.requires.0 c.requires.1 c.range-r.ensures in
    c.answered.ensures ∙ lowest_here r c.requires.0 c.requires.1 c.range-r.ensures
    (omega (zarith, t.least_back, sym c.at_least.ensures ∙ c.if-at_least.true))

pub forward-requires : goal.forward-requires
forward-requires c =
    let r = row c.args.of.now in
    let t = range_near r _ _ c.requires.0 c.requires.1 c.range-r.ensures in
    let by = through t.least_small (c.from-by.ensures ∙ t.least_back) in
    (omega (arith, c.requires), rw by t.least_small)

pub reached-requires : goal.reached-requires
reached-requires c =
    let r = row c.args.of.now in
    let t = range_near r _ _ c.requires.0 c.requires.1 c.range-r.ensures in
    (forward_near r _ _ (omega (arith, c.requires)) c.forward.ensures, omega (arith, t.few))

pub returns : goal.returns
returns c =
    let r = row c.args.of.now in
    let t = range_near r _ _ c.requires.0 c.requires.1 c.range-r.ensures in
    let x = c.args.of.now.lineage.row in
    let by = through t.least_small (c.from-by.ensures ∙ t.least_back) in
    c.reached.ensures ∙ lowest_told r c.requires.0 c.requires.1 c.range-r.ensures
    (omega (zarith, t.least_back, sym c.at_least.ensures ∙ c.if-at_least.false))
    (c.forward.ensures ∙ ap (forward (height x.m) (word_of x) c.args.a) by)
