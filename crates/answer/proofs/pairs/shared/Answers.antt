-- `shared` meets its contract.
use mathlib.Core.Path.{sym, ap, ◌∙◌}
use native.Mathlib.Omega.{arith}
use lib.IntN.{pos, ◌-ℤ◌}
use Rattle.word.specs.Row.{word_of}
use Rattle.index.specs.Shape.{height}
use Rattle.word.proofs.Signed.{zarith}
use Rattle.walk.specs.Backward.{backward}
use Rattle.answer.proofs.Walked.{row, node_in, range_near, backward_near}
use Rattle.answer.proofs.Told.{nearest_here, nearest_told}
use Rattle.answer.proofs.Casts.{through}
use Rattle.answer.proofs.pairs.shared.Goals as goal

pub range-r-requires : goal.range-r-requires
range-r-requires c = (c.requires.2, omega (arith, node_in (row c.args.of.now) c.requires.1))

pub answered-requires : goal.answered-requires
answered-requires c = omega (arith, node_in (row c.args.of.now) c.requires.0)

pub returns-then-at_least : goal.returns-then-at_least
returns-then-at_least c =
    let r = row c.args.of.now in
    let below = node_in r c.requires.1 in
    let t = range_near r _ _ c.requires.2 (omega arith) c.range-r.ensures in
    c.answered.ensures ∙ nearest_here r c.requires.2 (omega arith) c.range-r.ensures c.requires.0 c.requires.1
    (omega (zarith, t.least_back, sym c.at_least.ensures ∙ c.if-at_least.true))

pub backward-requires : goal.backward-requires
backward-requires c =
    let r = row c.args.of.now in
    let below = node_in r c.requires.1 in
    let t = range_near r _ _ c.requires.2 (omega arith) c.range-r.ensures in
    let by = through t.less_small (c.less_one-back.ensures ∙ ap (λ y. y -ℤ pos 1) t.least_back) in
    (omega (arith, node_in r c.requires.0), rw by t.less_small)

pub reached-requires : goal.reached-requires
reached-requires c =
    let r = row c.args.of.now in
    let below = node_in r c.requires.1 in
    let t = range_near r _ _ c.requires.2 (omega arith) c.range-r.ensures in
    (backward_near r _ _ (omega (arith, node_in r c.requires.0)) c.backward.ensures, omega (arith, t.few))

pub returns : goal.returns
returns c =
    let r = row c.args.of.now in
    let below = node_in r c.requires.1 in
    let t = range_near r _ _ c.requires.2 (omega arith) c.range-r.ensures in
    let x = c.args.of.now.lineage.row in
    let by = through t.less_small (c.less_one-back.ensures ∙ ap (λ y. y -ℤ pos 1) t.least_back) in
    c.reached.ensures ∙ nearest_told r c.requires.2 (omega arith) c.range-r.ensures c.requires.0 c.requires.1
    (omega (zarith, t.least_back, sym c.at_least.ensures ∙ c.if-at_least.false))
    (c.backward.ensures ∙ ap (backward (height x.m) (word_of x) c.args.a) by)
