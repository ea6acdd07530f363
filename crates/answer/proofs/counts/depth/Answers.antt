-- `depth` meets its contract.
use mathlib.Core.Path.{ap, ◌∙◌}
use native.Mathlib.Omega.{arith}
use Rattle.question.specs.Reply.{gives}
use Rattle.answer.specs.Ready.{replied}
use Rattle.answer.proofs.Walked.{row, node_in}
use Rattle.answer.proofs.Told.{deep, depth_told}
use Rattle.answer.proofs.counts.depth.Goals as goal

pub prefix-d-requires : goal.prefix-d-requires
prefix-d-requires c = node_in (row c.args.of.now) c.requires

pub overflow_cast-d : goal.overflow_cast-d
overflow_cast-d c = let t = deep (row c.args.of.now) c.requires c.prefix-d.ensures in rw t.back t.fits

pub answered-requires : goal.answered-requires
answered-requires c = let t = deep (row c.args.of.now) c.requires c.prefix-d.ensures in omega (arith, t.low, t.cast)

pub returns : goal.returns
returns c = let t = deep (row c.args.of.now) c.requires c.prefix-d.ensures in
    c.answered.ensures ∙ ap (λ i. replied (gives i) c.prefix-d.result.reads) t.cast
    ∙ depth_told (row c.args.of.now) c.requires c.prefix-d.ensures
