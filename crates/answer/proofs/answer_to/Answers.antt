-- `answer_to` meets its contract: in each arm the question is that arm's, and its places were checked.
use mathlib.Core.Path.{subst}
use native.Mathlib.Omega.{arith}
use Rattle.word.specs.Row.{word_of}
use Rattle.question.specs.Places.{Sound}
use Rattle.answer.proofs.Walked.{long, row}
use Rattle.answer.proofs.answer_to.Goals as goal

pub lowest-requires : goal.lowest-requires
lowest-requires c =
    let p = subst (Sound (word_of c.args.of.now.lineage.row)) c.in-Lowest.is c.requires in
    (p.0, omega (arith, p, long (row c.args.of.now)))
