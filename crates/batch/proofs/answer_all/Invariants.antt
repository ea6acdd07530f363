-- `answer_all` meets its contract: at each turn the question's own answer stands at its place. Assumes nothing.
use Rattle.batch.proofs.Turns.{Done}
use Rattle.batch.proofs.answer_all.Given as goal

abbrev pub invariant-loop-at : goal.invariant-loop-at
invariant-loop-at l = Done l.of.lineage.row.bytes.now l.of.lineage.row.m l.questions l.initial.answers l.answers l.at
