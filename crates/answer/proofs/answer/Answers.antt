-- `answer` meets its contract: decoding has checked the places.
use mathlib.Core.Path.{sym, ap, ◌∙◌}
use Rattle.word.specs.Row.{word_of}
use Rattle.judge.specs.Numbered.{numbered}
use Rattle.question.specs.Fault.{number_of}
use Rattle.question.proofs.Sound.{decode_sound}
use Rattle.question.proofs.Codes.{question_answer, refused_answer}
use Rattle.answer.proofs.answer.Goals as goal

pub answer_to-requires : goal.answer_to-requires
answer_to-requires c = let a = c.args in
    decode_sound (word_of a.of.now.lineage.row) a.kind a.a a.b (sym c.decode.ensures ∙ ap (numbered number_of) c.in-Ok.is)

pub returns-in-Ok : goal.returns-in-Ok
returns-in-Ok c = let a = c.args in
    c.answer_to.ensures ∙ sym (question_answer a.of.now.lineage.row.bytes.now a.of.now.lineage.row.m a.kind a.a a.b
    (sym c.decode.ensures ∙ ap (numbered number_of) c.in-Ok.is))

pub returns-in-Err : goal.returns-in-Err
returns-in-Err c = let a = c.args in
    c.refused.ensures ∙ sym (refused_answer a.of.now.lineage.row.bytes.now a.of.now.lineage.row.m a.kind a.a a.b
    (sym c.decode.ensures ∙ ap (numbered number_of) c.in-Err.is))
