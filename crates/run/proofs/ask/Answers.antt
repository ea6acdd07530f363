-- `ask` meets its contract: building can refuse the word alone, and the batch takes what was built. Assumes nothing.
use Rattle.std.proofs.Common.{rules}
use mathlib.Core.Path.{sym}
use native.Mathlib.Omega.{arith}
use lib.Seq.{length-take-le}
use Rattle.run.proofs.Answered.{six, never_refused, few_asked, few_answers, ends_lines}
use Rattle.run.proofs.ask.Goals as goal

pub returns-in_err-build : goal.returns-in_err-build
returns-in_err-build c = let s = six _ _ _ _ c.requires _ _ c.in_err-build.ensures in search (rules, s)

pub returns-in_err-n : goal.returns-in_err-n
returns-in_err-n c = absurd (never_refused _ _ _ _ c.requires _ _ c.in_ok-build.ensures _ _ c.in_err-n.ensures)

pub overflow_mul-answers : goal.overflow_mul-answers
overflow_mul-answers c = omega (arith, few_asked _ _ _ _ c.requires _ _ c.in_ok-build.ensures _ _ c.in_ok-n.ensures)

pub slice_bounds-answers-end : goal.slice_bounds-answers-end
slice_bounds-answers-end c = few_answers _ _ _ _ c.requires _ _ c.in_ok-build.ensures _ _ c.in_ok-n.ensures

pub slice_bounds-put_lines-end : goal.slice_bounds-put_lines-end
slice_bounds-put_lines-end c =
    sym (length-take-le _ _ (few_answers _ _ _ _ c.requires _ _ c.in_ok-build.ensures _ _ c.in_ok-n.ensures))

pub returns : goal.returns
returns c = ends_lines _ _ _ _ c.requires _ _ c.in_ok-build.ensures _ _ c.in_ok-n.ensures _ _ _ c.put_lines.ensures
