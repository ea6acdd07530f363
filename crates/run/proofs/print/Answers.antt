-- `print` meets its contract: the file's refusal, or what its word and questions print. Assumes nothing.
use mathlib.Core.Path.{sym}
use native.Mathlib.Omega.{arith}
use lib.Seq.{length-take-le}
use Rattle.run.proofs.Printed.{ends_refused, few_asked, few_bytes, few_numbers, sound, ends_printed}
use Rattle.run.proofs.print.Goals as goal

pub slice_bounds-word-end : goal.slice_bounds-word-end
slice_bounds-word-end c = few_bytes _ _ _ _ c.read.ensures _ c.in-Ok.is

pub slice_bounds-answer-end : goal.slice_bounds-answer-end
slice_bounds-answer-end c = sym (length-take-le _ _ (few_bytes _ _ _ _ c.read.ensures _ c.in-Ok.is))

pub overflow_mul-numbers : goal.overflow_mul-numbers
overflow_mul-numbers c = omega (arith, few_asked _ _ _ _ c.read.ensures _ c.in-Ok.is)

pub slice_bounds-numbers-end : goal.slice_bounds-numbers-end
slice_bounds-numbers-end c = few_numbers _ _ _ _ c.read.ensures _ c.in-Ok.is

pub slice_bounds-answer-end-in-Ok : goal.slice_bounds-answer-end-in-Ok
slice_bounds-answer-end-in-Ok c = sym (length-take-le _ _ (few_numbers _ _ _ _ c.read.ensures _ c.in-Ok.is))

pub answer-requires : goal.answer-requires
answer-requires c = sound _ _ _ _ c.read.ensures _ c.in-Ok.is _ (omega arith)

pub returns-in-Ok : goal.returns-in-Ok
returns-in-Ok c = ends_printed _ _ _ _ c.read.ensures _ c.in-Ok.is _ _ _ c.answer.ensures

pub returns-in-Err : goal.returns-in-Err
returns-in-Err c = ends_refused _ _ _ _ c.read.ensures _ _ _ _ c.in-Err.is (rw c.from.ensures at c.put_refusal.ensures)
