-- `block` meets its contract: it ends after 256 bits, or where the word ends. Assumes nothing.
use mathlib.Core.Path.{sym, ap, ◌∙◌}
use native.Mathlib.Omega.{arith}
use Rattle.summary.specs.Stretch.{summary_of}
use Rattle.summary.specs.Join.{empty_of}
use Rattle.entry.proofs.Blocks.{block_to, block_past}
use Rattle.entry.proofs.block.Goals as goal

pub returns-then-row-from : goal.returns-then-row-from
unfolding empty_of
returns-then-row-from c = block_past _ _ _ c.if-row-from.true

pub returns : goal.returns
returns c = let a = c.args in c.stretch.ensures ∙ ap summary_of (sym (block_to a.row.now.bytes.now a.row.now.m a.b c.min.result (omega (arith, c.min.ensures))))
