-- The code's 256 rows are the rule's: one comparison, computed. Assumes nothing.
use mathlib.Core.Path.{refl}
use Rattle.word.specs.Signed.{min_z, max_z, eq_z}
use Rattle.summary.specs.Stretch.{depth_of, depths, least_of, greatest_of, how_many, summary_of}
use Rattle.table.specs.Rows.{row_of, rows_of}
use Rattle.table.proofs.Row.{table_is}
use Rattle.table.proofs.rows.table.Goals as goal

pub returns : goal.returns
unfolding row_of rows_of summary_of depth_of depths least_of greatest_of how_many min_z max_z eq_z
returns c = record { rows = refl; numbers = table_is }
