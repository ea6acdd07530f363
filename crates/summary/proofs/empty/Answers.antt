-- EMPTY is the empty summary. Assumes nothing.
use Rattle.summary.specs.Join.{empty_of}
use mathlib.Core.Path.{refl}
use Rattle.summary.proofs.empty.Goals as goal

pub returns : goal.returns
unfolding empty_of
returns c = refl
