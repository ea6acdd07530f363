-- The numbers of a question's faults.
use Rattle.std.specs.Prelude.{ℕ}
use Rattle.question.specs.declared.fault.Fault.{Fault}
use Rattle.question.specs.declared.fault.Fault.TheVariants.{UnknownKind, NoPlace, NotOpening, NotClosing, Reversed, NoNode}

-- "11: kind not 1 to 14"; "12: place a or b not below m", "for kind 13, a boundary above m"; "13: place isn't an opening (all kinds of node)";
-- "14: place isn't a closing (kind 5)"; "15: kind 13 with a > b"; "16: no such node"
abbrev pub number_of : Fault → ℕ
number_of UnknownKind = 11
number_of NoPlace = 12
number_of NotOpening = 13
number_of NotClosing = 14
number_of Reversed = 15
number_of NoNode = 16
