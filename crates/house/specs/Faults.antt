-- Faults by document 01's numbers. Assumes nothing.
use Rattle.std.specs.Prelude.{ℕ}
use Rattle.house.specs.declared.fault.Fault.{Fault}
use Rattle.house.specs.declared.fault.Fault.TheVariants.{TooFewBytes, CutShort, UnknownTag, OutOfPlace, WrongLength, TooMuch}

-- "2 fewer than ceil(m/8) bytes"; "31 cut short", "32 unknown tag", "33 out of place", "34 wrong length", "35" more than is taken
abbrev pub number_of : Fault → ℕ
number_of TooFewBytes = 2
number_of CutShort = 31
number_of UnknownTag = 32
number_of OutOfPlace = 33
number_of WrongLength = 34
number_of TooMuch = 35
