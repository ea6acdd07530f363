-- What `run` gives back, as code and number: 0 with the text's length, or 36, of too little room, with 0 beside it.
use Rattle.std.specs.Prelude.{ℕ, Result, Ok, Err}
use Rattle.judge.specs.declared.Outcome.{Outcome}
use Rattle.run.specs.declared.no_room.NoRoom.{NoRoom}

-- the number of the one refusal
abbrev pub number_of : NoRoom → ℕ
number_of refused = 36

abbrev pub ran_as : Result ℕ NoRoom → Outcome
ran_as (Ok n) = record { code = 0; value = n }
ran_as (Err e) = record { code = number_of e; value = 0 }
