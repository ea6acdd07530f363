-- A summary as four numbers in a row.
use Rattle.std.specs.Prelude.{List, [], ◌∷◌, get_or, ℤ, pos}
use Rattle.summary.specs.declared.Summary.{Summary}

-- "total, least, greatest and count", in the order in which they lie
abbrev pub four : Summary → List ℤ
four s = s.total ∷ s.least ∷ s.greatest ∷ s.count ∷ []

-- the summary whose numbers these are
abbrev pub of_four : List ℤ → Summary
of_four l = record { total = get_or l 0 (pos 0); least = get_or l 1 (pos 0); greatest = get_or l 2 (pos 0); count = get_or l 3 (pos 0) }
