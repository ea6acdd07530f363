-- The empty summary, and how the summaries of two neighbouring stretches join.
use Rattle.std.specs.Prelude.{cond, ℤ, pos, ◌+ℤ◌}
use Rattle.word.specs.Signed.{min_z, max_z, eq_z}
use Rattle.summary.specs.declared.Summary.{Summary}

-- "An empty stretch has 0, 0, 0, 0."
unfoldable pub empty_of : Summary
empty_of = record { total = pos 0; least = pos 0; greatest = pos 0; count = pos 0 }

-- count c, of a side whose least is a, where that side reaches the joined least m
unfoldable pub at : ℤ → ℤ → ℤ → ℤ
at a m c = cond (eq_z a m) c (pos 0)

-- "the total is the sum, the least is the smaller of x's least and x's total plus y's least, the greatest likewise with the larger, and the
-- count adds those counts whose side reaches the joined least"
unfoldable pub joined : Summary → Summary → Summary
joined x y =
    let m : ℤ = min_z x.least (x.total +ℤ y.least) in
    record {
      total = x.total +ℤ y.total;
      least = m;
      greatest = max_z x.greatest (x.total +ℤ y.greatest);
      count = at x.least m x.count +ℤ at (x.total +ℤ y.least) m y.count;
    }

-- "Two neighbouring stretches x, y join so: if either count is 0 the other stands; otherwise" as above
unfoldable pub join_of : Summary → Summary → Summary
join_of x y = cond (eq_z x.count (pos 0)) y (cond (eq_z y.count (pos 0)) x (joined x y))
