-- The loop of `bytes_of`: one byte more, by its row. Assumes nothing.
use mathlib.Core.Path.{◌∙◌}
use mathlib.Core.List.{[]}
use Prim.Native.Nat.{◌+◌, ◌-◌, ◌*◌}
use native.Mathlib.Omega.{arith}
use Rattle.summary.specs.Join.{empty_of}
use Rattle.table.proofs.Part.{starts, fits, goes_on, within, row_at}
use Rattle.table.proofs.bytes_of.Goals as goal

pub loop-b-init : goal.loop-b-init
unfolding empty_of
loop-b-init c = starts c.args.bytes.now (8 * c.args.first) 0 (omega arith)

pub join-s-requires : goal.join-s-requires
unfolding empty_of
join-s-requires c =
    let a = c.args in
    let l = c.loop-b in
    let i = l.b-index in
    let n = within a.bytes.now a.first (a.end - a.first) i c.loop-b-test.true in
    let row = row_at c.table-rows.result.now a.bytes.now a.first (a.end - a.first) i [] c.table-rows.ensures.rows (c.type_inv.bytes (a.first + i)).fits c.loop-b-test.true in
    (fits a.bytes.now (8 * a.first) (8 * i) l.invariant (omega arith), fits a.bytes.now (8 * (a.first + i)) 8 (c.from.ensures ∙ row) (omega arith))

pub loop-b-preserved : goal.loop-b-preserved
unfolding empty_of
loop-b-preserved c =
    let a = c.args in
    let l = c.loop-b in
    let i = l.b-index in
    let n = within a.bytes.now a.first (a.end - a.first) i c.loop-b-test.true in
    let row = row_at c.table-rows.result.now a.bytes.now a.first (a.end - a.first) i [] c.table-rows.ensures.rows (c.type_inv.bytes (a.first + i)).fits c.loop-b-test.true in
    c.join-s.ensures ∙ goes_on a.bytes.now (8 * a.first) (8 * i) l.invariant (8 * (a.first + i)) 8 (8 * (i + 1)) (c.from.ensures ∙ row) (omega arith) (omega arith)
