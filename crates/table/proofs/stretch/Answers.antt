-- `stretch` puts its three parts together. Assumes nothing.
use mathlib.Core.Path.{◌∙◌}
use Prim.Native.Nat.{◌-◌, ◌*◌}
use native.Mathlib.Omega.{arith}
use Rattle.table.proofs.Part.{fits, goes_on, ends_by}
use Rattle.table.proofs.stretch.Goals as goal

pub join-requires : goal.join-requires
join-requires c =
    let a = c.args in
    let first = c.div_ceil-first.result in
    let end = c.whole-end.result in
    let e = ends_by a.to end c.whole-end.ensures in
    (fits a.bytes.now a.from (8 * first - a.from) c.bits_of-2.ensures (omega arith), fits a.bytes.now (8 * first) (8 * (end - first)) c.bytes_of.ensures (omega arith))

pub join-requires-2 : goal.join-requires-2
join-requires-2 c =
    let a = c.args in
    let first = c.div_ceil-first.result in
    let end = c.whole-end.result in
    let e = ends_by a.to end c.whole-end.ensures in (
      fits a.bytes.now a.from (8 * end - a.from)
          (c.join.ensures ∙ goes_on a.bytes.now a.from (8 * first - a.from) c.bits_of-2.ensures (8 * first) (8 * (end - first)) (8 * end - a.from) c.bytes_of.ensures (omega arith) (omega arith))
          (omega arith),
      fits a.bytes.now (8 * end) (a.to - 8 * end) c.bits_of-3.ensures (omega arith),
    )

pub returns : goal.returns
returns c =
    let a = c.args in
    let first = c.div_ceil-first.result in
    let end = c.whole-end.result in
    let e = ends_by a.to end c.whole-end.ensures in
    c.join-2.ensures ∙ goes_on a.bytes.now a.from (8 * end - a.from)
    (c.join.ensures ∙ goes_on a.bytes.now a.from (8 * first - a.from) c.bits_of-2.ensures (8 * first) (8 * (end - first)) (8 * end - a.from) c.bytes_of.ensures (omega arith) (omega arith))
    (8 * end) (a.to - 8 * end) (a.to - a.from) c.bits_of-3.ensures (omega arith) (omega arith)
