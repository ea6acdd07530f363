-- `Summary::join` meets its contract: "if either count is 0 the other stands". Assumes nothing.
use mathlib.Core.Path.{sym, ◌∙◌}
use lib.IntN.{pos}
use mir.Facts.{sfits_lit}
use Rattle.word.proofs.Signed.{neq_z→, of_z_eq, of_z_ne}
use Rattle.summary.proofs.Join.{join_left, join_right, join_joined}
use Rattle.summary.proofs.Machine.{small}
use Rattle.summary.proofs.Summary.join.Goals as goal

pub returns-then-self-eq0 : goal.returns-then-self-eq0
returns-then-self-eq0 c =
    let x = c.args.self in
    sym (join_left x c.args.other (of_z_eq x.count (pos 0) (small x.count c.requires.0.count) (sfits_lit tt) c.if-self-eq0.true))

pub returns-then-other-eq0 : goal.returns-then-other-eq0
returns-then-other-eq0 c =
    let x = c.args.self in
    let y = c.args.other in
    sym (join_right x y (neq_z→ x.count (pos 0) (of_z_ne x.count (pos 0) c.if-self-eq0.false))
    (of_z_eq y.count (pos 0) (small y.count c.requires.1.count) (sfits_lit tt) c.if-other-eq0.true))

pub returns : goal.returns
returns c =
    let x = c.args.self in
    let y = c.args.other in
    c.both.ensures ∙ sym (join_joined x y (of_z_ne x.count (pos 0) c.if-self-eq0.false) (of_z_ne y.count (pos 0) c.if-other-eq0.false))
