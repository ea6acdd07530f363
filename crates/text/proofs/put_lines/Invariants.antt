-- `text::put_lines` meets its contract. The invariant: the lines still to come, written over the page as it is, give what all the lines give.
-- Assumes nothing.
use mathlib.Core.Path.{◌≡◌}
use mathlib.Core.List.{List}
use Prim.Native.Nat.{ℕ, ◌+◌, ◌*◌, ◌%◌, ◌≤◌}
use lib.ListN.{length}
use Rattle.text.specs.declared.Page.{Page}
use Rattle.text.specs.Text.{lines}
use Rattle.text.proofs.Put.{Left}
use Rattle.text.proofs.put_lines.Given as goal

pub record Lines (answers rest : List ℕ) (size : ℕ) (start page : Page) : Type 0 where
  pub threes : size ≡ 3
  pub thirds : length rest % 3 ≡ 0
  pub room : page.at + 11 * length rest ≤ 11 * length answers
  pub long : length page.out.now ≡ length start.out.now
  pub same : page.out.ghost_name ≡ start.out.ghost_name
  pub left : Left (lines answers) (lines rest) start.out.now page.at page.out.now

abbrev pub invariant-loop-a : goal.invariant-loop-a
invariant-loop-a l = Lines l.answers l.a-iterator.rest.now l.a-iterator.size l.initial.page l.page
