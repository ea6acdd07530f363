-- What the laws of answers ask of a row, and what the small steps give.
use Rattle.std.specs.Prelude.{◌≡◌, true, List, ℕ, ◌+◌, ◌*◌, ◌≤◌, pos, length}
use Rattle.std.proofs.Math.Option.{some}
use Rattle.word.specs.Bits.{word}
use Rattle.word.specs.Parse.{is_balanced}
use Rattle.index.specs.Shape.{height}
use Rattle.walk.specs.Walk.{Reach}
use Rattle.walk.specs.Forward.{forward}
use Rattle.walk.specs.declared.Counted.{Counted}
use Rattle.question.specs.Answer.{Answer}
use Rattle.question.specs.Reply.{Reply, found}

-- a balanced row, where the bits alone are asked
pub record Row (bytes : List ℕ) (m : ℕ) : Type 0 where
  pub small : m ≤ 2097152
  pub enough : m ≤ 8 * length bytes
  pub balanced : is_balanced (word bytes m) ≡ true

-- the forward walk by 0 from a, which finds the boundary past a's branch
pub record Ends (bytes : List ℕ) (m a : ℕ) (r : Counted ℕ) : Type 0 where
  pub past : (forward (height m) (word bytes m) a (pos 0)).0 ≡ some r.value
  pub reads : (forward (height m) (word bytes m) a (pos 0)).1 ≡ r.reads

abbrev pub replied : Reply → ℕ → Answer
replied r n = record { code = r.code; result = r.result; reads = n }

-- what a last walk found is the answer, with the entries read before it
abbrev pub reached_of : Reach → ℕ → Answer
reached_of x n = replied (found x.0) (n + x.1)

-- a boundary of a word, or none, after few reads
pub record Near (x : Reach) : Type 0 where
  pub place : (q : ℕ) → x.0 ≡ some q → q ≤ 2097152
  pub few : x.1 ≤ 1073741824
