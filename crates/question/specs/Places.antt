-- Places that were checked: one that stands for a node, one where a node closes, and those that each question carries.
use Rattle.std.specs.Prelude.{◌≡◌, Bool, true, false, List, ℕ, ◌≤◌, ◌<◌, length, get_or}
use Rattle.question.specs.declared.Question.{Question}
use Rattle.question.specs.declared.Question.TheVariants.{Depth, Number, WithNumber, Closing, Opening, Parent, Ancestor}
use Rattle.question.specs.declared.Question.TheVariants.{Branch, Children, FirstChild, NextSibling, Nearest, Lowest, Holds}

-- "A node is named by the place of its opening bit."
pub record IsNode (w : List Bool) (a : ℕ) : Type 0 where
  pub below : a < length w
  pub opens : get_or w a false ≡ true

pub record IsClosing (w : List Bool) (a : ℕ) : Type 0 where
  pub below : a < length w
  pub closes : get_or w a true ≡ false

-- what each question's places stand for, once it has been decoded
abbrev pub Sound : List Bool → Question → Type 0
Sound w (Depth a) = IsNode w a
Sound w (Number a) = IsNode w a
Sound w (WithNumber r) = Unit {0}
Sound w (Closing a) = IsNode w a
Sound w (Opening a) = IsClosing w a
Sound w (Parent a) = IsNode w a
Sound w (Ancestor a b) = IsNode w a
Sound w (Branch a) = IsNode w a
Sound w (Children a) = IsNode w a
Sound w (FirstChild a) = IsNode w a
Sound w (NextSibling a) = IsNode w a
Sound w (Nearest a b) = IsNode w a × IsNode w b
Sound w (Lowest a b) = (a ≤ b) × (b ≤ length w)
Sound w (Holds a b) = IsNode w a × IsNode w b
