-- Code and result of a question, read off the word's forest or its running depth.
use Rattle.std.specs.Prelude.{Bool, cond, List, ℕ, ◌-◌, Result, Ok, Err}
use Rattle.std.proofs.Math.Option.{Option, none, some}
use Rattle.word.specs.Forest.{Forest}
use Rattle.word.specs.Parse.{forest_of}
use Rattle.word.specs.Questions.{depth, number, with_number, closing_of, opening_of, parent, ancestor}
use Rattle.word.specs.Questions.{branch, children, first_child, next_sibling, nearest, lowest, holds}
use Rattle.question.specs.declared.Question.{Question}
use Rattle.question.specs.declared.Question.TheVariants.{Depth, Number, WithNumber, Closing, Opening, Parent, Ancestor}
use Rattle.question.specs.declared.Question.TheVariants.{Branch, Children, FirstChild, NextSibling, Nearest, Lowest, Holds}

-- code and result
pub record Reply : Type 0 where
  pub code : ℕ
  pub result : ℕ

abbrev pub gives : ℕ → Reply
gives r = record { code = 0; result = r }

-- "Codes 11 to 15 give result 0", and so does 16
abbrev pub refused : ℕ → Reply
refused c = record { code = c; result = 0 }

-- "16: no such node", exactly where the forest has none
abbrev pub found : Option ℕ → Reply
found none = refused 16
found (some r) = gives r

unfoldable pub reply_of : List Bool → Forest → Question → Reply
reply_of w f (Depth a) = found (depth f a)
reply_of w f (Number a) = found (number f a)
reply_of w f (WithNumber r) = found (with_number f r)
reply_of w f (Closing a) = found (closing_of f a)
reply_of w f (Opening a) = found (opening_of f a)
reply_of w f (Parent a) = found (parent f a)
reply_of w f (Ancestor a b) = found (ancestor f a b)
reply_of w f (Branch a) = found (branch f a)
reply_of w f (Children a) = found (children f a)
reply_of w f (FirstChild a) = found (first_child f a)
reply_of w f (NextSibling a) = found (next_sibling f a)
reply_of w f (Nearest a b) = found (nearest f a b)
reply_of w f (Lowest a b) = gives (lowest w a (b - a))
reply_of w f (Holds a b) = gives (cond (holds f a b) 1 0)

-- the reply to what three numbers were decoded into
abbrev pub reply_to : List Bool → Result Question ℕ → Reply
reply_to w (Ok q) = reply_of w (forest_of w) q
reply_to w (Err c) = refused c
