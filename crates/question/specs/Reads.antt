-- How many index entries a question reads: those of the walks that document 01's table names for its kind.
use Rattle.std.specs.Prelude.{Bool, false, cond, List, ℕ, suc, ◌+◌, ◌-◌, ◌/◌, min, max, eqb}
use Rattle.std.specs.Prelude.{ltb, length, get_or, pos, negsuc, neg_ℤ, ◌-ℤ◌, Result, Ok, Err}
use Rattle.std.proofs.Math.Option.{Option, none, some}
use Rattle.std.specs.Int.Signed.{le_z}
use Rattle.walk.specs.Walk.{Reach}
use Rattle.walk.specs.Forward.{forward}
use Rattle.walk.specs.Backward.{backward}
use Rattle.walk.specs.Prefix.{prefix}
use Rattle.walk.specs.Select.{select}
use Rattle.walk.specs.Range.{range}
use Rattle.question.specs.declared.Question.{Question}
use Rattle.question.specs.declared.Question.TheVariants.{Depth, Number, WithNumber, Closing, Opening, Parent, Ancestor}
use Rattle.question.specs.declared.Question.TheVariants.{Branch, Children, FirstChild, NextSibling, Nearest, Lowest, Holds}

abbrev pub or_zero : Option ℕ → ℕ
or_zero none = 0
or_zero (some q) = q

-- "Kinds 4, 8, 9, 11 and 14 go forward from a by 0."
abbrev pub ahead : ℕ → List Bool → ℕ → Reach
ahead h w a = forward h w a (pos 0)

-- "forward, then range unless a leaf"; "Kind 9 ranges from boundary a+2 to the closing place": over the bits from a+1 up to it
abbrev pub children_reads : ℕ → List Bool → ℕ → ℕ
children_reads h w a =
    (ahead h w a).1 + cond (get_or w (suc a) false) (range h w (suc a) (or_zero (ahead h w a).0 - 1)).1 0

-- "none if a = b; range from the earlier to the later; then backward from the earlier unless it is the answer"; "12 goes back by the
-- range's least less 1"
abbrev pub nearest_reads : ℕ → List Bool → ℕ → ℕ → ℕ
nearest_reads h w a b =
    (range h w a b).1 + cond (le_z (pos 1) (range h w a b).0.least) 0 (backward h w a ((range h w a b).0.least -ℤ pos 1)).1

-- "none if a = b; range; then forward from a unless a is the answer"; "13 forward by that least"
abbrev pub lowest_reads : ℕ → List Bool → ℕ → ℕ → ℕ
lowest_reads h w a b =
    (range h w a b).1 + cond (le_z (pos 0) (range h w a b).0.least) 0 (forward h w a (range h w a b).0.least).1

unfoldable pub reads_of : ℕ → List Bool → Question → ℕ
reads_of h w (Depth a) = (prefix h w a).1
reads_of h w (Number a) = (prefix h w a).1
reads_of h w (WithNumber r) = cond (ltb r (length w / 2)) (select h w r).1 0
reads_of h w (Closing a) = (ahead h w a).1
reads_of h w (Opening a) = (backward h w (suc a) (pos 0)).1
reads_of h w (Parent a) = (backward h w a (negsuc 0)).1
reads_of h w (Ancestor a b) = cond (eqb b 0) 0 (backward h w a (neg_ℤ (pos b))).1
reads_of h w (Branch a) = (ahead h w a).1
reads_of h w (Children a) = children_reads h w a
reads_of h w (FirstChild a) = 0
reads_of h w (NextSibling a) = (ahead h w a).1
reads_of h w (Nearest a b) = cond (eqb a b) 0 (nearest_reads h w (min a b) (max a b))
reads_of h w (Lowest a b) = cond (eqb a b) 0 (lowest_reads h w a b)
reads_of h w (Holds a b) = (ahead h w a).1

-- "Codes 11 to 15 give result 0 and reads 0."
abbrev pub reads_to : ℕ → List Bool → Result Question ℕ → ℕ
reads_to h w (Ok q) = reads_of h w q
reads_to h w (Err c) = 0
