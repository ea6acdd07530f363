-- The scans of bits, which read no entry: within the block where a walk starts, and of the leaf that it reaches.
use Rattle.std.specs.Prelude.{Result, Ok, Err}
use Rattle.std.specs.Prelude.{Bool, true, false, cond, List, [], ◌∷◌, ℕ, zero, suc, ◌-◌, ◌*◌, ◌/◌, ◌%◌, take, drop, ℤ, ◌-ℤ◌}
use Rattle.std.proofs.Math.Option.{Option, none, some}
use Rattle.word.specs.Signed.{eq_z}
use Rattle.summary.specs.Stretch.{step}
use Rattle.walk.specs.Walk.{Reach}

-- the first of two that is there
abbrev pub or_else : Option ℕ → Option ℕ → Option ℕ
or_else (some q) o = some q
or_else none o = o

-- of the bits w from boundary i on: the first boundary after i whose depth from i is t
unfoldable pub first : ℕ → List Bool → ℤ → Option ℕ
first i [] t = none
first i (b ∷ w) t = cond (eq_z (step b) t) (some (suc i)) (first (suc i) w (t -ℤ step b))

-- the last boundary after i whose depth from i is t
unfoldable pub final : ℕ → List Bool → ℤ → Option ℕ
final i [] t = none
final i (b ∷ w) t = or_else (final (suc i) w (t -ℤ step b)) (cond (eq_z (step b) t) (some (suc i)) none)

-- of the bits w from place i on: the place of opening number r
unfoldable pub nth : ℕ → List Bool → ℕ → Option ℕ
nth i [] r = none
nth i (false ∷ w) r = nth (suc i) w r
nth i (true ∷ w) zero = some i
nth i (true ∷ w) (suc r) = nth (suc i) w r

-- "Scan to the end of block p/256.": the bits from boundary p to the end of its block
abbrev pub ahead : List Bool → ℕ → List Bool
ahead w p = take (256 - p % 256) (drop p w)

-- the bits from the start of boundary p's block up to p
abbrev pub behind : List Bool → ℕ → List Bool
behind w p = take (p % 256) (drop (256 * (p / 256)) w)

-- the bits of bit p's block up to and with bit p
abbrev pub up_to : List Bool → ℕ → List Bool
up_to w p = take (suc (p % 256)) (drop (256 * (p / 256)) w)

-- "Failing that": what the first scan found, with no read, else what comes after it
abbrev pub either : Option ℕ → Reach → Reach
either (some q) r = (some q, 0)
either none r = r

-- a scan in code: the boundary met, or the amount still wanted
abbrev pub scanned : Option ℕ → ℤ → Result ℕ ℤ
scanned (some q) t = Ok q
scanned none t = Err t

abbrev pub reached : Result ℕ ℤ → Option ℕ
reached (Ok q) = some q
reached (Err t) = none
