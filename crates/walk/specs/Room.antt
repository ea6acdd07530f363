-- What a walk's climb and its way down ask and give, whatever is done at each entry: `run s v` is what the definition gives from state v
-- in s steps. A total is below 2 ^ 31, and a step halves or doubles the entry: the steps are fewer than the entries, and the numbers stay
-- in range.
use Rattle.std.specs.Prelude.{◌≡◌, ℕ, suc, ◌+◌, ◌*◌, ◌^◌, ◌≤◌, ◌<◌, nat_abs}
use Rattle.walk.specs.declared.Walk.{Walk}
use Rattle.walk.specs.declared.Climb.{Climb}
use Rattle.walk.specs.declared.Climb.TheVariants.{Enter, Top}

-- where the walk stands after its first block: at a leaf, with nothing read
pub record Ready (l : ℕ) (v : Walk) : Type 0 where
  pub leaf : l ≤ v.entry
  pub inside : v.entry < 2 * l
  pub want : nat_abs v.want ≤ 17179869184
  pub reads : v.reads ≡ 0

-- where a step is taken: the numbers are far from the ends of their ranges
abbrev pub Steady : Walk → Type 0
Steady w = (nat_abs w.want ≤ 1152921504606846976) × (w.reads ≤ 1073741824)

-- where a climb begins: entries below 2l are lent
pub record Footing (l : ℕ) (v : Walk) : Type 0 where
  pub above : 0 < v.entry
  pub inside : v.entry < 2 * l
  pub room : nat_abs v.want + 2147483648 * v.entry ≤ 1152921504606846976
  pub count : v.reads + v.entry ≤ 1073741824

-- an entry to go down into is near the one where the climb began
abbrev pub Near : Walk → Climb → Type 0
Near v (Enter u) =
    (0 < u.entry) × (u.entry ≤ v.entry + 1) × (nat_abs u.want ≤ nat_abs v.want + 2147483648 * v.entry) × (u.reads ≤ v.reads + v.entry)
Near v (Top u) = Unit {0}

-- a climb gives what the definition gives, in as many steps as bring the entry to 1
pub record Climbed (run : ℕ → Walk → Climb) (v : Walk) (r : Climb) : Type 0 where
  pub same : (n : ℕ) → v.entry < 2 ^ suc n → r ≡ run n v
  pub near : Near v r

-- where the way down begins
pub record Hold (l : ℕ) (v : Walk) : Type 0 where
  pub above : 0 < v.entry
  pub low : v.entry ≤ 2 * l
  pub room : nat_abs v.want + 2147483648 * l ≤ 1152921504606846976
  pub count : v.reads + l ≤ 1073741824

-- the way down gives what the definition gives, in as many steps as bring the entry to a leaf
pub record Sunk (run : ℕ → Walk → Walk) (l : ℕ) (v r : Walk) : Type 0 where
  pub same : (n : ℕ) → l ≤ v.entry * 2 ^ n → r ≡ run n v
  pub near : nat_abs r.want ≤ nat_abs v.want + 2147483648 * l
  pub leaf : l ≤ r.entry
  pub low : r.entry ≤ 2 * l
