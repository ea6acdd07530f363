-- A way along the row, forward or backward: what one step of a walk gives, whichever way it goes, and what the way's definitions keep to.
-- `run s w` is what the definition gives from state w in s steps.
use Rattle.std.specs.Prelude.{◌≡◌, Bool, List, ℕ, suc, ◌+◌, ◌*◌, ◌/◌, ◌^◌, ◌≤◌, ◌<◌, nat_abs}
use Rattle.std.specs.declared.ops.ControlFlow.{ControlFlow}
use Rattle.std.specs.ControlFlow.{MatchControlFlow}
use Rattle.word.specs.declared.row.Row.{Row}
use Rattle.word.specs.Row.{word_of}
use Rattle.summary.specs.declared.Summary.{Summary}
use Rattle.index.specs.Shape.{height, entry}
use Rattle.walk.specs.declared.Walk.{Walk}
use Rattle.walk.specs.declared.Climb.{Climb}
use Rattle.walk.specs.declared.Climb.TheVariants.{Enter, Top}
use Rattle.walk.specs.Walk.{Reach}

-- a row's own entries
abbrev pub entries : Row → ℕ → Summary
entries r = entry (height r.m) (word_of r)

-- one step up from w: to u above it
pub record Up (run : ℕ → Walk → Climb) (w u : Walk) : Type 0 where
  pub half : u.entry ≡ w.entry / 2
  pub near : nat_abs u.want ≤ nat_abs w.want + 2147483648
  pub reads : u.reads ≤ w.reads + 1
  pub on : (s : ℕ) → run s u ≡ run (suc s) w

-- or into u beside it
pub record Into (run : ℕ → Walk → Climb) (w u : Walk) : Type 0 where
  pub above : 0 < u.entry
  pub beside : u.entry ≤ w.entry + 1
  pub want : u.want ≡ w.want
  pub reads : u.reads ≤ w.reads + 1
  pub is : (s : ℕ) → Enter u ≡ run (suc s) w

-- what a step of the climb gives: it goes on, or down
abbrev pub Step : (ℕ → Walk → Climb) → Walk → ControlFlow Walk Walk → Type 0
Step run w r = MatchControlFlow r (Up run w) (Into run w)

-- one step down from w, to a child u
pub record Down (run : ℕ → Walk → Walk) (w u : Walk) : Type 0 where
  pub child : (2 * w.entry ≤ u.entry) × (u.entry ≤ 2 * w.entry + 1)
  pub near : nat_abs u.want ≤ nat_abs w.want + 2147483648
  pub reads : u.reads ≤ w.reads + 1
  pub on : (s : ℕ) → run s u ≡ run (suc s) w

-- what comes after the first block, in the row's own index
abbrev pub beyond : ((ℕ → Summary) → ℕ → Walk → Climb) → (ℕ → List Bool → Climb → Reach) → Row → Walk → Reach
beyond climb landed r v = landed (height r.m) (word_of r) (climb (entries r) (height r.m) v)

-- with no step left a walk stays where it is; a climb ends at entry 1, and the way down at a leaf; and what follows a climb that ends at an
-- entry to go down into is the way down and the leaf's scan
pub record WayLaws (climb : (ℕ → Summary) → ℕ → Walk → Climb) (descent : (ℕ → Summary) → ℕ → ℕ → Walk → Walk)
    (leaf : ℕ → List Bool → Walk → Reach) (landed : ℕ → List Bool → Climb → Reach) : Type 0 where
  pub halted : (e : ℕ → Summary) (w : Walk) → Top w ≡ climb e 0 w
  pub stayed : (e : ℕ → Summary) (l : ℕ) (w : Walk) → w ≡ descent e l 0 w
  pub root : (e : ℕ → Summary) (s : ℕ) (w : Walk) → w.entry ≡ 1 → Top w ≡ climb e s w
  pub bottom : (e : ℕ → Summary) (l s : ℕ) (w : Walk) → l ≤ w.entry → w ≡ descent e l s w
  pub lands : (h : ℕ) (x : List Bool) (u : Walk) → leaf (2 ^ h) x (descent (entry h x) (2 ^ h) h u) ≡ landed h x (Enter u)
