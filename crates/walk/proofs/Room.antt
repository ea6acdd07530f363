-- The two loops over a walk's state, whatever is done at each entry: the steps left are enough, and the numbers stay in range.
-- `run s v` is what s steps from state v give; the invariant is that what is left of the run gives what the whole gives.
use mathlib.Core.Path.{◌≡◌, refl, ◌∙◌}
use mathlib.Core.List.{List}
use Prim.Native.Nat.{ℕ, zero, suc, ◌+◌, ◌-◌, ◌*◌, ◌/◌, ◌^◌, ◌≤◌, ◌<◌}
use native.Mathlib.Omega.{arith}
use native.Mathlib.Nat.{two-pow-succ, mul-le-mul_right}
use lib.IntN.{ℤ, nat_abs}
use Rattle.index.proofs.Height.{height_reaches, leaves_few}
use Rattle.index.proofs.Level.{twice}
use Rattle.walk.specs.declared.Walk.{Walk}
use Rattle.walk.specs.declared.Climb.{Climb}
use Rattle.walk.specs.declared.Climb.TheVariants.{Enter, Top}
use Rattle.walk.specs.Walk.{walk}
use Rattle.walk.specs.Lent.{Lent}
use Rattle.walk.specs.Room.{Ready, Footing, Near, Climbed, Hold, Sunk}
use Rattle.walk.specs.Way.{Up, Into, Down}

-- ---- up
pub record Rest (run : ℕ → Walk → Climb) (v w : Walk) (n : ℕ) : Type 0 where
  pub rest : ℕ
  pub below : w.entry < 2 ^ suc rest
  pub is : run rest w ≡ run n v

pub record Climbing (run : ℕ → Walk → Climb) (v w : Walk) : Type 0 where
  pub above : 0 < w.entry
  pub lower : w.entry ≤ v.entry
  pub room : nat_abs w.want + 2147483648 * w.entry ≤ nat_abs v.want + 2147483648 * v.entry
  pub count : w.reads + w.entry ≤ v.reads + v.entry
  pub left : (n : ℕ) → v.entry < 2 ^ suc n → Rest run v w n

module _ (run : ℕ → Walk → Climb) (v : Walk) where
  module _ (w : Walk) (c : Climbing run v w) where
    pub climbed_top : ((s : ℕ) → Top w ≡ run s w) → Climbed run v (Top w)
    climbed_top f = record { same = λ n l. let r = c.left n l in f r.rest ∙ r.is; near = tt }

    module _ (d : w.entry ≡ 1 → ⊥) where
      -- some step is left
      inner : {A : Type 0} (n : ℕ) → Rest run v w n → ((s : ℕ) → w.entry < 2 ^ suc (suc s) → run (suc s) w ≡ run n v → A) → A
      inner {A} n r f = go r.rest r.below r.is
        where
          go : (s : ℕ) → w.entry < 2 ^ suc s → run s w ≡ run n v → A
          go zero b i = absurd (d (omega (arith, c.above)))
          go (suc s) b i = f s b i

      pub climbed_enter : (u : Walk) → Into run w u → Climbed run v (Enter u)
      climbed_enter u e = record {
        same = λ n l. inner n (c.left n l) (λ s b i. e.is s ∙ i);
        near = (e.above, omega (arith, e.beside, c.lower), rw e.want (omega (arith, c.room)), omega (arith, e.reads, c.count, c.above));
      }

      pub climb_on : (u : Walk) → Up run w u → Climbing run v u
      climb_on u e = record {
        above = omega (arith, e.half, c.above, d);
        lower = omega (arith, e.half, c.lower);
        room = omega (arith, e.half, e.near, c.room, c.above);
        count = omega (arith, e.half, e.reads, c.count, c.above);
        left = λ n l. inner n (c.left n l) (λ s b i. record {
          rest = s;
          below = omega (arith, b, e.half, two-pow-succ (suc s));
          is = e.on s ∙ i;
        });
      }

-- ---- down, to an entry from l on
pub record Under (run : ℕ → Walk → Walk) (l : ℕ) (v w : Walk) (n : ℕ) : Type 0 where
  pub rest : ℕ
  pub enough : l ≤ w.entry * 2 ^ rest
  pub is : run rest w ≡ run n v

pub record Sinking (run : ℕ → Walk → Walk) (l : ℕ) (v w : Walk) : Type 0 where
  pub above : 0 < w.entry
  pub low : w.entry ≤ 2 * l
  pub room : nat_abs w.want + 2147483648 * (l - w.entry) ≤ nat_abs v.want + 2147483648 * l
  pub count : w.reads + (l - w.entry) ≤ v.reads + l
  pub left : (n : ℕ) → l ≤ v.entry * 2 ^ n → Under run l v w n

module _ (run : ℕ → Walk → Walk) (l : ℕ) (v : Walk) where
  module _ (w : Walk) (c : Sinking run l v w) where
    pub sunk : l ≤ w.entry → ((s : ℕ) → w ≡ run s w) → Sunk run l v w
    sunk h f = record { same = λ n g. let r = c.left n g in f r.rest ∙ r.is; near = omega (arith, c.room); leaf = h; low = c.low }

    module _ (b : w.entry < l) (u : Walk) (e : Down run w u) where
      under : (n : ℕ) → Under run l v w n → Under run l v u n
      under n r = go r.rest r.enough r.is
        where
          go : (s : ℕ) → l ≤ w.entry * 2 ^ s → run s w ≡ run n v → Under run l v u n
          go zero g i = absurd (omega arith)
          go (suc s) g i = record { rest = s; enough = omega (arith, twice w.entry s, mul-le-mul_right (2 ^ s) e.child.0); is = e.on s ∙ i }

      pub sink_on : Sinking run l v u
      sink_on = record {
        above = omega (arith, e.child, c.above);
        low = omega (arith, e.child);
        room = omega (arith, e.child, e.near, c.room, c.above);
        count = omega (arith, e.child, e.reads, c.count, c.above);
        left = λ n h. under n (c.left n h);
      }

-- ---- past the block of boundary p, the walk stands at that block's leaf
pub ready_at : (bytes : List ℕ) (idx : List ℤ) (m l p : ℕ) (t : ℤ) → Lent bytes idx m l → p < m → nat_abs t ≤ 17179869184
    → Ready l (walk (l + p / 256) t 0)
ready_at bytes idx m l p t lent b near = record {
  leaf = omega arith;
  inside = omega (arith, height_reaches m, lent.leaves);
  want = near;
  reads = refl;
}

-- ---- a walk that starts at a leaf keeps its room to the end
module _ (bytes : List ℕ) (idx : List ℤ) (m l : ℕ) (v : Walk) (lent : Lent bytes idx m l) (ready : Ready l v) where
  few : l ≤ 8192
  few = omega (arith, leaves_few m lent.small, lent.leaves)

  pub footing : Footing l v
  footing = record {
    above = omega (arith, ready.leaf, ready.inside);
    inside = ready.inside;
    room = omega (arith, ready.inside, ready.want, few);
    count = omega (arith, ready.inside, ready.reads, few);
  }

  module _ (u : Walk) (near : Near v (Enter u)) where
    pub hold : Hold l u
    hold = record {
      above = near.0;
      low = omega (arith, near.1, ready.inside);
      room = omega (arith, near.2, ready.want, ready.inside, few);
      count = omega (arith, near.3, ready.inside, ready.reads, few);
    }

    pub low_leaf : {run : ℕ → Walk → Walk} (x : Walk) → Sunk run l u x → (l ≤ x.entry) × (x.entry ≤ 16384)
        × (nat_abs x.want ≤ 1152921504606846976)
    low_leaf x k = omega (arith, k.leaf, k.low, few, k.near, near.2, ready.want, ready.inside)
