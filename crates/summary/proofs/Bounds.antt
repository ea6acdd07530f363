-- Bounds of a word's summary, and depths within a longer word. Assumes nothing.
use mathlib.Core.Path.{◌≡◌, refl, ◌∙◌, ap}
use mathlib.Core.Bool.{Bool, true, false}
use mathlib.Core.List.{List, [], ◌∷◌}
use Prim.Native.Nat.{ℕ, ◌+◌, ◌≤◌, ◌<◌}
use lib.ListN.{length, take, drop, get_or, length-take}
use native.Mathlib.Numerals.{add-one}
use lib.Seq.{take-add, take-suc}
use lib.IntN.{ℤ, pos, ◌+ℤ◌, nat_abs, +ℤ_idr}
use Rattle.word.specs.Signed.{P, N, eq_z}
use Rattle.word.proofs.Signed.{zarith, parts, abs_law, +law, min_law, max_law, by_test}
use Rattle.summary.specs.Stretch.{step, depth_of, depths, least_of, greatest_of, how_many, summary_of}
use Rattle.summary.specs.Join.{join_of}
use Rattle.summary.proofs.Append.{one, summary_append}
use Rattle.summary.proofs.Meaning.{step_small, least_next, greatest_next, depths_length, depth_append}
use Rattle.summary.specs.Bound.{Bounded}

-- |z| ≤ m, as two orders
pub record Within (m : ℕ) (z : ℤ) : Type 0 where
  pub above : P z ≤ m + N z
  pub below : N z ≤ m + P z

pub within_abs : (m : ℕ) (z : ℤ) → Within m z → nat_abs z ≤ m
within_abs m z h = omega (zarith, abs_law z, parts z)

pub depth_within : (w : List Bool) → Within (length w) (depth_of w)
unfolding depth_of
depth_within [] = omega zarith
depth_within (b ∷ w) = omega (zarith, depth_within w, step_small b, +law (step b) (depth_of w))

ends_empty : (least_of (depths []) ≡ pos 0) × (greatest_of (depths []) ≡ pos 0)
unfolding depths least_of greatest_of
ends_empty = (refl, refl)

ends_single : (b : Bool) → (least_of (depths (b ∷ [])) ≡ step b) × (greatest_of (depths (b ∷ [])) ≡ step b)
unfolding depths least_of greatest_of
ends_single b = (refl, refl)

least_within : (w : List Bool) → Within (length w) (least_of (depths w))
least_within [] = omega (zarith, ends_empty.0)
least_within (b ∷ []) = omega (zarith, (ends_single b).0, step_small b)
least_within (b ∷ c ∷ w) = omega (zarith, least_next b c w, least_within (c ∷ w), step_small b, min_law (step b) (step b +ℤ least_of (depths (c ∷ w))), +law (step b) (least_of (depths (c ∷ w))))

greatest_within : (w : List Bool) → Within (length w) (greatest_of (depths w))
greatest_within [] = omega (zarith, ends_empty.1)
greatest_within (b ∷ []) = omega (zarith, (ends_single b).1, step_small b)
greatest_within (b ∷ c ∷ w) = omega (zarith, greatest_next b c w, greatest_within (c ∷ w), step_small b, max_law (step b) (step b +ℤ greatest_of (depths (c ∷ w))), +law (step b) (greatest_of (depths (c ∷ w))))

many_le : (m : ℤ) (l : List ℤ) → how_many m l ≤ length l
unfolding how_many
many_le m [] = omega zarith
many_le m (x ∷ l) = by_test (eq_z x m) (λ e. rw e (omega (zarith, many_le m l))) (λ e. rw e (omega (zarith, many_le m l)))

-- the numbers of a word's summary are at most its length
pub summary_bounded : (m : ℕ) (w : List Bool) → length w ≤ m → Bounded m (summary_of w)
unfolding summary_of
summary_bounded m w h = record {
  total = within_abs m (depth_of w) (omega (zarith, depth_within w));
  least = within_abs m (least_of (depths w)) (omega (zarith, least_within w));
  greatest = within_abs m (greatest_of (depths w)) (omega (zarith, greatest_within w));
  count = omega (zarith, many_le (least_of (depths w)) (depths w), depths_length w);
}

-- the depths of a part are the whole's, from the depth where the part starts
pub depth_part : (a p : ℕ) (w : List Bool) → depth_of (take (a + p) w) ≡ depth_of (take a w) +ℤ depth_of (take p (drop a w))
depth_part a p w = ap depth_of (take-add a p w) ∙ depth_append (take a w) (take p (drop a w))

-- one bit more
pub depth_next : (w : List Bool) (i : ℕ) (d : Bool) → i < length w → depth_of (take (i + 1) w) ≡ depth_of (take i w) +ℤ step (get_or w i d)
unfolding depth_of
depth_next w i d h = rw (add-one, take-suc w i d, depth_append, +ℤ_idr)

pub summary_single : (b : Bool) → summary_of (b ∷ []) ≡ one b
unfolding one summary_of depth_of depths least_of greatest_of how_many eq_z
summary_single true = refl
summary_single false = refl

pub summary_next : (w : List Bool) (i : ℕ) (d : Bool) → i < length w
    → summary_of (take (i + 1) w) ≡ join_of (summary_of (take i w)) (one (get_or w i d))
summary_next w i d h = rw (add-one, take-suc w i d, summary_append, summary_single)

pub one_bounded : (m : ℕ) (b : Bool) → 1 ≤ m → Bounded m (one b)
one_bounded m b h = rw (← summary_single b) (summary_bounded m (b ∷ []) h)

pub summary_front : (m : ℕ) (w : List Bool) (i : ℕ) → length w ≤ m → Bounded m (summary_of (take i w))
summary_front m w i h = summary_bounded m (take i w) (omega (zarith, length-take i w))
