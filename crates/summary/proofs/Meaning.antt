-- What a summary says of its stretch, as the walks use it: which depths it reaches, where it ends, how many openings it has. Assumes nothing.
use mathlib.Core.Path.{◌≡◌, refl, sym, ◌∙◌, ap}
use mathlib.Core.Logic.{◌↔◌}
use mathlib.Core.Bool.{Bool, true, false, cond}
use mathlib.Core.List.{List, [], ◌∷◌, ◌++◌, map}
use Prim.Native.Nat.{ℕ, zero, suc, ◌+◌, ◌*◌, ◌/◌, ◌≤◌, ◌<◌}
use lib.ListN.{length, take, get_or, length-map}
use lib.IntN.{ℤ, pos, negsuc, ◌+ℤ◌, ◌-ℤ◌, +ℤ_assoc, +ℤ_idr, +ℤ_idl}
use lib.Signed.{◌≤ℤ◌}
use Rattle.summary.specs.declared.Summary.{Summary}
use Rattle.word.specs.Signed.{P, min_z, max_z, eq_z}
use Rattle.word.proofs.Signed.{zarith, parts, +law, -law, min_law, max_law, by_test}
use Rattle.summary.specs.Stretch.{step, depth_of, depths, least_of, greatest_of, how_many, summary_of}
use Rattle.summary.proofs.Append.{least_all, greatest_all, counted}

-- ---- the list `depths w` has the depths after 1, 2, .. bits
pub depths_length : (w : List Bool) → length (depths w) ≡ length w
unfolding depths
depths_length [] = refl
depths_length (b ∷ w) = ap suc (length-map (depths w) (λ (d : ℤ). step b +ℤ d) ∙ depths_length w)

get_or_map_in : (f : ℤ → ℤ) (l : List ℤ) (i : ℕ) (d : ℤ) → i < length l → get_or (map f l) i d ≡ f (get_or l i d)
get_or_map_in f [] i d h = absurd (omega zarith)
get_or_map_in f (x ∷ l) zero d h = refl
get_or_map_in f (x ∷ l) (suc i) d h = get_or_map_in f l i d (omega zarith)

pub depths_at : (w : List Bool) (i : ℕ) → i < length w → get_or (depths w) i (pos 0) ≡ depth_of (take (suc i) w)
unfolding depths depth_of
depths_at [] i h = absurd (omega zarith)
depths_at (b ∷ w) zero h = sym (+ℤ_idr (step b))
depths_at (b ∷ w) (suc i) h =
    get_or_map_in (λ (d : ℤ). step b +ℤ d) (depths w) i (pos 0) (omega (zarith, depths_length w)) ∙ ap (λ (d : ℤ). step b +ℤ d) (depths_at w i (omega zarith))

-- ---- the least and the greatest bound each
pub least_le : (l : List ℤ) (i : ℕ) → i < length l → least_of l ≤ℤ get_or l i (pos 0)
unfolding least_of
least_le [] i h = absurd (omega zarith)
least_le (x ∷ []) zero h = omega zarith
least_le (x ∷ []) (suc i) h = absurd (omega zarith)
least_le (x ∷ y ∷ l) zero h = omega (zarith, min_law x (least_of (y ∷ l)))
least_le (x ∷ y ∷ l) (suc i) h = omega (zarith, min_law x (least_of (y ∷ l)), least_le (y ∷ l) i (omega zarith))

pub le_greatest : (l : List ℤ) (i : ℕ) → i < length l → get_or l i (pos 0) ≤ℤ greatest_of l
unfolding greatest_of
le_greatest [] i h = absurd (omega zarith)
le_greatest (x ∷ []) zero h = omega zarith
le_greatest (x ∷ []) (suc i) h = absurd (omega zarith)
le_greatest (x ∷ y ∷ l) zero h = omega (zarith, max_law x (greatest_of (y ∷ l)))
le_greatest (x ∷ y ∷ l) (suc i) h = omega (zarith, max_law x (greatest_of (y ∷ l)), le_greatest (y ∷ l) i (omega zarith))

-- ---- (i) some boundary after the start has depth t
pub record Reaches (w : List Bool) (t : ℤ) : Type 0 where
  pub place : ℕ
  pub after : 1 ≤ place
  pub inside : place ≤ length w
  pub depth : depth_of (take place w) ≡ t

pub record Spans (s : Summary) (t : ℤ) : Type 0 where
  pub some : s.count ≡ pos 0 → ⊥
  pub low : s.least ≤ℤ t
  pub high : t ≤ℤ s.greatest

spans : (w : List Bool) (p : ℕ) (t : ℤ) → 1 ≤ p → p ≤ length w → depth_of (take p w) ≡ t → Spans (summary_of w) t
unfolding summary_of
spans [] zero t h k e = absurd (omega zarith)
spans [] (suc p) t h k e = absurd (omega zarith)
spans (b ∷ w) zero t h k e = absurd (omega zarith)
spans (b ∷ w) (suc p) t h k e = record {
  some = λ z. omega (zarith, counted b w);
  low = omega (zarith, least_le (depths (b ∷ w)) p (omega (zarith, depths_length (b ∷ w))), depths_at (b ∷ w) p k);
  high = omega (zarith, le_greatest (depths (b ∷ w)) p (omega (zarith, depths_length (b ∷ w))), depths_at (b ∷ w) p k);
}

pub step_small : (b : Bool) → (step b ≤ℤ pos 1) × (negsuc 0 ≤ℤ step b)
step_small true = omega zarith
step_small false = omega zarith

-- a step is at most one, so the word's depths leave out nothing between the least and the greatest
near : (c : Bool) (w : List Bool) → (least_of (depths (c ∷ w)) ≤ℤ pos 1) × (negsuc 0 ≤ℤ greatest_of (depths (c ∷ w)))
unfolding depths
near c w = omega (zarith, step_small c, least_le (depths (c ∷ w)) 0 (omega zarith), le_greatest (depths (c ∷ w)) 0 (omega zarith))

depth_one : (b : Bool) (w : List Bool) (t : ℤ) → t ≡ step b → Reaches (b ∷ w) t
unfolding depth_of
depth_one b w t e = record { place = 1; after = omega zarith; inside = omega zarith; depth = +ℤ_idr (step b) ∙ sym e }

later : (b : Bool) (w : List Bool) (t : ℤ) → Reaches w (t -ℤ step b) → Reaches (b ∷ w) t
unfolding depth_of
later b w t r = record {
  place = suc r.place;
  after = omega zarith;
  inside = omega (zarith, r.inside);
  depth = omega (zarith, +law (step b) (depth_of (take r.place w)), r.depth, -law t (step b));
}

single : (b : Bool) (t : ℤ) → least_of (depths (b ∷ [])) ≤ℤ t → t ≤ℤ greatest_of (depths (b ∷ [])) → t ≡ step b
unfolding depths least_of greatest_of
single b t l g = omega zarith

pub least_next : (b c : Bool) (w : List Bool) → least_of (depths (b ∷ c ∷ w)) ≡ min_z (step b) (step b +ℤ least_of (depths (c ∷ w)))
unfolding depths
least_next b c w = least_all (step b) (step c) (map (λ (d : ℤ). step c +ℤ d) (depths w))

pub greatest_next : (b c : Bool) (w : List Bool)
    → greatest_of (depths (b ∷ c ∷ w)) ≡ max_z (step b) (step b +ℤ greatest_of (depths (c ∷ w)))
unfolding depths
greatest_next b c w = greatest_all (step b) (step c) (map (λ (d : ℤ). step c +ℤ d) (depths w))

reach : (w : List Bool) (t : ℤ) → 0 < length w → least_of (depths w) ≤ℤ t → t ≤ℤ greatest_of (depths w) → Reaches w t
reach [] t h l g = absurd (omega zarith)
reach (b ∷ []) t h l g = depth_one b [] t (single b t l g)
reach (b ∷ c ∷ w) t h l g = by_test (eq_z t (step b))
    (λ e. depth_one b (c ∷ w) t (omega zarith))
    (λ e. later b (c ∷ w) t (reach (c ∷ w) (t -ℤ step b) (omega zarith)
    (omega (zarith, -law t (step b), near c w, least_next b c w, min_law (step b) (step b +ℤ least_of (depths (c ∷ w))), +law (step b) (least_of (depths (c ∷ w)))))
    (omega (zarith, -law t (step b), near c w, greatest_next b c w, max_law (step b) (step b +ℤ greatest_of (depths (c ∷ w))), +law (step b) (greatest_of (depths (c ∷ w)))))))

no_count : (summary_of []).count ≡ pos 0
unfolding summary_of depths how_many
no_count = refl

empty_or_not : (w : List Bool) → ((summary_of w).count ≡ pos 0 → ⊥) → 0 < length w
empty_or_not [] f = absurd (f no_count)
empty_or_not (b ∷ w) f = omega zarith

pub reaches_iff : (w : List Bool) (t : ℤ) → Reaches w t ↔ Spans (summary_of w) t
unfolding summary_of
reaches_iff w t = (λ r. spans w r.place t r.after r.inside r.depth, λ s. reach w t (empty_or_not w s.some) s.low s.high)

-- ---- (ii) the total is the depth at the end
pub total_is : (w : List Bool) → (summary_of w).total ≡ depth_of w
unfolding summary_of
total_is w = refl

pub depth_append : (x y : List Bool) → depth_of (x ++ y) ≡ depth_of x +ℤ depth_of y
unfolding depth_of
depth_append [] y = sym (+ℤ_idl (depth_of y))
depth_append (b ∷ x) y = rw (depth_append x y, +ℤ_assoc)

-- ---- (iii) the opens
unfoldable pub opens : List Bool → ℕ
opens [] = 0
opens (b ∷ w) = cond b 1 0 + opens w

pub opens_twice : (w : List Bool) → pos (2 * opens w) ≡ pos (length w) +ℤ depth_of w
unfolding opens depth_of
opens_twice [] = refl
opens_twice (true ∷ w) = omega (zarith, opens_twice w, +law (pos (length w)) (depth_of w), +law (pos 1) (depth_of w), +law (pos (suc (length w))) (pos 1 +ℤ depth_of w))
opens_twice (false ∷ w) = omega (zarith, opens_twice w, +law (pos (length w)) (depth_of w), +law (negsuc 0) (depth_of w), +law (pos (suc (length w))) (negsuc 0 +ℤ depth_of w))

pub opens_is : (w : List Bool) → opens w ≡ P (pos (length w) +ℤ depth_of w) / 2
opens_is w = omega (zarith, opens_twice w, parts (pos (length w) +ℤ depth_of w))
