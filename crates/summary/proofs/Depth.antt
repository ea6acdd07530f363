-- The depths of a stretch, in D's words: what the four numbers of a summary are, of the bits of a word from boundary a to boundary b. Assumes nothing.
use mathlib.Core.Path.{◌≡◌, refl, sym, ap, ap₂, ◌∙◌}
use mathlib.Core.Bool.{Bool, true, false, cond}
use mathlib.Core.List.{List, [], ◌∷◌}
use Prim.Native.Nat.{ℕ, suc, ◌+◌, ◌-◌, ◌≤◌, ◌<◌}
use lib.ListN.{length, take, drop, get_or, length-take, length-drop}
use lib.Seq.{take-take}
use lib.IntN.{ℤ, pos, negsuc, ◌-ℤ◌}
use lib.Signed.{◌≤ℤ◌}
use Rattle.word.specs.Forest.{count, D}
use Rattle.word.specs.Signed.{eq_z}
use Rattle.word.proofs.Signed.{zarith, +law, -law}
use Rattle.word.proofs.Children.{tally}
use Rattle.summary.specs.declared.Summary.{Summary}
use Rattle.summary.specs.Stretch.{depth_of, depths, least_of, how_many, summary_of}
use Rattle.summary.proofs.Meaning.{Reaches, Spans, reaches_iff, total_is, depths_length, depths_at, opens}
use Rattle.summary.proofs.Bounds.{depth_part}

pub depth_counts : (w : List Bool) → depth_of w ≡ pos (count true w) -ℤ pos (count false w)
unfolding depth_of
depth_counts [] = refl
depth_counts (true ∷ w) = omega (zarith, depth_counts w, +law (pos 1) (depth_of w), -law (pos (count true w)) (pos (count false w)), -law (pos (suc (count true w))) (pos (count false w)))
depth_counts (false ∷ w) = omega (zarith, depth_counts w, +law (negsuc 0) (depth_of w), -law (pos (count true w)) (pos (count false w)), -law (pos (count true w)) (pos (suc (count false w))))

pub opens_count : (w : List Bool) → opens w ≡ count true w
unfolding opens
opens_count [] = refl
opens_count (true ∷ w) = omega (zarith, opens_count w)
opens_count (false ∷ w) = omega (zarith, opens_count w)

-- "D(p) is openings less closings among the first p bits"
pub D_is : (w : List Bool) (p : ℕ) → D w p ≡ depth_of (take p w)
D_is w p = sym (depth_counts (take p w))

-- D(a+p) - D(a) is the depth of the stretch from a, at its boundary p
pub D_part : (w : List Bool) (a p : ℕ) → D w (a + p) -ℤ D w a ≡ depth_of (take p (drop a w))
D_part w a p = omega (zarith, D_is w (a + p), D_is w a, depth_part a p w, +law (depth_of (take a w)) (depth_of (take p (drop a w))), -law (D w (a + p)) (D w a))

-- the least and the greatest are each reached at some boundary
ends : (w : List Bool) → 0 < length w → Reaches w (summary_of w).least × Reaches w (summary_of w).greatest
ends [] h = absurd (omega zarith)
ends (b ∷ w) h =
    let one = (reaches_iff (b ∷ w) (depth_of (take 1 (b ∷ w)))).0 (record { place = 1; after = omega zarith; inside = omega zarith; depth = refl }) in (
      (reaches_iff (b ∷ w) (summary_of (b ∷ w)).least).1 (record {
        some =
            one.some;
        low = omega zarith;
        high = omega (zarith, one.low, one.high);
      }),
      (reaches_iff (b ∷ w) (summary_of (b ∷ w)).greatest).1 (record {
        some =
            one.some;
        low = omega (zarith, one.low, one.high);
        high = omega zarith;
      }),
    )

pub least_reached : (w : List Bool) → 0 < length w → Reaches w (summary_of w).least
least_reached w h = (ends w h).0

pub greatest_reached : (w : List Bool) → 0 < length w → Reaches w (summary_of w).greatest
greatest_reached w h = (ends w h).1

-- the count is a tally of boundaries
many_tally : (m : ℤ) (l : List ℤ) (f : ℕ → ℤ) → ((i : ℕ) → i < length l → get_or l i (pos 0) ≡ f (suc i))
    → how_many m l ≡ tally (λ p. eq_z (f p) m) (length l)
unfolding how_many
many_tally m [] f h = refl
many_tally m (x ∷ l) f h =
    ap₂ (λ y n. cond (eq_z y m) 1 0 + n) (h 0 (omega zarith)) (many_tally m l (λ p. f (suc p)) (λ i k. h (suc i) (omega zarith)))

pub count_is : (w : List Bool) (f : ℕ → ℤ) → ((p : ℕ) → p ≤ length w → depth_of (take p w) ≡ f p)
    → (summary_of w).count ≡ pos (tally (λ p. eq_z (f p) (summary_of w).least) (length w))
unfolding summary_of
count_is w f h = ap pos (many_tally (least_of (depths w)) (depths w) f (λ i k. depths_at w i (omega (zarith, depths_length w)) ∙ h (suc i) (omega (zarith, depths_length w)))
    ∙ ap (tally (λ p. eq_z (f p) (least_of (depths w)))) (depths_length w))

-- "The summary of a non-empty stretch of bits from a up to but not including b", in the rule's own words
pub record Sums (w : List Bool) (a b : ℕ) (s : Summary) : Type 0 where
  pub total : s.total ≡ D w b -ℤ D w a
  pub least_low : (p : ℕ) → a < p → p ≤ b → s.least ≤ℤ (D w p -ℤ D w a)
  pub least_at : (p : ℕ) × (a < p) × (p ≤ b) × (D w p -ℤ D w a ≡ s.least)
  pub greatest_high : (p : ℕ) → a < p → p ≤ b → (D w p -ℤ D w a) ≤ℤ s.greatest
  pub greatest_at : (p : ℕ) × (a < p) × (p ≤ b) × (D w p -ℤ D w a ≡ s.greatest)
  pub count : s.count ≡ pos (tally (λ j. eq_z (D w (a + j) -ℤ D w a) s.least) (b - a))

module _ (w : List Bool) (a b : ℕ) (l : a < b) (k : b ≤ length w) where
  abbrev u : List Bool
  u = take (b - a) (drop a w)

  long : length u ≡ b - a
  long = length-take (b - a) (drop a w) ∙ omega (zarith, length-drop a w)

  here : (j : ℕ) → j ≤ b - a → depth_of (take j u) ≡ D w (a + j) -ℤ D w a
  here j h = ap depth_of (take-take j (b - a) (drop a w) h) ∙ sym (D_part w a j)

  at : (p : ℕ) → a < p → p ≤ b → depth_of (take (p - a) u) ≡ D w p -ℤ D w a
  at p h i = here (p - a) (omega zarith) ∙ ap (λ q. D w q -ℤ D w a) (let e : a + (p - a) ≡ p = omega zarith in e)

  spans : (p : ℕ) → a < p → p ≤ b → Spans (summary_of u) (D w p -ℤ D w a)
  spans p h i =
      (reaches_iff u (D w p -ℤ D w a)).0 (record { place = p - a; after = omega zarith; inside = omega (zarith, long); depth = at p h i })

  found : (t : ℤ) → Reaches u t → (p : ℕ) × (a < p) × (p ≤ b) × (D w p -ℤ D w a ≡ t)
  found t r = (a + r.place, omega (zarith, r.after), omega (zarith, r.inside, long), sym (here r.place (omega (zarith, r.inside, long))) ∙ r.depth)

  pub sums : Sums w a b (summary_of u)
  sums = record {
    total = total_is u ∙ ap depth_of (sym (take-take (b - a) (b - a) (drop a w) (omega zarith))) ∙ at b l (omega zarith);
    least_low = λ p h i. (spans p h i).low;
    least_at = found (summary_of u).least (least_reached u (omega (zarith, long)));
    greatest_high = λ p h i. (spans p h i).high;
    greatest_at = found (summary_of u).greatest (greatest_reached u (omega (zarith, long)));
    count =
        count_is u (λ j. D w (a + j) -ℤ D w a) (λ j h. here j (omega (zarith, long)))
        ∙ ap (λ n. pos (tally (λ j. eq_z (D w (a + j) -ℤ D w a) (summary_of u).least) n)) long;
  }
