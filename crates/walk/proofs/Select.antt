-- The select walk finds the opening with number r, and reads exactly h entries.
use mathlib.Core.Path.{◌≡◌, refl, sym, ap, ◌∙◌}
use mathlib.Core.Bool.{Bool, true, false, cond}
use mathlib.Core.List.{List, [], ◌∷◌}
use mathlib.Core.Option.{Option, none, some}
use Prim.Native.Nat.{ℕ, zero, suc, ◌+◌, ◌-◌, ◌*◌, ◌^◌, ◌≤◌, min}
use native.Mathlib.Omega.{arith}
use lib.Dec.{ltb, ltb→lt, lt→ltb}
use lib.ListN.{length, take, drop, get_or, length-take, length-drop}
use lib.Seq.{take_all}
use Rattle.word.specs.Forest.{count}
use Rattle.word.proofs.Signed.{by_test, true≢false, not_true, true_T, T_true}
use Rattle.summary.specs.declared.Summary.{Summary}
use Rattle.summary.specs.Stretch.{summary_of}
use Rattle.summary.proofs.Meaning.{total_is, opens, opens_is}
use Rattle.index.specs.Shape.{entry}
use Rattle.index.proofs.Level.{Level, level_left, level_right}
use Rattle.walk.specs.Walk.{Reach}
use Rattle.walk.specs.Scan.{nth}
use Rattle.walk.specs.Select.{openings, select_down, leaf_nth, select}
use Rattle.walk.proofs.Options.{some_is, none_some}
use Rattle.walk.proofs.Places.{Starts, stretch, left_half, right_half, root_level, root_starts, left_starts, right_starts, stands}

pub nth_split : (n i : ℕ) (z : List Bool) (r : ℕ)
    → nth i z r ≡ cond (ltb r (opens (take n z))) (nth i (take n z) r) (nth (i + n) (drop n z) (r - opens (take n z)))
unfolding nth opens
nth_split zero i z r =
    let e : i + 0 ≡ i = omega arith in let d : r - 0 ≡ r = omega arith in
    rw (not_true (ltb r 0) (λ y. omega (arith, ltb→lt r 0 (true_T y))), e, d)
nth_split (suc n) i [] r = by_test (ltb r 0) (λ y. rw y) (λ y. rw y)
nth_split (suc n) i (false ∷ z) r =
    let e : i + suc n ≡ suc i + n = omega arith in let d : 0 + opens (take n z) ≡ opens (take n z) = omega arith in
    rw (e, d) (nth_split n (suc i) z r)
nth_split (suc n) i (true ∷ z) zero = rw (T_true (ltb 0 (1 + opens (take n z))) (lt→ltb 0 (1 + opens (take n z)) (omega arith)))
nth_split (suc n) i (true ∷ z) (suc r) =
    let e : i + suc n ≡ suc i + n = omega arith in
    let d : suc r - (1 + opens (take n z)) ≡ r - opens (take n z) = omega arith in
    rw (e, d, test) (nth_split n (suc i) z r)
  where
    test : ltb (suc r) (1 + opens (take n z)) ≡ ltb r (opens (take n z))
    test = by_test (ltb r (opens (take n z)))
        (λ y. rw y (T_true _ (lt→ltb (suc r) (1 + opens (take n z)) (omega (arith, ltb→lt r (opens (take n z)) (true_T y))))))
        (λ y. rw y (not_true _
        (λ x. true≢false (sym (T_true _ (lt→ltb r (opens (take n z)) (omega (arith, ltb→lt (suc r) (1 + opens (take n z)) (true_T x)))))
        ∙ y))))

nth_past : (w : List Bool) (r i q : ℕ) → nth i w r ≡ some q → i ≤ q
unfolding nth
nth_past [] r i q e = absurd (none_some refl e)
nth_past (true ∷ w) zero i q e = omega (arith, some_is {a = i} refl e)
nth_past (true ∷ w) (suc r) i q e = omega (arith, nth_past w r (suc i) q e)
nth_past (false ∷ w) r i q e = omega (arith, nth_past w r (suc i) q e)

-- what the scan finds: the place of an opening with r openings before it, and none where there are no more than r
pub nth_some : (w : List Bool) (r i q : ℕ) → nth i w r ≡ some (i + q) → (get_or w q false ≡ true) × (count true (take q w) ≡ r)
unfolding nth
nth_some [] r i q e = absurd (none_some refl e)
nth_some (true ∷ w) zero i q e = let z : q ≡ 0 = omega (arith, some_is {a = i} refl e) in rw z (refl, refl)
nth_some (true ∷ w) (suc r) i zero e = absurd (omega (arith, nth_past w r (suc i) i (e ∙ ap some (omega arith))))
nth_some (true ∷ w) (suc r) i (suc q) e = let s = nth_some w r (suc i) q (e ∙ ap some (omega arith)) in (s.0, ap suc s.1)
nth_some (false ∷ w) r i zero e = absurd (omega (arith, nth_past w r (suc i) i (e ∙ ap some (omega arith))))
nth_some (false ∷ w) r i (suc q) e = nth_some w r (suc i) q (e ∙ ap some (omega arith))

pub nth_none : (w : List Bool) (r i : ℕ) → nth i w r ≡ none → count true w ≤ r
unfolding nth
nth_none [] r i e = omega arith
nth_none (true ∷ w) zero i e = absurd (none_some {a = i} e refl)
nth_none (true ∷ w) (suc r) i e = omega (arith, nth_none w r (suc i) e)
nth_none (false ∷ w) r i e = nth_none w r (suc i) e

module _ (h : ℕ) (w : List Bool) where
  openings_are : (g a : ℕ) (s : Summary) → s ≡ summary_of (stretch w g a) → openings (length w) g a s ≡ opens (stretch w g a)
  openings_are g a s e =
      let l : length (stretch w g a) ≡ min (256 * 2 ^ g) (length w - 256 * a) =
      omega (arith, length-take (256 * 2 ^ g) (drop (256 * a) w), length-drop (256 * a) w) in
      rw (e, total_is, ← l) (sym (opens_is (stretch w g a)))

  -- the way down from an entry over 2 ^ g blocks: g reads
  abbrev Down : ℕ → Type 0
  Down g = (f k a r n : ℕ) → Level h f g k → Starts h g k a → leaf_nth w (select_down (entry h w) (length w) g k a r n)
      ≡ (nth (256 * a) (stretch w g a) r, n + g)

  down_zero : Down 0
  unfolding select_down
  down_zero f k a r n l b = let m : n + 0 ≡ n = omega arith in rw m

  down_suc : (g : ℕ) → Down g → Down (suc g)
  unfolding select_down
  down_suc g ih f k a r n l b =
      let sum : entry h w (2 * k) ≡ summary_of (stretch w g a) = stands h w (level_left l) (left_starts b) in
      let d : 256 * a + 256 * 2 ^ g ≡ 256 * (a + 2 ^ g) = omega arith in
      let c : n + 1 + g ≡ n + suc g = omega arith in
      rw (openings_are g a _ sum, nth_split (256 * 2 ^ g) (256 * a) (stretch w (suc g) a) r, left_half w g a, right_half w g a, d, ← c)
      (by_test (ltb r (opens (stretch w g a)))
      (λ y. rw y (ih (suc f) (2 * k) a r (n + 1) (level_left l) (left_starts b)))
      (λ y. rw y (ih (suc f) (2 * k + 1) (a + 2 ^ g) (r - opens (stretch w g a)) (n + 1) (level_right l) (right_starts b))))

  down : (g : ℕ) → Down g
  down zero = down_zero
  down (suc g) = down_suc g (down g)

  -- "Select r < n: the opening with number r." "Exactly h reads."
  pub select_is : length w ≤ 256 * 2 ^ h → (r : ℕ) → select h w r ≡ (nth 0 w r, h)
  unfolding select
  select_is m r =
      let c : 0 + h ≡ h = omega arith in
      rw (down h 0 1 0 r 0 (root_level h) (root_starts h), c, take_all (256 * 2 ^ h) w m)

  -- the opening with number r: r openings stand before it
  module _ (m : length w ≤ 256 * 2 ^ h) (r : ℕ) where
    pub select_some : (q : ℕ) → (select h w r).0 ≡ some q → (get_or w q false ≡ true) × (count true (take q w) ≡ r)
    select_some q e = nth_some w r 0 q
        (sym (ap (λ (x : Reach). x.0) (select_is m r)) ∙ e ∙ ap {B = Option ℕ} some (let z : q ≡ 0 + q = omega arith in z))

    pub select_none : (select h w r).0 ≡ none → count true w ≤ r
    select_none e = nth_none w r 0 (sym (ap (λ (x : Reach). x.0) (select_is m r)) ∙ e)

    pub select_reads : (select h w r).1 ≡ h
    select_reads = ap (λ (x : Reach). x.1) (select_is m r)
