-- Where a row breaks: `breaks` gives what its words say, and none exactly when the row is balanced; and where that is by D. Assumes nothing.
use mathlib.Core.Path.{◌≡◌, refl, sym, ap, subst, ◌∙◌}
use mathlib.Core.Logic.{◌↔◌}
use mathlib.Core.Bool.{Bool, true, false}
use mathlib.Core.List.{List, [], ◌∷◌}
use mathlib.Core.Option.{Option, none, some}
use Prim.Native.Nat.{ℕ, suc, pred, ◌+◌, ◌-◌, ◌≤◌, ◌<◌}
use native.Mathlib.Omega.{arith}
use native.Mathlib.Decide.{dec_le, dec_lt, ℕ_discrete}
use lib.ListN.{length, take, drop, get_or, length-take, length-drop}
use lib.Seq.{drop-drop, get_or-drop}
use lib.IntN.{pos, negsuc}
use lib.Signed.{◌≤ℤ◌, ◌<ℤ◌}
use Rattle.word.specs.Forest.{Balanced, D}
use Rattle.word.specs.Depth.{Forward}
use Rattle.word.specs.Breaks.{Partners, Break, closing_alone, opening_alone, ClosingAlone, OpeningAlone, earliest, breaks_from, breaks}
use Rattle.word.proofs.Tests.{true≢false}
use Rattle.word.proofs.Signed.{zarith, +law, -law}
use Rattle.word.proofs.Depth.{eq, bit_in, D_law, D_up, D_down, D_part, forward_unique}
use Rattle.word.proofs.Balance.{balanced_iff}
use Rattle.word.proofs.Bridge.{Span}

module _ (w : List Bool) where
  -- ---- partners by D

  part_length : (n a : ℕ) → suc (a + n) ≤ length w → length (take n (drop (suc a) w)) ≡ n
  part_length n a h = omega (arith, length-take n (drop (suc a) w), length-drop (suc a) w)

  -- D comes back to what it was before the opening just after its partner
  partners_back : (a c : ℕ) → Partners w a c → (a < c) × (D w (suc c) ≡ D w a)
  partners_back a c p =
      let u : List Bool = take p.n (drop (suc a) w) in
      let long : length u ≡ p.n = part_length p.n a (omega (arith, p.apart, bit_in w c true p.closing)) in
      let e : D u p.n ≡ pos 0 = ap (D u) (sym long) ∙ ((balanced_iff u).0 p.between).1 in (
        omega (arith, p.apart),
        omega (
          zarith,
          D_up w a p.opening,
          D_down w c p.closing,
          +law (D w a) (pos 1),
          -law (D w c) (pos 1),
          ap (D w) (eq c (suc a + p.n) (omega (arith, p.apart))),
          D_part w (suc a) p.n p.n (omega arith),
          +law (D w (suc a)) (D u p.n),
        ),
      )

  span_partners : (a c d : ℕ) → Span w a c d → Partners w a c
  span_partners a c d s =
      let n : ℕ = c - suc a in
      let u : List Bool = take n (drop (suc a) w) in
      let long : length u ≡ n = part_length n a (omega (arith, s.proper, s.within)) in
      let here : c ≡ suc a + n = omega (arith, s.proper) in
      record {
        n = n;
        apart = omega (arith, s.proper);
        opening = s.opened;
        closing = s.closed;
        between = (balanced_iff u).1 (
          (λ q h. omega (
            zarith,
            s.before,
            s.inside (suc a + q) (omega arith) (omega arith),
            D_up w a s.opened,
            +law (D w a) (pos 1),
            D_part w (suc a) n q (omega arith),
            +law (D w (suc a)) (D u q),
          )),
          ap (D u) long ∙ omega (
            zarith,
            s.before,
            s.after,
            D_up w a s.opened,
            D_down w c s.closed,
            +law (D w a) (pos 1),
            -law (D w c) (pos 1),
            ap (D w) here,
            D_part w (suc a) n n (omega arith),
            +law (D w (suc a)) (D u n),
          ),
        );
      }

  -- ---- what is known while the row is read

  -- from boundary lo up to i: D was never below d, is d now, and each opening since has its partner
  record Settled (lo i d : ℕ) : Type 0 where
    low : (j : ℕ) → lo ≤ j → j ≤ i → pos d ≤ℤ D w j
    level : D w i ≡ pos d
    partnered : (a : ℕ) → lo ≤ a → a < i → get_or w a false ≡ true → (c : ℕ) × Partners w a c

  abbrev Waiting : ℕ → List ℕ → Type 0
  Waiting i [] = Settled 0 i 0
  Waiting i (p ∷ ps) = (p < i) × (get_or w p false ≡ true) × Settled (suc p) i (suc (length ps)) × Waiting p ps

  abbrev Closed : ℕ → Type 0
  Closed i = (c : ℕ) → c < i → get_or w c true ≡ false → (a : ℕ) × Partners w a c

  level_of : (i : ℕ) (ps : List ℕ) → Waiting i ps → D w i ≡ pos (length ps)
  level_of i [] h = h.level
  level_of i (p ∷ ps) h = h.2.level

  never_negative_yet : (i : ℕ) (ps : List ℕ) → Waiting i ps → (j : ℕ) → j ≤ i → pos 0 ≤ℤ D w j
  never_negative_yet i [] h j l = h.low j (omega arith) l
  never_negative_yet i (p ∷ ps) h j l = go (dec_le j p) (never_negative_yet p ps h.3 j)
    where
      go : Dec (j ≤ p) → (j ≤ p → pos 0 ≤ℤ D w j) → pos 0 ≤ℤ D w j
      go (yes k) ih = ih k
      go (no k) ih = omega (zarith, h.2.low j (omega arith) l)

  push : (i : ℕ) (ps : List ℕ) → Waiting i ps → get_or w i false ≡ true → Waiting (suc i) (i ∷ ps)
  push i ps h o =
      let l : D w (suc i) ≡ pos (suc (length ps)) = omega (zarith, D_up w i o, level_of i ps h, +law (D w i) (pos 1)) in (
        omega arith,
        o,
        record {
          low = λ j u v. subst (λ k. pos (suc (length ps)) ≤ℤ D w k) (eq (suc i) j (omega arith)) (omega zarith);
          level = l;
          partnered = λ a u v. absurd (omega arith);
        },
        h,
      )

  -- the last opening that waits, and the closing at i
  pair : (p i d : ℕ) → p < i → get_or w p false ≡ true → Settled (suc p) i (suc d) → D w p ≡ pos d → get_or w i true ≡ false → Span w p i d
  pair p i d l o s e c = record {
    proper = l;
    within = bit_in w i true c;
    opened = o;
    closed = c;
    before = e;
    inside = λ q u v. omega (zarith, s.low q u v);
    after = omega (zarith, D_down w i c, s.level, -law (D w i) (pos 1));
  }

  -- so what began before that opening goes on after the closing
  settle : (lo p i d : ℕ) → Settled (suc p) i (suc d) → Span w p i d → Settled lo p d → Settled lo (suc i) d
  settle lo p i d s k t = record {
    low = λ j u v. low j u v (dec_le j p) (dec_le j i);
    level = k.after;
    partnered = λ a u v o. partnered a u v o (dec_lt a p) (ℕ_discrete a p) (ℕ_discrete a i);
  }
    where
      low : (j : ℕ) → lo ≤ j → j ≤ suc i → Dec (j ≤ p) → Dec (j ≤ i) → pos d ≤ℤ D w j
      low j u v (yes x) y = t.low j u x
      low j u v (no x) (yes y) = omega (zarith, s.low j (omega arith) y)
      low j u v (no x) (no y) = omega (zarith, k.after, ap (D w) (eq j (suc i) (omega arith)))

      partnered : (a : ℕ) → lo ≤ a → a < suc i → get_or w a false ≡ true → Dec (a < p) → Dec (a ≡ p) → Dec (a ≡ i)
          → (c : ℕ) × Partners w a c
      partnered a u v o (yes x) y z = t.partnered a u x o
      partnered a u v o (no x) (yes y) z = (i, subst (λ q. Partners w q i) (sym y) (span_partners p i d k))
      partnered a u v o (no x) (no y) (yes z) =
          let o' : get_or w i false ≡ true = ap (λ q. get_or w q false) (sym z) ∙ o in
          absurd (omega (zarith, D_up w i o', D_down w i k.closed, +law (D w i) (pos 1), -law (D w i) (pos 1)))
      partnered a u v o (no x) (no y) (no z) = s.partnered a (omega arith) (omega arith) o

  pop : (i p : ℕ) (ps : List ℕ) → Waiting i (p ∷ ps) → get_or w i true ≡ false → Span w p i (length ps) × Waiting (suc i) ps
  pop i p [] h c = let k = pair p i 0 h.0 h.1 h.2 h.3.level c in (k, settle 0 p i 0 h.2 k h.3)
  pop i p (q ∷ ps) h c =
      let k = pair p i (suc (length ps)) h.0 h.1 h.2 h.3.2.level c in
      (k, (omega (arith, h.0, h.3.0), h.3.1, settle (suc q) p i (suc (length ps)) h.2 k h.3.2, h.3.3))

  closed_on : (i : ℕ) → Closed i → (get_or w i true ≡ false → (a : ℕ) × Partners w a i) → Closed (suc i)
  closed_on i h k c l o = go (ℕ_discrete c i)
    where
      go : Dec (c ≡ i) → (a : ℕ) × Partners w a c
      go (yes e) = let p = k (ap (λ n. get_or w n true) (sym e) ∙ o) in (p.0, subst (Partners w p.0) (sym e) p.1)
      go (no n) = h c (omega arith) o

  -- the first of the openings that wait: D is above 0 ever since
  record Ground (q i : ℕ) : Type 0 where
    before : Settled 0 q 0
    opened : get_or w q false ≡ true
    inside : q < i
    above : (j : ℕ) → q < j → j ≤ i → pos 0 <ℤ D w j

  ground : (i p : ℕ) (ps : List ℕ) → Waiting i (p ∷ ps) → Ground (earliest p ps) i
  ground i p [] h = record { before = h.3; opened = h.1; inside = h.0; above = λ j u v. omega (zarith, h.2.low j u v) }
  ground i p (q ∷ ps) h =
      let g = ground p q ps h.3 in
      record {
        before =
            g.before;
        opened = g.opened;
        inside = omega (arith, g.inside, h.0);
        above = λ j u v. go j v (dec_le j p) (g.above j u);
      }
    where
      go : (j : ℕ) → j ≤ i → Dec (j ≤ p) → (j ≤ p → pos 0 <ℤ D w j) → pos 0 <ℤ D w j
      go j v (yes k) f = f k
      go j v (no k) f = omega (zarith, h.2.low j (omega arith) v)

  -- ---- what is known at the end

  abbrev Ends : Option Break → Type 0
  Ends none = Settled 0 (length w) 0
  Ends (some (closing_alone i)) = Settled 0 i 0 × (get_or w i true ≡ false) × Closed i
  Ends (some (opening_alone i)) = Ground i (length w) × Closed (length w) × ((j : ℕ) → j ≤ length w → pos 0 ≤ℤ D w j)

  next_bit : (i : ℕ) (b : Bool) (v : List Bool) → drop i w ≡ b ∷ v → (drop (suc i) w ≡ v) × (i < length w) × ((d : Bool) → get_or w i d ≡ b)
  next_bit i b v e = (
    ap (λ n. drop n w) (eq (suc i) (i + 1) (omega arith)) ∙ sym (drop-drop 1 i w) ∙ ap (drop 1) e,
    omega (arith, length-drop i w, ap length e),
    λ d. ap (λ n. get_or w n d) (eq i (i + 0) (omega arith)) ∙ sym (get_or-drop i w 0 d) ∙ ap (λ u. get_or u 0 d) e,
  )

  read_on : (v : List Bool) (i : ℕ) (ps : List ℕ) → drop i w ≡ v → i ≤ length w → Waiting i ps → Closed i → Ends (breaks_from i ps v)
  read_on [] i [] e l h c = subst (λ n. Settled 0 n 0) (eq i (length w) (omega (arith, length-drop i w, ap length e))) h
  read_on [] i (p ∷ ps) e l h c = subst (λ n. Ground (earliest p ps) n × Closed n × ((j : ℕ) → j ≤ n → pos 0 ≤ℤ D w j)) (eq i (length w) (omega (arith, length-drop i w, ap length e)))
      (ground i p ps h, c, never_negative_yet i (p ∷ ps) h)
  read_on (true ∷ v) i ps e l h c =
      let n = next_bit i true v e in
      read_on v (suc i) (i ∷ ps) n.0 n.1 (push i ps h (n.2 false)) (closed_on i c (λ o. absurd (true≢false (sym (n.2 true) ∙ o))))
  read_on (false ∷ v) i [] e l h c = (h, (next_bit i false v e).2 true, c)
  read_on (false ∷ v) i (p ∷ ps) e l h c =
      let n = next_bit i false v e in
      let k = pop i p ps h (n.2 true) in
      read_on v (suc i) ps n.0 n.1 k.1 (closed_on i c (λ o. (p, span_partners p i (length ps) k.0)))

  known : Ends (breaks w)
  unfolding breaks
  known = read_on w 0 [] refl (omega arith) start (λ c l. absurd (omega arith))
    where
      start : Settled 0 0 0
      start = record {
        low = λ j u v. subst (λ k. pos 0 ≤ℤ D w k) (eq 0 j (omega arith)) (omega zarith);
        level = refl;
        partnered = λ a u v. absurd (omega arith);
      }

-- ---- the laws

-- what `breaks` gives is what its words say
abbrev pub Says : List Bool → Option Break → Type 0
Says w none = Balanced w
Says w (some (closing_alone i)) = ClosingAlone w i
Says w (some (opening_alone i)) = OpeningAlone w i

-- by D: a closing alone is where D first is -1, and the first opening never closed where D is 0 for the last time
pub record LastAtZero (w : List Bool) (i : ℕ) : Type 0 where
  pub never : (j : ℕ) → j ≤ length w → pos 0 ≤ℤ D w j
  pub within : i < length w
  pub here : D w i ≡ pos 0
  pub above : (j : ℕ) → i < j → j ≤ length w → pos 0 <ℤ D w j

abbrev Shows : List Bool → Option Break → Type 0
Shows w none = Balanced w
Shows w (some (closing_alone i)) = Forward w 0 (negsuc 0) (suc i)
Shows w (some (opening_alone i)) = LastAtZero w i

module _ (w : List Bool) where
  pub breaks_says : Says w (breaks w)
  breaks_says = go (breaks w) (known w)
    where
      go : (o : Option Break) → Ends w o → Says w o
      go none e = (balanced_iff w).1 ((λ p h. e.low p (omega arith) h), e.level)
      go (some (closing_alone i)) e = record {
        closing = e.1;
        alone = λ a p. let b = partners_back w a i p in omega (zarith, b, D_down w i e.1, -law (D w i) (pos 1), e.0.level, e.0.low a (omega arith) (omega (arith, b)));
        first = e.2;
      }
      go (some (opening_alone i)) e = record {
        closings = λ c o. e.1 c (bit_in w c true o) o;
        opening = e.0.opened;
        alone = λ c p. let b = partners_back w i c p in omega (zarith, b, e.0.before.level, e.0.above (suc c) (omega (arith, b)) (bit_in w c true p.closing));
        first = λ a l o. e.0.before.partnered a (omega arith) l o;
      }

  shows : Shows w (breaks w)
  shows = go (breaks w) (known w)
    where
      go : (o : Option Break) → Ends w o → Shows w o
      go none e = (balanced_iff w).1 ((λ p h. e.low p (omega arith) h), e.level)
      go (some (closing_alone i)) e = record {
        later = omega arith;
        within = bit_in w i true e.1;
        there = omega (zarith, D_down w i e.1, e.0.level, -law (D w i) (pos 1), D_law w 0, +law (D w 0) (negsuc 0));
        first = λ j u v k. omega (zarith, e.0.low j (omega arith) (omega arith), D_law w 0, +law (D w 0) (negsuc 0));
      }
      go (some (opening_alone i)) e = record { never = e.2; within = e.0.inside; here = e.0.before.level; above = e.0.above }

  -- no two of the three hold together, and none of two places
  dips : (i : ℕ) → Forward w 0 (negsuc 0) (suc i) → ((j : ℕ) → j ≤ length w → pos 0 ≤ℤ D w j) → ⊥
  dips i s h = omega (zarith, s.there, D_law w 0, +law (D w 0) (negsuc 0), h (suc i) s.within)

  stays_up : (i : ℕ) → LastAtZero w i → D w (length w) ≡ pos 0 → ⊥
  stays_up i s e = omega (zarith, s.above (length w) s.within (omega arith))

  last_unique : (i j : ℕ) → LastAtZero w i → LastAtZero w j → i ≡ j
  last_unique i j s t = go (dec_lt i j) (dec_lt j i)
    where
      go : Dec (i < j) → Dec (j < i) → i ≡ j
      go (yes l) k = absurd (omega (zarith, t.here, s.above j l (omega (arith, t.within))))
      go (no l) (yes k) = absurd (omega (zarith, s.here, t.above i k (omega (arith, s.within))))
      go (no l) (no k) = omega arith

  one_only : (o p : Option Break) → Shows w o → Shows w p → o ≡ p
  one_only none none s t = refl
  one_only none (some (closing_alone i)) s t = absurd (dips i t ((balanced_iff w).0 s).0)
  one_only none (some (opening_alone i)) s t = absurd (stays_up i t ((balanced_iff w).0 s).1)
  one_only (some (closing_alone i)) none s t = absurd (dips i s ((balanced_iff w).0 t).0)
  one_only (some (closing_alone i)) (some (closing_alone j)) s t =
      ap (λ n. some (closing_alone (pred n))) (forward_unique w 0 (negsuc 0) (suc i) (suc j) s t)
  one_only (some (closing_alone i)) (some (opening_alone j)) s t = absurd (dips i s t.never)
  one_only (some (opening_alone i)) none s t = absurd (stays_up i s ((balanced_iff w).0 t).1)
  one_only (some (opening_alone i)) (some (closing_alone j)) s t = absurd (dips j t s.never)
  one_only (some (opening_alone i)) (some (opening_alone j)) s t = ap (λ n. some (opening_alone n)) (last_unique i j s t)

  -- a row is balanced exactly when it breaks nowhere
  pub breaks_none : (breaks w ≡ none) ↔ Balanced w
  breaks_none = ((λ e. subst (Shows w) e shows), one_only (breaks w) none shows)

  pub breaks_closing : (i : ℕ) → (breaks w ≡ some (closing_alone i)) ↔ Forward w 0 (negsuc 0) (suc i)
  breaks_closing i = ((λ e. subst (Shows w) e shows), one_only (breaks w) (some (closing_alone i)) shows)

  pub breaks_opening : (i : ℕ) → (breaks w ≡ some (opening_alone i)) ↔ LastAtZero w i
  breaks_opening i = ((λ e. subst (Shows w) e shows), one_only (breaks w) (some (opening_alone i)) shows)

-- "A row with both faults is a 6": `())(` breaks at its closing
both_faults : breaks (true ∷ false ∷ false ∷ true ∷ []) ≡ some (closing_alone 2)
unfolding breaks
both_faults = refl

-- `()((()` breaks at the first of the two openings that are never closed
left_over : breaks (true ∷ false ∷ true ∷ true ∷ true ∷ false ∷ []) ≡ some (opening_alone 2)
unfolding breaks
left_over = refl
