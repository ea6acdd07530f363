-- The summary of two words, one after the other, is the join of their summaries. Assumes nothing.
use mathlib.Core.Path.{◌≡◌, refl, sym, ◌∙◌, ap, ap₂}
use mathlib.Core.Bool.{Bool, true, false, cond}
use mathlib.Core.List.{List, [], ◌∷◌, ◌++◌, map, append_assoc, append-nil}
use Prim.Native.Nat.{◌+◌, ◌<◌}
use lib.IntN.{ℤ, pos, ◌+ℤ◌}
use lib.Signed.{◌≤ℤ◌, ◌<ℤ◌}
use Rattle.summary.specs.declared.Summary.{Summary}
use Rattle.word.specs.Signed.{min_z, max_z, eq_z}
use Rattle.word.proofs.Signed.{zarith, +law, min_law, eq_z_refl, →eq_z, →neq_z, by_test}
use Rattle.summary.specs.Stretch.{step, depth_of, depths, least_of, greatest_of, how_many, summary_of}
use Rattle.summary.specs.Join.{at, joined, join_of, empty_of}
use Rattle.summary.proofs.Join.{at_yes, at_no, min_shift, max_shift, same, join_both, join_assoc, join_empty_left}

least_shift : (s x : ℤ) (l : List ℤ) → least_of (map (λ (d : ℤ). s +ℤ d) (x ∷ l)) ≡ s +ℤ least_of (x ∷ l)
unfolding least_of
least_shift s x [] = refl
least_shift s x (y ∷ l) = rw (least_shift s y l) (min_shift s x (least_of (y ∷ l)))

greatest_shift : (s x : ℤ) (l : List ℤ) → greatest_of (map (λ (d : ℤ). s +ℤ d) (x ∷ l)) ≡ s +ℤ greatest_of (x ∷ l)
unfolding greatest_of
greatest_shift s x [] = refl
greatest_shift s x (y ∷ l) = rw (greatest_shift s y l) (max_shift s x (greatest_of (y ∷ l)))

eq_shift : (s x m : ℤ) → eq_z (s +ℤ x) (s +ℤ m) ≡ eq_z x m
eq_shift s x m = by_test (eq_z x m)
    (λ e. →eq_z (s +ℤ x) (s +ℤ m) (omega (zarith, +law s x, +law s m)) ∙ sym e)
    (λ e. →neq_z (s +ℤ x) (s +ℤ m) (omega (zarith, +law s x, +law s m)) ∙ sym e)

many_shift : (s m : ℤ) (l : List ℤ) → how_many (s +ℤ m) (map (λ (d : ℤ). s +ℤ d) l) ≡ how_many m l
unfolding how_many
many_shift s m [] = refl
many_shift s m (x ∷ l) = rw (eq_shift s x m, many_shift s m l)

many_below : (m x : ℤ) (l : List ℤ) → m <ℤ least_of (x ∷ l) → how_many m (x ∷ l) ≡ 0
unfolding how_many least_of
many_below m x [] h = simp (→neq_z x m (omega zarith))
many_below m x (y ∷ l) h =
    rw (→neq_z x m (omega (zarith, min_law x (least_of (y ∷ l)))), many_below m y l (omega (zarith, min_law x (least_of (y ∷ l)))))

many_cons : (m x : ℤ) (l : List ℤ) → how_many m (x ∷ l) ≡ cond (eq_z x m) 1 0 + how_many m l
unfolding how_many
many_cons m x l = refl

pub least_cons : (x y : ℤ) (l : List ℤ) → least_of (x ∷ y ∷ l) ≡ min_z x (least_of (y ∷ l))
unfolding least_of
least_cons x y l = refl

pub greatest_cons : (x y : ℤ) (l : List ℤ) → greatest_of (x ∷ y ∷ l) ≡ max_z x (greatest_of (y ∷ l))
unfolding greatest_of
greatest_cons x y l = refl

many_least : (x : ℤ) (l : List ℤ) → 0 < how_many (least_of (x ∷ l)) (x ∷ l)
unfolding least_of
many_least x [] = rw (many_cons, eq_z_refl) (omega zarith)
many_least x (y ∷ l) = rw many_cons (by_test (eq_z x (min_z x (least_of (y ∷ l))))
    (λ e. rw e (omega zarith))
    (λ e. let q : min_z x (least_of (y ∷ l)) ≡ least_of (y ∷ l) = omega (zarith, min_law x (least_of (y ∷ l))) in
    rw q (omega (zarith, many_least y l))))

unfoldable pub one : Bool → Summary
one b = record { total = step b; least = step b; greatest = step b; count = pos 1 }

at_one : (s m : ℤ) → pos (cond (eq_z s m) 1 0) ≡ at s m (pos 1)
unfolding at
at_one s m = by_test (eq_z s m) (λ e. simp e) (λ e. simp e)

many_part : (m s x : ℤ) (l : List ℤ) → m ≤ℤ (s +ℤ least_of (x ∷ l))
    → pos (how_many m (map (λ (d : ℤ). s +ℤ d) (x ∷ l))) ≡ at (s +ℤ least_of (x ∷ l)) m (pos (how_many (least_of (x ∷ l)) (x ∷ l)))
many_part m s x l h = by_test (eq_z (s +ℤ least_of (x ∷ l)) m)
    (λ e. let q : m ≡ s +ℤ least_of (x ∷ l) = omega zarith in
    rw (at_yes (s +ℤ least_of (x ∷ l)) m (pos (how_many (least_of (x ∷ l)) (x ∷ l))) (sym q), q, many_shift s (least_of (x ∷ l)) (x ∷ l)))
    (λ e. rw (at_no (s +ℤ least_of (x ∷ l)) m (pos (how_many (least_of (x ∷ l)) (x ∷ l))) (omega zarith))
    (ap pos (many_below m (s +ℤ x) (map (λ (d : ℤ). s +ℤ d) l) (rw (least_shift s x l) (omega zarith)))))

cons_many : (s x : ℤ) (l : List ℤ) (m : ℤ) → m ≡ min_z s (s +ℤ least_of (x ∷ l))
    → pos (how_many m (s ∷ map (λ (d : ℤ). s +ℤ d) (x ∷ l))) ≡ at s m (pos 1) +ℤ at (s +ℤ least_of (x ∷ l)) m (pos (how_many (least_of (x ∷ l)) (x ∷ l)))
cons_many s x l m e =
    rw (many_cons m s) (ap₂ ◌+ℤ◌ (at_one s m) (many_part m s x l (omega (zarith, min_law s (s +ℤ least_of (x ∷ l))))))

pub least_all : (s x : ℤ) (l : List ℤ) → least_of (s ∷ map (λ (d : ℤ). s +ℤ d) (x ∷ l)) ≡ min_z s (s +ℤ least_of (x ∷ l))
least_all s x l = least_cons s (s +ℤ x) (map (λ (d : ℤ). s +ℤ d) l) ∙ ap (min_z s) (least_shift s x l)

pub greatest_all : (s x : ℤ) (l : List ℤ) → greatest_of (s ∷ map (λ (d : ℤ). s +ℤ d) (x ∷ l)) ≡ max_z s (s +ℤ greatest_of (x ∷ l))
greatest_all s x l = greatest_cons s (s +ℤ x) (map (λ (d : ℤ). s +ℤ d) l) ∙ ap (max_z s) (greatest_shift s x l)

longer : (b : Bool) (x : ℤ) (l : List ℤ) (t : ℤ)
    → (record { total = step b +ℤ t; least = least_of (step b ∷ map (λ (d : ℤ). step b +ℤ d) (x ∷ l)); greatest = greatest_of (step b ∷ map (λ (d : ℤ). step b +ℤ d) (x ∷ l)); count = pos (how_many (least_of (step b ∷ map (λ (d : ℤ). step b +ℤ d) (x ∷ l))) (step b ∷ map (λ (d : ℤ). step b +ℤ d) (x ∷ l))) })
    ≡ joined (one b) (record {
      total =
          t;
      least = least_of (x ∷ l);
      greatest = greatest_of (x ∷ l);
      count = pos (how_many (least_of (x ∷ l)) (x ∷ l));
    })
unfolding joined one
longer b x l t = same refl (least_all (step b) x l) (greatest_all (step b) x l)
    (rw (least_all (step b) x l) (cons_many (step b) x l _ refl))

pub summary_empty : summary_of [] ≡ empty_of
unfolding summary_of empty_of depth_of least_of greatest_of how_many depths
summary_empty = refl

pub counted : (b : Bool) (w : List Bool) → pos 0 <ℤ (summary_of (b ∷ w)).count
unfolding summary_of depths
counted b w = omega (zarith, many_least (step b) (map (λ (d : ℤ). step b +ℤ d) (depths w)))

pub count_nonneg : (w : List Bool) → pos 0 ≤ℤ (summary_of w).count
unfolding summary_of
count_nonneg w = omega zarith

one_count : (b : Bool) → pos 0 ≤ℤ (one b).count
unfolding one
one_count b = omega zarith

pub summary_cons : (b : Bool) (w : List Bool) → summary_of (b ∷ w) ≡ join_of (one b) (summary_of w)
unfolding summary_of depth_of depths least_of greatest_of how_many one join_of joined eq_z
summary_cons true [] = refl
summary_cons false [] = refl
summary_cons b (c ∷ w) = longer b (step c) (map (λ (d : ℤ). step c +ℤ d) (depths w)) (depth_of (c ∷ w))
    ∙ sym (join_both (one b) (summary_of (c ∷ w)) (omega zarith) (counted c w))

-- two words, one after the other
pub summary_append : (x y : List Bool) → summary_of (x ++ y) ≡ join_of (summary_of x) (summary_of y)
summary_append [] y = rw (summary_empty, join_empty_left)
summary_append (b ∷ x) y =
    rw (summary_cons b (x ++ y), summary_append x y, summary_cons b x) (sym (join_assoc (one b) (summary_of x) (summary_of y) (one_count b) (count_nonneg x) (count_nonneg y)))

-- so joining is associative on the summaries of words, and their empty one changes nothing
pub words_assoc : (x y z : List Bool)
    → join_of (join_of (summary_of x) (summary_of y)) (summary_of z) ≡ join_of (summary_of x) (join_of (summary_of y) (summary_of z))
words_assoc x y z = simp (← summary_append, append_assoc)

pub words_empty : (x : List Bool) → join_of (summary_of x) empty_of ≡ summary_of x
words_empty x = simp (← summary_empty, ← summary_append, append-nil)
