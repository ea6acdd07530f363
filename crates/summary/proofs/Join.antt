-- Joining is associative, on summaries whose counts are not negative, and the empty summary changes nothing. Assumes nothing.
use mathlib.Core.Path.{◌≡◌, refl, sym, ◌∙◌, ap}
use mathlib.Core.Logic.{◌≢◌}
use mathlib.Core.Bool.{false}
use Prim.Native.Nat.{◌+◌}
use lib.IntN.{ℤ, pos, negsuc, ◌+ℤ◌, +ℤ_assoc, +ℤ_idl}
use lib.Signed.{◌≤ℤ◌, ◌<ℤ◌}
use Rattle.summary.specs.declared.Summary.{Summary}
use Rattle.word.specs.Signed.{P, N, min_z, max_z, eq_z}
use Rattle.word.proofs.Signed.{zarith, +law, min_law, max_law, →eq, →eq_z, →neq_z, by_test}
use Rattle.summary.specs.Join.{at, joined, join_of, empty_of}

pub at_yes : (a m c : ℤ) → a ≡ m → at a m c ≡ c
unfolding at
at_yes a m c e = simp (→eq_z a m (omega zarith))

pub at_no : (a m c : ℤ) → P a + N m ≢ P m + N a → at a m c ≡ pos 0
unfolding at
at_no a m c n = simp (→neq_z a m n)

-- a count that is taken twice, once at a least and once at a lower one
at_deep : (t a m l c : ℤ) → l ≤ℤ (t +ℤ m) → m ≤ℤ a → at (t +ℤ m) l (at a m c) ≡ at (t +ℤ a) l c
at_deep t a m l c h k = by_test (eq_z (t +ℤ m) l)
    (λ e. by_test (eq_z a m)
    (λ f. at_yes (t +ℤ m) l (at a m c) (omega zarith) ∙ at_yes a m c (omega zarith) ∙ sym (at_yes (t +ℤ a) l c (omega (zarith, +law t a, +law t m))))
    (λ f. at_yes (t +ℤ m) l (at a m c) (omega zarith) ∙ at_no a m c (omega zarith) ∙ sym (at_no (t +ℤ a) l c (omega (zarith, +law t a, +law t m)))))
    (λ e. at_no (t +ℤ m) l (at a m c) (omega zarith) ∙ sym (at_no (t +ℤ a) l c (omega (zarith, +law t a, +law t m))))

at_twice : (a m l c : ℤ) → l ≤ℤ m → m ≤ℤ a → at m l (at a m c) ≡ at a l c
at_twice a m l c h k = simp +ℤ_idl at (at_deep (pos 0) a m l c (rw +ℤ_idl h) k)

at_sum : (a m c d : ℤ) → at a m (c +ℤ d) ≡ at a m c +ℤ at a m d
unfolding at
at_sum a m c d = by_test (eq_z a m) (λ e. simp e) (λ e. simp e)

at_nonneg : (a m c : ℤ) → pos 0 ≤ℤ c → pos 0 ≤ℤ at a m c
at_nonneg a m c h = by_test (eq_z a m)
    (λ e. rw (at_yes a m c (omega zarith)) h)
    (λ e. rw (at_no a m c (omega zarith)) (omega zarith))

-- a join's count is positive where both counts are
counted : (a b c d : ℤ) → pos 0 <ℤ c → pos 0 <ℤ d → pos 0 <ℤ (at a (min_z a b) c +ℤ at b (min_z a b) d)
counted a b c d h k = by_test (eq_z a (min_z a b))
    (λ e. rw (at_yes a (min_z a b) c (omega zarith)) (omega (zarith, +law c (at b (min_z a b) d), at_nonneg b (min_z a b) d (omega zarith))))
    (λ e. rw (at_yes b (min_z a b) d (omega (zarith, min_law a b))) (omega (zarith, +law (at a (min_z a b) c) d, at_nonneg a (min_z a b) c (omega zarith))))

pub joined_count : (x y : Summary) → pos 0 <ℤ x.count → pos 0 <ℤ y.count → pos 0 <ℤ (joined x y).count
unfolding joined
joined_count x y h k = counted x.least (x.total +ℤ y.least) x.count y.count h k

pub same : {x y : Summary} → x.total ≡ y.total → x.least ≡ y.least → x.greatest ≡ y.greatest → x.count ≡ y.count → x ≡ y
same t l g c = λ i. record { total = t i; least = l i; greatest = g i; count = c i }

-- the smaller and the larger of three, in either grouping, and of two that are moved by the same depth
module _ (a b c : ℤ) where
  min_three : min_z (min_z a b) c ≡ min_z a (min_z b c)
  min_three = omega (zarith, min_law a b, min_law (min_z a b) c, min_law b c, min_law a (min_z b c))

  max_three : max_z (max_z a b) c ≡ max_z a (max_z b c)
  max_three = omega (zarith, max_law a b, max_law (max_z a b) c, max_law b c, max_law a (max_z b c))

  pub min_shift : min_z (a +ℤ b) (a +ℤ c) ≡ a +ℤ min_z b c
  min_shift = omega (zarith, min_law (a +ℤ b) (a +ℤ c), min_law b c, +law a b, +law a c, +law a (min_z b c))

  pub max_shift : max_z (a +ℤ b) (a +ℤ c) ≡ a +ℤ max_z b c
  max_shift = omega (zarith, max_law (a +ℤ b) (a +ℤ c), max_law b c, +law a b, +law a c, +law a (max_z b c))

module _ (t u a b c : ℤ) where
  min_assoc : min_z (min_z a (t +ℤ b)) ((t +ℤ u) +ℤ c) ≡ min_z a (t +ℤ min_z b (u +ℤ c))
  min_assoc = rw (+ℤ_assoc t u c, min_three a (t +ℤ b) (t +ℤ (u +ℤ c)), min_shift t b (u +ℤ c))

  max_assoc : max_z (max_z a (t +ℤ b)) ((t +ℤ u) +ℤ c) ≡ max_z a (t +ℤ max_z b (u +ℤ c))
  max_assoc = rw (+ℤ_assoc t u c, max_three a (t +ℤ b) (t +ℤ (u +ℤ c)), max_shift t b (u +ℤ c))

  -- all three counts, each at the least of all
  left_count : (l i j k : ℤ) → l ≡ min_z (min_z a (t +ℤ b)) ((t +ℤ u) +ℤ c)
      → at (min_z a (t +ℤ b)) l (at a (min_z a (t +ℤ b)) i +ℤ at (t +ℤ b) (min_z a (t +ℤ b)) j) +ℤ at ((t +ℤ u) +ℤ c) l k
      ≡ (at a l i +ℤ at (t +ℤ b) l j) +ℤ at ((t +ℤ u) +ℤ c) l k
  left_count l i j k e = rw (at_sum, at_twice a, at_twice (t +ℤ b), h₁, h₂, h₃)
    where
      h₁ : l ≤ℤ min_z a (t +ℤ b)
      h₁ = omega (zarith, min_law (min_z a (t +ℤ b)) ((t +ℤ u) +ℤ c))

      h₂ : min_z a (t +ℤ b) ≤ℤ a
      h₂ = omega (zarith, min_law a (t +ℤ b))

      h₃ : min_z a (t +ℤ b) ≤ℤ (t +ℤ b)
      h₃ = omega (zarith, min_law a (t +ℤ b))

  right_count : (l i j k : ℤ) → l ≡ min_z a (t +ℤ min_z b (u +ℤ c))
      → at a l i +ℤ at (t +ℤ min_z b (u +ℤ c)) l (at b (min_z b (u +ℤ c)) j +ℤ at (u +ℤ c) (min_z b (u +ℤ c)) k)
      ≡ at a l i +ℤ (at (t +ℤ b) l j +ℤ at (t +ℤ (u +ℤ c)) l k)
  right_count l i j k e = rw (at_sum, at_deep t b, at_deep t (u +ℤ c), h₁, h₂, h₃)
    where
      h₁ : l ≤ℤ (t +ℤ min_z b (u +ℤ c))
      h₁ = omega (zarith, min_law a (t +ℤ min_z b (u +ℤ c)))

      h₂ : min_z b (u +ℤ c) ≤ℤ b
      h₂ = omega (zarith, min_law b (u +ℤ c))

      h₃ : min_z b (u +ℤ c) ≤ℤ (u +ℤ c)
      h₃ = omega (zarith, min_law b (u +ℤ c))

  count_assoc : (i j k : ℤ)
      → at (min_z a (t +ℤ b)) (min_z (min_z a (t +ℤ b)) ((t +ℤ u) +ℤ c)) (at a (min_z a (t +ℤ b)) i +ℤ at (t +ℤ b) (min_z a (t +ℤ b)) j) +ℤ at ((t +ℤ u) +ℤ c) (min_z (min_z a (t +ℤ b)) ((t +ℤ u) +ℤ c)) k
      ≡ at a (min_z a (t +ℤ min_z b (u +ℤ c))) i +ℤ at (t +ℤ min_z b (u +ℤ c)) (min_z a (t +ℤ min_z b (u +ℤ c))) (at b (min_z b (u +ℤ c)) j +ℤ at (u +ℤ c) (min_z b (u +ℤ c)) k)
  count_assoc i j k = rw (left_count _ i j k refl, right_count _ i j k refl, min_assoc) (simp +ℤ_assoc)

pub joined_assoc : (x y z : Summary) → joined (joined x y) z ≡ joined x (joined y z)
unfolding joined
joined_assoc x y z = same
    (+ℤ_assoc x.total y.total z.total)
    (min_assoc x.total y.total x.least y.least z.least)
    (max_assoc x.total y.total x.greatest y.greatest z.greatest)
    (count_assoc x.total y.total x.least y.least z.least x.count y.count z.count)

-- ---- the join with its two tests
pub join_left : (x y : Summary) → x.count ≡ pos 0 → join_of x y ≡ y
unfolding join_of
join_left x y e = simp (→eq_z x.count (pos 0) (omega zarith))

pub join_right : (x y : Summary) → P x.count + 0 ≢ 0 + N x.count → y.count ≡ pos 0 → join_of x y ≡ x
unfolding join_of
join_right x y n e = simp (→neq_z x.count (pos 0) n, →eq_z y.count (pos 0) (omega zarith))

pub join_joined : (x y : Summary) → eq_z x.count (pos 0) ≡ false → eq_z y.count (pos 0) ≡ false → join_of x y ≡ joined x y
unfolding join_of
join_joined x y h k = simp (h, k)

pub join_both : (x y : Summary) → pos 0 <ℤ x.count → pos 0 <ℤ y.count → join_of x y ≡ joined x y
join_both x y h k = join_joined x y (→neq_z x.count (pos 0) (omega zarith)) (→neq_z y.count (pos 0) (omega zarith))

pub join_assoc : (x y z : Summary) → pos 0 ≤ℤ x.count → pos 0 ≤ℤ y.count → pos 0 ≤ℤ z.count
    → join_of (join_of x y) z ≡ join_of x (join_of y z)
join_assoc x y z hx hy hz = by_test (eq_z x.count (pos 0))
    (λ ex. rw (join_left x y (omega zarith), join_left x (join_of y z) (omega zarith)))
    (λ ex. by_test (eq_z y.count (pos 0))
    (λ ey. rw (join_right x y (omega zarith) (omega zarith), join_left y z (omega zarith)))
    (λ ey. by_test (eq_z z.count (pos 0))
    (λ ez. rw (
      join_both x y (omega zarith) (omega zarith),
      join_right y z (omega zarith) (omega zarith),
      join_both x y (omega zarith) (omega zarith),
      join_right (joined x y) z (omega (zarith, joined_count x y (omega zarith) (omega zarith))) (omega zarith),
    ))
    (λ ez. rw (
      join_both x y (omega zarith) (omega zarith),
      join_both y z (omega zarith) (omega zarith),
      join_both (joined x y) z (joined_count x y (omega zarith) (omega zarith)) (omega zarith),
      join_both x (joined y z) (omega zarith) (joined_count y z (omega zarith) (omega zarith)),
    )
    (joined_assoc x y z))))

-- "the empty summary changes nothing on either side": on the left of any quadruple; on the right of any whose count is not 0, and of the
-- empty one itself
pub join_empty_left : (y : Summary) → join_of empty_of y ≡ y
unfolding empty_of
join_empty_left y = join_left _ y refl

pub join_empty_right : (x : Summary) → (x.count ≡ pos 0 → ⊥) → join_of x empty_of ≡ x
unfolding empty_of
join_empty_right x n = join_right x _ (λ e. n (→eq x.count (pos 0) e)) refl

-- ---- quadruples that are no summaries, for which the two laws fail

-- counts 1, -1 and 1: the first two cancel, and then stand for nothing
pub not_associative :
    let x : Summary = record { total = pos 0; least = pos 0; greatest = pos 0; count = pos 1 } in
    let y : Summary = record { total = pos 0; least = pos 0; greatest = pos 0; count = negsuc 0 } in
    let z : Summary = record { total = pos 0; least = pos 5; greatest = pos 5; count = pos 1 } in
    join_of (join_of x y) z ≡ join_of x (join_of y z) → ⊥
unfolding join_of joined at eq_z min_z max_z
not_associative e = let z : pos 5 ≡ pos 0 = ap (λ (s : Summary). s.least) e in omega zarith

-- count 0, but not empty: the empty summary on its right stands in its place
pub lost_before_empty : join_of (record { total = pos 1; least = pos 1; greatest = pos 1; count = pos 0 }) empty_of ≡ empty_of
unfolding join_of empty_of eq_z
lost_before_empty = refl
