-- Balanced words by their summaries, and the roots of a forest by the count. Assumes nothing.
use mathlib.Core.Path.{◌≡◌, refl, sym, ap, ◌∙◌}
use mathlib.Core.Logic.{◌↔◌}
use mathlib.Core.Bool.{Bool, true, false}
use mathlib.Core.List.{List, [], ◌∷◌, ◌++◌}
use Prim.Native.Nat.{ℕ, zero, suc, ◌≤◌}
use lib.ListN.{length, take}
use lib.Seq.{take-length}
use lib.IntN.{ℤ, pos, negsuc, ◌+ℤ◌, +ℤ_idl}
use lib.Signed.{◌≤ℤ◌, ◌<ℤ◌}
use Rattle.word.specs.Forest.{Forest, empty, tree, encode, Balanced, D}
use Rattle.word.specs.Parse.{is_balanced}
use Rattle.word.specs.Questions.{roots}
use Rattle.word.specs.Signed.{min_z}
use Rattle.word.proofs.Parse.{is_balanced_iff}
use Rattle.word.proofs.Balance.{is_balanced_by}
use Rattle.word.proofs.Signed.{zarith, +law, min_law}
use Rattle.summary.specs.declared.Summary.{Summary}
use Rattle.summary.specs.Stretch.{depth_of, summary_of}
use Rattle.summary.specs.Join.{joined, join_of, empty_of}
use Rattle.summary.proofs.Join.{at_yes, at_no, join_both}
use Rattle.summary.proofs.Append.{one, counted, summary_empty, summary_cons, summary_append}
use Rattle.summary.proofs.Meaning.{Reaches, reaches_iff, total_is}
use Rattle.summary.proofs.Bounds.{summary_single}
use Rattle.summary.proofs.Depth.{D_is, least_reached}

-- D is never negative exactly where the least is not
never_least : (w : List Bool) → ((p : ℕ) → p ≤ length w → pos 0 ≤ℤ D w p) → pos 0 ≤ℤ (summary_of w).least
unfolding empty_of
never_least [] h = rw summary_empty (omega zarith)
never_least (b ∷ w) h =
    let r = least_reached (b ∷ w) (omega zarith) in
    omega (zarith, r.depth, D_is (b ∷ w) r.place, h r.place r.inside)

least_never : (w : List Bool) → pos 0 ≤ℤ (summary_of w).least → (p : ℕ) → p ≤ length w → pos 0 ≤ℤ D w p
least_never w h zero l = omega zarith
least_never w h (suc p) l =
    let s = (reaches_iff w (depth_of (take (suc p) w))).0 (record { place = suc p; after = omega zarith; inside = l; depth = refl }) in
    omega (zarith, s.low, D_is w (suc p))

total_end : (w : List Bool) → (summary_of w).total ≡ D w (length w)
total_end w = total_is w ∙ ap depth_of (sym (take-length w)) ∙ sym (D_is w (length w))

-- a word is balanced exactly where its total is 0 and its least is not negative
pub is_balanced_summary : (w : List Bool) → (is_balanced w ≡ true) ↔ (((summary_of w).total ≡ pos 0) × (pos 0 ≤ℤ (summary_of w).least))
is_balanced_summary w =
    let b = is_balanced_by w in (
      (λ h. (total_end w ∙ (b.0 h).1, never_least w (b.0 h).0)),
      λ h. b.1 (least_never w h.1, sym (total_end w) ∙ h.0),
    )

pub balanced_summary : (w : List Bool) → Balanced w ↔ (((summary_of w).total ≡ pos 0) × (pos 0 ≤ℤ (summary_of w).least))
balanced_summary w = (λ h. (is_balanced_summary w).0 ((is_balanced_iff w).1 h), λ h. (is_balanced_iff w).0 ((is_balanced_summary w).1 h))

pub encode_summary : (f : Forest) → ((summary_of (encode f)).total ≡ pos 0) × (pos 0 ≤ℤ (summary_of (encode f)).least)
encode_summary f = (balanced_summary (encode f)).0 (f, refl)

-- ---- the roots

-- the first tree's opening and kids: one deeper throughout
opened : (k : Forest) → ((summary_of (true ∷ encode k)).total ≡ pos 1) × (pos 1 ≤ℤ (summary_of (true ∷ encode k)).least)
unfolding depth_of
opened k = (
  total_is (true ∷ encode k) ∙ ap (λ (z : ℤ). pos 1 +ℤ z) (sym (total_is (encode k)) ∙ (encode_summary k).0),
  low (least_reached (true ∷ encode k) (omega zarith)),
)
  where
    low : {t : ℤ} → Reaches (true ∷ encode k) t → pos 1 ≤ℤ t
    low {t} r = go r.place r.after r.inside r.depth
      where
        go : (p : ℕ) → 1 ≤ p → p ≤ length (true ∷ encode k) → depth_of (take p (true ∷ encode k)) ≡ t → pos 1 ≤ℤ t
        go zero a i d = absurd (omega zarith)
        go (suc p) a i d = omega (
          zarith,
          d,
          +law (pos 1) (depth_of (take p (encode k))),
          D_is (encode k) p,
          least_never (encode k) (encode_summary k).1 p (omega zarith),
        )

-- y's least stands below x's, or at it
below : (x y : Summary) → pos 0 <ℤ x.count → pos 0 <ℤ y.count → (x.total +ℤ y.least) <ℤ x.least
    → ((join_of x y).least ≡ x.total +ℤ y.least) × ((join_of x y).count ≡ y.count)
unfolding joined
below x y h k l =
    let m : min_z x.least (x.total +ℤ y.least) ≡ x.total +ℤ y.least = omega (zarith, min_law x.least (x.total +ℤ y.least)) in
    rw (join_both x y h k) (m, rw (at_no x.least (min_z x.least (x.total +ℤ y.least)) x.count (omega zarith), at_yes (x.total +ℤ y.least) (min_z x.least (x.total +ℤ y.least)) y.count (sym m)) (+ℤ_idl y.count))

level : (x y : Summary) → pos 0 <ℤ x.count → pos 0 <ℤ y.count → x.total +ℤ y.least ≡ x.least
    → ((join_of x y).least ≡ x.least) × ((join_of x y).count ≡ x.count +ℤ y.count)
unfolding joined
level x y h k l =
    let m : min_z x.least (x.total +ℤ y.least) ≡ x.least = omega (zarith, min_law x.least (x.total +ℤ y.least)) in
    rw (join_both x y h k) (m, rw (at_yes x.least (min_z x.least (x.total +ℤ y.least)) x.count (sym m), at_yes (x.total +ℤ y.least) (min_z x.least (x.total +ℤ y.least)) y.count (l ∙ sym m)))

abbrev Least : List Bool → ℤ → ℕ → Type 0
Least w m n = ((summary_of w).least ≡ m) × ((summary_of w).count ≡ pos n)

-- a tree, then the trees after it, whose word begins with the tree's closing
rooted : (k r : Forest) → Least (false ∷ encode r) (negsuc 0) (suc (roots r)) → Least (encode (tree k r)) (pos 0) (suc (roots r))
rooted k r h =
    let x = summary_of (true ∷ encode k) in
    let y = summary_of (false ∷ encode r) in
    let o = opened k in
    let z : x.total +ℤ y.least ≡ pos 0 = omega (zarith, o.0, h.0, +law x.total y.least) in
    let b = below x y (counted true (encode k)) (counted false (encode r)) (omega (zarith, o.1)) in
    rw (summary_append (true ∷ encode k) (false ∷ encode r)) (b.0 ∙ z, b.1 ∙ h.1)

-- a closing, then the trees after it
closed : (r : Forest) → Least (false ∷ encode r) (negsuc 0) (suc (roots r))
unfolding one
closed empty = rw (summary_single false) (refl, refl)
closed (tree k r) =
    let y = summary_of (encode (tree k r)) in
    let h = rooted k r (closed r) in
    let b =
    level (one false) y (omega zarith) (counted true (encode k ++ false ∷ encode r)) (omega (zarith, h.0, +law (negsuc 0) y.least)) in
    rw (summary_cons false (encode (tree k r))) (b.0, b.1 ∙ omega (zarith, h.1, +law (pos 1) y.count))

-- "number of children": a node's kids are a forest, and how many boundaries of its word reach the least, 0, is how many roots it has
pub roots_summary : (k r : Forest)
    → ((summary_of (encode (tree k r))).least ≡ pos 0) × ((summary_of (encode (tree k r))).count ≡ pos (roots (tree k r)))
roots_summary k r = rooted k r (closed r)
