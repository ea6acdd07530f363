-- The bridge from the forest to D: at every node D is its depth before its opening, more than that up to its closing, and its depth again
-- after it. One induction over the forest shows it for all nodes. Assumes nothing.
use mathlib.Core.Path.{◌≡◌, refl, sym, ap, subst, ◌∙◌}
use mathlib.Core.Bool.{Bool, true, false}
use mathlib.Core.List.{List, [], ◌∷◌, ◌++◌, append_assoc, append-nil}
use Prim.Native.Nat.{ℕ, zero, suc, pred, ◌+◌, ◌-◌, ◌≤◌, ◌<◌}
use native.Mathlib.Omega.{arith}
use native.Mathlib.Decide.{dec_le}
use lib.ListN.{length, take, drop, get_or, length-append, length-drop}
use lib.Seq.{drop-drop, take-append_seam, drop-append-add, get_or-drop, get_or-append_seam, get_or-append-add}
use lib.IntN.{pos}
use lib.Signed.{◌<ℤ◌}
use Rattle.word.specs.Forest.{Forest, empty, tree, encode, count, D}
use Rattle.word.specs.Nodes.{Node, closing, nodes, table}
use Rattle.word.proofs.Signed.{zarith}
use Rattle.word.proofs.Depth.{eq, count_append, rank, rank_add, rank_past, D_law}

-- ---- a forest's word, alone

-- it has as many openings as closings
pub even : (f : Forest) → count true (encode f) ≡ count false (encode f)
even empty = refl
even (tree k r) =
    omega (arith, count_append true (encode k) (false ∷ encode r), count_append false (encode k) (false ∷ encode r), even k, even r)

-- and among its first bits, whatever follows it, never more closings than openings
abbrev NeverBelow : Forest → Type 0
NeverBelow f = (v : List Bool) (q : ℕ) → q ≤ length (encode f) → rank false (encode f ++ v) q ≤ rank true (encode f ++ v) q

never_below_tree : (k r : Forest) → NeverBelow k → NeverBelow r → (v : List Bool) (q : ℕ) → q ≤ length (encode k ++ false ∷ encode r)
    → rank false (encode k ++ (false ∷ encode r ++ v)) q ≤ suc (rank true (encode k ++ (false ∷ encode r ++ v)) q)
never_below_tree k r ihk ihr v q h = go (dec_le q (length (encode k)))
  where
    past : (b : Bool) (p : ℕ) → q ≡ length (encode k) + suc p
        → rank b (encode k ++ (false ∷ encode r ++ v)) q ≡ count b (encode k) + rank b (false ∷ encode r ++ v) (suc p)
    past b p e = rw e (rank_past b (encode k) (false ∷ encode r ++ v) (suc p))

    go : Dec (q ≤ length (encode k))
        → rank false (encode k ++ (false ∷ encode r ++ v)) q ≤ suc (rank true (encode k ++ (false ∷ encode r ++ v)) q)
    go (yes l) = omega (arith, ihk (false ∷ encode r ++ v) q l)
    go (no n) =
        let p : ℕ = q - suc (length (encode k)) in
        let e : q ≡ length (encode k) + suc p = omega arith in
        omega (arith, past true p e, past false p e, even k, ihr v p (omega (arith, length-append (encode k) (false ∷ encode r))))

never_below_before : (f : Forest) → NeverBelow f
never_below_before empty v zero h = omega arith
never_below_before empty v (suc q) h = omega arith
never_below_before (tree k r) v zero h = omega arith
never_below_before (tree k r) v (suc q) h =
    subst (λ u. count false (take q u) ≤ suc (count true (take q u))) (sym (append_assoc (encode k) (false ∷ encode r) v))
    (never_below_tree k r (never_below_before k) (never_below_before r) v q (omega arith))

pub never_below : (f : Forest) (q : ℕ) → q ≤ length (encode f) → rank false (encode f) q ≤ rank true (encode f) q
never_below f q h = subst (λ u. rank false u q ≤ rank true u q) (append-nil (encode f)) (never_below_before f [] q h)

abbrev pub any : Forest → Bool
any empty = false
any (tree k r) = true

-- whether a forest's word, in front of what begins with no opening, begins with an opening
begins : (f : Forest) (v : List Bool) → get_or v 0 false ≡ false → get_or (encode f ++ v) 0 false ≡ any f
begins empty v h = h
begins (tree k r) v h = refl

-- ---- what is shown of every node

-- a node with its opening at p, its closing at e and d nodes above it
pub record Span (w : List Bool) (p e d : ℕ) : Type 0 where
  pub proper : p < e
  pub within : e < length w
  pub opened : get_or w p false ≡ true
  pub closed : get_or w e true ≡ false
  pub before : D w p ≡ pos d
  pub inside : (q : ℕ) → p < q → q ≤ e → pos d <ℤ D w q
  pub after : D w (suc e) ≡ pos d

-- the places p to e stand in the branch of the first of these nodes, that one's in the branch of the next, and so on
abbrev pub Under : List Bool → ℕ → ℕ → List ℕ → Type 0
Under w p e [] = Unit {0}
Under w p e (q ∷ qs) = (c : ℕ) × (q < p) × (e < c) × Span w q c (length qs) × Under w q c qs

-- a chain: a node, and the nodes above it
abbrev pub Chain : List Bool → ℕ → ℕ → List ℕ → Type 0
Chain w p e ps = Span w p e (length ps) × Under w p e ps

-- the word of a node's kids stands after its opening; a bit tells whether it has a child, and one whether a sibling follows
pub record Placed (w : List Bool) (x : Node) : Type 0 where
  pub upward : Chain w x.place (closing x) x.above
  pub below : take (length (encode x.kids)) (drop (suc x.place) w) ≡ encode x.kids
  pub child : get_or w (suc x.place) false ≡ any x.kids
  pub sibling : get_or w (suc (closing x)) false ≡ any x.rest

abbrev pub All : {A : Type 0} → (A → Type 0) → List A → Type 0
All P [] = Unit {0}
All P (x ∷ xs) = P x × All P xs

all_append : {A : Type 0} (P : A → Type 0) (xs ys : List A) → All P xs → All P ys → All P (xs ++ ys)
all_append P [] ys p q = q
all_append P (x ∷ xs) ys p q = (p.0, all_append P xs ys p.1 q)

under_part : (w : List Bool) (qs : List ℕ) {p e p' e' : ℕ} → Under w p e qs → p ≤ p' → e' ≤ e → Under w p' e' qs
under_part w [] u l h = tt
under_part w (q ∷ qs) u l h = (u.0, omega arith, omega arith, u.3, u.4)

-- ---- the induction

module _ (w : List Bool) where
  rank_at : (b : Bool) (at q : ℕ) (t : List Bool) → drop at w ≡ t → rank b w (at + q) ≡ rank b w at + rank b t q
  rank_at b at q t e = rank_add b w at q ∙ ap (λ u. rank b w at + rank b u q) e

  bit_at : (at q : ℕ) (t : List Bool) (b : Bool) → drop at w ≡ t → get_or w (at + q) b ≡ get_or t q b
  bit_at at q t b e = sym (get_or-drop at w q b) ∙ ap (λ u. get_or u q b) e

  drop_at : (at q : ℕ) (t : List Bool) → drop at w ≡ t → drop (at + q) w ≡ drop q t
  drop_at at q t e = sym (drop-drop q at w) ∙ ap (drop q) e

  span : (k : Forest) (v : List Bool) (at d : ℕ) → drop at w ≡ true ∷ encode k ++ (false ∷ v) → D w at ≡ pos d
      → Span w at (suc (at + length (encode k))) d
  span k v at d here level = record {
    proper = omega arith;
    within = omega (arith, length-drop at w, ap length here, length-append (encode k) (false ∷ v));
    opened = rw (eq at (at + 0) (omega arith)) (bit_at at 0 t false here);
    closed = rw (eq (suc (at + n)) (at + suc n) (omega arith)) (bit_at at (suc n) t true here ∙ get_or-append_seam (encode k) false v true);
    before = level;
    inside = λ q l h. let p : ℕ = q - suc at in
        rw (eq q (at + suc p) (omega arith))
        (omega (zarith, D_law w at, D_law w (at + suc p), rank_at true at (suc p) t here, rank_at false at (suc p) t here, never_below_before k (false ∷ v) p (omega arith)));
    after = rw (eq (suc (suc (at + n))) (at + suc (n + 1)) (omega arith))
        (omega (
          zarith,
          D_law w at,
          D_law w (at + suc (n + 1)),
          rank_at true at (suc (n + 1)) t here,
          rank_at false at (suc (n + 1)) t here,
          even k,
          rank_past true (encode k) (false ∷ v) 1,
          rank_past false (encode k) (false ∷ v) 1,
        ));
  }
    where
      n : ℕ
      n = length (encode k)

      t : List Bool
      t = true ∷ encode k ++ (false ∷ v)

  placed : (f : Forest) (at : ℕ) (ps : List ℕ) (v : List Bool) → drop at w ≡ encode f ++ v → get_or v 0 false ≡ false
      → D w at ≡ pos (length ps)
      → Under w at (pred (at + length (encode f))) ps → All (Placed w) (nodes at ps f)
  placed empty at ps v here ends level under = tt
  placed (tree k r) at ps v here ends level under =
      let n : ℕ = length (encode k) in
      let x : Node = record { place = at; above = ps; kids = k; rest = r } in
      let t : List Bool = true ∷ encode k ++ (false ∷ encode r ++ v) in
      let h : drop at w ≡ t = here ∙ ap (true ∷◌) (append_assoc (encode k) (false ∷ encode r) v) in
      let next : drop (at + 1) w ≡ encode k ++ (false ∷ encode r ++ v) = drop_at at 1 t h in
      let past : drop (at + suc (n + 1)) w ≡ encode r ++ v =
      drop_at at (suc (n + 1)) t h ∙ drop-append-add (encode k) (false ∷ encode r ++ v) 1 in
      let part : length (encode k ++ false ∷ encode r) ≡ suc (n + length (encode r)) =
      omega (arith, length-append (encode k) (false ∷ encode r)) in
      let s : Span w at (closing x) (length ps) = span k (encode r ++ v) at (length ps) h level in
      let u : Under w at (closing x) ps = under_part w ps under (omega arith) (omega arith) in (
        record {
          upward = (s, u);
          below = rw (eq (suc at) (at + 1) (omega arith)) (ap (take n) next ∙ take-append_seam (encode k) (false ∷ encode r ++ v));
          child = rw (eq (suc at) (at + 1) (omega arith)) (bit_at at 1 t false h ∙ begins k (false ∷ encode r ++ v) refl);
          sibling = rw (eq (suc (suc (at + n))) (at + suc (n + 1)) (omega arith))
              (bit_at at (suc (n + 1)) t false h ∙ get_or-append-add (encode k) (false ∷ encode r ++ v) 1 false ∙ begins r v ends);
        },
        all_append (Placed w) (nodes (suc at) (at ∷ ps) k) (nodes (suc (closing x)) ps r)
            (placed k (suc at) (at ∷ ps) (false ∷ encode r ++ v) (rw (eq (suc at) (at + 1) (omega arith)) next) refl
            (rw (eq (suc at) (at + 1) (omega arith)) (omega (zarith, D_law w at, D_law w (at + 1), rank_at true at 1 t h, rank_at false at 1 t h)))
            (closing x, omega arith, omega arith, s, u))
            (placed r (suc (closing x)) ps v (rw (eq (suc (suc (at + n))) (at + suc (n + 1)) (omega arith)) past) ends s.after
            (under_part w ps under (omega arith) (omega arith))),
      )

-- the bridge: so it is at every node of the table
pub bridge : (f : Forest) → All (Placed (encode f)) (table f)
bridge f = placed (encode f) f 0 [] [] (sym (append-nil (encode f))) refl refl tt
