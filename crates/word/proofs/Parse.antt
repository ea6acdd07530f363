-- A balanced word has one forest, and reading finds it: parse and encode undo each other. Assumes nothing.
use mathlib.Core.Path.{◌≡◌, refl, sym, ap, ◌∙◌}
use mathlib.Core.Logic.{◌↔◌}
use mathlib.Core.Bool.{Bool, true, false}
use mathlib.Core.List.{List, [], ◌∷◌, ◌++◌, append_assoc, append-nil}
use mathlib.Core.Option.{Option, none, some}
use Prim.Native.Nat.{ℕ}
use native.Mathlib.Omega.{arith}
use lib.ListN.{length}
use Rattle.word.specs.Forest.{Forest, empty, tree, encode, Balanced}
use Rattle.word.specs.Parse.{at_closing, at_opening, read, only, parse, is_some, is_balanced, or_empty, forest_of}

-- the word of the forests after the first, with a closing before each
abbrev after : List Forest → List Bool
after [] = []
after (f ∷ s) = false ∷ encode f ++ after s

read_encode : (f : Forest) (w : List Bool) (s : List Forest) → read w ≡ empty ∷ s → read (encode f ++ w) ≡ f ∷ s
read_encode empty w s h = h
read_encode (tree k r) w s h =
    ap (λ x. at_opening (read x)) (append_assoc (encode k) (false ∷ encode r) w)
    ∙ ap at_opening (read_encode k (false ∷ encode r ++ w) (r ∷ s) (ap at_closing (read_encode r w s h)))

pub parse_encode : (f : Forest) → parse (encode f) ≡ some f
unfolding parse
parse_encode f = ap parse (sym (append-nil (encode f))) ∙ ap only (read_encode f [] [] refl)

-- one more bit in front of what has been read
opened : (t : List Forest) (w : List Bool) (f : Forest) (s : List Forest)
    → ((g : Forest) (u : List Forest) → t ≡ g ∷ u → w ≡ encode g ++ after u)
    → at_opening t ≡ f ∷ s → true ∷ w ≡ encode f ++ after s
opened [] w f s ih h = cc
opened (k ∷ []) w f s ih h = cc
opened (k ∷ (r ∷ u)) w f s ih h =
    let e : f ≡ tree k r = cc in
    let e₂ : s ≡ u = cc in
    rw (e, e₂) (ap (true ∷◌) (ih k (r ∷ u) refl ∙ sym (append_assoc (encode k) (false ∷ encode r) (after u))))

closed : (t : List Forest) (w : List Bool) (f : Forest) (s : List Forest)
    → ((g : Forest) (u : List Forest) → t ≡ g ∷ u → w ≡ encode g ++ after u)
    → at_closing t ≡ f ∷ s → false ∷ w ≡ encode f ++ after s
closed [] w f s ih h = cc
closed (g ∷ u) w f s ih h =
    let e : f ≡ empty = cc in
    let e₂ : s ≡ g ∷ u = cc in
    rw (e, e₂) (ap (false ∷◌) (ih g u refl))

encode_read : (w : List Bool) (f : Forest) (s : List Forest) → read w ≡ f ∷ s → w ≡ encode f ++ after s
encode_read [] f s h =
    let e : f ≡ empty = cc in
    let e₂ : s ≡ [] = cc in
    rw (e, e₂)
encode_read (true ∷ w) f s h = opened (read w) w f s (encode_read w) h
encode_read (false ∷ w) f s h = closed (read w) w f s (encode_read w) h

pub encode_parse : (w : List Bool) (f : Forest) → parse w ≡ some f → encode f ≡ w
unfolding parse
encode_parse w f h = go (read w) refl h
  where
    go : (t : List Forest) → read w ≡ t → only t ≡ some f → encode f ≡ w
    go [] e h = cc
    go (g ∷ []) e h =
        let i : f ≡ g = cc in
        rw i (sym (encode_read w g [] e ∙ append-nil (encode g)))
    go (g ∷ (g₂ ∷ s)) e h = cc

-- one forest to a word
pub encode_injective : (f g : Forest) → encode f ≡ encode g → f ≡ g
encode_injective f g h = let e : some f ≡ some g = sym (parse_encode f) ∙ ap parse h ∙ parse_encode g in cc

-- where the reading leaves one forest, that forest encodes to the word
pub one_left : (w : List Bool) → length (read w) ≡ 1 → Balanced w
unfolding parse
one_left w l = go (read w) refl l
  where
    go : (t : List Forest) → read w ≡ t → length t ≡ 1 → Balanced w
    go [] r l = absurd (omega arith)
    go (f ∷ []) r l = (f, encode_parse w f (ap only r))
    go (f ∷ (g ∷ s)) r l = absurd (omega arith)

-- parse and encode undo each other
pub parse_iff : (w : List Bool) (f : Forest) → (parse w ≡ some f) ↔ (encode f ≡ w)
parse_iff w f = (encode_parse w f, λ e. ap parse (sym e) ∙ parse_encode f)

-- "some forest encodes to this word"
pub is_balanced_iff : (w : List Bool) → (is_balanced w ≡ true) ↔ Balanced w
unfolding is_balanced
is_balanced_iff w = (go (parse w) refl, λ b. ap is_some (ap parse (sym b.1) ∙ parse_encode b.0))
  where
    go : (o : Option Forest) → parse w ≡ o → is_some o ≡ true → Balanced w
    go none e h = let z : ◌≡◌ {A = ℕ} 0 1 = cc in absurd (omega arith)
    go (some f) e h = (f, encode_parse w f e)

pub encode_forest_of : (w : List Bool) → is_balanced w ≡ true → encode (forest_of w) ≡ w
unfolding forest_of
encode_forest_of w h = let b = (is_balanced_iff w).0 h in ap (λ o. encode (or_empty o)) (ap parse (sym b.1) ∙ parse_encode b.0) ∙ b.1
