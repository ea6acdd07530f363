-- A field without fault: what it shows. Assumes nothing.
use mathlib.Core.Path.{◌≡◌, refl, subst}
use mathlib.Core.Bool.{Bool, true, false, cond}
use mathlib.Core.List.{List}
use Prim.Native.Nat.{ℕ, ◌+◌, ◌≤◌}
use native.Mathlib.Omega.{arith}
use borrow.Author.Tests.{ltb-false, eqb-true, not-false}
use lib.Dec.{ltb, eqb}
use lib.ListN.{length, drop, length-drop}
use lib.Seq.{length-take-le}
use Rattle.std.specs.Prelude.{Result, Ok, IfOk}
use Rattle.word.specs.Bits.{bytes_of}
use Rattle.house.specs.declared.State.{State}
use Rattle.house.specs.declared.Stage.{Stage}
use Rattle.house.specs.declared.Stage.TheVariants.{First, Bytes, Questions}
use Rattle.house.specs.Fields.{Told, size, stretch, question}
use Rattle.house.specs.Fields.{is_first, four_at, tag_at, length_at, value_at, cut_short, unknown_tag, out_of_place}
use Rattle.house.specs.Fields.{wrong_length, size_field, word_field, question_field, last_test, field_at}

-- what holds of both ways of a test holds of it
pub cond_all : {A : Type 0} (P : A → Type 0) (t : Bool) (x y : A) → (t ≡ true → P x) → (t ≡ false → P y) → P (cond t x y)
cond_all P true x y p q = p refl
cond_all P false x y p q = q refl

-- it lies within the file, stands in its place, and keeps within the bounds
abbrev pub Fits : List ℕ → State → Told → Type 0
Fits file s (size m) = (s.at + 7 ≤ length file) × ((s.stage ≡ First) × (m ≤ 65536))
Fits file s (stretch part) = (s.at + 3 + length part ≤ length file) × (s.bytes + length part ≤ bytes_of s.m)
Fits file s (question part) = (s.at + 15 ≤ length file) × ((length part ≡ 12) × (s.asked ≤ 1023))

abbrev pub Sound : List ℕ → State → Result Told ℕ → Type 0
Sound file s f = IfOk f (Fits file s)

first_is : (stage : Stage) → is_first stage ≡ true → stage ≡ First
first_is First e = refl
first_is Bytes e = cc
first_is Questions e = cc

pub value_length : (file : List ℕ) (at len : ℕ) → at + 3 + len ≤ length file → length (value_at file at len) ≡ len
value_length file at len h = length-take-le len (drop (at + 3) file) (simp length-drop (omega arith))

module _ (file : List ℕ) (s : State) (tag : ℕ) (part : List ℕ) (within : s.at + 3 + length part ≤ length file)
    (place : out_of_place tag s.stage ≡ false)
    (right : wrong_length tag (length part) ≡ false) where
  size_sound : tag ≡ 1 → Sound file s (size_field (four_at part 0))
  size_sound t =
      let first = first_is s.stage (not-false _ (rw t at place)) in
      let four = eqb-true (length part) 4 (not-false _ (rw t at right)) in
      cond_all (Sound file s) (ltb 65536 (four_at part 0)) _ _ (λ e. tt)
      (λ e. (omega arith, (first, ltb-false 65536 (four_at part 0) e)))

  word_sound : Sound file s (word_field s part)
  word_sound =
      cond_all (Sound file s) (ltb (bytes_of s.m) (s.bytes + length part)) _ _ (λ e. tt)
      (λ e. (within, ltb-false (bytes_of s.m) (s.bytes + length part) e))

  question_sound : eqb tag 1 ≡ false → eqb tag 2 ≡ false → Sound file s (question_field s part)
  question_sound f g =
      let twelve = eqb-true (length part) 12 (not-false _ (rw (f, g) at right)) in
      cond_all (Sound file s) (ltb 1023 s.asked) _ _ (λ e. tt) (λ e. (omega arith, (twelve, ltb-false 1023 s.asked e)))

  last_sound : Sound file s (last_test s tag part)
  last_sound =
      cond_all (Sound file s) (eqb tag 1) _ _ (λ t. size_sound (eqb-true tag 1 t)) (λ f.
      cond_all (Sound file s) (eqb tag 2) _ _ (λ t. word_sound) (λ g. question_sound f g))

module _ (file : List ℕ) (s : State) where
  pub sound : Sound file s (field_at file s)
  sound =
      cond_all (Sound file s) (cut_short file s.at) _ _ (λ e. tt) (λ a.
      cond_all (Sound file s) (unknown_tag (tag_at file s.at)) _ _ (λ e. tt) (λ b.
      cond_all (Sound file s) (out_of_place (tag_at file s.at) s.stage) _ _ (λ e. tt) (λ d.
      cond_all (Sound file s) (wrong_length (tag_at file s.at) (length_at file s.at)) _ _ (λ e. tt) (λ e.
      let within = ltb-false (length file) (s.at + 3 + length_at file s.at) a in
      let long = value_length file s.at (length_at file s.at) within in
      last_sound file s (tag_at file s.at) (value_at file s.at (length_at file s.at)) (rw long within) d (rw long e)))))

  pub fits : (f : Told) → field_at file s ≡ Ok f → Fits file s f
  fits f e = subst (Sound file s) e sound
