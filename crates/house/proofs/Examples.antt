-- Document 01's file, read by the definitions; and the order of a field's faults on small files.
-- Assumes nothing.
use mathlib.Core.Path.{◌≡◌, refl}
use mathlib.Core.List.{List, [], ◌∷◌, ◌++◌}
use Prim.Native.Nat.{ℕ}
use Rattle.std.specs.Prelude.{Ok, Err}
use Rattle.house.specs.File.{read_of}

-- `01 0004 0000000C`
abbrev twelve : List ℕ
twelve = 1 ∷ 0 ∷ 4 ∷ 0 ∷ 0 ∷ 0 ∷ 12 ∷ []

-- `02 0002 5B04`
abbrev bytes : List ℕ
bytes = 2 ∷ 0 ∷ 2 ∷ 0x5B ∷ 0x04 ∷ []

-- `03 000C 0000000C 00000004 00000006`
abbrev first : List ℕ
first = 3 ∷ 0 ∷ 12 ∷ 0 ∷ 0 ∷ 0 ∷ 12 ∷ 0 ∷ 0 ∷ 0 ∷ 4 ∷ 0 ∷ 0 ∷ 0 ∷ 6 ∷ []

-- `03 000C 00000006 0000000A 00000000`
abbrev second : List ℕ
second = 3 ∷ 0 ∷ 12 ∷ 0 ∷ 0 ∷ 0 ∷ 6 ∷ 0 ∷ 0 ∷ 0 ∷ 10 ∷ 0 ∷ 0 ∷ 0 ∷ 0 ∷ []

shown : read_of (twelve ++ (bytes ++ (first ++ second)))
    ≡ record {
      house = Ok (record { m = 12; bytes = 2; asked = 2 });
      bytes = 0x5B ∷ 0x04 ∷ [];
      numbers = 12 ∷ 4 ∷ 6 ∷ 6 ∷ 10 ∷ 0 ∷ [];
    }
unfolding read_of
shown = refl

-- "31 cut short, also for empty input"; a lone unknown byte is cut short first
none : (read_of []).house ≡ Err 31
unfolding read_of
none = refl

lone : (read_of (9 ∷ [])).house ≡ Err 31
unfolding read_of
lone = refl

unknown : (read_of (9 ∷ 0 ∷ 0 ∷ [])).house ≡ Err 32
unfolding read_of
unknown = refl

-- tag 1 "comes once, first": out of place before its length is looked at
again : (read_of (twelve ++ (1 ∷ 0 ∷ 0 ∷ []))).house ≡ Err 33
unfolding read_of
again = refl

-- "Tag 2 never follows tag 3"
late : (read_of (twelve ++ (first ++ bytes))).house ≡ Err 33
unfolding read_of
late = refl

-- "Tag 2 (length 1 or more)"
blank : (read_of (twelve ++ (2 ∷ 0 ∷ 0 ∷ []))).house ≡ Err 34
unfolding read_of
blank = refl

-- "more than ceil(m/8) word bytes", and fewer
much : (read_of (twelve ++ (bytes ++ bytes))).house ≡ Err 35
unfolding read_of
much = refl

few : (read_of (twelve ++ first)).house ≡ Err 2
unfolding read_of
few = refl
