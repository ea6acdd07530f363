-- The scan for an opening: of the places where a bit opens, the one with that number.
use mathlib.Core.Path.{◌≡◌, refl}
use mathlib.Core.List.{List}
use Prim.Native.Nat.{ℕ, zero, suc}
use native.Mathlib.Numerals.{add-one}
use Rattle.std.specs.List.{slice_get, filter, range_with_len}
use Rattle.word.specs.Bits.{bit, bits}
use Rattle.word.proofs.Signed.{by_test}
use Rattle.walk.specs.Walk.{there}
use Rattle.walk.specs.Scan.{nth}

pub nth_is : (bytes : List ℕ) (i n r : ℕ) → there (slice_get (filter (bit bytes) (range_with_len i n)) r) ≡ nth i (bits bytes i n) r
unfolding nth
nth_is bytes i zero r = refl
nth_is bytes i (suc n) zero = by_test (bit bytes i) (λ y. rw y refl) (λ y. rw (y, add-one) (nth_is bytes (suc i) n zero))
nth_is bytes i (suc n) (suc r) =
    by_test (bit bytes i) (λ y. rw (y, add-one) (nth_is bytes (suc i) n r)) (λ y. rw (y, add-one) (nth_is bytes (suc i) n (suc r)))
