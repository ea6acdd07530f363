-- What `both` computes, as the machine has it: each number is read back from its bits. Assumes nothing.
use mathlib.Core.Path.{◌≡◌, ◌∙◌, ap₂}
use Rattle.std.specs.Int.{int_min, int_max}
use Rattle.std.specs.Prelude.{int_lt}
use Prim.Native.Nat.{◌≤◌, ◌<◌}
use lib.IntN.{ℤ, ◌+ℤ◌, nat_abs}
use lib.Signed.{mag}
use mir.Syntax.{w32}
use mir.Val.{SFits, to_z, of_z}
use mir.Facts.{to_z-of_z}
use Rattle.summary.specs.declared.Summary.{Summary}
use Rattle.word.specs.Signed.{min_z, max_z, eq_z}
use Rattle.word.proofs.Signed.{zarith, parts, by_test, abs_law, +law, min_law, max_law, i32}
use Rattle.summary.specs.Join.{at, joined}
use Rattle.summary.proofs.Join.{same, at_yes, at_no}
use Rattle.summary.specs.Bound.{Bounded}

-- what a signed local holds, read back
abbrev pub rb : ℤ → ℤ
rb z = to_z w32 (of_z w32 z)

-- what a call's `.ok` says of a signed result
abbrev pub Ok : ℤ → Type 0
Ok z = mag z < 2147483648

pub ok_back : (z : ℤ) → Ok z → rb z ≡ z
ok_back z h = to_z-of_z {w = w32} (record { sfits = h })

pub small : (z : ℤ) → nat_abs z ≤ 4194304 → SFits w32 z
small z h = omega (zarith, abs_law z)

pub add_small : (a b : ℤ) → nat_abs a ≤ 4194304 → nat_abs b ≤ 4194304 → SFits w32 (rb a +ℤ rb b)
add_small a b h k = omega (zarith, abs_law a, abs_law b, i32 (small a h), i32 (small b k), +law (rb a) (rb b))

pub back_small : (z : ℤ) → nat_abs z ≤ 4194304 → nat_abs (rb z) ≤ 4194304
back_small z h = omega (zarith, i32 (small z h), abs_law z, abs_law (rb z), parts (rb z))

-- a count that is taken where its side reaches the least
pub count_small : (i a m c : ℤ) → i ≡ at a m c → nat_abs c ≤ 4194304 → nat_abs i ≤ 4194304
count_small i a m c e h = by_test (eq_z a m)
    (λ t. omega (zarith, e, at_yes a m c (omega zarith), abs_law i, abs_law c, parts i))
    (λ t. omega (zarith, e, at_no a m c (omega zarith), abs_law i, parts i))

pub add_back : (a b : ℤ) → nat_abs a ≤ 4194304 → nat_abs b ≤ 4194304 → rb (rb a +ℤ rb b) ≡ a +ℤ b
add_back a b h k = to_z-of_z (add_small a b h k) ∙ ap₂ ◌+ℤ◌ (to_z-of_z (small a h)) (to_z-of_z (small b k))

-- std's smaller and larger of two are the rule's
min_is : (a b : ℤ) → int_min a b ≡ min_z a b
min_is a b = by_test (int_lt b a) (λ e. rw e (omega (zarith, min_law a b))) (λ e. rw e (omega (zarith, min_law a b)))

max_is : (a b : ℤ) → int_max a b ≡ max_z a b
max_is a b = by_test (int_lt b a) (λ e. rw e (omega (zarith, max_law a b))) (λ e. rw e (omega (zarith, max_law a b)))

-- a call's result, read back, is what the call ensures
pub held : {z v : ℤ} → Ok z → z ≡ v → rb z ≡ v
held {z} h e = ok_back z h ∙ e

-- the four numbers that `both` puts together
pub made : (x y : Summary) → Bounded 4194304 x → Bounded 4194304 y → (least here there greatest : ℤ)
    → rb least ≡ int_min (rb x.least) (rb (rb x.total +ℤ rb y.least))
    → here ≡ at (rb x.least) (rb least) (rb x.count)
    → there ≡ at (rb (rb x.total +ℤ rb y.least)) (rb least) (rb y.count)
    → rb greatest ≡ int_max (rb x.greatest) (rb (rb x.total +ℤ rb y.greatest))
    → (record {
      total =
          rb (rb x.total +ℤ rb y.total);
      least = rb least;
      greatest = rb greatest;
      count = rb (rb here +ℤ rb there);
    }) ≡ joined x y
unfolding joined
made x y hx hy least here there greatest em ei ej eg =
    let low : rb (rb x.total +ℤ rb y.least) ≡ x.total +ℤ y.least = add_back x.total y.least hx.total hy.least in
    let high : rb (rb x.total +ℤ rb y.greatest) ≡ x.total +ℤ y.greatest = add_back x.total y.greatest hx.total hy.greatest in
    let xl : rb x.least ≡ x.least = to_z-of_z (small x.least hx.least) in
    let xg : rb x.greatest ≡ x.greatest = to_z-of_z (small x.greatest hx.greatest) in
    let xc : rb x.count ≡ x.count = to_z-of_z (small x.count hx.count) in
    let yc : rb y.count ≡ y.count = to_z-of_z (small y.count hy.count) in
    let m : rb least ≡ min_z x.least (x.total +ℤ y.least) = rw (low, xl, min_is) at em in
    let g : rb greatest ≡ max_z x.greatest (x.total +ℤ y.greatest) = rw (high, xg, max_is) at eg in
    let count : rb (rb here +ℤ rb there) ≡ here +ℤ there = add_back here there (count_small here _ _ _ ei (back_small x.count hx.count)) (count_small there _ _ _ ej (back_small y.count hy.count)) in
    same (add_back x.total y.total hx.total hy.total) m g (cc)
