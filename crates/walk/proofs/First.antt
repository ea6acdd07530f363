-- The scan to the first boundary wanted: what it finds, and how it goes over a stretch in two parts.
use mathlib.Core.Path.{◌≡◌, refl}
use mathlib.Core.Bool.{Bool, true, false, cond}
use mathlib.Core.List.{List, [], ◌∷◌}
use mathlib.Core.Option.{none, some}
use Prim.Native.Nat.{ℕ, zero, suc, ◌+◌, ◌≤◌, ◌<◌}
use lib.ListN.{length, take, drop}
use lib.IntN.{ℤ, ◌-ℤ◌}
use Rattle.word.specs.Signed.{eq_z}
use Rattle.word.proofs.Signed.{zarith, by_test}
use Rattle.summary.specs.declared.Summary.{Summary}
use Rattle.summary.specs.Stretch.{step, depth_of, summary_of}
use Rattle.summary.proofs.Meaning.{total_is}
use Rattle.walk.specs.Walk.{hit}
use Rattle.walk.specs.Scan.{or_else, first}
use Rattle.walk.proofs.Options.{or_else_cond, some_is, none_some}
use Rattle.walk.proofs.Amounts.{none_off, off_twice, one_there, one_other, more_there, more_back, Nowhere, nowhere_cons}
use Rattle.walk.proofs.Hit.{Scans, missed, hits}

-- a stretch in two parts
pub first_split : (n i : ℕ) (z : List Bool) (t : ℤ)
    → first i z t ≡ or_else (first i (take n z) t) (first (i + n) (drop n z) (t -ℤ depth_of (take n z)))
unfolding first depth_of
first_split zero i z t = let e : i + 0 ≡ i = omega zarith in rw (e, none_off)
first_split (suc n) i [] t = refl
first_split (suc n) i (b ∷ z) t =
    let e : suc i + n ≡ i + suc n = omega zarith in
    rw (or_else_cond, first_split n (suc i) z (t -ℤ step b), e, off_twice t (step b) (depth_of (take n z)))

-- what the scan finds
pub record First (i : ℕ) (z : List Bool) (t : ℤ) (q : ℕ) : Type 0 where
  pub after : ℕ
  pub is : q ≡ i + suc after
  pub ends : suc after ≤ length z
  pub there : depth_of (take (suc after) z) ≡ t
  pub soonest : (j : ℕ) → j < after → depth_of (take (suc j) z) ≡ t → ⊥

pub first_cons : (i : ℕ) (b : Bool) (z : List Bool) (t : ℤ)
    → first i (b ∷ z) t ≡ cond (eq_z (step b) t) (some (suc i)) (first (suc i) z (t -ℤ step b))
unfolding first
first_cons i b z t = refl

pub first_nil : (i : ℕ) (t : ℤ) → first i [] t ≡ none
unfolding first
first_nil i t = refl

pub first_some : (i : ℕ) (z : List Bool) (t : ℤ) (q : ℕ) → first i z t ≡ some q → First i z t q
unfolding first
first_some i [] t q e = absurd (none_some refl e)
first_some i (b ∷ z) t q e = by_test (eq_z (step b) t)
    (λ h. record {
      after = 0;
      is = omega (zarith, some_is {a = suc i} (rw h) e);
      ends = omega zarith;
      there = one_there b z t h;
      soonest = λ j l. absurd (omega zarith);
    })
    (λ h. later h (first_some (suc i) z (t -ℤ step b) q (rw h at e)))
  where
    soon : (a : ℕ) → eq_z (step b) t ≡ false → ((j : ℕ) → j < a → depth_of (take (suc j) z) ≡ t -ℤ step b → ⊥) → (j : ℕ) → j < suc a
        → depth_of (take (suc j) (b ∷ z)) ≡ t → ⊥
    soon a h s zero l e = one_other b z t h e
    soon a h s (suc j) l e = s j (omega zarith) (more_back b z t (suc j) e)

    later : eq_z (step b) t ≡ false → First (suc i) z (t -ℤ step b) q → First i (b ∷ z) t q
    later h f = record {
      after = suc f.after;
      is = omega (zarith, f.is);
      ends = omega (zarith, f.ends);
      there = more_there b z t (suc f.after) f.there;
      soonest = soon f.after h f.soonest;
    }

pub first_none : (i : ℕ) (z : List Bool) (t : ℤ) → first i z t ≡ none → Nowhere z t
unfolding first
first_none i [] t e = λ j l d. omega zarith
first_none i (b ∷ z) t e = by_test (eq_z (step b) t)
    (λ h. absurd (none_some {a = suc i} e (rw h)))
    (λ h. nowhere_cons b z t h (first_none (suc i) z (t -ℤ step b) (rw h at e)))

pub first_scans : (i : ℕ) (z : List Bool) (t : ℤ) → Scans z t (first i z t)
first_scans i z t = record {
  finds = λ q e. let r = first_some i z t q e in record { place = suc r.after; after = omega zarith; inside = r.ends; depth = r.there };
  all = λ e. first_none i z t e;
}

-- ---- a stretch z whose first n bits are summed up in s: by the test, what is wanted is in the first n bits, or in the others
module _ (n i : ℕ) (z : List Bool) (t : ℤ) (s : Summary) (e : s ≡ summary_of (take n z)) where
  pub front : hit s t ≡ true → first i z t ≡ first i (take n z) t
  front h = let f = hits (take n z) t (first_scans i (take n z) t) (rw e at h) in rw (first_split n i z t, f.1)

  pub back : hit s t ≡ false → first i z t ≡ first (i + n) (drop n z) (t -ℤ s.total)
  back h = rw (first_split n i z t, missed (take n z) t (first_scans i (take n z) t) (rw e at h), e, total_is)
