-- The scan to the last boundary wanted: what it finds, and how it goes over a stretch in two parts, the later one first.
use mathlib.Core.Path.{◌≡◌, refl, sym, ap, ◌∙◌}
use mathlib.Core.Bool.{Bool, true, false, cond}
use mathlib.Core.List.{List, [], ◌∷◌}
use mathlib.Core.Option.{Option, none, some}
use Prim.Native.Nat.{ℕ, zero, suc, ◌+◌, ◌≤◌, ◌<◌}
use lib.ListN.{length, take, drop, take-append-drop}
use lib.IntN.{ℤ, ◌+ℤ◌, ◌-ℤ◌}
use Rattle.word.specs.Signed.{eq_z}
use Rattle.word.proofs.Signed.{zarith, by_test, +law, -law}
use Rattle.summary.specs.declared.Summary.{Summary}
use Rattle.summary.specs.Stretch.{step, depth_of, summary_of}
use Rattle.summary.proofs.Meaning.{total_is, depth_append}
use Rattle.walk.specs.Walk.{hit}
use Rattle.walk.specs.Scan.{or_else, final}
use Rattle.walk.specs.Backward.{hit_back}
use Rattle.walk.proofs.Options.{or_else_none, or_else_assoc, by_option, some_is, none_some}
use Rattle.walk.proofs.Amounts.{none_off, off_twice, one_there, more_there, more_back, Nowhere, nowhere_cons}
use Rattle.walk.proofs.Hit.{Scans, missed, hits}

pub final_split : (n i : ℕ) (z : List Bool) (t : ℤ)
    → final i z t ≡ or_else (final (i + n) (drop n z) (t -ℤ depth_of (take n z))) (final i (take n z) t)
unfolding final depth_of
final_split zero i z t = let e : i + 0 ≡ i = omega zarith in rw (e, none_off) (sym (or_else_none (final i z t)))
final_split (suc n) i [] t = refl
final_split (suc n) i (b ∷ z) t =
    let e : suc i + n ≡ i + suc n = omega zarith in
    rw (final_split n (suc i) z (t -ℤ step b), e, off_twice t (step b) (depth_of (take n z)), or_else_assoc)

-- what the scan finds
pub record Final (i : ℕ) (z : List Bool) (t : ℤ) (q : ℕ) : Type 0 where
  pub after : ℕ
  pub is : q ≡ i + suc after
  pub ends : suc after ≤ length z
  pub there : depth_of (take (suc after) z) ≡ t
  pub latest : (j : ℕ) → after < j → j < length z → depth_of (take (suc j) z) ≡ t → ⊥

pub final_cons : (i : ℕ) (b : Bool) (z : List Bool) (t : ℤ)
    → final i (b ∷ z) t ≡ or_else (final (suc i) z (t -ℤ step b)) (cond (eq_z (step b) t) (some (suc i)) none)
unfolding final
final_cons i b z t = refl

pub final_nil : (i : ℕ) (t : ℤ) → final i [] t ≡ none
unfolding final
final_nil i t = refl

pub final_none : (i : ℕ) (z : List Bool) (t : ℤ) → final i z t ≡ none → Nowhere z t
unfolding final
final_none i [] t e = λ j l d. omega zarith
final_none i (b ∷ z) t e = by_option (final (suc i) z (t -ℤ step b))
    (λ f. by_test (eq_z (step b) t)
    (λ h. absurd (none_some {a = suc i} e (rw (f, h))))
    (λ h. nowhere_cons b z t h (final_none (suc i) z (t -ℤ step b) f)))
    (λ q f. absurd (none_some {a = q} e (rw f)))

pub final_some : (i : ℕ) (z : List Bool) (t : ℤ) (q : ℕ) → final i z t ≡ some q → Final i z t q
unfolding final
final_some i [] t q e = absurd (none_some refl e)
final_some i (b ∷ z) t q e = by_option (final (suc i) z (t -ℤ step b))
    (λ f. by_test (eq_z (step b) t)
    (λ h. record {
      after = 0;
      is = omega (zarith, some_is {a = suc i} (rw (f, h)) e);
      ends = omega zarith;
      there = one_there b z t h;
      latest = none_later (final_none (suc i) z (t -ℤ step b) f);
    })
    (λ h. absurd (none_some (rw (f, h)) e)))
    (λ r f. later (final_some (suc i) z (t -ℤ step b) q (f ∙ ap {B = Option ℕ} some (omega (zarith, some_is {a = r} (rw f) e)))))
  where
    none_later : Nowhere z (t -ℤ step b) → (j : ℕ) → 0 < j → j < suc (length z) → depth_of (take (suc j) (b ∷ z)) ≡ t → ⊥
    none_later f zero l k d = omega zarith
    none_later f (suc j) l k d = f j (omega zarith) (more_back b z t (suc j) d)

    last : (a : ℕ) → ((j : ℕ) → a < j → j < length z → depth_of (take (suc j) z) ≡ t -ℤ step b → ⊥) → (j : ℕ) → suc a < j
        → j < suc (length z) → depth_of (take (suc j) (b ∷ z)) ≡ t → ⊥
    last a f zero l k d = omega zarith
    last a f (suc j) l k d = f j (omega zarith) (omega zarith) (more_back b z t (suc j) d)

    later : Final (suc i) z (t -ℤ step b) q → Final i (b ∷ z) t q
    later f = record {
      after = suc f.after;
      is = omega (zarith, f.is);
      ends = omega (zarith, f.ends);
      there = more_there b z t (suc f.after) f.there;
      latest = last f.after f.latest;
    }

pub final_scans : (i : ℕ) (z : List Bool) (t : ℤ) → Scans z t (final i z t)
final_scans i z t = record {
  finds = λ q e. let r = final_some i z t q e in record { place = suc r.after; after = omega zarith; inside = r.ends; depth = r.there };
  all = λ e. final_none i z t e;
}

-- ---- a stretch z in two parts, of which the later is summed up in s; t is wanted from the end of z
module _ (n i : ℕ) (z : List Bool) (t : ℤ) (s : Summary) (e : s ≡ summary_of (drop n z)) where
  whole_depth : depth_of z ≡ depth_of (take n z) +ℤ depth_of (drop n z)
  whole_depth = ap depth_of (sym (take-append-drop n z)) ∙ depth_append (take n z) (drop n z)

  late : (t +ℤ depth_of z) -ℤ depth_of (take n z) ≡ t +ℤ depth_of (drop n z)
  late = omega (
    zarith,
    whole_depth,
    +law t (depth_of z),
    +law t (depth_of (drop n z)),
    -law (t +ℤ depth_of z) (depth_of (take n z)),
    +law (depth_of (take n z)) (depth_of (drop n z)),
  )

  pub early : t +ℤ depth_of z ≡ (t +ℤ depth_of (drop n z)) +ℤ depth_of (take n z)
  early = omega (
    zarith,
    whole_depth,
    +law t (depth_of z),
    +law t (depth_of (drop n z)),
    +law (t +ℤ depth_of (drop n z)) (depth_of (take n z)),
    +law (depth_of (take n z)) (depth_of (drop n z)),
  )

  pub test_is : (x : Bool) → hit_back s t ≡ x → hit (summary_of (drop n z)) (t +ℤ depth_of (drop n z)) ≡ x
  test_is x h = rw (e, total_is) at h

  pub later_part : hit_back s t ≡ true → final i z (t +ℤ depth_of z) ≡ final (i + n) (drop n z) (t +ℤ depth_of (drop n z))
  later_part h =
      let f = hits (drop n z) (t +ℤ depth_of (drop n z)) (final_scans (i + n) (drop n z) (t +ℤ depth_of (drop n z))) (test_is true h) in
      final_split n i z (t +ℤ depth_of z) ∙ rw (late, f.1)

  pub earlier_part : hit_back s t ≡ false → final i z (t +ℤ depth_of z) ≡ final i (take n z) ((t +ℤ s.total) +ℤ depth_of (take n z))
  earlier_part h = final_split n i z (t +ℤ depth_of z)
      ∙ rw (
        late,
        missed (drop n z) (t +ℤ depth_of (drop n z)) (final_scans (i + n) (drop n z) (t +ℤ depth_of (drop n z)))
            (test_is false h),
        early,
        e,
        total_is,
      )
