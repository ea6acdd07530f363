-- The test of an entry: it is hit exactly where some boundary of its stretch has the depth wanted. An empty entry never is.
use mathlib.Core.Path.{◌≡◌, sym, ◌∙◌}
use mathlib.Core.Bool.{Bool, true, false}
use mathlib.Core.List.{List}
use mathlib.Core.Option.{Option, none, some}
use Prim.Native.Nat.{ℕ, zero, suc, ◌≤◌}
use lib.ListN.{length, take}
use lib.IntN.{ℤ, pos}
use lib.Signed.{◌≤ℤ◌, le_z}
use Rattle.word.specs.Signed.{eq_z}
use Rattle.word.proofs.Signed.{zarith, eq_z_refl, by_test, true≢false, →neq_z}
use Rattle.summary.specs.declared.Summary.{Summary}
use Rattle.summary.specs.Stretch.{depth_of, summary_of}
use Rattle.summary.specs.Join.{empty_of}
use Rattle.summary.proofs.Meaning.{Reaches, Spans, reaches_iff}
use Rattle.walk.specs.Walk.{hit}
use Rattle.walk.proofs.Options.{found_or_not, there_or_not}
use Rattle.walk.proofs.Amounts.{Nowhere}

pub spans_hit : (s : Summary) (t : ℤ) → Spans s t → hit s t ≡ true
spans_hit s t h = rw (→neq_z s.count (pos 0) (λ e. h.some (omega zarith)), ler s.least t h.low, ler t s.greatest h.high)
  where
    ler : (a b : ℤ) → a ≤ℤ b → le_z a b ≡ true
    ler a b h = omega zarith

pub hit_spans : (s : Summary) (t : ℤ) → hit s t ≡ true → Spans s t
hit_spans s t e = by_test (eq_z s.count (pos 0))
    (λ c. absurd (true≢false (sym (rw c at e))))
    (λ c. by_test (le_z s.least t)
    (λ l. record { some = λ z. omega zarith; low = omega zarith; high = omega (zarith, rw (c, l) at e) })
    (λ l. absurd (true≢false (sym (rw (c, l) at e)))))

-- "An empty entry taken as a hit for t = 0" is an error: whatever is wanted, it is none
pub empty_missed : (t : ℤ) → hit empty_of t ≡ false
unfolding empty_of
empty_missed t = rw (eq_z_refl (pos 0))

-- a scan of x: what it finds is there, and where it finds nothing there is nothing
pub record Scans (x : List Bool) (t : ℤ) (o : Option ℕ) : Type 0 where
  pub finds : (q : ℕ) → o ≡ some q → Reaches x t
  pub all : o ≡ none → Nowhere x t

-- an entry that is hit has the boundary wanted, and one that is not hit has none
pub missed : (x : List Bool) (t : ℤ) {o : Option ℕ} → Scans x t o → hit (summary_of x) t ≡ false → o ≡ none
missed x t {o} c e = found_or_not o (λ q f. true≢false (sym (spans_hit (summary_of x) t ((reaches_iff x t).0 (c.finds q f))) ∙ e))

pub hits : (x : List Bool) (t : ℤ) {o : Option ℕ} → Scans x t o → hit (summary_of x) t ≡ true → (q : ℕ) × (o ≡ some q)
hits x t {o} c e =
    there_or_not o (λ f. let r = (reaches_iff x t).1 (hit_spans (summary_of x) t e) in there (c.all f) r.place r.after r.inside r.depth)
  where
    there : Nowhere x t → (p : ℕ) → 1 ≤ p → p ≤ length x → depth_of (take p x) ≡ t → ⊥
    there f zero a b d = omega zarith
    there f (suc p) a b d = f p b d
