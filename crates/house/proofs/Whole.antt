-- What an accepted file has: m within its bound, exactly ceil(m/8) word bytes, and three numbers for each question.
-- Assumes nothing.
use mathlib.Core.Path.{◌≡◌}
use mathlib.Core.List.{List}
use Prim.Native.Nat.{ℕ, zero, suc, ◌+◌, ◌*◌, ◌≤◌}
use native.Mathlib.Omega.{arith}
use borrow.Author.Tests.{ltb-false}
use lib.Dec.{ltb}
use lib.ListN.{length, length-append}
use Rattle.word.specs.Bits.{bytes_of}
use Rattle.std.specs.Prelude.{Result, Ok, Err}
use Rattle.house.specs.declared.State.{State}
use Rattle.house.specs.declared.House.{House}
use Rattle.house.specs.Fields.{Told, size, stretch, question, is_first, field_at}
use Rattle.house.specs.File.{Gathered, ended, only, start, sized, worded, questioned, onward, from, read_of}
use Rattle.house.proofs.Fields.{cond_all, Sound, sound}
use Rattle.house.proofs.Steps.{Steady, steady_start, steady_sized, steady_worded, steady_questioned}

-- what is gathered past a state, if it is accepted: its counts are those of the state and of what came after
record Counted (s : State) (h : House) (g : Gathered) : Type 0 where
  pub small : h.m ≤ 65536
  pub exact : h.bytes ≡ bytes_of h.m
  pub few : h.asked ≤ 1024
  pub bytes_count : h.bytes ≡ s.bytes + length g.bytes
  pub numbers_count : 3 * h.asked ≡ 3 * s.asked + length g.numbers

abbrev Counts : State → Gathered → Type 0
Counts s g = (h : House) → g.house ≡ Ok h → Counted s h g

ended_counts : (s : State) → Steady s → Counts s (only (ended s))
ended_counts s steady =
    cond_all (λ r. Counts s (only r)) (is_first s.stage) _ _ (λ t h z. cc) (λ t.
    cond_all (λ r. Counts s (only r)) (ltb s.bytes (bytes_of s.m)) _ _ (λ t h z. cc) (λ t h z.
    let e : record { m = s.m; bytes = s.bytes; asked = s.asked } ≡ h = cc in
    rw (← e) record {
      small = steady.small;
      exact = omega (arith, ltb-false s.bytes (bytes_of s.m) t, steady.held);
      few = steady.few;
      bytes_count = omega arith;
      numbers_count = omega arith;
    }))

module _ (file : List ℕ) where
  onward_counts : (s : State) (rest : State → Gathered) → Steady s → ((t : State) → Steady t → Counts t (rest t)) →
      (f : Result Told ℕ) → Sound file s f → Counts s (onward s rest f)
  onward_counts s rest steady go (Err n) b h z = cc
  onward_counts s rest steady go (Ok (size m)) b h z =
      let r = go (sized s m) (steady_sized file s steady m b) h z in
      record { small = r.small; exact = r.exact; few = r.few; bytes_count = r.bytes_count; numbers_count = r.numbers_count }
  onward_counts s rest steady go (Ok (stretch part)) b h z =
      let g = rest (worded s (length part)) in
      let r = go (worded s (length part)) (steady_worded file s steady part b) h z in
      record {
        small = r.small;
        exact = r.exact;
        few = r.few;
        bytes_count = omega (arith, r.bytes_count, length-append part g.bytes);
        numbers_count = r.numbers_count;
      }
  onward_counts s rest steady go (Ok (question part)) b h z =
      let r = go (questioned s) (steady_questioned file s steady part b) h z in
      record { small = r.small; exact = r.exact; few = r.few; bytes_count = r.bytes_count; numbers_count = omega (arith, r.numbers_count) }

  from_counts : (turns : ℕ) (s : State) → Steady s → Counts s (from file turns s)
  from_counts zero s steady = ended_counts s steady
  from_counts (suc turns) s steady =
      cond_all (Counts s) (ltb s.at (length file)) _ _
      (λ t. onward_counts s (from file turns) steady (from_counts turns) (field_at file s) (sound file s))
      (λ t. ended_counts s steady)

pub record Whole (h : House) (g : Gathered) : Type 0 where
  pub small : h.m ≤ 65536
  pub exact : h.bytes ≡ bytes_of h.m
  pub few : h.asked ≤ 1024
  pub bytes_count : h.bytes ≡ length g.bytes
  pub numbers_count : 3 * h.asked ≡ length g.numbers

pub whole : (file : List ℕ) (h : House) → (read_of file).house ≡ Ok h → Whole h (read_of file)
unfolding read_of
whole file =
    cond_all (λ g. (h : House) → g.house ≡ Ok h → Whole h g) (ltb 49152 (length file)) _ _ (λ t h z. cc) (λ t h z.
    let r = from_counts file (length file) start steady_start h z in
    record {
      small = r.small;
      exact = r.exact;
      few = r.few;
      bytes_count = omega (arith, r.bytes_count);
      numbers_count = omega (arith, r.numbers_count);
    })
