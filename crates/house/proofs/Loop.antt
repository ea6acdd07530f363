-- The loop of `read`: what is still to be gathered, laid over the lent slices as they are, gives what the whole file gives.
-- Also that what `read` promises leaves no choice. Assumes nothing.
use mathlib.Core.Path.{◌≡◌, refl, sym, ap, ◌∙◌}
use mathlib.Core.List.{List}
use Prim.Native.Nat.{ℕ, zero, suc, ◌+◌, ◌*◌, ◌<◌, ◌≤◌}
use native.Mathlib.Omega.{arith}
use borrow.Author.Tests.{lt-ltb, le-ltb}
use lib.ListN.{length}
use lib.Seq.{sets, length-sets}
use Rattle.fill.proofs.Fill.{sets_append}
use Rattle.std.specs.Prelude.{Result, Ok, Err}
use Rattle.judge.specs.Numbered.{numbered}
use Rattle.judge.proofs.Numbered.{numbered_apart}
use Rattle.house.specs.declared.State.{State}
use Rattle.house.specs.declared.House.{House}
use Rattle.house.specs.declared.fault.Fault.{Fault}
use Rattle.house.specs.declared.fault.Fault.TheVariants.{TooMuch}
use Rattle.house.specs.Faults.{number_of}
use Rattle.house.specs.Fields.{Told, size, stretch, question, field_at}
use Rattle.house.specs.File.{Gathered, Read, ended, only, start, sized, worded, questioned, three_of, onward, from, read_of}
use Rattle.house.proofs.Faults.{number_apart}
use Rattle.house.proofs.Fields.{fits}
use Rattle.house.proofs.Steps.{Steady, steady_start, steady_sized, steady_worded, steady_questioned}

-- what was gathered, laid over two lists: over each from a place on
record Laid : Type 0 where
  pub house : Result House ℕ
  pub word : List ℕ
  pub numbers : List ℕ

abbrev lay : List ℕ → ℕ → List ℕ → ℕ → Gathered → Laid
lay word i numbers j g = record { house = g.house; word = sets word i g.bytes; numbers = sets numbers j g.numbers }

pub record Reading (file word₀ numbers₀ word numbers : List ℕ) (s : State) : Type 0 where
  pub turns : ℕ
  pub enough : length file ≤ s.at + turns
  pub short : length file ≤ 49152
  pub inside : s.at ≤ length file
  pub steady : Steady s
  pub word_long : length word ≡ length word₀
  pub numbers_long : length numbers ≡ length numbers₀
  pub goes : lay word s.bytes numbers (3 * s.asked) (from file turns s) ≡ lay word₀ 0 numbers₀ 0 (read_of file)

-- a lay that nothing is left of is what `read` promises
read_of_lem : (file word numbers word' numbers' : List ℕ) (h : Result House Fault) (i j : ℕ) →
    lay word' i numbers' j (only (numbered number_of h)) ≡ lay word 0 numbers 0 (read_of file) →
    Read file word numbers h word' numbers'
read_of_lem file word numbers word' numbers' h i j e =
    record { house_is = ap (λ l. l.house) e; word_is = ap (λ l. l.word) e; numbers_are = ap (λ l. l.numbers) e }

module _ (file word₀ numbers₀ : List ℕ) where
  pub too_long : 49152 < length file → Read file word₀ numbers₀ (Err TooMuch) word₀ numbers₀
  unfolding read_of
  too_long h = read_of_lem file word₀ numbers₀ word₀ numbers₀ (Err TooMuch) 0 0
      (let e : only (Err 35) ≡ read_of file = simp (lt-ltb 49152 (length file) h) in ap (lay word₀ 0 numbers₀ 0) e)

  pub begins : length file ≤ 49152 → Reading file word₀ numbers₀ word₀ numbers₀ start
  unfolding read_of
  begins h =
      let e : from file (length file) start ≡ read_of file = simp (le-ltb 49152 (length file) h) in
      record {
        turns = length file;
        enough = omega arith;
        short = h;
        inside = omega arith;
        steady = steady_start;
        word_long = refl;
        numbers_long = refl;
        goes = ap (lay word₀ 0 numbers₀ 0) e;
      }

  module _ (word numbers : List ℕ) (s : State) (r : Reading file word₀ numbers₀ word numbers s) where
    pub ends : (h : Result House Fault) → numbered number_of h ≡ ended s → length file ≤ s.at → Read file word₀ numbers₀ h word numbers
    ends h e k =
        read_of_lem file word₀ numbers₀ word numbers h s.bytes (3 * s.asked)
        (ap (λ r. lay word s.bytes numbers (3 * s.asked) (only r)) e
        ∙ sym (ap (lay word s.bytes numbers (3 * s.asked)) (none r.turns)) ∙ r.goes)
      where
        none : (n : ℕ) → from file n s ≡ only (ended s)
        none zero = refl
        none (suc n) = simp (le-ltb s.at (length file) k)

    module _ (f : Result Told ℕ) (h : s.at < length file) (e : field_at file s ≡ f) where
      -- one turn fewer
      pub record Turned : Type 0 where
        pub turns : ℕ
        pub fewer : r.turns ≡ suc turns
        pub goes : lay word s.bytes numbers (3 * s.asked) (onward s (from file turns) f) ≡ lay word₀ 0 numbers₀ 0 (read_of file)

      turned : Turned
      turned = go r.turns r.enough refl
        where
          go : (n : ℕ) → length file ≤ s.at + n → r.turns ≡ n → Turned
          go zero k i = absurd (omega arith)
          go (suc n) k i =
              let q : from file (suc n) s ≡ onward s (from file n) f = simp (lt-ltb s.at (length file) h, e) in
              record {
                turns = n;
                fewer = i;
                goes = sym (ap (lay word s.bytes numbers (3 * s.asked)) (ap (λ n. from file n s) i ∙ q)) ∙ r.goes;
              }

    module _ (h : s.at < length file) where
      pub stops : (r : Result House Fault) (n : ℕ) → field_at file s ≡ Err n →
          numbered number_of r ≡ Err n → Read file word₀ numbers₀ r word numbers
      stops r n e i = read_of_lem file word₀ numbers₀ word numbers r s.bytes (3 * s.asked) (rw i (turned (Err n) h e).goes)

      pub past_size : (m : ℕ) → field_at file s ≡ Ok (size m) → Reading file word₀ numbers₀ word numbers (sized s m)
      past_size m e =
          let t = turned (Ok (size m)) h e in
          let b = fits file s (size m) e in
          record {
            turns = t.turns;
            enough = omega (arith, t.fewer, r.enough);
            short = r.short;
            inside = b.0;
            steady = steady_sized file s r.steady m b;
            word_long = r.word_long;
            numbers_long = r.numbers_long;
            goes = t.goes;
          }

      pub past_word : (part : List ℕ) → field_at file s ≡ Ok (stretch part) →
          Reading file word₀ numbers₀ (sets word s.bytes part) numbers (worded s (length part))
      past_word part e =
          let t = turned (Ok (stretch part)) h e in
          let b = fits file s (stretch part) e in
          let g = from file t.turns (worded s (length part)) in
          record {
            turns = t.turns;
            enough = omega (arith, t.fewer, r.enough);
            short = r.short;
            inside = b.0;
            steady = steady_worded file s r.steady part b;
            word_long = length-sets word s.bytes part ∙ r.word_long;
            numbers_long = r.numbers_long;
            goes =
                ap (λ w. record { house = g.house; word = w; numbers = sets numbers (3 * s.asked) g.numbers })
                (sym (sets_append word s.bytes part g.bytes))
                ∙ t.goes;
          }

      pub past_question : (part : List ℕ) → field_at file s ≡ Ok (question part) →
          Reading file word₀ numbers₀ word (sets numbers (3 * s.asked) (three_of part)) (questioned s)
      past_question part e =
          let t = turned (Ok (question part)) h e in
          let b = fits file s (question part) e in
          let v = three_of part in
          let g = from file t.turns (questioned s) in
          record {
            turns = t.turns;
            enough = omega (arith, t.fewer, r.enough);
            short = r.short;
            inside = b.0;
            steady = steady_questioned file s r.steady part b;
            word_long = r.word_long;
            numbers_long = length-sets numbers (3 * s.asked) v ∙ r.numbers_long;
            goes =
                ap (λ k. lay word s.bytes (sets numbers (3 * s.asked) v) k g)
                (let z : 3 * (s.asked + 1) ≡ 3 * s.asked + 3 = omega arith in z)
                ∙ ap (λ n. record { house = g.house; word = sets word s.bytes g.bytes; numbers = n })
                (sym (sets_append numbers (3 * s.asked) v g.numbers))
                ∙ t.goes;
          }

module _ (file word numbers : List ℕ) (r : Result House Fault) (word' numbers' : List ℕ)
    (p : Read file word numbers r word' numbers') where
  -- no second outcome fits
  pub settled : (r₂ : Result House Fault) (word₂ numbers₂ : List ℕ) → Read file word numbers r₂ word₂ numbers₂ →
      (r ≡ r₂) × ((word' ≡ word₂) × (numbers' ≡ numbers₂))
  settled r₂ word₂ numbers₂ q = (
    numbered_apart number_of number_apart r r₂ (p.house_is ∙ sym q.house_is),
    (p.word_is ∙ sym q.word_is, p.numbers_are ∙ sym q.numbers_are),
  )

  -- both lent slices are as long as they were
  pub read_long : (length word' ≡ length word) × (length numbers' ≡ length numbers)
  read_long = (
    ap length p.word_is ∙ length-sets word 0 (read_of file).bytes,
    ap length p.numbers_are ∙ length-sets numbers 0 (read_of file).numbers,
  )
