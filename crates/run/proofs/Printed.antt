-- From what reading a file gives to what is printed for it. Assumes nothing.
use mathlib.Core.Path.{◌≡◌, sym, ap, ◌∙◌}
use mathlib.Core.List.{List}
use Prim.Native.Nat.{ℕ, ◌*◌, ◌≤◌}
use native.Mathlib.Omega.{arith}
use lib.ListN.{length, take, replicate, length-replicate}
use lib.Seq.{length-sets, length-take-le}
use Rattle.std.specs.Prelude.{Result, Ok, Err}
use Rattle.fill.proofs.Fill.{sets_front}
use Rattle.judge.specs.Numbered.{numbered}
use Rattle.house.specs.declared.House.{House}
use Rattle.house.specs.declared.fault.Fault.{Fault}
use Rattle.house.specs.Faults.{number_of}
use Rattle.house.specs.File.{Read, read_of}
use Rattle.house.proofs.Whole.{Whole, whole}
use Rattle.text.specs.Text.{Put, refusal}
use Rattle.run.specs.Output.{answered, output}
use Rattle.run.specs.Sound.{Sound}

-- the two arrays before the file is read into them
abbrev word : List ℕ
word = replicate 8192 0

abbrev numbers : List ℕ
numbers = replicate 3072 0

module _ (file : List ℕ) (word' numbers' : List ℕ) where
  pub ends_refused : (r : Result House Fault) → Read file word numbers r word' numbers'
      → (out : List ℕ) (e : ℕ) (left : List ℕ) (fault : Fault) → r ≡ Err fault
      → Put (refusal (number_of fault)) out 0 e left → Put (output file) out 0 e left
  unfolding output
  ends_refused r read out e left fault is p = rw (← read.house_is, is) p

  module _ (r : Result House Fault) (read : Read file word numbers r word' numbers') (h : House) (ok : r ≡ Ok h) where
    word_long : length word ≡ 8192
    word_long = length-replicate {A = ℕ} 8192 0

    numbers_long : length numbers ≡ 3072
    numbers_long = length-replicate {A = ℕ} 3072 0

    house_is : (read_of file).house ≡ Ok h
    house_is = sym read.house_is ∙ ap (numbered number_of) ok

    all : Whole h (read_of file)
    all = whole file h house_is

    pub few_asked : h.asked ≤ 1024
    few_asked = all.few

    pub few_bytes : h.bytes ≤ length word'
    few_bytes = omega (arith, all.exact, all.small, ap length read.word_is, length-sets word 0 (read_of file).bytes, word_long)

    pub few_numbers : 3 * h.asked ≤ length numbers'
    few_numbers = omega (arith, all.few, ap length read.numbers_are, length-sets numbers 0 (read_of file).numbers, numbers_long)

    pub sound : (out : List ℕ) → 33792 ≤ length out → Sound (take h.bytes word') h.m (take (3 * h.asked) numbers') out
    sound out room =
        let b = length-take-le h.bytes word' few_bytes in
        let n = length-take-le (3 * h.asked) numbers' few_numbers in
        record { small = all.small; enough = omega (arith, all.exact); threes = omega arith; few = omega (arith, all.few); room = room }

    pub ends_printed : (out : List ℕ) (e : ℕ) (left : List ℕ)
        → Put (answered (take h.bytes word') h.m (take (3 * h.asked) numbers')) out 0 e left → Put (output file) out 0 e left
    unfolding output
    ends_printed out e left p =
        let b : take h.bytes word' ≡ (read_of file).bytes = ap (take h.bytes) read.word_is ∙ sets_front word (read_of file).bytes h.bytes all.bytes_count (omega (arith, all.bytes_count, all.exact, all.small, word_long)) in
        let n : take (3 * h.asked) numbers' ≡ (read_of file).numbers = ap (take (3 * h.asked)) read.numbers_are ∙ sets_front numbers (read_of file).numbers (3 * h.asked) all.numbers_count (omega (arith, all.numbers_count, all.few, numbers_long)) in
        rw (house_is, ← b, ← n) p
