-- What asking a sound file's questions gives: a line for each answer, over an index that is built for it, or the row's refusal.
use Rattle.std.specs.Prelude.{◌≡◌, false, List, ℕ, Result, MatchResult}
use Rattle.word.specs.Bits.{word}
use Rattle.word.specs.Parse.{is_balanced}
use Rattle.judge.specs.declared.refusal.Refusal.{Refusal}
use Rattle.judge.specs.Refusal.{number_of}
use Rattle.text.specs.Text.{Put}
use Rattle.run.specs.Output.{answered}

-- 6 is all that is left to refuse, and then nothing is written
abbrev pub Unasked : List ℕ → ℕ → List ℕ → List ℕ → Refusal → Type 0
Unasked bytes m held left r = (is_balanced (word bytes m) ≡ false) × ((number_of r ≡ 6) × (left ≡ held))

-- the promise of `ask`
abbrev pub Replied : List ℕ → ℕ → List ℕ → List ℕ → Result ℕ Refusal → List ℕ → Type 0
Replied bytes m numbers held r left =
    MatchResult r (λ end. Put (answered bytes m numbers) held 0 end left) (Unasked bytes m held left)
