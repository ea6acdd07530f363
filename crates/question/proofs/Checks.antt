-- The checks of a question's places, test by test: what each test of the bits shows about the first check that fails.
use mathlib.Core.Path.{◌≡◌, refl, sym, ap, ◌∙◌}
use mathlib.Core.Bool.{Bool, true, false}
use mathlib.Core.List.{List, []}
use Prim.Native.Nat.{ℕ, zero, suc, ◌+◌, ◌≤◌, ◌<◌}
use native.Mathlib.Omega.{arith}
use borrow.Author.Tests.{lt-ltb, le-ltb}
use lib.ListN.{length, get_or}
use Rattle.std.specs.Prelude.{Ok, Err}
use Rattle.word.specs.Bits.{bit, word}
use Rattle.word.proofs.Bits.{length_bits, bit_bits}
use Rattle.judge.specs.First.{first_of}
use Rattle.question.specs.Decode.{Checks, node, closing, boundaries, refusing, unless}

module _ {A : Type 0} (bytes : List ℕ) (m a : ℕ) (q : A) where
  long : length (word bytes m) ≡ m
  long = length_bits bytes 0 m

  pub node_past : m ≤ a → unless (node (word bytes m) a []) q ≡ Err 12
  node_past l = rw (long, le-ltb a m l)

  pub closing_past : m ≤ a → unless (closing (word bytes m) a) q ≡ Err 12
  closing_past l = rw (long, le-ltb a m l)

  -- the bit that stands at a
  module _ (l : a < m) where
    there : (d v : Bool) → v ≡ bit bytes a → get_or (word bytes m) a d ≡ v
    there d v e = bit_bits bytes 0 m a d l ∙ ap (bit bytes) (let z : 0 + a ≡ a = omega arith in z) ∙ sym e

    pub node_opens : true ≡ bit bytes a → unless (node (word bytes m) a []) q ≡ Ok q
    node_opens e = rw (long, lt-ltb a m l, there false true e)

    pub node_closes : false ≡ bit bytes a → unless (node (word bytes m) a []) q ≡ Err 13
    node_closes e = rw (long, lt-ltb a m l, there false false e)

    pub closing_opens : true ≡ bit bytes a → unless (closing (word bytes m) a) q ≡ Err 14
    closing_opens e = rw (long, lt-ltb a m l, there true true e)

    pub closing_closes : false ≡ bit bytes a → unless (closing (word bytes m) a) q ≡ Ok q
    closing_closes e = rw (long, lt-ltb a m l, there true false e)

module _ {A : Type 0} (bytes : List ℕ) (m a b : ℕ) (q : A) where
  long' : length (word bytes m) ≡ m
  long' = length_bits bytes 0 m

  pub a_above : m < a → unless (boundaries (word bytes m) a b) q ≡ Err 12
  a_above l = rw (long', lt-ltb m a l)

  pub b_above : a ≤ m → m < b → unless (boundaries (word bytes m) a b) q ≡ Err 12
  b_above l k = rw (long', le-ltb m a l, lt-ltb m b k)

  pub crossed : a ≤ m → b ≤ m → b < a → unless (boundaries (word bytes m) a b) q ≡ Err 15
  crossed l k n = rw (long', le-ltb m a l, le-ltb m b k, lt-ltb b a n)

  pub in_order : a ≤ m → b ≤ m → a ≤ b → unless (boundaries (word bytes m) a b) q ≡ Ok q
  in_order l k n = rw (long', le-ltb m a l, le-ltb m b k, le-ltb b a n)

-- checks that pass some value pass any, and those that fail fail whatever was to pass
module _ {A B : Type 0} (cs : Checks) (x : A) (q : B) where
  at_first : (n : ℕ) → {y : A} → refusing n x ≡ Ok y → refusing n q ≡ Ok q
  at_first zero e = refl
  at_first (suc n) e = cc

  pub passes : {y : A} → Ok y ≡ unless cs x → unless cs q ≡ Ok q
  passes e = at_first (first_of cs) (sym e)

  at_fault : (n : ℕ) → {c : ℕ} → refusing n x ≡ Err c → refusing n q ≡ Err c
  at_fault zero e = cc
  at_fault (suc n) e = cc

  pub fails : {c : ℕ} → Err c ≡ unless cs x → unless cs q ≡ Err c
  fails e = at_fault (first_of cs) (sym e)

-- each check's own
pub ruleset node_checks = (node_past, node_opens, node_closes)

pub ruleset closing_checks = (closing_past, closing_opens, closing_closes)

pub ruleset boundary_checks = (a_above, b_above, crossed, in_order)

pub ruleset asked_checks = (passes, fails)
