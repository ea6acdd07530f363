-- Writing text: one piece after another, the pieces still to come, and that a promise by `Put` leaves no choice.
-- Assumes nothing.
use mathlib.Core.Path.{◌≡◌, sym, ap, ap₂, ◌∙◌}
use mathlib.Core.List.{List, ◌++◌}
use Prim.Native.Nat.{ℕ, ◌+◌, ◌≤◌}
use native.Mathlib.Omega.{arith}
use lib.ListN.{length, take, length-append}
use lib.Seq.{sets, length-sets}
use Rattle.fill.proofs.Fill.{sets_append, sets_front}
use Rattle.text.specs.declared.Page.{Page}
use Rattle.text.specs.Text.{Put}
use Rattle.text.specs.Page.{Writes}

-- one after the other
pub put_append : (xs ys out mid left : List ℕ) (at p q : ℕ) → Put xs out at p mid → Put ys mid p q left → Put (xs ++ ys) out at q left
put_append xs ys out mid left at p q a b =
    record {
      left_is = b.left_is ∙ ap₂ (λ l n. sets l n ys) a.left_is a.end_is ∙ sym (sets_append out at xs ys);
      end_is = omega (arith, a.end_is, b.end_is, length-append xs ys);
    }

-- where the rest is still to be written: all is put once it is
pub record Left (all rest out₀ : List ℕ) (at : ℕ) (out : List ℕ) : Type 0 where
  pub out_goes : sets out at rest ≡ sets out₀ 0 all
  pub end_goes : at + length rest ≡ length all

pub left_step : (all xs rest out₀ out next : List ℕ) (at p : ℕ) → Left all (xs ++ rest) out₀ at out → Put xs out at p next
    → Left all rest out₀ p next
left_step all xs rest out₀ out next at p l q =
    record {
      out_goes = ap₂ (λ o n. sets o n rest) q.left_is q.end_is ∙ sym (sets_append out at xs rest) ∙ l.out_goes;
      end_goes = omega (arith, q.end_is, l.end_goes, length-append xs rest);
    }

module _ (text out left : List ℕ) (at end : ℕ) (p : Put text out at end left) where
  -- the slice is as long as it was
  pub put_long : length left ≡ length out
  put_long = ap length p.left_is ∙ length-sets out at text

  -- no second outcome fits
  pub settled : (left₂ : List ℕ) (end₂ : ℕ) → Put text out at end₂ left₂ → (end ≡ end₂) × (left ≡ left₂)
  settled left₂ end₂ q = (p.end_is ∙ sym q.end_is, p.left_is ∙ sym q.left_is)

-- what is put from the front is what stands before the end
pub put_front : (text out left : List ℕ) (end : ℕ) → Put text out 0 end left → length text ≤ length out → take end left ≡ text
put_front text out left end p h = ap (take end) p.left_is ∙ sets_front out text end (omega (arith, p.end_is)) h

-- one piece after another on a page
pub writes_append : (xs ys : List ℕ) (a b c : Page) → Writes xs a b → Writes ys b c → Writes (xs ++ ys) a c
writes_append xs ys a b c p q =
    record { same = q.same ∙ p.same; put = put_append xs ys a.out.now b.out.now c.out.now a.at b.at c.at p.put q.put }

pub writes_long : (text : List ℕ) (a b : Page) → Writes text a b → length b.out.now ≡ length a.out.now
writes_long text a b w = put_long text a.out.now b.out.now a.at b.at w.put
