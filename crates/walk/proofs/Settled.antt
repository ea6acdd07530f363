-- No second outcome fits the promises of this crate's public functions. Assumes nothing.
use mathlib.Core.Path.{◌≡◌, refl, sym, ap, ◌∙◌}
use mathlib.Core.Bool.{Bool, true, false}
use mathlib.Core.List.{List, []}
use mathlib.Core.Option.{Option, some, none-ne-some}
use Rattle.std.specs.Prelude.{Result, None, Some}
use Rattle.std.specs.Prelude as code
use Prim.Native.Nat.{ℕ, ◌+◌, ◌*◌, min}
use lib.IntN.{ℤ, pos, ◌+ℤ◌, ◌-ℤ◌}
use Rattle.std.specs.declared.ops.ControlFlow.{ControlFlow}
use Rattle.std.specs.declared.ops.ControlFlow.TheVariants.{Continue, Break}
use Rattle.word.specs.declared.row.Row.{Row}
use Rattle.word.specs.Signed.{eq_z}
use Rattle.word.specs.Settles.{Settles}
use Rattle.word.proofs.Signed.{true≢false}
use Rattle.word.proofs.Settled.{by_equation, by_telling}
use Rattle.summary.specs.declared.Summary.{Summary}
use Rattle.index.specs.Lent.{entry_at}
use Rattle.walk.specs.declared.Counted.{Counted}
use Rattle.walk.specs.declared.Walk.{Walk}
use Rattle.walk.specs.declared.Climb.{Climb}
use Rattle.walk.specs.declared.Climb.TheVariants.{Enter, Top}
use Rattle.walk.specs.Way.{Up, Into, Step, Down, beyond, WayLaws}
use Rattle.walk.specs.Beside.{after_of, before_of}
use Rattle.walk.specs.Scan.{reached}
use Rattle.walk.specs.Walk.{Reach, told, there, said, walk, seen, hit}

abbrev found : Reach → Option ℕ
found x = x.0

abbrev reads : Reach → ℕ
reads x = x.1

-- no two answers are told alike
pub told_apart : {A : Type 0} (r s : Counted A) → told r ≡ told s → r ≡ s
told_apart {A} r s e = λ i. record { value = (e i).0; reads = (e i).1 }

pub told_settled : {A : Type 0} (z : A × ℕ) → Settles {A = Counted A} (λ r. told r ≡ z)
told_settled = by_telling told told_apart

there_apart : (o p : code.Option ℕ) → there o ≡ there p → o ≡ p
there_apart None None e = refl
there_apart None (Some q) e = absurd (none-ne-some q e)
there_apart (Some q) None e = absurd (none-ne-some q (sym e))
there_apart (Some p) (Some q) e = let o : some p ≡ some q = e in cc

-- no two answers of a walk are said alike
pub said_apart : (r s : Counted (code.Option ℕ)) → said r ≡ said s → r ≡ s
said_apart r s e = let v = there_apart r.value s.value (ap found e) in let n = ap reads e in λ i. record { value = v i; reads = n i }

-- so a walk that says what it found and its reads is settled in both
pub said_settled : (z : Reach) → Settles {A = Counted (code.Option ℕ)} (λ r. said r ≡ z)
said_settled = by_telling said said_apart

pub met_settled : (s : Result ℕ ℤ) (reads : ℕ) → Settles {A = Counted (code.Option ℕ)} (λ r. said r ≡ (reached s, reads))
met_settled s reads = said_settled (reached s, reads)

pub read_settled : (idx : List ℤ) (k reads : ℕ) → Settles {A = Counted Summary} (λ r. r ≡ seen (entry_at idx k) (reads + 1))
read_settled idx k reads = by_equation (seen (entry_at idx k) (reads + 1))

pub after_settled : (idx : List ℤ) (k reads : ℕ) → Settles {A = Counted Summary} (λ r. r ≡ after_of (entry_at idx) k reads)
after_settled idx k reads = by_equation (after_of (entry_at idx) k reads)

pub before_settled : (idx : List ℤ) (k reads : ℕ) → Settles {A = Counted Summary} (λ r. r ≡ before_of (entry_at idx) k reads)
before_settled idx k reads = by_equation (before_of (entry_at idx) k reads)

pub wide_settled : (x : ℤ) → Settles {A = ℤ} (λ r. r ≡ x)
wide_settled x = by_equation x

pub zero_settled : (x : ℤ) → Settles {A = Bool} (λ r. r ≡ eq_z x (pos 0))
zero_settled x = by_equation (eq_z x (pos 0))

pub holds_settled : (s : Summary) (want : ℤ) → Settles {A = Bool} (λ r. r ≡ hit s want)
holds_settled s want = by_equation (hit s want)

pub minus_settled : (want total : ℤ) → Settles {A = ℤ} (λ r. r ≡ want -ℤ total)
minus_settled want total = by_equation (want -ℤ total)

pub plus_settled : (want total : ℤ) → Settles {A = ℤ} (λ r. r ≡ want +ℤ total)
plus_settled want total = by_equation (want +ℤ total)

pub enter_settled : (self : Walk) (k : ℕ) (s : Counted Summary) → Settles {A = Walk} (λ r. r ≡ walk k self.want s.reads)
enter_settled self k s = by_equation (walk k self.want s.reads)

pub less_settled : (self : Walk) (k : ℕ) (s : Counted Summary) → Settles {A = Walk} (λ r. r ≡ walk k (self.want -ℤ s.value.total) s.reads)
less_settled self k s = by_equation (walk k (self.want -ℤ s.value.total) s.reads)

pub more_settled : (self : Walk) (k : ℕ) (s : Counted Summary) → Settles {A = Walk} (λ r. r ≡ walk k (self.want +ℤ s.value.total) s.reads)
more_settled self k s = by_equation (walk k (self.want +ℤ s.value.total) s.reads)

pub end_of_settled : (m b : ℕ) → Settles {A = ℕ} (λ r. r ≡ min (256 * (b + 1)) m)
end_of_settled m b = by_equation (min (256 * (b + 1)) m)

-- ---- a way along the row
abbrev state : Climb → Walk
state (Top v) = v
state (Enter v) = v

abbrev ended : Climb → Bool
ended (Top v) = true
ended (Enter v) = false

module _ {climb : (ℕ → Summary) → ℕ → Walk → Climb} {descent : (ℕ → Summary) → ℕ → ℕ → Walk → Walk} {leaf : ℕ → List Bool → Walk → Reach}
    {landed : ℕ → List Bool → Climb → Reach}
    (laws : WayLaws climb descent leaf landed) (e : ℕ → Summary) (w : Walk) where
  on_apart : (u v : Walk) → Up (climb e) w u → Into (climb e) w v → ⊥
  on_apart u v p q = true≢false (ap ended (laws.halted e u ∙ p.on 0 ∙ sym (q.is 0)))

  pub up_settled : Settles {A = ControlFlow Walk Walk} (λ r. Step (climb e) w r)
  up_settled (Continue u) (Continue v) p q = ap Continue (ap state (laws.halted e u ∙ p.on 0 ∙ sym (q.on 0) ∙ sym (laws.halted e v)))
  up_settled (Continue u) (Break v) p q = absurd (on_apart u v p q)
  up_settled (Break u) (Continue v) p q = absurd (on_apart v u q p)
  up_settled (Break u) (Break v) p q = ap Break (ap state (p.is 0 ∙ sym (q.is 0)))

  pub down_settled : (l : ℕ) → Settles {A = Walk} (λ r. Down (descent e l) w r)
  down_settled l r s p q = laws.stayed e l r ∙ p.on 0 ∙ sym (q.on 0) ∙ sym (laws.stayed e l s)

  pub leaf_settled : (l : ℕ) (x : List Bool) → Settles {A = Counted (code.Option ℕ)} (λ r. said r ≡ leaf l x w)
  leaf_settled l x = said_settled (leaf l x w)

  pub top_settled : Settles {A = Counted (code.Option ℕ)} (λ r. (h : ℕ) (x : List Bool) → said r ≡ landed h x (Top w))
  top_settled r s p q = said_settled (landed 0 [] (Top w)) r s (p 0 []) (q 0 [])

  pub onward_settled : (row : Row) → Settles {A = Counted (code.Option ℕ)} (λ r. said r ≡ beyond climb landed row w)
  onward_settled row = said_settled (beyond climb landed row w)
