-- The steps of the forward walk, each as one function of the code takes it.
-- Bits are those of the bytes lent.
use Rattle.std.specs.Prelude.{◌≡◌, Result, List, ℕ, zero, suc, ◌≤◌, ℤ, ◌-ℤ◌}
use Rattle.std.proofs.Common.{refl}
use borrow.Author.Tests.{eq-eqb, le-leb}
use Rattle.word.specs.Bits.{bits}
use Rattle.summary.specs.declared.Summary.{Summary}
use Rattle.summary.specs.Stretch.{depth_of}
use Rattle.walk.specs.declared.Walk.{Walk}
use Rattle.walk.specs.declared.Climb.{Climb}
use Rattle.walk.specs.declared.Climb.TheVariants.{Top}
use Rattle.walk.specs.Scan.{first, scanned}
use Rattle.walk.specs.Forward.{climb, descend, leaf_scan, landed}
use Rattle.walk.specs.Way.{WayLaws}

-- the scan of n bits from bit i on, where t is wanted from boundary i: the first boundary after i, or the amount wanted from the end
unfoldable pub scan_of : List ℕ → ℕ → ℕ → ℤ → Result ℕ ℤ
scan_of bytes i n t = scanned (first i (bits bytes i n) t) (t -ℤ depth_of (bits bytes i n))

-- the climb from where the walk stands, and the descent, by whatever reads an entry
abbrev pub climb_of : (ℕ → Summary) → ℕ → Walk → Climb
climb_of e s v = climb e s v.entry v.want v.reads

abbrev pub descent_of : (ℕ → Summary) → ℕ → ℕ → Walk → Walk
descent_of e l s v = descend e l s v.entry v.want v.reads

halted : (e : ℕ → Summary) (w : Walk) → Top w ≡ climb_of e 0 w
unfolding climb
halted e w = refl

stayed : (e : ℕ → Summary) (l : ℕ) (w : Walk) → w ≡ descent_of e l 0 w
unfolding descend
stayed e l w = refl

at_root : (e : ℕ → Summary) (s : ℕ) (w : Walk) → w.entry ≡ 1 → Top w ≡ climb_of e s w
unfolding climb
at_root e zero w d = halted e w
at_root e (suc s) w d = rw (eq-eqb w.entry 1 d)

at_leaf : (e : ℕ → Summary) (l s : ℕ) (w : Walk) → l ≤ w.entry → w ≡ descent_of e l s w
unfolding descend
at_leaf e l zero w h = stayed e l w
at_leaf e l (suc s) w h = rw (le-leb l w.entry h)

pub ahead_laws : WayLaws climb_of descent_of leaf_scan landed
ahead_laws = record { halted = halted; stayed = stayed; root = at_root; bottom = at_leaf; lands = λ h x u. refl }
