-- Chains of nodes by D alone: up a chain, who is on whose chain, and how far up the nearest shared node of two chains is. Assumes nothing.
use mathlib.Core.Path.{◌≡◌, refl, sym, ap, ap₂, subst, ◌∙◌}
use mathlib.Core.Logic.{◌⊎◌, inl, inr}
use mathlib.Core.Bool.{Bool, true, false, cond}
use mathlib.Core.List.{List, [], ◌∷◌}
use mathlib.Core.Option.{none, some, none-ne-some}
use Prim.Native.Nat.{ℕ, zero, suc, ◌+◌, ◌-◌, ◌≤◌, ◌<◌}
use native.Mathlib.Omega.{arith}
use native.Mathlib.Decide.{dec_le, dec_lt, ℕ_discrete}
use lib.Dec.{eqb}
use lib.ListN.{length, drop, get_elem?}
use lib.IntN.{pos, neg_ℤ, ◌+ℤ◌}
use lib.Signed.{◌≤ℤ◌}
use Rattle.word.specs.Forest.{D}
use Rattle.word.specs.Depth.{Forward, Backward}
use Rattle.word.specs.Nodes.{on}
use Rattle.word.specs.Questions.{shared}
use Rattle.word.proofs.Tests.{true≢false, cond_all, eqb_same, eqb_eq}
use Rattle.word.proofs.Signed.{zarith, +law, P_neg, N_neg}
use Rattle.word.proofs.Depth.{eq}
use Rattle.word.proofs.Bridge.{Span, Chain}

-- ---- whether a place is on a chain

pub on_here : (p a : ℕ) (ps : List ℕ) → p ≡ a → on (p ∷ ps) a ≡ true
on_here p a ps e = ap (λ b. cond b true (on ps a)) (ap (λ n. eqb n a) e ∙ eqb_same a)

pub on_up : (p a : ℕ) (ps : List ℕ) → on ps a ≡ true → on (p ∷ ps) a ≡ true
on_up p a ps e = cond_all (λ b. b ≡ true) (eqb p a) refl e

pub on_cases : (p a : ℕ) (ps : List ℕ) → on (p ∷ ps) a ≡ true → (p ≡ a) ⊎ (on ps a ≡ true)
on_cases p a ps o = go (eqb p a) refl o
  where
    go : (b : Bool) → eqb p a ≡ b → cond b true (on ps a) ≡ true → (p ≡ a) ⊎ (on ps a ≡ true)
    go true e o = inl (eqb_eq p a e)
    go false e o = inr o

-- ---- from a node's opening forward by 0, and back again

pub span_forward : (w : List Bool) (p e d : ℕ) → Span w p e d → Forward w p (pos 0) (suc e)
span_forward w p e d s = record {
  later = omega (arith, s.proper);
  within = s.within;
  there = omega (zarith, s.before, s.after, +law (D w p) (pos 0));
  first = λ j l h k. omega (zarith, s.before, s.inside j l (omega arith), +law (D w p) (pos 0));
}

pub span_backward : (w : List Bool) (p e d : ℕ) → Span w p e d → Backward w (suc e) (pos 0) p
span_backward w p e d s = record {
  earlier = omega (arith, s.proper);
  there = omega (zarith, s.before, s.after, +law (D w (suc e)) (pos 0));
  last = λ j l h k. omega (zarith, s.after, s.inside j l (omega arith), +law (D w (suc e)) (pos 0));
}

-- ---- up a chain

-- b levels up a chain: a chain, so much shorter, of a node whose branch holds the first one
pub record Up (w : List Bool) (p e : ℕ) (ps : List ℕ) (b q : ℕ) : Type 0 where
  pub c : ℕ
  pub qs : List ℕ
  pub upward : Chain w q c qs
  pub shorter : length qs + b ≡ length ps
  pub left : q + b ≤ p
  pub right : e ≤ c
  pub rest : drop b (p ∷ ps) ≡ q ∷ qs

pub chain_up : (w : List Bool) (b p e : ℕ) (ps : List ℕ) (q : ℕ) → Chain w p e ps → get_elem? (p ∷ ps) b ≡ some q → Up w p e ps b q
chain_up w zero p e ps q g h =
    let i : p ≡ q = cc in
    rw (← i) (record { c = e; qs = ps; upward = g; shorter = omega arith; left = omega arith; right = omega arith; rest = refl })
chain_up w (suc b) p e [] q g h = absurd (none-ne-some q h)
chain_up w (suc b) p e (r ∷ ps) q g h =
    let u = chain_up w b r g.1.0 ps q (g.1.3, g.1.4) h in
    record { c = u.c; qs = u.qs; upward = u.upward; shorter = omega (arith, u.shorter); left = omega (arith, u.left); right = omega (arith, u.right); rest = u.rest }

past_end : (b : ℕ) (ps : List ℕ) → get_elem? ps b ≡ none → length ps ≤ b
past_end b [] e = omega arith
past_end zero (p ∷ ps) e = absurd (none-ne-some p (sym e))
past_end (suc b) (p ∷ ps) e = omega (arith, past_end b ps e)

-- it is where D last was b less
pub up_backward : (w : List Bool) (b p e : ℕ) (ps : List ℕ) (q : ℕ) → Chain w p e ps → 0 < b → get_elem? (p ∷ ps) b ≡ some q
    → Backward w p (neg_ℤ (pos b)) q
up_backward w b p e ps q g l h =
    let u = chain_up w b p e ps q g h in
    record {
      earlier = omega (arith, u.left);
      there = omega (zarith, g.0.before, u.upward.0.before, u.shorter, +law (D w p) (neg_ℤ (pos b)), P_neg (pos b), N_neg (pos b));
      last = λ j k i z. omega (
        zarith,
        g.0.before,
        u.shorter,
        u.upward.0.inside j k (omega (arith, u.right, g.0.proper)),
        +law (D w p) (neg_ℤ (pos b)),
        P_neg (pos b),
        N_neg (pos b),
      );
    }

-- past the chain's end D was never so low, since it is never negative
pub up_none : (w : List Bool) (b p e : ℕ) (ps : List ℕ) → Chain w p e ps → get_elem? (p ∷ ps) b ≡ none → (d : ℕ)
    → pos d ≡ D w p +ℤ neg_ℤ (pos b) → ⊥
up_none w b p e ps g h d k = omega (zarith, g.0.before, past_end b (p ∷ ps) h, +law (D w p) (neg_ℤ (pos b)), P_neg (pos b), N_neg (pos b))

-- ---- one place, one chain

same_end : (w : List Bool) (p e c d b : ℕ) → Span w p e d → Span w p c b → e ≡ c
same_end w p e c d b s t = go (dec_lt e c) (dec_lt c e)
  where
    go : Dec (e < c) → Dec (c < e) → e ≡ c
    go (yes l) q = absurd (omega (zarith, s.before, t.before, s.after, t.inside (suc e) (omega (arith, s.proper)) l))
    go (no l) (yes q) = absurd (omega (zarith, s.before, t.before, t.after, s.inside (suc c) (omega (arith, t.proper)) q))
    go (no l) (no q) = omega arith

same_parent : (w : List Bool) (p e c q r : ℕ) (qs rs : List ℕ) → Chain w p e (q ∷ qs) → Chain w p c (r ∷ rs) → q ≡ r
same_parent w p e c q r qs rs g h = go (dec_lt q r) (dec_lt r q)
  where
    go : Dec (q < r) → Dec (r < q) → q ≡ r
    go (yes l) k = absurd (omega (zarith, g.0.before, h.0.before, h.1.3.before, g.1.3.inside r l (omega (arith, g.0.proper))))
    go (no l) (yes k) = absurd (omega (zarith, g.0.before, h.0.before, g.1.3.before, h.1.3.inside q k (omega (arith, h.0.proper))))
    go (no l) (no k) = omega arith

pub same_chain : (w : List Bool) (p e c : ℕ) (ps qs : List ℕ) → Chain w p e ps → Chain w p c qs → ps ≡ qs
same_chain w p e c [] [] g h = refl
same_chain w p e c [] (q ∷ qs) g h = absurd (omega (zarith, g.0.before, h.0.before))
same_chain w p e c (q ∷ ps) [] g h = absurd (omega (zarith, g.0.before, h.0.before))
same_chain w p e c (q ∷ ps) (r ∷ qs) g h =
    let i : q ≡ r = same_parent w p e c q r ps qs g h in
    ap₂ ◌∷◌ i (same_chain w r g.1.0 h.1.0 ps qs (subst (λ n. Chain w n g.1.0 ps) i (g.1.3, g.1.4)) (h.1.3, h.1.4))

-- ---- who is on a chain: those in whose branch it starts

pub between_on : (w : List Bool) (q c d p e : ℕ) (ps : List ℕ) → Span w q c d → Chain w p e ps → q ≤ p → p ≤ c → on (p ∷ ps) q ≡ true
between_on w q c d p e [] s g l h = go (ℕ_discrete p q)
  where
    go : Dec (p ≡ q) → on (p ∷ []) q ≡ true
    go (yes i) = on_here p q [] i
    go (no n) = absurd (omega (zarith, s.inside p (omega arith) h, g.0.before))
between_on w q c d p e (r ∷ ps) s g l h =
    go (ℕ_discrete p q) (dec_le q r) (λ k. between_on w q c d r g.1.0 ps s (g.1.3, g.1.4) k (omega arith))
  where
    go : Dec (p ≡ q) → Dec (q ≤ r) → (q ≤ r → on (r ∷ ps) q ≡ true) → on (p ∷ r ∷ ps) q ≡ true
    go (yes i) k ih = on_here p q (r ∷ ps) i
    go (no n) (yes k) ih = on_up p q (r ∷ ps) (ih k)
    go (no n) (no k) ih = absurd (omega (zarith, s.before, s.inside p (omega arith) h, g.0.before, g.1.3.inside q (omega arith) (omega (arith, g.0.proper))))

pub on_between : (w : List Bool) (q c d p e : ℕ) (ps : List ℕ) → Span w q c d → Chain w p e ps → on (p ∷ ps) q ≡ true → (q ≤ p) × (e ≤ c)
on_between w q c d p e [] s g o = go (on_cases p q [] o)
  where
    go : (p ≡ q) ⊎ (false ≡ true) → (q ≤ p) × (e ≤ c)
    go (inl i) = (omega arith, omega (arith, same_end w q e c 0 d (subst (λ n. Span w n e 0) i g.0) s))
    go (inr i) = absurd (true≢false (sym i))
on_between w q c d p e (r ∷ ps) s g o = go (on_cases p q (r ∷ ps) o) (on_between w q c d r g.1.0 ps s (g.1.3, g.1.4))
  where
    go : (p ≡ q) ⊎ (on (r ∷ ps) q ≡ true) → (on (r ∷ ps) q ≡ true → (q ≤ r) × (g.1.0 ≤ c)) → (q ≤ p) × (e ≤ c)
    go (inl i) ih = (omega arith, omega (arith, same_end w q e c (suc (length ps)) d (subst (λ n. Span w n e (suc (length ps))) i g.0) s))
    go (inr o) ih = (omega (arith, ih o), omega (arith, ih o))

-- ---- From a, up its chain to the first node whose branch has the later node b: as far as the least D between them says

-- m is the least of D(j) for a < j ≤ b
pub record Floor (w : List Bool) (a b m : ℕ) : Type 0 where
  pub low : (j : ℕ) → a < j → j ≤ b → pos m ≤ℤ D w j
  pub reached : (j : ℕ) × (a < j) × (j ≤ b) × (D w j ≡ pos m)

module _ (w : List Bool) (a b e m : ℕ) (bs : List ℕ) (gb : Chain w b e bs) (ab : a < b) (floor : Floor w a b m) where
  stops : (p c : ℕ) (ps : List ℕ) → Chain w p c ps → p ≤ a → b ≤ c → shared (p ∷ ps) (b ∷ bs) ≡ get_elem? (p ∷ ps) (suc (length ps) - m)
  stops p c ps g l h =
      let r = floor.reached in
      let i : suc (length ps) - m ≡ 0 = omega (zarith, r.3, g.0.inside r.0 (omega arith) (omega arith)) in
      ap (λ t. cond t (some p) (shared ps (b ∷ bs))) (between_on w p c (length ps) b e bs g.0 gb (omega arith) h) ∙ ap (get_elem? (p ∷ ps)) (sym i)

  goes_on : (p c : ℕ) (ps : List ℕ) → Chain w p c ps → a ≤ c → c < b → (shared (p ∷ ps) (b ∷ bs) ≡ shared ps (b ∷ bs)) × (m ≤ length ps)
  goes_on p c ps g h k = (go (on (b ∷ bs) p) refl, omega (zarith, g.0.after, floor.low (suc c) (omega arith) k))
    where
      go : (t : Bool) → on (b ∷ bs) p ≡ t → cond t (some p) (shared ps (b ∷ bs)) ≡ shared ps (b ∷ bs)
      go true o = absurd (omega (arith, gb.0.proper, on_between w p c (length ps) b e bs g.0 gb o))
      go false o = refl

  pub climb : (p c : ℕ) (ps : List ℕ) → Chain w p c ps → p ≤ a → a ≤ c → shared (p ∷ ps) (b ∷ bs) ≡ get_elem? (p ∷ ps) (suc (length ps) - m)
  climb p c [] g l h = go (dec_le b c)
    where
      go : Dec (b ≤ c) → shared (p ∷ []) (b ∷ bs) ≡ get_elem? (p ∷ []) (1 - m)
      go (yes k) = stops p c [] g l k
      go (no k) = let r = goes_on p c [] g h (omega arith) in r.0 ∙ ap (get_elem? (p ∷ [])) (eq 1 (1 - m) (omega arith))
  climb p c (q ∷ ps) g l h = go (dec_le b c) (climb q g.1.0 ps (g.1.3, g.1.4) (omega arith) (omega arith))
    where
      go : Dec (b ≤ c) → shared (q ∷ ps) (b ∷ bs) ≡ get_elem? (q ∷ ps) (suc (length ps) - m)
          → shared (p ∷ q ∷ ps) (b ∷ bs) ≡ get_elem? (p ∷ q ∷ ps) (suc (suc (length ps)) - m)
      go (yes k) ih = stops p c (q ∷ ps) g l k
      go (no k) ih = let r = goes_on p c (q ∷ ps) g h (omega arith) in
          r.0 ∙ ih ∙ ap (get_elem? (p ∷ q ∷ ps)) (eq (suc (suc (length ps) - m)) (suc (suc (length ps)) - m) (omega arith))
