-- What the walks' promises say of a word that is lent with its own index: what was found lies in the word, after few reads.
-- The promises speak of the height of m, the laws of the height of the word's length. Assumes nothing.
use mathlib.Core.Path.{◌≡◌, sym, ap, ◌∙◌}
use mathlib.Core.Bool.{Bool, false}
use mathlib.Core.List.{List}
use mathlib.Core.Option.{Option}
use Prim.Native.Nat.{ℕ, ◌-◌, ◌*◌, ◌^◌, ◌≤◌, ◌<◌}
use native.Mathlib.Omega.{arith}
use lib.IntN.{ℤ, pos, nat_abs, ◌-ℤ◌}
use lib.ListN.{length, take, drop, length-take, length-drop}
use lib.Dec.{T}
use lib.Signed.{non_neg, ◌≤ℤ◌}
use mir.Syntax.{w32, w64}
use mir.Val.{Fits, to_z, of_z}
use Rattle.word.specs.Bits.{word}
use Rattle.word.specs.Signed.{P}
use Rattle.word.proofs.Bits.{length_bits}
use Rattle.word.proofs.Depth.{bit_in}
use Rattle.word.proofs.Signed.{zarith, abs_law, parts, -law}
use Rattle.summary.specs.declared.Summary.{Summary}
use Rattle.summary.specs.Stretch.{depth_of, summary_of}
use Rattle.summary.proofs.Append.{count_nonneg}
use Rattle.summary.proofs.Bounds.{Within, within_abs, depth_within, summary_bounded}
use Rattle.summary.proofs.Depth.{D_is}
use Rattle.index.specs.Shape.{height}
use Rattle.index.proofs.Height.{height_reaches, height_small}
use Rattle.walk.specs.Walk.{Reach}
use Rattle.walk.specs.Forward.{forward}
use Rattle.walk.specs.Backward.{backward}
use Rattle.walk.specs.Prefix.{prefix}
use Rattle.walk.specs.Select.{select}
use Rattle.walk.specs.Range.{range}
use Rattle.walk.proofs.Forward.{forward_some, forward_reads}
use Rattle.walk.proofs.Backward.{backward_some, backward_reads}
use Rattle.walk.proofs.Prefix.{prefix_is}
use Rattle.walk.proofs.Range.{range_is, range_reads}
use Rattle.walk.proofs.Select.{select_some, select_reads}
use Rattle.question.specs.Places.{IsNode, IsClosing}
use Rattle.answer.specs.declared.balanced.Balanced.{Balanced}
use Rattle.answer.specs.Ready.{Row, Near}
use Rattle.answer.proofs.Casts.{back_32, cast_fits, part_is}

-- what the code needs of a range's summary: count and least are read back from their bits as they were, and are small
pub record Counted (s : Summary) (n : ℕ) : Type 0 where
  pub count : pos 0 ≤ℤ s.count
  pub count_back : to_z w32 (of_z w32 s.count) ≡ s.count
  pub count_small : P s.count ≤ 2097152
  pub count_fits : T (non_neg s.count) × Fits w64 (nat_abs s.count)
  pub count_cast : nat_abs (to_z w32 (of_z w32 s.count)) ≡ P s.count
  pub least_back : to_z w32 (of_z w32 s.least) ≡ s.least
  pub least_small : nat_abs s.least ≤ 8589934592
  pub less_small : nat_abs (s.least -ℤ pos 1) ≤ 8589934592
  pub few : n ≤ 1024

-- the laws below need the bits alone
pub row : (x : Balanced) → Row x.lineage.row.bytes.now x.lineage.row.m
row x = record { small = x.lineage.lent.small; enough = x.lineage.lent.enough; balanced = x.balanced }

abbrev found_of : Reach → Option ℕ
found_of x = x.0

abbrev reads_of : Reach → ℕ
reads_of x = x.1

counted : (s : Summary) (n : ℕ) → pos 0 ≤ℤ s.count → nat_abs s.count ≤ 2097152 → nat_abs s.least ≤ 2097152 → n ≤ 1024 → Counted s n
counted s n c k l f = let small : P s.count ≤ 2097152 = omega (zarith, abs_law s.count) in record {
  count = c;
  count_back = back_32 s.count k;
  count_small = small;
  count_fits = cast_fits s.count c (omega (arith, small));
  count_cast = ap nat_abs (back_32 s.count k) ∙ part_is s.count c;
  least_back = back_32 s.least l;
  least_small = omega arith;
  less_small = omega (zarith, abs_law s.least, abs_law (s.least -ℤ pos 1), parts (s.least -ℤ pos 1), -law s.least (pos 1));
  few = f;
}

module _ {bytes : List ℕ} {m : ℕ} (r : Row bytes m) where
  abbrev w : List Bool
  w = word bytes m

  abbrev h : ℕ
  h = height (length (word bytes m))

  pub long : length (word bytes m) ≡ m
  long = length_bits bytes 0 m

  pub node_in : {a : ℕ} → IsNode (word bytes m) a → a < m
  node_in n = omega (arith, long, n.below)

  pub closing_in : {a : ℕ} → IsClosing (word bytes m) a → a < m
  closing_in n = omega (arith, long, n.below)

  -- a promise at the height of m, at the height of the word's length
  pub at : {A : Type 0} (f : ℕ → A) (x : A) → x ≡ f (height m) → f (height (length (word bytes m))) ≡ x
  at f x e = ap (λ n. f (height n)) long ∙ sym e

  low : h ≤ 13
  low = height_small (length w) (omega (arith, long, r.small))

  over : length w ≤ 256 * 2 ^ h
  over = height_reaches (length w)

  pub forward_near : (p : ℕ) (t : ℤ) {x : Reach} → p < m → x ≡ forward (height m) w p t → Near x
  forward_near p t {x} l e =
      let d : forward h w p t ≡ x = at (λ n. forward n w p t) x e in
      record {
        place = λ q k. omega (arith, r.small, long, (forward_some h w over p t (omega (arith, long)) q (ap found_of d ∙ k)).within);
        few = omega (arith, low, ap reads_of d, forward_reads h w over p t (omega (arith, long)));
      }

  pub backward_near : (p : ℕ) (t : ℤ) {x : Reach} → p ≤ m → x ≡ backward (height m) w p t → Near x
  backward_near p t {x} l e =
      let d : backward h w p t ≡ x = at (λ n. backward n w p t) x e in
      record {
        place = λ q k. omega (arith, r.small, (backward_some h w over p t (omega (arith, long)) q (ap found_of d ∙ k)).earlier);
        few = omega (arith, low, ap reads_of d, backward_reads h w over p t (omega (arith, long)));
      }

  pub select_near : (i : ℕ) {x : Reach} → x ≡ select (height m) w i → Near x
  select_near i {x} e =
      let d : select h w i ≡ x = at (λ n. select n w i) x e in
      record {
        place = λ q k. omega (arith, r.small, long, bit_in w q false (select_some h w over i q (ap found_of d ∙ k)).0);
        few = omega (arith, low, ap reads_of d, select_reads h w over i);
      }

  pub range_near : (a b : ℕ) {s : Summary} {n : ℕ} → a < b → b ≤ m → (s, n) ≡ range (height m) w a b → Counted s n
  range_near a b {s} {n} l k e =
      let d : range h w a b ≡ (s, n) = at (λ i. range i w a b) (s, n) e in
      let u = take (b - a) (drop a w) in
      let z : s ≡ summary_of u = sym (ap (λ (x : Summary × ℕ). x.0) d) ∙ range_is h w over a b l (omega (arith, long)) in
      let t = summary_bounded 2097152 u (omega (arith, r.small, length-take (b - a) (drop a w), length-drop a w, long)) in
      counted s n (rw z (count_nonneg u)) (rw z t.count) (rw z t.least)
      (omega (arith, low, ap (λ (x : Summary × ℕ). x.1) d, range_reads h w over a b l (omega (arith, long))))

  -- the depth that the prefix walk gives is no more than the bits before it
  pub prefix_near : (p : ℕ) {d : ℤ} {n : ℕ} → p < m → (d, n) ≡ prefix (height m) w p → nat_abs d ≤ 2097152
  prefix_near p {d} {n} l e =
      let z : d ≡ depth_of (take p w) =
      sym (ap (λ (x : ℤ × ℕ). x.0) (at (λ i. prefix i w p) (d, n) e)) ∙ prefix_is h w over p (omega (arith, long)) ∙ D_is w p in
      rw z (within_abs 2097152 (depth_of (take p w)) (widen (depth_within (take p w))))
    where
      widen : Within (length (take p w)) (depth_of (take p w)) → Within 2097152 (depth_of (take p w))
      widen i = record {
        above = omega (arith, r.small, i.above, length-take p w, long);
        below = omega (arith, r.small, i.below, length-take p w, long);
      }
