-- Neighbours have a place of their own, and nobody else has one.
-- Cited by Others, `laws::neighbours_have_their_own_places`; other crates.
use Rattle.std.proofs.Common.{◌≡◌, ℕ, suc, ◌+◌, ◌-◌, ◌*◌, ◌/◌, ◌≤◌, ◌<◌, ◌&&◌, Bool, true, false, nat_le, Option, None, Some, refl, sym, ap, ◌∙◌, arith}
use Rattle.std.specs.Option.{option_map}
use Rattle.std.specs.Prelude.{is_some, IsTrue, if◌then◌else◌}
use Rattle.std.proofs.lemmas.Nat.{mul-add-lt, div-mul-add}
use Rattle.std.proofs.Math.Nat.{mul_comm}
use Rattle.std.proofs.lemmas.Bool.{and_parts, and_from, leb-true, le-leb, false≢true}
use Rattle.kt_tuple.specs.declared.node.NodeId.{NodeId}
use Rattle.kt_tuple.specs.declared.node.NodeId.TheVariants.{Worker, Shard}
use Rattle.kt_link.specs.Network.{AreNeighbours, is_among, place_between, place}

abbrev AreThere : ℕ → ℕ → ℕ → ℕ → Type 0
AreThere workers shards w s = ((1 ≤ w) × (w ≤ workers)) × ((1 ≤ s) × (s ≤ shards))

pub among-true : (count n : ℕ) → is_among count n ≡ true → (1 ≤ n) × (n ≤ count)
among-true count n e = let both = and_parts (nat_le 1 n) (nat_le n count) e in (leb-true 1 n both.0, leb-true n count both.1)

pub among-is : (count n : ℕ) → 1 ≤ n → n ≤ count → is_among count n ≡ true
among-is count n low high = and_from (nat_le 1 n) (nat_le n count) (le-leb 1 n low) (le-leb n count high)

pub between-some : (workers shards w s k : ℕ) → place_between workers shards w s ≡ Some k
    → AreThere workers shards w s × (2 * ((w - 1) * shards + (s - 1)) ≡ k)
between-some workers shards w s k e = by (is_among workers w && is_among shards s) refl e
  where
    by : (r : Bool) → (is_among workers w && is_among shards s) ≡ r → (if r then Some (2 * ((w - 1) * shards + (s - 1))) else None) ≡ Some k
        → AreThere workers shards w s × (2 * ((w - 1) * shards + (s - 1)) ≡ k)
    by true t e = let both = and_parts (is_among workers w) (is_among shards s) t in ((among-true workers w both.0, among-true shards s both.1), cc)
    by false t e = absurd cc

pub between-is : (workers shards w s : ℕ) → AreThere workers shards w s → place_between workers shards w s ≡ Some (2 * ((w - 1) * shards + (s - 1)))
between-is workers shards w s h =
    let t : (is_among workers w && is_among shards s) ≡ true = and_from (is_among workers w) (is_among shards s) (among-is workers w h.0.0 h.0.1)
    (among-is shards s h.1.0 h.1.1) in
    ap (λ (r : Bool). if r then Some (2 * ((w - 1) * shards + (s - 1))) else None) t

-- whether there is a place
some-from : (o : Option ℕ) → is_some o ≡ true → (k : ℕ) × (o ≡ Some k)
some-from None e = absurd (false≢true e)
some-from (Some k) e = (k, refl)

map-some : (o : Option ℕ) (k : ℕ) → option_map suc o ≡ Some k → (j : ℕ) × (o ≡ Some j) × (suc j ≡ k)
map-some None k e = absurd cc
map-some (Some j) k e = (j, refl, cc)

pub neighbours-from : (workers shards : ℕ) (p q : NodeId) (k : ℕ) → place workers shards p q ≡ Some k → AreNeighbours workers shards p q
neighbours-from workers shards (Worker w) (Worker v) k e = absurd cc
neighbours-from workers shards (Worker w) (Shard s) k e = (between-some workers shards w s k e).0
neighbours-from workers shards (Shard s) (Worker w) k e = let h = map-some (place_between workers shards w s) k e in
    (between-some workers shards w s h.0 h.1).0
neighbours-from workers shards (Shard s) (Shard r) k e = absurd cc

pub neighbours-place : (workers shards : ℕ) (p q : NodeId) → AreNeighbours workers shards p q → (k : ℕ) × (place workers shards p q ≡ Some k)
neighbours-place workers shards (Worker w) (Worker v) h = absurd h
neighbours-place workers shards (Worker w) (Shard s) h = (2 * ((w - 1) * shards + (s - 1)), between-is workers shards w s h)
neighbours-place workers shards (Shard s) (Worker w) h = (suc (2 * ((w - 1) * shards + (s - 1))), ap (option_map suc) (between-is workers shards w s h))
neighbours-place workers shards (Shard s) (Shard r) h = absurd h

pub has_place : (workers shards : ℕ) (p q : NodeId) → AreNeighbours workers shards p q → is_some (place workers shards p q) ≡ true
has_place workers shards p q h = ap (λ (o : Option ℕ). is_some o) (neighbours-place workers shards p q h).1

pub link_test : (workers shards : ℕ) (p q : NodeId) (r : Bool) → r ≡ is_some (place workers shards p q)
    → (IsTrue r → AreNeighbours workers shards p q) × (AreNeighbours workers shards p q → IsTrue r)
link_test workers shards p q r e = (
  λ t. let some = some-from (place workers shards p q) (sym e ∙ t) in neighbours-from workers shards p q some.0 some.1,
  λ h. e ∙ has_place workers shards p q h,
)

-- two places are one only for one pair
pub place-within : (workers shards : ℕ) (p q : NodeId) (k : ℕ) → place workers shards p q ≡ Some k → k < 2 * (workers * shards)
place-within workers shards (Worker w) (Worker v) k e = absurd cc
place-within workers shards (Worker w) (Shard s) k e =
    let h = between-some workers shards w s k e in
    omega (
      arith,
      h.0.0.0,
      h.0.0.1,
      h.0.1.0,
      h.0.1.1,
      h.1,
      mul-add-lt (w - 1) shards (s - 1) workers (omega (arith, h.0.0.0, h.0.0.1))
          (omega (arith, h.0.1.0, h.0.1.1)),
      mul_comm shards workers,
    )
place-within workers shards (Shard s) (Worker w) k e =
    let m = map-some (place_between workers shards w s) k e in
    let h = between-some workers shards w s m.0 m.1 in
    omega (
      arith,
      m.2,
      h.0.0.0,
      h.0.0.1,
      h.0.1.0,
      h.0.1.1,
      h.1,
      mul-add-lt (w - 1) shards (s - 1) workers (omega (arith, h.0.0.0, h.0.0.1))
          (omega (arith, h.0.1.0, h.0.1.1)),
      mul_comm shards workers,
    )
place-within workers shards (Shard s) (Shard r) k e = absurd cc

-- row and column tell apart
same-row : (a b c d n : ℕ) → b < n → d < n → a * n + b ≡ c * n + d → (a ≡ c) × (b ≡ d)
same-row a b c d n lb ld e =
    let rows : a ≡ c = sym (div-mul-add a n b lb) ∙ ap (λ (x : ℕ). x / n) e ∙ div-mul-add c n d ld in
    let products : a * n ≡ c * n = ap (λ (x : ℕ). x * n) rows in
    (rows, omega (arith, products, e))

same-pair : (workers shards w s v r : ℕ) → AreThere workers shards w s → AreThere workers shards v r
    → (w - 1) * shards + (s - 1) ≡ (v - 1) * shards + (r - 1) → (w ≡ v) × (s ≡ r)
same-pair workers shards w s v r h g e =
    let m = same-row (w - 1) (s - 1) (v - 1) (r - 1) shards (omega (arith, h.1.0, h.1.1)) (omega (arith, g.1.0, g.1.1)) e in
    (omega (arith, m.0, h.0.0, g.0.0), omega (arith, m.1, h.1.0, g.1.0))

-- a way there has an even place, a way back an odd one
not-both : (a b : ℕ) → 2 * a ≡ suc (2 * b) → ⊥
not-both a b e = omega (arith, e)

pub place-own : (workers shards : ℕ) (p q x y : NodeId) (k : ℕ) → place workers shards p q ≡ Some k → place workers shards x y ≡ Some k → (p ≡ x) × (q ≡ y)
place-own workers shards (Worker w) (Worker u) x y k e f = absurd cc
place-own workers shards (Shard s) (Shard r) x y k e f = absurd cc
place-own workers shards (Worker w) (Shard s) (Worker v) (Worker u) k e f = absurd cc
place-own workers shards (Worker w) (Shard s) (Shard v) (Shard u) k e f = absurd cc
place-own workers shards (Shard s) (Worker w) (Worker v) (Worker u) k e f = absurd cc
place-own workers shards (Shard s) (Worker w) (Shard v) (Shard u) k e f = absurd cc
place-own workers shards (Worker w) (Shard s) (Worker v) (Shard r) k e f =
    let h = between-some workers shards w s k e in
    let g = between-some workers shards v r k f in
    let m = same-pair workers shards w s v r h.0 g.0 (omega (arith, h.1, g.1)) in
    (ap Worker m.0, ap Shard m.1)
place-own workers shards (Worker w) (Shard s) (Shard r) (Worker v) k e f =
    let h = between-some workers shards w s k e in
    let m = map-some (place_between workers shards v r) k f in
    let g = between-some workers shards v r m.0 m.1 in
    absurd (not-both ((w - 1) * shards + (s - 1)) ((v - 1) * shards + (r - 1)) (h.1 ∙ sym m.2 ∙ ap suc (sym g.1)))
place-own workers shards (Shard s) (Worker w) (Worker v) (Shard r) k e f =
    let m = map-some (place_between workers shards w s) k e in
    let h = between-some workers shards w s m.0 m.1 in
    let g = between-some workers shards v r k f in
    absurd (not-both ((v - 1) * shards + (r - 1)) ((w - 1) * shards + (s - 1)) (g.1 ∙ sym m.2 ∙ ap suc (sym h.1)))
place-own workers shards (Shard s) (Worker w) (Shard r) (Worker v) k e f =
    let m = map-some (place_between workers shards w s) k e in
    let n = map-some (place_between workers shards v r) k f in
    let h = between-some workers shards w s m.0 m.1 in
    let g = between-some workers shards v r n.0 n.1 in
    let same = same-pair workers shards w s v r h.0 g.0 (omega (arith, m.2, n.2, h.1, g.1)) in
    (ap Shard same.1, ap Worker same.0)
