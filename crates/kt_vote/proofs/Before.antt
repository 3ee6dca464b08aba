-- The order of nodes, and lists of nodes that come before one.
-- Cited by `laws::nodes_are_in_one_order`.
use Rattle.std.proofs.Common.{◌≡◌, ◌⊎◌, inl, inr, ℕ, true, List, [], ◌∷◌, ◌++◌, All, refl, ap, arith}
use Rattle.std.proofs.lemmas.Bool.{cases_order, false≢true, lt-ltb, ltb-true}
use Rattle.std.specs.Prelude.{nat_lt}
use Rattle.std.proofs.lemmas.List.Elements.{All-push}
use Rattle.kt_tuple.specs.declared.node.NodeId.{NodeId}
use Rattle.kt_tuple.specs.declared.node.NodeId.TheVariants.{Worker, Shard}
use Rattle.kt_vote.specs.Order.{IsBefore}

pub not_itself : (a : NodeId) → ¬ IsBefore a a
not_itself (Worker m) h = absurd (omega (arith, ltb-true m m h))
not_itself (Shard m) h = absurd (omega (arith, ltb-true m m h))

later : (l m n : ℕ) → nat_lt l m ≡ true → nat_lt m n ≡ true → nat_lt l n ≡ true
later l m n h k = lt-ltb l n (omega (arith, ltb-true l m h, ltb-true m n k))

pub transitive : (a b c : NodeId) → IsBefore a b → IsBefore b c → IsBefore a c
transitive (Worker l) (Worker m) (Worker n) h k = later l m n h k
transitive (Worker l) b (Shard n) h k = refl
transitive (Worker l) (Shard m) (Worker n) h k = absurd (false≢true k)
transitive (Shard l) (Worker m) c h k = absurd (false≢true h)
transitive (Shard l) (Shard m) (Worker n) h k = absurd (false≢true k)
transitive (Shard l) (Shard m) (Shard n) h k = later l m n h k

by_number : (f : ℕ → NodeId) (m n : ℕ) → (nat_lt m n ≡ true) ⊎ ((f m ≡ f n) ⊎ (nat_lt n m ≡ true))
by_number f m n = elim (cases_order m n) [
  | inl e ↦ inr (inl (ap f e))
  | inr o ↦ elim o [ inl h ↦ inl (lt-ltb m n h) | inr h ↦ inr (inr (lt-ltb n m h)) ]
]

pub total : (a b : NodeId) → IsBefore a b ⊎ ((a ≡ b) ⊎ IsBefore b a)
total (Worker m) (Worker n) = by_number Worker m n
total (Worker m) (Shard n) = inl refl
total (Shard m) (Worker n) = inr (inr refl)
total (Shard m) (Shard n) = by_number Shard m n

-- what comes before a node comes before a later one, and the node itself does
pub before_later : (nodes : List NodeId) (a b : NodeId) → All (λ x. IsBefore x a) nodes → IsBefore a b → All (λ x. IsBefore x b) nodes
before_later nodes a b all h = λ k d lt. transitive _ a b (all k d lt) h

pub before_next : (nodes : List NodeId) (a b : NodeId) → All (λ x. IsBefore x a) nodes → IsBefore a b → All (λ x. IsBefore x b) (nodes ++ a ∷ [])
before_next nodes a b all h = All-push (λ x. IsBefore x b) nodes a (before_later nodes a b all h) h
