-- The nodes of a scene as the machine's numbers, and its labels as the machine's labels.
-- Cited by Acting, Agreeing, Answering, Beginning, BeginsCheck, Checking, Closing, Cohorts, CountsVote, Decides,
--   Denies, Dropping, Forcing, Frames, GoesOn, Hearing, JoinsCheck, JoinsRollback, Known, Leaving, Loading, Opened,
--   Refined, Refining and 10 more.
use Rattle.std.proofs.Common.{◌≡◌, ℕ, zero, suc, ◌+◌, ◌*◌, Bool, refl, ap, ◌∙◌, arith}
use Rattle.kt_tuple.specs.declared.node.NodeId.{NodeId}
use Rattle.kt_tuple.specs.declared.node.NodeId.TheVariants as ids
use Rattle.kt_tuple.specs.Node.{node_index}
use Rattle.kt_link.specs.declared.label.Label.{Label as RealLabel}
use Rattle.kt_scenario.specs.Scene.{SceneModel, are_neighbours}
use Rattle.kt_protocol.specs.Labels.{Label}

-- ---- nodes

abbrev pub next_named : NodeId → NodeId
next_named (ids.Worker n) = ids.Worker (suc n)
next_named (ids.Shard n) = ids.Shard (suc n)

-- the node of this number
unfoldable pub named : ℕ → NodeId
named zero = ids.Worker 0
named (suc zero) = ids.Shard 0
named (suc (suc n)) = next_named (named n)

named-even : (n : ℕ) → named (2 * n) ≡ ids.Worker n
unfolding named
named-even zero = refl
named-even (suc n) = let e : 2 * suc n ≡ suc (suc (2 * n)) = omega arith in ap named e ∙ ap next_named (named-even n)

named-odd : (n : ℕ) → named (suc (2 * n)) ≡ ids.Shard n
unfolding named
named-odd zero = refl
named-odd (suc n) = let e : suc (2 * suc n) ≡ suc (suc (suc (2 * n))) = omega arith in ap named e ∙ ap next_named (named-odd n)

pub named-index : (p : NodeId) → named (node_index p) ≡ p
named-index (ids.Worker n) = named-even n
named-index (ids.Shard n) = let e : 2 * n + 1 ≡ suc (2 * n) = omega arith in ap named e ∙ named-odd n

next-index : (p : NodeId) → node_index (next_named p) ≡ suc (suc (node_index p))
next-index (ids.Worker n) = omega arith
next-index (ids.Shard n) = omega arith

pub index-named : (n : ℕ) → node_index (named n) ≡ n
unfolding named
index-named zero = refl
index-named (suc zero) = refl
index-named (suc (suc n)) = next-index (named n) ∙ ap (λ k. suc (suc k)) (index-named n)

-- who are neighbours
abbrev pub peers : SceneModel → ℕ → ℕ → Bool
peers scene m n = are_neighbours scene (named m) (named n)

pub peers-of : (scene : SceneModel) (p q : NodeId) → peers scene (node_index p) (node_index q) ≡ are_neighbours scene p q
peers-of scene p q = ap (λ x. are_neighbours scene x (named (node_index q))) (named-index p) ∙ ap (are_neighbours scene p) (named-index q)

-- ---- labels

abbrev pub label_of : RealLabel → Label
label_of l = record { life = l.incarnation; count = l.count }
