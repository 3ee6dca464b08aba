-- When the labels of nodes fit together.
-- Cited by Links, labels.rt.
use Rattle.std.specs.Prelude.{ℕ, nat_le, Bool, true, false, ◌&&◌, IsTrue, ◌≤◌}
use Rattle.kt_tuple.specs.declared.node.NodeId.{NodeId}
use Rattle.kt_tuple.specs.declared.node.NodeId.TheVariants as ids
use Rattle.kt_store.specs.Content.{Content, row_of}
use Rattle.kt_state.specs.Labels.{up_to}
use Rattle.kt_scenario.specs.Scene.{SceneModel, are_neighbours}
use Rattle.kt_model.specs.Resumed.{heard_from, sent_to}

-- one is a worker, the other a shard
abbrev pub are_across : NodeId → NodeId → Bool
are_across (ids.Worker m) (ids.Shard n) = true
are_across (ids.Shard m) (ids.Worker n) = true
are_across _ _ = false

-- p has heard no more from q than q has sent to p, and has sent q nothing in an incarnation above its own: a test that
-- computes
abbrev pub link_fits : Content → NodeId → NodeId → Bool
link_fits c p q =
    up_to (heard_from c p q) (sent_to c q p) && nat_le (sent_to c p q).incarnation (row_of c p).incarnation

-- that is so of p and each neighbour
pub record LabelsFit (scene : SceneModel) (c : Content) (p : NodeId) : Type 0 where
  pub agree : (q : NodeId) → IsTrue (are_neighbours scene p q) → IsTrue (up_to (heard_from c p q) (sent_to c q p))
  pub lives : (q : NodeId) → IsTrue (are_neighbours scene p q) → (sent_to c p q).incarnation ≤ (row_of c p).incarnation
