-- A world that goes on from what a store holds, and when what it holds fits a scene.
-- Cited by AllInstanceRows, AllPlaced, Fitting, Kept, NeverUnfit, Placed, PlacedActs, Renumbered, ResumedRows,
--   ResumedServices, Resuming, Sums, Together, specs/Reached; other crates.
use Rattle.std.specs.Prelude.{◌≡◌, ℕ, zero, suc, ◌+◌, ◌-◌, ◌*◌, ◌<◌, ◌≤◌, ◌^◌, nat_lt, true, false, if◌then◌else◌}
use Rattle.std.specs.Prelude.{List, [], ◌∷◌, ◌++◌, length, map, filter, replicate, Contains, AllPairs, Option, None}
use Rattle.std.specs.Prelude.{Some, IfSome, IsTrue, is_some}
use Rattle.std.specs.List.{list_all, range_with_len}
use Rattle.std.specs.Option.{option_map}
use Rattle.kt_tuple.specs.declared.node.NodeId.{NodeId}
use Rattle.kt_tuple.specs.declared.node.NodeId.TheVariants as ids
use Rattle.kt_tuple.specs.Node.{is_before}
use Rattle.kt_history.specs.declared.note.Act.{Act}
use Rattle.kt_history.specs.declared.note.Note.{Note}
use Rattle.kt_history.specs.declared.note.Note.TheVariants as notes
use Rattle.kt_history.specs.Log.{note_at, before, log}
use Rattle.kt_history.specs.Closed.{acts_in_log}
use Rattle.kt_history.specs.WellFormed.{Fits}
use Rattle.kt_link.specs.declared.label.Label.{Label}
use Rattle.kt_shard.specs.Limits.{sessions}
use Rattle.kt_ckpt.specs.declared.acts.LogAct.{LogAct}
use Rattle.kt_ckpt.specs.Acts.{is_act_of}
use Rattle.kt_ckpt.specs.declared.ckpt.Ckpt.{Ckpt}
use Rattle.kt_ckpt.specs.declared.state.State.{State as Saved}
use Rattle.kt_ckpt.specs.declared.state.State.TheVariants as saved
use Rattle.kt_ckpt.specs.Header.{header_of}
use Rattle.kt_store.specs.declared.rows.NodeRow.{NodeRow}
use Rattle.kt_store.specs.Content.{Content, next_instance, opening_row, instance_row, row_of}
use Rattle.kt_logs.specs.Legal.{IsLog}
use Rattle.kt_state.specs.Labels.{up_to}
use Rattle.kt_state.specs.Node.{Node, Down, node_number}
use Rattle.kt_state.specs.Stored.{sent_in, received_in}
use Rattle.kt_model.specs.Limits.{rows}
use Rattle.kt_scenario.specs.declared.step.TheConstants.{MAX_NOTES}
use Rattle.kt_scenario.specs.Scene.{SceneModel, is_node, are_neighbours}
use Rattle.kt_model.specs.State.{State, role_of}
use Rattle.kt_model.specs.Asks.{setting_of}
use Rattle.kt_model.specs.Cut.{permanent_of, permanent_length}
use Rattle.kt_model.specs.Like.{HoldsFront, acts_stored}
use Rattle.kt_model.specs.Placing.{placed}

-- ---- the world

-- the nodes of the scene, in node order
abbrev pub nodes_of : SceneModel → List NodeId
nodes_of scene =
    map (λ n. ids.Worker n) (range_with_len 1 (length scene.scripts))
    ++ map (λ n. ids.Shard n) (range_with_len 1 scene.shards)

unfoldable pub sum_of : List ℕ → ℕ
sum_of [] = 0
sum_of (n ∷ later) = n + sum_of later

-- how many acts the permanent checkpoints of these nodes hold
abbrev pub all_held : Content → List NodeId → ℕ
all_held c nodes = sum_of (map (permanent_length c) nodes)

-- the acts that the node's permanent checkpoint holds
abbrev pub acts_of : Content → NodeId → List LogAct
acts_of c p = acts_stored (permanent_of c p)

-- the acts of all permanent checkpoints, in the order in which each can be placed first
abbrev pub history_of : SceneModel → Content → List Note
history_of scene c = placed (acts_of c) (nodes_of scene) (all_held c (nodes_of scene)) []

-- a node of the scene is down
abbrev pub down_row : SceneModel → NodeId → Option Node
down_row scene p = if is_node scene p then Some Down else None

unfoldable pub down_rows : SceneModel → ℕ → List (Option Node)
down_rows scene zero = []
down_rows scene (suc n) = down_rows scene n ++ down_row scene (ids.Worker n) ∷ down_row scene (ids.Shard n) ∷ []

-- all nodes are down, nothing is on its way, and no step was made; these are the acts of the permanent checkpoints
abbrev pub resumed : SceneModel → Content → State
resumed scene c = record {
  scene = scene;
  nodes = down_rows scene sessions;
  links = replicate (2 * (length scene.scripts * scene.shards)) [];
  content = c;
  history = history_of scene c;
  own = replicate rows 0;
  made = 0;
  found = Some (next_instance c - 1);
}

-- ---- when a store fits

-- the last label that the node's permanent checkpoint has sent to this neighbour, and the last one heard from it
abbrev pub sent_to : Content → NodeId → NodeId → Label
sent_to c p q = sent_in (option_map header_of (permanent_of c p)) (node_number q)

abbrev pub heard_from : Content → NodeId → NodeId → Label
heard_from c p q = received_in (option_map header_of (permanent_of c p)) (node_number q)

-- a worker asked no more than it passed commands
abbrev pub PassedAsMany : Saved → Type 0
PassedAsMany (saved.Worker w) = w.number ≤ w.pc
PassedAsMany (saved.Shard y) = Unit {0}

-- the checkpoint is of this node, with a label for each neighbour
pub record IsOf (scene : SceneModel) (p : NodeId) (checkpoint : Ckpt) : Type 0 where
  pub own : checkpoint.node ≡ p
  pub sent : length checkpoint.sent ≡ (role_of scene p).peers
  pub received : length checkpoint.received ≡ (role_of scene p).peers
  pub passed : PassedAsMany checkpoint.state

-- each act of the node makes sense where it is placed
abbrev pub MakesSense : List Note → NodeId → Type 0
MakesSense h p =
    (n : ℕ) (a : Act) → Contains (log h p) n → note_at h n ≡ Some (notes.Act a) → Fits (before h n) (notes.Act a)

-- what the permanent checkpoint of p holds, with its acts placed in this history
pub record FitsIn (scene : SceneModel) (c : Content) (h : List Note) (p : NodeId) : Type 0 where
  pub of : IfSome (permanent_of c p) (IsOf scene p)
  -- it holds as many acts as it counts, each of which may stand in the node's log
  pub whole : length (acts_of c p) ≡ permanent_length c p
  pub shaped : list_all (is_act_of p) (acts_of c p) ≡ true
  -- each act is placed, and makes sense there
  pub placed : length (log h p) ≡ permanent_length c p
  pub sense : MakesSense h p
  -- the acts, made again from the first state, are those that are allowed, and lead to what is stored
  pub allowed : IsLog (setting_of scene) p (acts_in_log h p)
  pub leads : HoldsFront scene p (acts_in_log h p) (permanent_of c p)

-- what the store holds of p is what a world of this scene leaves
pub record IsFit (scene : SceneModel) (c : Content) (p : NodeId) : Type 0 where
  pub there : IsTrue (is_node scene p)
  -- the logs up to it are short enough together
  pub short : all_held c (filter (λ q. is_before q p) (nodes_of scene)) + permanent_length c p < 2 ^ 32
  pub fits : FitsIn scene c (history_of scene c) p
  pub agree : (q : NodeId) → IsTrue (are_neighbours scene p q) → IsTrue (up_to (heard_from c p q) (sent_to c q p))
  pub lives : (q : NodeId) → IsTrue (are_neighbours scene p q) → (sent_to c p q).incarnation ≤ (row_of c p).incarnation
  pub instance_row : IfSome (row_of c p).tentative (λ t. IsTrue (is_some (instance_row c t.instance)))

-- the store holds something of the node
abbrev pub IsHeld : Content → NodeId → Type 0
IsHeld c p = (row : NodeRow) × Contains c.nodes row × (row.node ≡ p)

-- each node of which the store holds something fits: `World::resume` refuses by Unfit of the first in node order that
-- does not
abbrev pub AreFit : SceneModel → Content → Type 0
AreFit scene c = (p : NodeId) → IsHeld c p → IsFit scene c p

-- what follows of all nodes, those among them of which nothing is held
pub record AllFit (scene : SceneModel) (c : Content) : Type 0 where
  pub short : all_held c (nodes_of scene) ≤ MAX_NOTES
  pub fits : (p : NodeId) → FitsIn scene c (history_of scene c) p
  pub agree : (p q : NodeId) → IsTrue (are_neighbours scene p q) → IsTrue (up_to (heard_from c p q) (sent_to c q p))
  pub lives : (p q : NodeId) → IsTrue (are_neighbours scene p q)
      → (sent_to c p q).incarnation ≤ (row_of c p).incarnation
  pub instance_row : (p : NodeId) → IfSome (row_of c p).tentative (λ t. IsTrue (is_some (instance_row c t.instance)))
  -- of others nothing is held
  pub rows : (row : NodeRow) → Contains c.nodes row → IsTrue (is_node scene row.node)
  pub others : (p : NodeId) → is_node scene p ≡ false → row_of c p ≡ opening_row p
