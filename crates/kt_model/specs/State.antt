-- The state of a world, as plain data.
-- Cited by ActKeeps, ActLeaves, ActsFound, AllInstanceRows, Applying, ArrivalsFound, Backs, CanApplies, CheckLeaves,
--   Cutting, DownUndamaged, Enough, FailLeaves, FirstCut, Fit, FitBodies, Fitting, Following, Frames, Gives, Good,
--   GoodActs, GoodAsks, Growing and 52 more; other crates.
use Rattle.std.specs.Prelude.{ℕ, ◌+◌, List, [], length, Option, None, unwrap_or}
use Rattle.kt_tuple.specs.declared.node.NodeId.{NodeId}
use Rattle.kt_tuple.specs.declared.node.NodeId.TheVariants as ids
use Rattle.kt_tuple.specs.Node.{node_index}
use Rattle.kt_history.specs.declared.note.Note.{Note}
use Rattle.kt_history.specs.Log.{log}
use Rattle.kt_link.specs.Network.{place, entry_at}
use Rattle.kt_ckpt.specs.LogActs.{log_acts}
use Rattle.kt_shard.specs.Table.{at}
use Rattle.kt_store.specs.Content.{Content}
use Rattle.kt_state.specs.declared.message.Message.{Message}
use Rattle.kt_state.specs.Node.{Node, Down, Role}
use Rattle.kt_node.specs.View.{View}
use Rattle.kt_scenario.specs.Scene.{SceneModel, script_at}

-- the scene; the nodes by their numbers, with an empty row where the scene has no such node; the links, each a list of
-- what is on its way, first sent first; what the store holds; what happened; the steps that
-- each node made, by the nodes' numbers; all steps made; and, where the world was resumed, the greatest number of an
-- instance that was found then
pub record State : Type 0 where
  pub scene : SceneModel
  pub nodes : List (Option Node)
  pub links : List (List Message)
  pub content : Content
  pub history : List Note
  pub own : List ℕ
  pub made : ℕ
  pub found : Option ℕ

-- where the link from p to q stands, if they are neighbours
abbrev pub link_place : SceneModel → NodeId → NodeId → Option ℕ
link_place scene p q = place (length scene.scripts) scene.shards p q

-- what stands in the row of p
abbrev pub node : State → NodeId → Option Node
node s p = at None s.nodes (node_index p)

-- what is on its way from p to q
abbrev pub link : State → NodeId → NodeId → List Message
link s p q = entry_at [] s.links (link_place s.scene p q)

-- who p is: a worker has all shards as neighbours, a shard all workers
abbrev pub role_of : SceneModel → NodeId → Role
role_of scene (ids.Worker n) =
    record { id = ids.Worker n; peers = scene.shards; script = unwrap_or (script_at scene.scripts n) [] }
role_of scene (ids.Shard n) = record { id = ids.Shard n; peers = length scene.scripts; script = [] }

-- what p sees, but for the store and for what it hears
abbrev pub view : State → NodeId → View
view s p = record {
  role = role_of s.scene p;
  node = unwrap_or (node s p) Down;
  next = length s.history + 1;
  line_len = length (log s.history p);
  acts = log_acts s.history p;
}
