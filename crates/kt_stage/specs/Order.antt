-- The nodes of a scene in node order.
-- Cited by Making, Opening, Seats, closing.rt, running.rt, seat.rt, specs/auxiliary/Midway, stage.rt, `Stage::close`,
--   `Stage::open_or_back`.
use Rattle.std.specs.Prelude.{Bool, filter, List}
use Rattle.std.specs.List.{list_any}
use Rattle.kt_tuple.specs.Node.{all_nodes, node_eq}
use Rattle.kt_tuple.specs.declared.node.NodeId.{NodeId}
use Rattle.kt_scenario.specs.Scene.{SceneModel, is_node}

-- the nodes of a scene, in node order
abbrev pub nodes_of : SceneModel → List NodeId
nodes_of scene = filter (is_node scene) all_nodes

-- p is one of them
abbrev pub has_node : SceneModel → NodeId → Bool
has_node scene p = list_any (node_eq p) (nodes_of scene)
