-- What a node keeps back.
-- Cited by live.rt, node.rt; other crates.
use Rattle.std.specs.Prelude.{List, [], Option, slice_get}
use Rattle.kt_tuple.specs.declared.node.NodeId.{NodeId}
use Rattle.kt_state.specs.declared.message.AppMessage.{AppMessage}
use Rattle.kt_state.specs.Node.{Live, Node, Down, Alive}

-- the underlying messages that the node keeps, the first first, each with its sender; nothing while it is down
abbrev pub kept_of : Node → List (NodeId × AppMessage)
kept_of Down = []
kept_of (Alive n) = n.kept

-- the message that was kept first
abbrev pub first_kept : Live → Option (NodeId × AppMessage)
first_kept n = slice_get n.kept 0
