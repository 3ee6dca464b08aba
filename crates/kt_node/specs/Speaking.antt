-- When a node can speak.
-- Cited by Acting, app_messages.rt, at_once.rt, laws.rt, short_plan.rt, steps.rt; other crates.
use Rattle.std.specs.Prelude.{◌<◌, ◌≤◌, IfSome, All}
use Rattle.kt_tuple.specs.declared.node.NodeId.{NodeId}
use Rattle.kt_state.specs.declared.message.AppMessage.{AppMessage}
use Rattle.kt_state.specs.Labels.{table_size}
use Rattle.kt_state.specs.Node.{Node, Down, Alive, node_number}
use Rattle.kt_state.specs.Ready.{CanCount}
use Rattle.kt_node.specs.View.{View}
use Rattle.kt_node.specs.Steps.{up_of}

-- a node that is up can count one message more
abbrev pub CanSpeak : Node → Type 0
CanSpeak node = IfSome (up_of node) CanCount

-- the node has a place in the tables of its neighbours
abbrev pub HasPlace : NodeId → Type 0
HasPlace p = node_number p < table_size

abbrev pub KeptHavePlaces : Node → Type 0
KeptHavePlaces Down = Unit {0}
KeptHavePlaces (Alive n) = All (λ (x : NodeId × AppMessage). HasPlace x.0) n.kept

-- a node can act: it has neighbours and a place for each, it can count one message more, and what it keeps has come
-- from neighbours
pub record CanAct (v : View) : Type 0 where
  pub some : 1 ≤ v.role.peers
  pub few : v.role.peers < table_size
  pub count : CanSpeak v.node
  pub kept : KeptHavePlaces v.node
