-- What the code keeps of its tables, and when a change takes no memory.
-- Cited by change.rt, loading.rt, node.rt, short_update.rt, updating.rt.
use Rattle.std.specs.Prelude.{◌≡◌, length, Bool, true, ◌&&◌, nat_lt, Option, None, Some}
use Rattle.std.specs.VecDeque.{deque_len, deque_capacity}
use Rattle.kt_state.specs.declared.live.Body.{Body as BodyCode}
use Rattle.kt_state.specs.declared.live.Body.TheVariants as codes
use Rattle.kt_state.specs.declared.live.Live.{Live as LiveCode}
use Rattle.kt_state.specs.Codes.{node_view}
use Rattle.kt_state.specs.Labels.{table_size}
use Rattle.kt_state.specs.Views.{NodeModel}

-- the tables have an entry for each number that a neighbour can have, and for 0
pub record HasTables (n : LiveCode) : Type 0 where
  pub sent : length n.sent.items ≡ table_size
  pub received : length n.received.items ≡ table_size
  pub first : length n.first.items ≡ table_size

-- a shard takes one tuple more without memory
abbrev pub body_has_room : BodyCode → Bool
body_has_room (codes.Worker x) = true
body_has_room (codes.Shard y) = y.has_room

abbrev pub live_has_room : LiveCode → Bool
live_has_room n = body_has_room n.body && nat_lt (deque_len n.kept) (deque_capacity n.kept)

abbrev pub node_has_room : Option LiveCode → Bool
node_has_room None = true
node_has_room (Some n) = live_has_room n

abbrev pub model_of : Option LiveCode → NodeModel
model_of live = record { node = node_view live; has_room = node_has_room live }
