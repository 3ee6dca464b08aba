-- A node and its parts as the code has them, as plain data.
-- Cited by asking.rt, change.rt, live.rt, loading.rt, node.rt, saving.rt, short_update.rt, specs/auxiliary/Bodies,
--   specs/auxiliary/Rooms, updating.rt, `asking::check_asks`; other crates.
use Rattle.std.specs.Prelude.{Option, None, Some}
use Rattle.kt_state.specs.declared.live.Body.{Body as BodyCode}
use Rattle.kt_state.specs.declared.live.Body.TheVariants as codes
use Rattle.kt_state.specs.declared.live.Live.{Live as LiveCode}
use Rattle.kt_state.specs.Node.{Body, IsWorker, IsShard, Live, Node, Down, Alive}

abbrev pub body_view : BodyCode → Body
body_view (codes.Worker x) = IsWorker x
body_view (codes.Shard y) = IsShard y.state

abbrev pub live_view : LiveCode → Live
live_view n = record {
  phase = n.phase;
  body = body_view n.body;
  incarnation = n.incarnation;
  count = n.count;
  sent = n.sent.items;
  received = n.received.items;
  first = n.first.items;
  kept = n.kept.items;
}

abbrev pub node_view : Option LiveCode → Node
node_view None = Down
node_view (Some n) = Alive (live_view n)
