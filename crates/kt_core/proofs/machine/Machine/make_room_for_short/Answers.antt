-- Of `Machine::make_room_for_short` in src/short_plans.rt.
use Rattle.std.proofs.Common.{subst}
use Rattle.std.specs.Prelude.{None}
use Rattle.kt_tuple.specs.declared.node.NodeId.{NodeId}
use Rattle.kt_link.specs.Network.{AreNeighbours, room}
use Rattle.kt_state.specs.declared.message.Message.{Message}
use Rattle.kt_node.specs.ShortPlan.{plan_of}
use Rattle.kt_shard.specs.Table.{at}
use Rattle.kt_core.specs.auxiliary.Rows.{HasRoom}
use Rattle.kt_core.proofs.AtOnce.{if-listed, roomy}
use Rattle.kt_core.proofs.Outcomes.{on_ok-map}
use Rattle.kt_core.proofs.Readiness.{rows_there}
use Rattle.kt_core.proofs.Traffics.{wired}
use Rattle.kt_core.proofs.machine.Machine.make_room_for_short.Goals as goal

pub make_room_in_row-requires : goal.make_room_in_row-requires
make_room_in_row-requires c = rows_there c.args.self.now.nodes.items c.args.owner c.index.result c.index.ensures.value c.requires.can.row c.requires.ready.rows

pub make_room_on_link-requires : goal.make_room_on_link-requires
make_room_on_link-requires c =
    if-listed (λ (m : NodeId × Message). AreNeighbours c.args.self.now.links.workers c.args.self.now.links.shards c.args.owner m.0) c.args.short.now.send
    (wired c.args.self.now.scene c.args.self.now.links c.args.owner (plan_of c.args.short.now).send
    c.args.self.now.workers c.args.self.now.shards c.requires.can.send)

pub returns-clause-room : goal.returns-clause-room
returns-clause-room c =
    on_ok-map c.make_room.result c.make_room.ensures.ok (λ h. record {
      node = subst (λ k. HasRoom (at None c.make_room_in_row.new.nodes.items k)) c.index.ensures.value c.in_ok-make_room_in_row.ensures.room;
      links = roomy (λ (m : NodeId × Message). room c.make_room_on_link.new.links c.args.owner m.0) c.args.short.now.send
          c.in_ok-make_room_on_link.ensures.room;
      history = h;
    })
