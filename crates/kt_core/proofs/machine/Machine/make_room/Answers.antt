use Rattle.std.proofs.Common.{◌≤◌, length, subst, sym}
use Rattle.std.specs.Prelude.{List, None}
use Rattle.std.specs.List.{AllByRecursion}
use Rattle.kt_tuple.specs.declared.node.NodeId.{NodeId}
use Rattle.kt_link.specs.Network.{AreNeighbours, room}
use Rattle.kt_state.specs.declared.message.Message.{Message}
use Rattle.kt_shard.specs.Table.{at}
use Rattle.kt_core.specs.auxiliary.Rows.{HasRoom}
use Rattle.kt_core.proofs.Outcomes.{on_ok-map}
use Rattle.kt_core.proofs.Readiness.{rows_there}
use Rattle.kt_core.proofs.Traffics.{wired}
use Rattle.kt_core.proofs.machine.Machine.make_room.Goals as goal

pub make_room_in_row-requires : goal.make_room_in_row-requires
make_room_in_row-requires c = rows_there c.args.self.now.nodes.items c.args.owner c.index.result c.index.ensures.value c.requires.can.row c.requires.ready.rows

pub make_room_on_links-requires : goal.make_room_on_links-requires
make_room_on_links-requires c =
    let Linked : List (NodeId × Message) → Type 0 =
    AllByRecursion (λ m. AreNeighbours c.args.self.now.links.workers c.args.self.now.links.shards c.args.owner m.0) in
    subst Linked (sym c.messages.ensures) (wired c.args.self.now.scene c.args.self.now.links c.args.owner c.args.plan.now.send
    c.args.self.now.workers c.args.self.now.shards c.requires.can.send)

pub returns-clause-room : goal.returns-clause-room
returns-clause-room c =
    let HasLinks : List (NodeId × Message) → Type 0 = λ send. AllByRecursion (λ m. length send ≤ room c.make_room_on_links.new.links c.args.owner m.0) send in
    on_ok-map c.make_room.result c.make_room.ensures.ok (λ h. record {
      node = subst (λ k. HasRoom (at None c.make_room_in_row.new.nodes.items k)) c.index.ensures.value c.in_ok-make_room_in_row.ensures.room;
      links = subst HasLinks c.messages.ensures c.in_ok-make_room_on_links.ensures.room;
      history = h;
    })
