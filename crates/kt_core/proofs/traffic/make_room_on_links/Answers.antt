use Rattle.std.proofs.Common.{◌≤◌, length, take, arith, add-one}
use Rattle.kt_tuple.specs.declared.node.NodeId.{NodeId}
use Rattle.kt_link.specs.Network.{room}
use Rattle.kt_state.specs.declared.message.Message.{Message}
use Rattle.kt_model.proofs.Shared.{all-through}
use Rattle.kt_core.proofs.Traffics.{Net, reserved, rooms_kept, all-next}
use Rattle.kt_core.proofs.traffic.make_room_on_links.Goals as goal

pub loop-to-preserved : goal.loop-to-preserved
loop-to-preserved c =
    let new : Net = c.reserve.new.self in
    let HasRoom : NodeId × Message → Type 0 = λ m. length c.args.send.now ≤ room new c.args.owner m.0 in (
      reserved c.args.links.now c.loop-to.links new c.args.owner _ c.loop-to.invariant.0 c.reserve.ensures.queue c.reserve.ensures.alone,
      rw add-one
          (all-next HasRoom c.args.send.now c.loop-to.to-index c.loop-to-item.result c.loop-to-item.result
          (all-through _ HasRoom (take c.loop-to.to-index c.args.send.now)
          (λ m h. let k = rooms_kept c.loop-to.links new c.args.owner _ c.reserve.ensures.alone c.reserve.ensures.kept c.args.owner m.0 in omega (arith, h, k))
          c.loop-to.invariant.1)
          (omega arith) c.loop-to-item.is c.in_ok-reserve.ensures.room),
    )
