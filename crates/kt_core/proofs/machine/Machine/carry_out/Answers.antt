use Rattle.std.proofs.Common.{◌≤◌, length, subst, sym, ◌∙◌, arith}
use Rattle.std.specs.Prelude.{List}
use Rattle.std.specs.List.{AllByRecursion}
use Rattle.kt_tuple.specs.declared.node.NodeId.{NodeId}
use Rattle.kt_link.specs.Network.{AreNeighbours, room}
use Rattle.kt_state.specs.declared.message.Message.{Message}
use Rattle.kt_scenario.specs.Step.{owner}
use Rattle.kt_model.proofs.Shared.{all-through}
use Rattle.kt_core.proofs.Traffics.{wired}
use Rattle.kt_core.proofs.machine.Machine.carry_out.Goals as goal

pub send_all-requires-clause-there : goal.send_all-requires-clause-there
send_all-requires-clause-there c =
    let Linked : List (NodeId × Message) → NodeId → Type 0 = λ send p.
    AllByRecursion (λ m. AreNeighbours c.take_off.new.links.workers c.take_off.new.links.shards p m.0) send in
    subst (λ send. Linked send c.owner-owner.result) (sym c.into_messages.ensures) (subst (Linked c.args.plan.send) (sym c.owner-owner.ensures)
    (wired c.args.self.now.scene c.take_off.new.links (owner c.args.step) c.args.plan.send
    (c.take_off.ensures.workers ∙ c.args.self.now.workers) (c.take_off.ensures.shards ∙ c.args.self.now.shards) c.requires.can.send))

pub send_all-requires-clause-room : goal.send_all-requires-clause-room
send_all-requires-clause-room c =
    let Room : List (NodeId × Message) → NodeId → Type 0 = λ send p. AllByRecursion (λ m. length send ≤ room c.take_off.new.links p m.0) send in
    subst (λ send. Room send c.owner-owner.result) (sym c.into_messages.ensures) (subst (Room c.args.plan.send) (sym c.owner-owner.ensures)
    (all-through (λ (m : NodeId × Message). length c.args.plan.send ≤ room c.args.self.now.links (owner c.args.step) m.0)
    (λ (m : NodeId × Message). length c.args.plan.send ≤ room c.take_off.new.links (owner c.args.step) m.0) c.args.plan.send
    (λ m h. let k = c.take_off.ensures.room (owner c.args.step) m.0 in omega (arith, h, k)) c.requires.room.links))
