-- Of `Machine::carry_out_short` in src/short_plans.rt.
use Rattle.std.proofs.Common.{◌≤◌, subst, sym, ◌∙◌, arith}
use Rattle.std.specs.Prelude.{IfSome}
use Rattle.kt_tuple.specs.declared.node.NodeId.{NodeId}
use Rattle.kt_link.specs.Network.{AreNeighbours, room}
use Rattle.kt_state.specs.declared.message.Message.{Message}
use Rattle.kt_node.specs.ShortPlan.{plan_of}
use Rattle.kt_scenario.specs.Step.{owner}
use Rattle.kt_core.proofs.AtOnce.{has-room, if-listed, through-some}
use Rattle.kt_core.proofs.Traffics.{wired}
use Rattle.kt_core.proofs.machine.Machine.carry_out_short.Goals as goal

pub send_if_any-requires-clause-there : goal.send_if_any-requires-clause-there
send_if_any-requires-clause-there c =
    let Linked : NodeId → Type 0 = λ p. IfSome c.args.short.send (λ m. AreNeighbours c.take_off.new.links.workers c.take_off.new.links.shards p m.0) in
    subst Linked (sym c.owner-owner.ensures)
    (if-listed (λ (m : NodeId × Message). AreNeighbours c.take_off.new.links.workers c.take_off.new.links.shards (owner c.args.step) m.0) c.args.short.send
    (wired c.args.self.now.scene c.take_off.new.links (owner c.args.step) (plan_of c.args.short).send
    (c.take_off.ensures.workers ∙ c.args.self.now.workers) (c.take_off.ensures.shards ∙ c.args.self.now.shards) c.requires.can.send))

pub send_if_any-requires-clause-room : goal.send_if_any-requires-clause-room
send_if_any-requires-clause-room c =
    let Room : NodeId → Type 0 = λ p. IfSome c.args.short.send (λ m. 1 ≤ room c.take_off.new.links p m.0) in
    subst Room (sym c.owner-owner.ensures)
    (through-some (λ (m : NodeId × Message). 1 ≤ room c.args.self.now.links (owner c.args.step) m.0)
    (λ (m : NodeId × Message). 1 ≤ room c.take_off.new.links (owner c.args.step) m.0) c.args.short.send
    (λ m h. let k = c.take_off.ensures.room (owner c.args.step) m.0 in omega (arith, h, k))
    (has-room (λ (m : NodeId × Message). room c.args.self.now.links (owner c.args.step) m.0) c.args.short.send c.requires.room.links))
