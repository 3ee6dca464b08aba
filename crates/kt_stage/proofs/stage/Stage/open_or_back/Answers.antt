use Rattle.std.proofs.Common.{◌≡◌, All, IsTrue, ap, length, subst, sym, ◌∙◌}
use Rattle.kt_core.specs.World.{WorldModel}
use Rattle.kt_stage.specs.auxiliary.Midway.{are_owned}
use Rattle.kt_stage.specs.Order.{has_node, nodes_of}
use Rattle.kt_stage.proofs.Making.{later_opened, replays_opened}
use Rattle.kt_stage.proofs.Opening.{all-there}
use Rattle.kt_stage.proofs.stage.Stage.open_or_back.Goals as goal

pub seats_of-requires-clause-there : goal.seats_of-requires-clause-there
seats_of-requires-clause-there g c =
    let nodes : c.in-Ok.nodes.items ≡ nodes_of c.args.world.state.scene = c.in-Ok.ensures in
    subst (All (λ p. IsTrue (has_node g.L.Naming.opening.state.scene p)))
    (ap (λ (w : WorldModel). nodes_of w.state.scene) c.requires.opening ∙ sym nodes ∙ sym c.deref.ensures.value)
    (all-there g.L.Naming.opening.state.scene)

pub invariant_of-locked : goal.invariant_of-locked
invariant_of-locked g c = record {
  replays = replays_opened g.L.Naming.opening c.args.world c.new-steps.result.items c.requires.opening c.new-steps.ensures.items;
  later = later_opened g.L.Naming.opening c.args.world c.requires.opening;
  counted = c.open-book.ensures.total ∙ sym (ap length c.new-steps.ensures.items);
  owned = ap (are_owned g.L.Naming.opening.state.scene) c.new-steps.ensures.items;
}

pub invariant_of-stage : goal.invariant_of-stage
invariant_of-stage g c =
    let nodes : c.in-Ok.nodes.items ≡ nodes_of c.args.world.state.scene = c.in-Ok.ensures in
    record { all = nodes ∙ sym (ap (λ (w : WorldModel). nodes_of w.state.scene) c.requires.opening) }
