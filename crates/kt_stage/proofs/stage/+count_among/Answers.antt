use Rattle.std.proofs.Common.{rules, ◌≡◌, ◌≤◌, ◌∷◌, List, length, subst, arith}
use Rattle.kt_tuple.specs.declared.node.TheConstants.{MAX_NODES}
use Rattle.kt_tuple.specs.declared.node.NodeId.{NodeId}
use Rattle.kt_scenario.specs.Scene.{is_node}
use Rattle.kt_stage.proofs.Opening.{fewer}
use Rattle.kt_stage.proofs.stage.+count_among.Goals as goal

pub overflow_add-result : goal.overflow_add-result
overflow_add-result g t c =
    let split : c.args.names.now ≡ c.in-Some.name.now ∷ c.in-Some.later.now = search rules in
    let few = subst (λ (xs : List NodeId). length xs ≤ MAX_NODES) split c.requires in
    let fewest = fewer (is_node c.args.world.now.state.scene) c.in-Some.later.now in
    let is = c.count_among.ensures in
    omega (arith, few, fewest, is)
