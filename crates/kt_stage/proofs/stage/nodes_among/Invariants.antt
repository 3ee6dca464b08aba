use Rattle.std.proofs.Common.{◌≡◌, filter, take}
use Rattle.kt_scenario.specs.Scene.{is_node}
use Rattle.kt_stage.proofs.stage.nodes_among.Given as goal

abbrev pub invariant-loop-name : goal.invariant-loop-name
invariant-loop-name g l = l.nodes.items ≡ filter (is_node l.world.state.scene) (take l.name-index l.names)
