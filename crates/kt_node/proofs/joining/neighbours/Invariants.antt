use Rattle.std.proofs.Common.{◌≡◌, map}
use Rattle.kt_state.specs.Labels.{numbers}
use Rattle.kt_state.specs.Node.{across}
use Rattle.kt_node.proofs.joining.neighbours.Given as goal

abbrev pub invariant-loop-number : goal.invariant-loop-number
invariant-loop-number l = l.nodes.items ≡ map (across l.role.id) (numbers 1 l.number)
