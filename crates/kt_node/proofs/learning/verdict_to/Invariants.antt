use Rattle.std.proofs.Common.{◌≡◌, take, map}
use Rattle.kt_node.specs.Learning.{verdict_for}
use Rattle.kt_node.proofs.learning.verdict_to.Given as goal

abbrev pub invariant-loop-node : goal.invariant-loop-node
invariant-loop-node l = l.send ≡ map (verdict_for l.instance l.yes) (take l.node-index l.asked)
