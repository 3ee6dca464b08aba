use Rattle.kt_protocol.proofs.Examples.{pair, checks}
use Rattle.kt_protocol.proofs.laws.a_check_can_succeed_while_a_node_is_down.Goals as goal

pub returns : goal.returns
returns c = (pair, checks)
