use Rattle.kt_protocol.proofs.Examples.{pair, cuts}
use Rattle.kt_protocol.proofs.laws.a_rollback_can_cut_a_log.Goals as goal

pub returns : goal.returns
returns c = (pair, cuts)
