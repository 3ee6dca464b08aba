use Rattle.kt_model.proofs.Lasting.{made-logs, made-shorter}
use Rattle.kt_model.proofs.laws.logs_are_cut_by_their_own_node_alone.Goals as goal

pub returns-clause-logs : goal.returns-clause-logs
returns-clause-logs c = λ s is step new. made-logs s step new is

pub returns-clause-shorter : goal.returns-clause-shorter
returns-clause-shorter c = λ s is step new. made-shorter s step new is
