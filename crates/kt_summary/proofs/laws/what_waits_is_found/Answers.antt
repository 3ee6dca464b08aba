use Rattle.kt_summary.proofs.Listed.{waits_all, waits_each}
use Rattle.kt_summary.proofs.laws.what_waits_is_found.Goals as goal

pub returns-clause-each : goal.returns-clause-each
returns-clause-each c = λ s. waits_each s

pub returns-clause-all : goal.returns-clause-all
returns-clause-all c = λ s wait is w q waits. waits_all s wait is w q waits
