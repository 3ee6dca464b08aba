use Rattle.kt_script.proofs.InScript.{values-opening, values-next, values-bound, memory-again}
use Rattle.kt_script.proofs.laws.variables_keep_their_kinds.Goals as goal

pub returns-clause-opening : goal.returns-clause-opening
returns-clause-opening c = values-opening

pub returns-clause-next : goal.returns-clause-next
returns-clause-next c = values-next

pub returns-clause-bound : goal.returns-clause-bound
returns-clause-bound c = values-bound

pub returns-clause-again : goal.returns-clause-again
returns-clause-again c = memory-again
