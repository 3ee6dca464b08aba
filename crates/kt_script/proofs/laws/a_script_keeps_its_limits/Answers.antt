use Rattle.kt_script.proofs.Limits.{few-commands, few-values}
use Rattle.kt_script.proofs.laws.a_script_keeps_its_limits.Goals as goal

pub returns-clause-commands : goal.returns-clause-commands
returns-clause-commands c = few-commands

pub returns-clause-values : goal.returns-clause-values
returns-clause-values c = few-values
