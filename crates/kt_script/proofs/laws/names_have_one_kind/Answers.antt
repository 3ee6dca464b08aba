use Rattle.kt_script.proofs.OneKind.{one_kind, variable_kind}
use Rattle.kt_script.proofs.laws.names_have_one_kind.Goals as goal

pub returns-clause-one : goal.returns-clause-one
returns-clause-one c = one_kind

pub returns-clause-variable : goal.returns-clause-variable
returns-clause-variable c = variable_kind
