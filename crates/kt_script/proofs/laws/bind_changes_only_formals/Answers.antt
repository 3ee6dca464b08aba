use Rattle.kt_script.proofs.Unbound.{bound-no_template, bound-other_kinds}
use Rattle.kt_script.proofs.laws.bind_changes_only_formals.Goals as goal

pub returns-clause-no_template : goal.returns-clause-no_template
returns-clause-no_template c = bound-no_template

pub returns-clause-other_kinds : goal.returns-clause-other_kinds
returns-clause-other_kinds c = bound-other_kinds
