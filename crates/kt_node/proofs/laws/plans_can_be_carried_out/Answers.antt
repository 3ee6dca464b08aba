use Rattle.kt_node.proofs.Acting.{issue-can, repeat-can, take-can, serve-can, hear_app-can}
use Rattle.kt_node.proofs.laws.plans_can_be_carried_out.Goals as goal

pub returns-clause-issue : goal.returns-clause-issue
returns-clause-issue c = issue-can

pub returns-clause-repeat : goal.returns-clause-repeat
returns-clause-repeat c = repeat-can

pub returns-clause-take : goal.returns-clause-take
returns-clause-take c = take-can

pub returns-clause-serve : goal.returns-clause-serve
returns-clause-serve c = serve-can

pub returns-clause-hear_app : goal.returns-clause-hear_app
returns-clause-hear_app c = hear_app-can
