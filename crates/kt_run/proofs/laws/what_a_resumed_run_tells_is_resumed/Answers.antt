use Rattle.kt_run.proofs.Replayed.{resumed_run_is_scenario, resumed_run_is_made, resume_is_same, resume_reports_so}
use Rattle.kt_run.proofs.laws.what_a_resumed_run_tells_is_resumed.Goals as goal

pub returns-clause-scenario : goal.returns-clause-scenario
returns-clause-scenario c = resumed_run_is_scenario

pub returns-clause-made : goal.returns-clause-made
returns-clause-made c = resumed_run_is_made

pub returns-clause-same : goal.returns-clause-same
returns-clause-same c = resume_is_same

pub returns-clause-report : goal.returns-clause-report
returns-clause-report c = resume_reports_so
