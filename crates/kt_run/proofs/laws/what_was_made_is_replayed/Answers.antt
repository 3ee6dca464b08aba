use Rattle.kt_run.proofs.Replayed.{made_is_scenario, made_leads_there, made_one_report}
use Rattle.kt_run.proofs.laws.what_was_made_is_replayed.Goals as goal

pub returns-clause-scenario : goal.returns-clause-scenario
returns-clause-scenario c = made_is_scenario

pub returns-clause-same : goal.returns-clause-same
returns-clause-same c = made_leads_there

pub returns-clause-report : goal.returns-clause-report
returns-clause-report c = made_one_report
