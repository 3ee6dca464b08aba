use Rattle.kt_run.proofs.Replayed.{run_is_scenario, run_is_made, replay_is_same, replay_reports_so}
use Rattle.kt_run.proofs.laws.what_a_run_tells_is_replayed.Goals as goal

pub returns-clause-scenario : goal.returns-clause-scenario
returns-clause-scenario c = run_is_scenario

pub returns-clause-made : goal.returns-clause-made
returns-clause-made c = run_is_made

pub returns-clause-same : goal.returns-clause-same
returns-clause-same c = replay_is_same

pub returns-clause-report : goal.returns-clause-report
returns-clause-report c = replay_reports_so
