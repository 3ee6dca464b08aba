use Rattle.kt_scene.proofs.OneReport.{one_report}
use Rattle.kt_scene.proofs.laws.a_state_has_one_report.Goals as goal

pub returns : goal.returns
returns c = one_report
