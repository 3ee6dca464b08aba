use Rattle.kt_scene.specs.Run.{before_report}
use Rattle.kt_scene.proofs.Replays.{not_the_writers}
use Rattle.kt_scene.proofs.replaying.report_returning_store.Goals as goal

pub returns-in-Err-clause-fault : goal.returns-in-Err-clause-fault
returns-in-Err-clause-fault g c = before_report c.in-Err.ensures.fault

pub returns-in-Err-clause-unwritten : goal.returns-in-Err-clause-unwritten
returns-in-Err-clause-unwritten g c = not_the_writers _ _ _ _ _ _ c.in-Err.ensures.fault
