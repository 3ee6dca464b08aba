use Rattle.kt_scene.specs.Run.{before_report}
use Rattle.kt_scene.proofs.replaying.replay_returning_store.Goals as goal

pub returns-in-Err-clause-fault : goal.returns-in-Err-clause-fault
returns-in-Err-clause-fault g c = before_report c.in-Err.ensures.fault
