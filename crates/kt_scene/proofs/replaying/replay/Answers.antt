use Rattle.kt_scene.proofs.Left.{told_ok, told_err}
use Rattle.kt_scene.proofs.replaying.replay.Goals as goal

pub returns-clause-written : goal.returns-clause-written
returns-clause-written g c =
    let over = c.replay_returning_store-answer in told_ok over.result.0 (λ h. (over.result.1, h)) over.ensures.written

pub returns-clause-front : goal.returns-clause-front
returns-clause-front g c = λ e. let over = c.replay_returning_store-answer in (over.result.1, over.ensures.front e)

pub returns-clause-fault : goal.returns-clause-fault
returns-clause-fault g c =
    let over = c.replay_returning_store-answer in told_err over.result.0 _ _ (λ e h. (over.result.1, h)) over.ensures.fault
