use Rattle.kt_history.proofs.Runs.{RunsFrom-more, RunsFrom-left, CanStep-from_left}
use Rattle.kt_history.proofs.space.space_of.Goals as goal

pub loop-service-preserved : goal.loop-service-preserved
loop-service-preserved c = λ run.
    let held = c.loop-service.invariant run in
    let can = CanStep-from_left _ _ c.service-item.result _ c.loop-service-test.true c.service-item.is held.1 in
    let step = c.in_ok-serve.ensures can in (
      RunsFrom-more _ _ c.service-item.result _ _ c.loop-service-test.true c.service-item.is held.0 step,
      RunsFrom-left _ _ c.service-item.result _ _ c.loop-service-test.true c.service-item.is held.1 step,
    )
